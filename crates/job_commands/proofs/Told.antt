-- What was told.
use Rattle.std.proofs.Common.{◌≡◌, ℕ, Bool, true, List, [], ◌++◌, Option, None, Some, inl, inr, ap, subst, sym, ◌∙◌}
use Rattle.std.specs.Prelude.{Result, Ok, Err, IfSome, OnErr, OnOk}
use Rattle.std.specs.Fmt.{WritesText}
use Rattle.std.specs.Io.KnownBytes.{Appends}
use Rattle.byte_sinks.specs.Sink.{AppendsPart}
use Rattle.job_commands.specs.Ends.{IsHelpText, IsTold, IsWholeOrCut}
use Rattle.job_commands.specs.declared.command.WordsError.{WordsError}
use Rattle.job_commands.specs.declared.command.WordsError.TheVariants.{Memory}
use Rattle.std.proofs.lemmas.Fmt.{contents_after_writes}
use Rattle.arrayvec.specs.ArrayString.{ArrayString}

-- a text was told, whatever became of its write
pub told : {T E : Type 0} (old new : Option (List ℕ)) (has_failed : Bool) (text : List ℕ) (r : Result T E)
    → OnOk r (Appends old new text) → OnErr r (AppendsPart old new text) → OnErr r (has_failed ≡ true)
    → IsTold text old new has_failed
told old new has_failed text (Ok x) all part failed = inl all
told old new has_failed text (Err e) all part failed = inr (failed, part)

-- lack of memory has no help text
pub no_text : (e : WordsError) → e ≡ Memory → (text : List ℕ) → ¬ IsHelpText e text
no_text e is text = subst (λ (x : WordsError). ¬ IsHelpText x text) (sym is) (λ none. none)

-- a cause that was written to an empty text is whole
pub whole : (old new : ArrayString) (text : Option (List ℕ)) → old.bytes ≡ []
    → WritesText (λ s bytes t. t.bytes ≡ s.bytes ++ bytes) old text new → IfSome text (IsWholeOrCut new.bytes)
whole old new None empty writes = tt
whole old new (Some text) empty writes =
    inl (contents_after_writes _ (λ (s : ArrayString). s.bytes) (λ _ _ _ appended. appended) old text new writes
    ∙ ap (λ (l : List ℕ). l ++ text) empty)
