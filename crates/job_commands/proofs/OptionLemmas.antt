-- What clap's getters read, in the rows of what was found.
use Rattle.std.proofs.Common.{◌≡◌, ℕ, ◌<◌, ◌^◌, Bool, true, false, List, Option, Some, None, refl, sym, ap, subst, ◌∙◌}
use Rattle.std.specs.Prelude.{[], Result, Ok, Err, IfErr, IsErrAnd, MatchOption, codes, map, option_map, unwrap_or}
use Rattle.std.specs.Str.Parse.{IsNumeral, digits_value, without_leading_plus, ExplainsUnsignedError}
use Rattle.std.specs.Str.Parse.{HasUnsignedDigitsIfOk, ParsesUnsigned}
use Rattle.std.specs.declared.num.ParseIntError.{ParseIntError}
use Rattle.std.specs.Borrow.{Bor}
use Rattle.clap.specs.Matches.{ReadsOne, matched_of, one_text, raw_values}
use Rattle.clap.specs.Walk.{Row, one_of, rows_of}
use Rattle.clap.specs.declared.parser.matches.Found.{Found}
use Rattle.clap.proofs.WalkLemmas.{one_text-rows, raw_values-rows}
use Rattle.job_commands.specs.Options.{AsksForSweep, IsFlag, Says}
use Rattle.job_commands.specs.Jobs.{SweepFails, case_words}
use Rattle.job_commands.specs.Cases.{RefusesWords}
use Rattle.migration_model.specs.Rates.{MigrationSettings}
use Rattle.job_commands.specs.declared.command.WordsError.{WordsError}
use Rattle.job_commands.specs.declared.command.WordsError.TheVariants.{Help, Memory, Refused, Usage}

-- `u64::from_str`
abbrev pub gives_u64 : List ℕ → Result ℕ ParseIntError → Type 0
gives_u64 text r = ParsesUnsigned 64 10 text r × ExplainsUnsignedError 10 text r × HasUnsignedDigitsIfOk text r

says_at : (rows : List Row) (name : List ℕ) (o : Option ℕ) (x : Option (List ℕ)) → one_of name rows ≡ x
    → (x ≡ None → o ≡ None) → ((t : List ℕ) → x ≡ Some t → ReadsOne gives_u64 t o) → Says rows name o
says_at rows name (Some n) None is none value = absurd (let bad = none refl in cc)
says_at rows name (Some n) (Some t) is none value =
    let reads = (value t refl).0 in (
      t,
      is,
      record {
        digits = reads.0.0;
        value = sym reads.1;
        fits = let below = reads.0.1 in let same =
            reads.1 in rw same below;
      },
    )
says_at rows name None None is none value = λ text n there reads. absurd (let bad = sym is ∙ there in cc)
says_at rows name None (Some t) is none value = λ text n there reads.
    let no = (value t refl).1.0 in
    let same : text ≡ t = let both = sym is ∙ there in cc in
    let P : List ℕ → Type 0 = λ l. IsNumeral 10 (without_leading_plus l)
    × (digits_value 10 (without_leading_plus l) < 2 ^ 64) in
    no (subst P same (reads.digits, rw reads.value reads.fits))

pub says_from_found : (found : Found) (name : List ℕ) (o : Option ℕ) → (one_text found name ≡ None → o ≡ None)
    → ((t : List ℕ) → one_text found name ≡ Some t → ReadsOne gives_u64 t o) → Says (rows_of found) name o
says_from_found found name o none value = says_at (rows_of found) name o (one_text found name)
    (sym (one_text-rows found name)) none value

flag_at : (x : Option (List ℕ)) (there : Bool) → (x ≡ None → there ≡ false) → (x ≡ Some (codes "true") → there ≡ true)
    → (x ≡ Some (codes "false") → there ≡ false)
    → MatchOption x (there ≡ false) (λ text. (text ≡ codes "true" → there ≡ true)
    × (text ≡ codes "false" → there ≡ false))
flag_at None there none yea nay = none refl
flag_at (Some t) there none yea nay = (
  λ e. yea (ap (λ (s : List ℕ). Some s) e),
  λ e. nay (ap (λ (s : List ℕ). Some s) e),
)

pub flag_from_found : (found : Found) (name : List ℕ) (there : Bool) → (one_text found name ≡ None → there ≡ false)
    → (one_text found name ≡ Some (codes "true") → there ≡ true)
    → (one_text found name ≡ Some (codes "false") → there ≡ false) → IsFlag (rows_of found) name there
flag_from_found found name there none yea nay =
    let P : Option (List ℕ) → Type 0 = λ x. MatchOption x (there ≡ false)
    (λ text. (text ≡ codes "true" → there ≡ true) × (text ≡ codes "false" → there ≡ false)) in
    subst P (one_text-rows found name) (flag_at (one_text found name) there none yea nay)

given_words : (o : Option (Bor (List (Bor (List ℕ))))) (d : Bor (List (Bor (List ℕ)))) → d.now ≡ []
    → map {A = Bor (List ℕ)} {B = List ℕ} (λ w. w.now) (unwrap_or o d).now
    ≡ unwrap_or (option_map (λ s. map {A = Bor (List ℕ)} {B = List ℕ} (λ v. v.now) s.now) o) []
given_words None d none = ap (λ (l : List (Bor (List ℕ))). map {A = Bor (List ℕ)} {B = List ℕ} (λ w. w.now) l) none
given_words (Some s) d none = refl

-- the words of the cases, as `get_strs` gives them
pub case_words_from_found : (found : Found) (o : Option (Bor (List (Bor (List ℕ))))) (d r : Bor (List (Bor (List ℕ))))
    → r ≡ unwrap_or o d → d.now ≡ []
    → option_map (λ s. map {A = Bor (List ℕ)} {B = List ℕ} (λ v. v.now) s.now) o
    ≡ option_map raw_values (matched_of found (codes "case"))
    → map {A = Bor (List ℕ)} {B = List ℕ} (λ w. w.now) r.now ≡ case_words (rows_of found)
case_words_from_found found o d r is none same =
    ap (λ (b : Bor (List (Bor (List ℕ)))). map {A = Bor (List ℕ)} {B = List ℕ} (λ w. w.now) b.now) is
    ∙ given_words o d none
    ∙ ap (λ (x : Option (List (List ℕ))). unwrap_or x []) (same ∙ raw_values-rows found (codes "case"))

-- a refusal of the cases is one of the sweep
pub sweep_fails : (rows : List Row) (options : MigrationSettings) (e : WordsError) → AsksForSweep rows options
    → RefusesWords options (case_words rows) e → SweepFails rows e
sweep_fails rows options Memory asked refused = tt
sweep_fails rows options (Help text) asked refused = absurd refused
sweep_fails rows options (Usage text) asked refused = absurd refused
sweep_fails rows options (Refused e) asked refused = record { options = options; asked = asked; refused = refused }

-- what holds of an error holds of a result that is this error
pub on_error : {A E : Type 0} (r : Result A E) (e : E) (P : E → Type 0) → IsErrAnd r (λ f. f ≡ e) → P e → IfErr r P
on_error (Ok x) e P is holds = tt
on_error (Err f) e P is holds = subst P (sym is) holds
