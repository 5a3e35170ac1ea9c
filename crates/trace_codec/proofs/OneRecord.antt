-- A trace that is not encoded yet is refused for one cause.
use Rattle.std.proofs.Common.{◌≡◌, ℕ, ◌<◌, ◌≤◌, List, [], ◌∷◌, ◌++◌, length, None}
use Rattle.std.proofs.Common.{refl, sym, ap, subst, ◌∙◌, inl, inr, arith}
use Rattle.std.proofs.lemmas.Bool.{cases_lt}
use Rattle.std.proofs.lemmas.List.{get_or_at, length-append}
use Rattle.std.proofs.lemmas.Option.{none-some, same_Some}
use Rattle.migration_model.specs.Trace.{GuestWrite, GuestTrace, AreGuestWrites, last_tick}
use Rattle.migration_model.proofs.Order.{last_by-le, in_order-front}
use Rattle.trace_codec.specs.Refusals.{record_refusal, RefusesRecord, RefusesTrace, in_sizes, in_record}
use Rattle.trace_codec.specs.declared.error.TraceError.{TraceError}
use Rattle.trace_codec.proofs.Made.{record_passes}

-- of two beginnings of one list, each with an element behind it, the longer one goes on behind the shorter one
record GoesOn (short : List GuestWrite) (write : GuestWrite) (long : List GuestWrite) : Type 0 where
  pub others : List GuestWrite
  pub is : long ≡ short ++ write ∷ others

first_same : (x y : GuestWrite) (xs ys : List GuestWrite) → x ∷ xs ≡ y ∷ ys → x ≡ y
first_same x y xs ys same = cc same

rest_same : (x y : GuestWrite) (xs ys : List GuestWrite) → x ∷ xs ≡ y ∷ ys → xs ≡ ys
rest_same x y xs ys same = cc same

goes_on : (short long : List GuestWrite) (write other : GuestWrite) (after behind : List GuestWrite)
    → short ++ write ∷ after ≡ long ++ other ∷ behind → length short < length long → GoesOn short write long
goes_on short [] write other after behind same less = absurd (omega (arith, less))
goes_on [] (x ∷ long) write other after behind same less =
    record { others = long; is = ap (λ (w : GuestWrite). w ∷ long) (sym (first_same write x after _ same)) }
goes_on (x ∷ short) (y ∷ long) write other after behind same less =
    let more = goes_on short long write other after behind (rest_same x y _ _ same) (omega (arith, less)) in
    record {
      others = more.others;
      is = λ i. sym (first_same x y _ _ same) i ∷ more.is i;
    }

-- what stands at one place of two cuts of one list
same_cut : (one two : List GuestWrite) (write other : GuestWrite) (after behind : List GuestWrite)
    → one ++ write ∷ after ≡ two ++ other ∷ behind → length one ≤ length two → length two ≤ length one
    → (one ≡ two) × (write ≡ other)
same_cut [] [] write other after behind same low high = (refl, first_same write other after behind same)
same_cut [] (y ∷ two) write other after behind same low high = absurd (omega (arith, high))
same_cut (x ∷ one) [] write other after behind same low high = absurd (omega (arith, low))
same_cut (x ∷ one) (y ∷ two) write other after behind same low high =
    let more = same_cut one two write other after behind (rest_same x y _ _ same) (omega (arith, low))
    (omega (arith, high)) in
    ((λ i. first_same x y _ _ same i ∷ more.0 i), more.1)

-- a write in front of one that is refused is not
front_passes : (version shift pages : ℕ) (before others : List GuestWrite) (write : GuestWrite)
    → AreGuestWrites version shift pages (before ++ write ∷ others)
    → record_refusal version shift pages (last_tick before) (length before) write ≡ None
front_passes version shift pages before others write fit =
    let fits = rw (get_or_at before write others write (length before) refl) at
    (fit.each (length before) write (omega (arith, length-append before (write ∷ others)))) in
    let late = last_by-le (λ w. w.tick) write.tick before (in_order-front (λ w. w.tick) before write others
    fit.in_order) in
    record_passes version shift pages (last_tick before) (length before) write fits late

none_before : (version shift pages : ℕ) (writes : List GuestWrite) (e f : TraceError)
    (one : RefusesRecord version shift pages writes e) (two : RefusesRecord version shift pages writes f)
    → length one.before < length two.before → ⊥
none_before version shift pages writes e f one two less =
    let on = goes_on one.before two.before one.write two.write one.after two.after (sym one.parts ∙ two.parts) less in
    let fit = subst (λ (ws : List GuestWrite). AreGuestWrites version shift pages ws) on.is two.fit in
    none-some e (sym (front_passes version shift pages one.before on.others one.write fit) ∙ one.refused)

one_record : (version shift pages : ℕ) (writes : List GuestWrite) (e f : TraceError)
    → RefusesRecord version shift pages writes e → RefusesRecord version shift pages writes f → e ≡ f
one_record version shift pages writes e f one two = elim (cases_lt (length one.before) (length two.before)) [
  | inl less ↦ absurd (none_before version shift pages writes e f one two less)
  | inr low ↦ elim (cases_lt (length two.before) (length one.before)) [
    | inl less ↦ absurd (none_before version shift pages writes f e two one less)
    | inr high ↦
        let same = same_cut one.before two.before one.write two.write one.after two.after (sym one.parts ∙ two.parts)
        high low in
        same_Some e f (sym one.refused
        ∙ (λ i. record_refusal version shift pages (last_tick (same.0 i)) (length (same.0 i)) (same.1 i)) ∙ two.refused)
  ]
]

pub one_cause_of : (trace : GuestTrace) (e f : TraceError) → RefusesTrace trace e → RefusesTrace trace f → e ≡ f
one_cause_of trace e f (in_sizes is) (in_sizes other) = same_Some e f (sym is ∙ other)
one_cause_of trace e f (in_sizes is) (in_record none r) = absurd (none-some e (sym none ∙ is))
one_cause_of trace e f (in_record none r) (in_sizes other) = absurd (none-some f (sym none ∙ other))
one_cause_of trace e f (in_record none r) (in_record again q) =
    one_record trace.version trace.shift trace.pages trace.writes e f r q
