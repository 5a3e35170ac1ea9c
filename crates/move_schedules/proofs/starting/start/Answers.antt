use Rattle.std.proofs.Common.{arith, inl, inr, map, refl, string_bytes}
use Rattle.job_commands.proofs.Told.{no_text}
use Rattle.move_schedules.proofs.WordLemmas.{asked_for, refused_words}
use Rattle.move_schedules.proofs.starting.start.Goals as goal

pub returns-clause-written : goal.returns-clause-written
returns-clause-written g c zero =
    let help = c.refuse.ensures.help zero in
    let fails = rw c.deref.ensures.value at c.in-Err.ensures.failed in
    inr (asked_for (map string_bytes c.args.words.items) c.in-Err.error help.0 fails help.1, refl, help.0, help.2)

pub returns-clause-failed : goal.returns-clause-failed
returns-clause-failed g c one =
    let fails = rw c.deref.ensures.value at c.in-Err.ensures.failed in
    elim (c.refuse.ensures.failed one) [
      | inl unshown ↦ inr (
        refl,
        inl (
          asked_for (map string_bytes c.args.words.items) c.in-Err.error unshown.2 fails
              unshown.3,
          unshown.0,
          unshown.1,
          unshown.2,
          unshown.4,
        ),
      )
      | inr memory ↦ inr (refl, inr (c.refuse.ensures.kept (no_text c.in-Err.error memory.0), memory.1))
    ]

pub returns-clause-refused : goal.returns-clause-refused
returns-clause-refused g c two =
    let fails = rw c.deref.ensures.value at c.in-Err.ensures.failed in (
      refused_words (map string_bytes c.args.words.items) c.in-Err.error fails (c.refuse.ensures.refused.0 two),
      refl,
      c.refuse.ensures.unwritten two,
    )

pub returns-clause-told : goal.returns-clause-told
returns-clause-told g c two = record {
  error = c.in-Err.error;
  fails = rw c.deref.ensures.value at c.in-Err.ensures.failed;
  is_refusal = c.refuse.ensures.refused.0 two;
  told = c.refuse.ensures.told (omega (arith, two));
}
