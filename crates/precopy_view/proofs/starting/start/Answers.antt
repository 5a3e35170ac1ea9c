use Rattle.std.proofs.Common.{arith, inl, inr, refl}
use Rattle.precopy_view.proofs.starting.start.Goals as goal

pub returns-clause-written : goal.returns-clause-written
returns-clause-written g c zero =
    let fails = rw c.deref.ensures.value at c.in-Err.ensures.failed in
    let help = c.refuse.ensures.help zero in
    inr ((c.in-Err.error, fails, (help.0, help.1)), refl, help.0, help.2)

pub returns-clause-refused : goal.returns-clause-refused
returns-clause-refused g c two =
    let fails = rw c.deref.ensures.value at c.in-Err.ensures.failed in
    let refused = c.refuse.ensures.refused two in
    ((c.in-Err.error, fails, refused.0), refl, refused.1)

pub returns-clause-failed : goal.returns-clause-failed
returns-clause-failed g c one =
    let fails = rw c.deref.ensures.value at c.in-Err.ensures.failed in
    elim (c.refuse.ensures.failed one) [
      | inl help ↦ inr (refl, inl ((c.in-Err.error, fails, (help.0, help.1)), help.2, help.3, help.0, help.4))
      | inr memory ↦ inr (refl, inr memory)
    ]

pub returns-clause-told : goal.returns-clause-told
returns-clause-told g c two = record {
  error = c.in-Err.error;
  fails = rw c.deref.ensures.value at c.in-Err.ensures.failed;
  is_refusal = (c.refuse.ensures.refused two).0;
  told = c.refuse.ensures.told (omega (arith, two));
}
