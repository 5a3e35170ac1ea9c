use Rattle.std.proofs.Common.{append_assoc}
use Rattle.predictions.specs.Agreements.Texts.{draws_words}
use Rattle.predictions.proofs.agreement.words.push_draws.Goals as goal

pub returns : goal.returns
unfolding draws_words
returns c =
    rw (
      c.in_ok-extend_from_slice.ensures.items,
      c.as_bytes.ensures.value,
      c.in_ok-push_field-2.ensures,
      c.in_ok-push_field.ensures,
    ) (simp append_assoc)
