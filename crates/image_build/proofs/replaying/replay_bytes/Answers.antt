use Rattle.image_build.proofs.Replays.{only_replayed}
use Rattle.image_build.proofs.replaying.replay_bytes.Goals as goal

pub returns-clause-only : goal.returns-clause-only
returns-clause-only c = only_replayed _ _ c.replay_text.ensures.made c.replay_text.ensures.refused
