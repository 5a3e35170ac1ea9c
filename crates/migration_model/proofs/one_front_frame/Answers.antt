use Rattle.migration_model.proofs.Frames.{one_front_lem}
use Rattle.migration_model.proofs.one_front_frame.Goals as goal

pub returns-clause-frame : goal.returns-clause-frame
returns-clause-frame c shape bytes m n f g is low high spells_f spells_g =
    (one_front_lem shape bytes m n f g is low high spells_f spells_g).0

pub returns-clause-size : goal.returns-clause-size
returns-clause-size c shape bytes m n f g is low high spells_f spells_g =
    (one_front_lem shape bytes m n f g is low high spells_f spells_g).1
