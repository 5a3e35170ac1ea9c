use Rattle.c_answers.proofs.OneFlat.{all_bytes, all_states, all_taken, stopped_bytes, stopped_cause, stopped_states}
use Rattle.c_answers.proofs.OneFlat.{stopped_taken}
use Rattle.c_answers.proofs.Streams.{flat_never, flat_spelled}
use Rattle.c_answers.proofs.laws.one_flat_memory.Goals as goal

pub returns-clause-all_bytes : goal.returns-clause-all_bytes
returns-clause-all_bytes c shape old a b states s t bytes taken other is =
    all_bytes shape old a b states s t bytes taken other is

pub returns-clause-all_states : goal.returns-clause-all_states
returns-clause-all_states c shape old a b states s t bytes taken other is =
    all_states shape old a b states s t bytes taken other is

pub returns-clause-all_taken : goal.returns-clause-all_taken
returns-clause-all_taken c shape old a b states s t bytes taken other is =
    all_taken shape old a b states s t bytes taken other is

pub returns-clause-stopped_bytes : goal.returns-clause-stopped_bytes
returns-clause-stopped_bytes c shape old a b states s t bytes taken other e f is =
    stopped_bytes shape old a b states s t bytes taken other is e f

pub returns-clause-stopped_states : goal.returns-clause-stopped_states
returns-clause-stopped_states c shape old a b states s t bytes taken other e f is =
    stopped_states shape old a b states s t bytes taken other is e f

pub returns-clause-stopped_taken : goal.returns-clause-stopped_taken
returns-clause-stopped_taken c shape old a b states s t bytes taken other e f is =
    stopped_taken shape old a b states s t bytes taken other is e f

pub returns-clause-cause : goal.returns-clause-cause
returns-clause-cause c shape old a b states s t bytes taken other e f is =
    stopped_cause shape old a b states s t bytes taken other is e f

pub returns-clause-taken_or_stopped : goal.returns-clause-taken_or_stopped
returns-clause-taken_or_stopped c shape old a b states s t bytes taken other e is takes = λ stops.
    let spelled = flat_spelled shape old a states s bytes taken takes in
    flat_never shape old b states t bytes other stops.rest e spelled.0 is stops.takes stops.some stops.refused spelled.1
