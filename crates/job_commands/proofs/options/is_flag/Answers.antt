use Rattle.clap.specs.Words.{found_of}
use Rattle.job_commands.proofs.OptionLemmas.{flag_from_found}
use Rattle.job_commands.proofs.options.is_flag.Goals as goal

pub returns : goal.returns
returns c = flag_from_found (found_of c.args.matches.now) c.args.name.now c.get_flag.result c.get_flag.ensures.none
    c.get_flag.ensures.value c.get_flag.ensures.other
