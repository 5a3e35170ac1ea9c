use Rattle.clap.specs.Words.{found_of}
use Rattle.job_commands.proofs.OptionLemmas.{says_from_found}
use Rattle.job_commands.proofs.options.number_given.Goals as goal

pub returns : goal.returns
returns c = says_from_found (found_of c.args.matches.now) c.args.name.now c.get_one.result c.get_one.ensures.none
    c.get_one.ensures.value
