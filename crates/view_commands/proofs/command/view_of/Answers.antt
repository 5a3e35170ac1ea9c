use Rattle.std.proofs.Common.{map, string_bytes}
use Rattle.view_commands.proofs.Parsing.{asked_above, asked_below, failed_above, failed_below}
use Rattle.view_commands.proofs.command.view_of.Goals as goal

pub returns-in-Some-clause-made : goal.returns-in-Some-clause-made
returns-in-Some-clause-made c =
    asked_below c.args.is_terminal (map string_bytes c.args.words.now) (map string_bytes c.in-Some.below.now)
    c.document_of.result c.in-Some.ensures.some c.document_of.ensures.made

pub returns-in-Some-clause-failed : goal.returns-in-Some-clause-failed
returns-in-Some-clause-failed c =
    failed_below (map string_bytes c.args.words.now) (map string_bytes c.in-Some.below.now) c.document_of.result
    c.in-Some.ensures.some c.document_of.ensures.failed

pub returns-in-None-clause-made : goal.returns-in-None-clause-made
returns-in-None-clause-made c = asked_above c.args.is_terminal (map string_bytes c.args.words.now)
    c.shown_of.result c.in-None.ensures.none c.shown_of.ensures.made

pub returns-in-None-clause-failed : goal.returns-in-None-clause-failed
returns-in-None-clause-failed c = failed_above (map string_bytes c.args.words.now) c.shown_of.result
    c.in-None.ensures.none c.shown_of.ensures.failed
