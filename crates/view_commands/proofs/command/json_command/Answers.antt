use Rattle.std.proofs.Common.{ap, ◌∙◌}
use Rattle.clap.specs.Simple.{app_of_fields}
use Rattle.view_commands.proofs.command.json_command.Goals as goal

pub returns : goal.returns
returns c = record {
  app = ap app_of_fields c.after_help.ensures ∙ c.leaf_command-json.ensures.app;
  globals = ap (λ f. f.has_globals) c.after_help.ensures ∙ c.leaf_command-json.ensures.globals;
}
