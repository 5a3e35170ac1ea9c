use Rattle.std.proofs.Common.{arith}
use Rattle.page_versions.proofs.Searches.{greatest_last}
use Rattle.page_versions.proofs.searching.greatest.Goals as goal

pub returns : goal.returns
returns c = greatest_last c.args.places.now 0 (omega (arith, c.if-places-eq0.false)) c.requires
