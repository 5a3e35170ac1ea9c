use Rattle.std.proofs.Common.{◌≡◌}
use Rattle.view_commands.proofs.NearestLemmas.{byte_pos, page_high, page_pos}
use Rattle.view_commands.proofs.nearest.parts.Goals as goal

pub returns-clause-some_byte : goal.returns-clause-some_byte
returns-clause-some_byte c =
    rw (c.tick.ensures, c.sampled.ensures) (byte_pos c.args.scale.now c.guest-guest.ensures.in_range)

pub returns-clause-some_page : goal.returns-clause-some_page
returns-clause-some_page c =
    rw (c.page.ensures, c.guest-guest.ensures.value) (page_pos c.args.scale.now c.guest-guest.ensures.in_range)

pub returns-clause-small_page : goal.returns-clause-small_page
returns-clause-small_page c =
    rw (c.page.ensures, c.guest-guest.ensures.value) (page_high c.args.scale.now c.guest-guest.ensures.in_range)
