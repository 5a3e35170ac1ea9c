-- The shares of a link that have one verdict, in the numbers that C has.
use Rattle.std.specs.Prelude.{unwrap_or}
use Rattle.predictions.specs.Questions.{verdict_number}
use Rattle.predictions.specs.declared.shares.share.LinkShare.{LinkShare}
use Rattle.c_layout.specs.declared.shares.ShareNumbers.{ShareNumbers}

-- the verdict below the shares is another one; if none is tried, it is told as that of the shares
abbrev pub share_numbers : LinkShare → ShareNumbers
share_numbers found = record {
  percent = found.share;
  converges = verdict_number found.verdict;
  below = verdict_number (unwrap_or found.below found.verdict);
}
