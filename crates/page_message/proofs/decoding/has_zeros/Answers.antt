use Rattle.page_message.proofs.ZeroBytes.{zeros_test}
use Rattle.page_message.proofs.decoding.has_zeros.Goals as goal

pub returns : goal.returns
returns c = zeros_test _ c.is_zero.result (rw c.page_bytes.ensures at c.is_zero.ensures)
