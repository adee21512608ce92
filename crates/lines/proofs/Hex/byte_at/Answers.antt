-- `lines::Hex::byte_at` meets its contract. Assumes nothing.
use Rattle.lines.proofs.Bytes.{byte_in}
use Rattle.lines.proofs.Hex.byte_at.Goals as goal

pub returns : goal.returns
returns c = byte_in c.args.self c.args.i _ _ c.requires c.nibble-h.ensures.0 c.nibble-l.ensures.0
