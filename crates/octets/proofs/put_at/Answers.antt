-- `octets::put_at` meets its contract. Assumes nothing.
use Rattle.octets.proofs.Laws.{put-part}
use Rattle.octets.proofs.put_at.Goals as goal

pub returns : goal.returns
returns c =
    put-part c.args.out.now c.args.at c.args.n c.args.v _ c.requires c.put_le.ensures
