-- `octets::put_le` meets its contract. Assumes nothing.
use mathlib.Core.Path.{◌≡◌}
use Prim.Native.Nat.{suc, ◌-◌, ◌+◌}
use native.Mathlib.Omega.{arith}
use lib.ListN.{length, length-set}
use Rattle.octets.proofs.Laws.{write_on}
use Rattle.octets.proofs.put_le.Goals as goal

pub loop-b-preserved : goal.loop-b-preserved
loop-b-preserved c =
    let l = c.loop-b in
    let e : length l.out - l.b-index ≡ suc (length l.out - (l.b-index + 1)) = omega arith in
    rw length-set (write_on l.out l.b-index _ (omega arith) l.invariant (rw e))
