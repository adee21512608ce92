-- `octets::put_le` meets its contract. Assumes nothing.
use mathlib.Core.Path.{◌≡◌}
use mathlib.Core.List.{◌++◌}
use Prim.Native.Nat.{◌-◌}
use lib.ListN.{length, take}
use Rattle.octets.specs.Octets.{le}
use Rattle.octets.proofs.put_le.Given as goal

abbrev pub invariant-loop-b : goal.invariant-loop-b
invariant-loop-b l = le (length l.out) l.v ≡ take l.b-index l.out ++ le (length l.out - l.b-index) l.left
