-- `octets::get_le` meets its contract. Assumes nothing.
use mathlib.Core.Path.{◌≡◌}
use Prim.Native.Nat.{◌+◌, ◌*◌, ◌^◌}
use lib.ListN.{length}
use Rattle.octets.specs.Octets.{value}
use Rattle.octets.proofs.get_le.Given as goal

abbrev pub invariant-loop-b : goal.invariant-loop-b
invariant-loop-b l =
    let rest = l.b-iterator.iter.rest.now in
    value l.s ≡ value rest + 256 ^ length rest * l.v
