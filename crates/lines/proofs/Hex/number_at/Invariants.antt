-- `lines::Hex::number_at` meets its contract. Assumes nothing.
use mathlib.Core.Path.{◌≡◌}
use Prim.Native.Nat.{◌-◌, ◌^◌, ◌<◌}
use lib.ListN.{take, drop}
use Rattle.octets.specs.Octets.{value}
use Rattle.lines.specs.Bytes.{bytes}
use Rattle.lines.proofs.Hex.number_at.Given as goal

abbrev pub invariant-loop-k : goal.invariant-loop-k
invariant-loop-k l = (l.v ≡ value (drop l.k (take l.n (drop l.i (bytes l.self))))) × (l.v < 256 ^ (l.n - l.k))
