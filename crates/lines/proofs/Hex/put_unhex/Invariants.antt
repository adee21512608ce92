-- `lines::Hex::put_unhex` meets its contract. Assumes nothing.
use mathlib.Core.Path.{◌≡◌}
use mathlib.Core.List.{◌++◌}
use lib.ListN.{take, drop}
use Rattle.lines.specs.Bytes.{bytes}
use Rattle.lines.proofs.Hex.put_unhex.Given as goal

abbrev pub invariant-loop-i : goal.invariant-loop-i
invariant-loop-i l = bytes l.self ≡ take l.i l.out ++ drop l.i (bytes l.self)
