-- `written::put_later` meets its contract. Assumes nothing.
use mathlib.Core.Path.{◌≡◌}
use mathlib.Core.List.{◌++◌}
use lib.ListN.{length, take, drop}
use Rattle.written.specs.Written.{rest_written}
use Rattle.written.proofs.put_later.Given as goal

abbrev pub invariant-loop-i : goal.invariant-loop-i
invariant-loop-i l = (length l.out ≡ length l.s) × (rest_written l.s ≡ take l.i l.out ++ rest_written (drop l.i l.s))
