-- `lines::near_end` meets its contract. Assumes nothing.
use mathlib.Core.Path.{◌≡◌}
use Prim.Native.Nat.{◌≤◌}
use lib.ListN.{length}
use Rattle.lines.specs.Ends.{line_end}
use Rattle.lines.proofs.near_end.Given as goal

abbrev pub invariant-loop-i : goal.invariant-loop-i
invariant-loop-i l = (l.stop ≤ length l.s) × (line_end l.s l.i ≡ line_end l.s l.at)
