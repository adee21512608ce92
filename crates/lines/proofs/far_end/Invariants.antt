-- `lines::far_end` meets its contract. Assumes nothing.
use mathlib.Core.Path.{◌≡◌}
use Rattle.lines.specs.Ends.{line_end}
use Rattle.lines.proofs.far_end.Given as goal

abbrev pub invariant-loop-i : goal.invariant-loop-i
invariant-loop-i l = line_end l.s l.at ≡ line_end l.s l.i
