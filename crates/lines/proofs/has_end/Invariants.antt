-- `lines::has_end` meets its contract. Assumes nothing.
use mathlib.Core.Path.{◌≡◌}
use mathlib.Core.Bool.{◌||◌}
use lib.ListN.{drop}
use Rattle.lines.specs.Ends.{holds_end}
use Rattle.lines.proofs.has_end.Given as goal

abbrev pub invariant-loop-c : goal.invariant-loop-c
invariant-loop-c l = holds_end l.s ≡ (l.found || holds_end (drop l.c-index l.s))
