-- `lines::is_hex` meets its contract. Assumes nothing.
use mathlib.Core.Path.{◌≡◌}
use mathlib.Core.Bool.{◌&&◌}
use Rattle.lines.specs.Hex.{is_hex}
use lib.ListN.{drop}
use Rattle.lines.proofs.Walks.{all_digits}
use Rattle.lines.proofs.is_hex.Given as goal

abbrev pub invariant-loop-c : goal.invariant-loop-c
invariant-loop-c l = is_hex l.s ≡ (l.all && all_digits (drop l.c-index l.s))
