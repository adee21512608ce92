-- `measure::number_behind` meets its contract. Assumes nothing.
use mathlib.Core.Path.{◌≡◌}
use Prim.Native.Nat.{◌+◌, ◌*◌, ◌≤◌}
use lib.ListN.{drop}
use Rattle.measure.specs.Measured.{behind_all}
use Rattle.measure.proofs.number_behind.Given as goal

abbrev pub invariant-loop-program : goal.invariant-loop-program
invariant-loop-program l = (l.number ≤ 4 + 2 * l.program-index) × (behind_all (drop l.program-index l.programs) l.number ≡ behind_all l.programs l.first)
