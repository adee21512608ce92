-- `written::points_len` meets its contract. Assumes nothing.
use mathlib.Core.Path.{◌≡◌}
use mathlib.Core.Bool.{true}
use Prim.Native.Nat.{◌≤◌}
use lib.ListN.{length, drop}
use Rattle.utf8.specs.Utf8.{points_from}
use Rattle.utf8.specs.Wait.{wait_of, Fine}
use Rattle.utf8.proofs.Laws.{ok}
use Rattle.written.specs.Written.{written}
use Rattle.written.proofs.Chars.{len_of}
use Rattle.written.proofs.points_len.Given as goal

abbrev pub invariant-loop-b : goal.invariant-loop-b
invariant-loop-b l =
    (l.n ≤ l.b-index) × Fine l.w × (ok (points_from (wait_of l.w) (drop l.b-index l.s)) ≡ true)
    × (length (written l.s) ≡ len_of l.n (points_from (wait_of l.w) (drop l.b-index l.s)))
