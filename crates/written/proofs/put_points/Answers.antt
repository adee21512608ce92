-- `written::put_points` meets its contract. Assumes nothing.
use mathlib.Core.Path.{refl, sym, ◌∙◌, ap}
use mathlib.Core.List.{◌∷◌}
use Prim.Native.Nat.{ℕ, ◌+◌}
use native.Mathlib.Omega.{arith}
use lib.ListN.{drop, length-set}
use Rattle.utf8.specs.Utf8.{points_from}
use Rattle.written.specs.Written.{written}
use Rattle.octets.proofs.Laws.{write_on}
use Rattle.utf8.specs.Wait.{wait_of}
use Rattle.written.specs.Name.{rest_of}
use Rattle.utf8.proofs.Laws.{took_any, took_point, took_more}
use Rattle.written.proofs.Chars.{next_char, room}
use Rattle.written.proofs.put_points.Goals as goal
use Rattle.written.proofs.put_points.Goals.{in-Point, in-More}

pub loop-b-preserved : goal.loop-b-preserved
loop-b-preserved c =
    let r = c.step-stepped.ensures in
    let l = c.loop-b in
    let s = c.args.s.now in
    let q = points_from (wait_of c.step-stepped.result.wait) (drop (l.b-index + 1) s) in
    let k = sym (took_any s l.b-index _ (wait_of l.w) _ (omega arith) refl r.result_value r.wait_value _ c.in-Some.is) ∙ l.invariant.2 in
    elim c.match-next.branch [
      | in-Point w ↦ let t = took_point s l.b-index _ (wait_of l.w) _ (omega arith) refl r.result_value r.wait_value _ _ c.in-Some.is w.in-Point.is in
          let next = next_char (written s) l.out l.n w.in-Point.c _ q t l.invariant.2 l.invariant.3 in
          rw (w.n-is, w.out-is) (
            r.fine,
            simp length-set l.invariant.1,
            k,
            write_on l.out l.n _ (room l.out _ l.n _ l.invariant.1 next) next (ap (λ (x : ℕ). x ∷ rest_of (l.n + 1) q) (sym w.written_char.ensures)),
          )
      | in-More w ↦ let t = took_more s l.b-index _ (wait_of l.w) _ (omega arith) refl r.result_value r.wait_value _ c.in-Some.is w.in-More.is in
          rw (w.n-is, w.out-is) (r.fine, l.invariant.1, k, rw t at l.invariant.3)
    ]
