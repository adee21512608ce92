-- `written::points_len` meets its contract. Assumes nothing.
use mathlib.Core.Path.{sym, ◌∙◌, ap, refl}
use native.Mathlib.Omega.{arith}
use Rattle.utf8.specs.Wait.{wait_of}
use Rattle.utf8.proofs.Laws.{took_any, took_point, took_more}
use Rattle.written.proofs.Chars.{len_of, len_on}
use Rattle.written.proofs.points_len.Goals as goal
use Rattle.written.proofs.points_len.Goals.{in-Point, in-More}

pub loop-b-preserved : goal.loop-b-preserved
loop-b-preserved c =
    let r = c.step-stepped.ensures in
    let l = c.loop-b in
    let s = c.args.s.now in
    let k = sym (took_any s l.b-index _ (wait_of l.w) _ (omega arith) refl r.result_value r.wait_value _ c.in-Some.is) ∙ l.invariant.2 in
    elim c.match-next.branch [
      | in-Point w ↦ let t = took_point s l.b-index _ (wait_of l.w) _ (omega arith) refl r.result_value r.wait_value _ _ c.in-Some.is w.in-Point.is in
          rw w.n-is (omega arith, r.fine, k, l.invariant.3 ∙ ap (len_of l.n) t ∙ len_on l.n w.in-Point.field-0 _)
      | in-More w ↦ let t = took_more s l.b-index _ (wait_of l.w) _ (omega arith) refl r.result_value r.wait_value _ c.in-Some.is w.in-More.is in
          rw w.n-is (omega arith, r.fine, k, l.invariant.3 ∙ ap (len_of l.n) t)
    ]
