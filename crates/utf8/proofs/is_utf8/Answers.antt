-- `utf8::is_utf8` meets its contract. Assumes nothing.
use mathlib.Core.Path.{◌∙◌}
use native.Mathlib.Omega.{arith}
use Rattle.lines.specs.Bytes.{bytes}
use Rattle.utf8.specs.Wait.{wait_of}
use Rattle.utf8.proofs.Laws.{took_any}
use Rattle.utf8.proofs.is_utf8.Goals as goal

pub loop-i-preserved : goal.loop-i-preserved
loop-i-preserved c =
    let r = c.step-stepped.ensures in
    let l = c.loop-i in
    (r.fine, l.invariant.1 ∙ took_any (bytes c.args.s) l.i _ (wait_of l.w) _ (omega arith) c.byte_at.ensures r.result_value r.wait_value _ c.in-Some.is)
