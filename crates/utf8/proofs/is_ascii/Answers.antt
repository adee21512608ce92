-- `utf8::is_ascii` meets its contract. Assumes nothing.
use mathlib.Core.Path.{◌∙◌}
use native.Mathlib.Omega.{arith}
use Rattle.lines.specs.Bytes.{bytes}
use Rattle.utf8.proofs.Ascii.{ascii_on, first-digit}
use Rattle.utf8.proofs.is_ascii.Goals as goal

pub loop-i-preserved : goal.loop-i-preserved
loop-i-preserved c =
    let l = c.loop-i in
    let s = c.args.s in
    l.invariant ∙ ascii_on (bytes s) l.i l.all _ (omega arith) (first-digit s l.i (omega arith))
