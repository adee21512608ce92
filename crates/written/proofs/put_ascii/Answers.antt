-- `written::put_ascii` meets its contract. Assumes nothing.
use mathlib.Core.Path.{◌∙◌}
use native.Mathlib.Omega.{arith}
use Rattle.written.proofs.Ascii.{written_some}
use Rattle.written.proofs.put_ascii.Goals as goal

pub put_later-requires : goal.put_later-requires
put_later-requires c =
    (c.requires ∙ written_some c.args.s.now c.if-s-eq0.false, omega (arith, c.if-s-eq0.false))
