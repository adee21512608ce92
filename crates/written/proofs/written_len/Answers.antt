-- `written::written_len` meets its contract. Assumes nothing.
use mathlib.Core.Path.{sym, ◌∙◌, ap}
use lib.ListN.{length}
use Rattle.written.proofs.Ascii.{all_below, written-ascii, written_some}
use Rattle.written.proofs.written_len.Goals as goal

pub returns-then-is_ascii : goal.returns-then-is_ascii
returns-then-is_ascii c =
    let s = c.args.s.now in
    sym (ap length (written-ascii s (all_below s c.if-is_ascii.ensures.cases)) ∙ written_some s c.if-s-eq0.false)
