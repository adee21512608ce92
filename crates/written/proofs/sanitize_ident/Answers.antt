-- `written::sanitize_ident` meets its contract. Assumes nothing.
use mathlib.Core.Path.{sym, ◌∙◌, ap}
use lib.ListN.{length}
use Rattle.written.proofs.Ascii.{all_below, written-ascii}
use Rattle.written.proofs.sanitize_ident.Goals as goal

pub put_ascii-requires : goal.put_ascii-requires
put_ascii-requires c = c.requires.out_len ∙ ap length (written-ascii c.args.s.now (all_below c.args.s.now c.if-is_ascii.ensures.cases))

pub returns-then-is_ascii : goal.returns-then-is_ascii
returns-then-is_ascii c = c.put_ascii.ensures ∙ sym (written-ascii c.args.s.now (all_below c.args.s.now c.if-is_ascii.ensures.cases))
