-- `lines::skip_blocks` meets its contract. Assumes nothing.
use mathlib.Core.Path.{sym, ◌∙◌}
use Rattle.lines.proofs.Walks.{block_on}
use Rattle.lines.proofs.skip_blocks.Goals as goal

pub loop-block-preserved : goal.loop-block-preserved
loop-block-preserved c =
    let l = c.loop-block in
    let s = c.in-Some.ensures.steps in
    let n = s.1.1 ∙ l.invariant.1 in
    let b = block_on c.args.s.now c.in-Some.block.now c.next.new.self.rest.now l.i l.invariant.0 (sym l.invariant.2 ∙ s.1.0) (sym c.if-has_end.ensures) in
    let b' = rw n at b in
    (b'.0, s.0 ∙ l.invariant.1, b'.1, b'.2 ∙ l.invariant.3)
