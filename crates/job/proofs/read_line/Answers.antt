-- `job::read_line` meets its contract. Assumes nothing.
use mathlib.Core.Path.{sym, ◌∙◌}
use native.Mathlib.Omega.{arith}
use Rattle.lines.proofs.Laws.{line_ended}
use Rattle.job.proofs.Lines.{cut_line, bad_line, good_line}
use Rattle.job.proofs.read_line.Goals as goal

pub returns-in_default : goal.returns-in_default
returns-in_default c = cut_line c.args.text.now c.args.at c.requires.at_in_bounds (sym c.in_default.ensures)

pub slice_bounds-is_frame-end : goal.slice_bounds-is_frame-end
slice_bounds-is_frame-end c =
    let r = line_ended c.args.text.now c.args.at c.in-Some.end (sym c.in-Some.ensures) in
    omega (arith, r.0, r.1)

pub returns-then-not-is_frame : goal.returns-then-not-is_frame
returns-then-not-is_frame c =
    bad_line c.args.text.now c.args.at c.in-Some.end (sym c.in-Some.ensures) (sym c.is_frame.ensures ∙ c.if-not-is_frame.true)

pub returns : goal.returns
returns c =
    good_line c.args.text.now c.args.at c.in-Some.end c.requires.text_len_bound (sym c.in-Some.ensures) (sym c.is_frame.ensures ∙ c.if-not-is_frame.false)
