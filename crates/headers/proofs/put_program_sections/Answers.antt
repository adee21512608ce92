-- `headers::put_program_sections` meets its contract: a program adds one name, or two. Assumes nothing.
use native.Mathlib.Omega.{arith}
use Rattle.named.proofs.There.{kept_program}
use Rattle.headers.proofs.Names.{section_on, rel_on, no_rel, sections_done}
use Rattle.headers.proofs.put_program_sections.Goals as goal
use Rattle.headers.proofs.put_program_sections.Goals.{then-program-ne0, else-program-ne0}

pub put_section-at-requires-clause-named : goal.put_section-at-requires-clause-named
put_section-at-requires-clause-named c =
    (kept_program c.args.text.now 256 c.args.programs.now c.loop-program.program-index c.loop-program-test.true c.requires.programs_there.kept).section

pub put_rel_name-at-requires-clause-named : goal.put_rel_name-at-requires-clause-named
put_rel_name-at-requires-clause-named c =
    (kept_program c.args.text.now 256 c.args.programs.now c.loop-program.program-index c.loop-program-test.true c.requires.programs_there.kept).section

pub loop-program-preserved : goal.loop-program-preserved
loop-program-preserved c =
    let text = c.args.text.now in
    let ps = c.args.programs.now in
    let i = c.loop-program.program-index in
    let put = c.put_section-at.ensures in
    let g = section_on text ps i _ _ c.loop-program-test.true c.loop-program.invariant put.out_after put.value in
    elim c.if-program-ne0.branch [
      | then-program-ne0 w ↦ rw (w.out-is, w.at-is) (rel_on text ps i _ _ (omega arith) g w.put_rel_name-at.ensures.out_after w.put_rel_name-at.ensures.value)
      | else-program-ne0 w ↦ rw (w.out-is, w.at-is) (no_rel text ps i (omega arith) g)
    ]

pub returns : goal.returns
returns c =
    let both = sections_done c.args.text.now c.args.programs.now c.loop-program.program-index c.loop-program-test.false c.loop-program.invariant in
    record { out_after = both.0; value = both.1 }
