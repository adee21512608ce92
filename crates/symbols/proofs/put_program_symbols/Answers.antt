-- `symbols::put_program_symbols` meets its contract. Assumes nothing.
use mathlib.Core.Path.{refl}
use Prim.Native.Nat.{◌+◌}
use lib.ListN.{get_or}
use Rattle.octets.proofs.Filling.{over-part}
use Rattle.object.specs.Tables.{no_program}
use Rattle.named.proofs.There.{kept_program}
use Rattle.strtab.proofs.Rows.{program_start, program_on, program_done, program_here}
use Rattle.symbols.proofs.put_program_symbols.Goals as goal

pub loop-program-init : goal.loop-program-init
loop-program-init c =
    let a = c.args in
    program_start a.text.now a.programs.now a.first a.start a.names a.out.now c.requires.programs_in_bounds c.requires.names_bound.0 c.requires.names_bound.1

pub written_size-requires : goal.written_size-requires
written_size-requires c =
    (kept_program c.args.text.now 256 c.args.programs.now c.loop-program.program-index c.loop-program-test.true c.requires.programs_there.kept).symbol

pub loop-program-preserved : goal.loop-program-preserved
loop-program-preserved c =
    let l = c.loop-program in
    let a = c.args in
    let ps = a.programs.now in
    let here = program_here a.text.now ps a.first a.start a.names l.place l.section (get_or ps l.program-index no_program) in
    let written = c.written_size.ensures in
    let behind = c.section_behind-section.ensures in
    program_on a.text.now ps a.first a.start a.names _ c.written_size.result c.section_behind-section.result l.invariant c.loop-program-test.true
    written.value written.upper_bound behind.value behind.upper_bound (over-part l.out l.at (l.at + 24) _ here refl c.put.ensures)

pub returns : goal.returns
returns c =
    let a = c.args in
    program_done a.text.now a.programs.now a.first a.start a.names c.loop-program.invariant c.loop-program-test.false
