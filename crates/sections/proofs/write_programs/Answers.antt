-- `sections::write_programs` meets its contract. Assumes nothing.
use mathlib.Core.Path.{◌≡◌, ◌∙◌, ap, subst}
use mathlib.Core.List.{List, []}
use Prim.Native.Nat.{◌+◌, ◌-◌, ◌≤◌}
use native.Mathlib.Omega.{arith}
use lib.ListN.{length, take, drop, get_or, drop_of_length-le}
use Rattle.octets.specs.Over.{over}
use Rattle.elf.specs.Elf.{end_of, laid}
use Rattle.object.specs.declared.Program.{Program}
use Rattle.object.specs.Tables.{no_program}
use Rattle.object.specs.Kept.{AllKept}
use Rattle.named.proofs.There.{kept_program}
use Rattle.strtab.proofs.Rows.{program_from}
use Rattle.strtab.proofs.Whole.{programs_there}
use Rattle.contents.specs.Slots.{AllPlaced}
use Rattle.sections.specs.Pieces.{own_pieces, program_pieces}
use Rattle.sections.proofs.Turns.{Turn, turn_start, turn_done, row_on, aligned_programs}
use Rattle.sections.proofs.Alike.{placed}
use Rattle.sections.proofs.write_programs.Goals as goal

pub loop-program-init : goal.loop-program-init
loop-program-init c =
    let a = c.args in
    let slots = a.object.now.slots in
    let ps = c.programs-programs.result.now in
    let room : end_of a.start (program_pieces a.text.now slots ps) ≤ length a.out.now = rw c.programs-programs.ensures c.requires.programs_in_bounds.0 in
    turn_start a.out.now a.start (program_pieces a.text.now slots ps) (aligned_programs a.text.now slots ps) room

pub slice_bounds-slots-end : goal.slice_bounds-slots-end
slice_bounds-slots-end c =
    let o = c.args.object.now in
    let kept : AllKept c.args.text.now o.reloc_count c.programs-programs.result.now = rw c.programs-programs.ensures c.requires.kept.programs in
    let k = kept_program c.args.text.now o.reloc_count c.programs-programs.result.now c.loop-program.program-index (omega arith) kept in
    omega (arith, k.slots, c.requires.kept.sound)

pub write_program-end-requires-clause-kept : goal.write_program-end-requires-clause-kept
write_program-end-requires-clause-kept c =
    let o = c.args.object.now in
    let kept : AllKept c.args.text.now 256 c.programs-programs.result.now = rw c.programs-programs.ensures (programs_there c.args.text.now o c.requires.kept).kept in
    kept_program c.args.text.now 256 c.programs-programs.result.now c.loop-program.program-index (omega arith) kept

pub write_program-end-requires-clause-all_placed : goal.write_program-end-requires-clause-all_placed
write_program-end-requires-clause-all_placed c =
    let text = c.args.text.now in
    let o = c.args.object.now in
    let ps = c.programs-programs.result.now in
    let p = get_or ps c.loop-program.program-index no_program in
    let kept : AllKept text o.reloc_count ps = rw c.programs-programs.ensures c.requires.kept.programs in
    let k = kept_program text o.reloc_count ps c.loop-program.program-index (omega arith) kept in
    let n : p.first + p.relocs - p.first ≡ p.relocs = omega arith in
    let own : AllPlaced text (take (p.first + p.relocs - p.first) (drop p.first o.slots)) = rw n (placed text o c.requires.kept p k.slots) in
    own

pub loop-program-preserved : goal.loop-program-preserved
loop-program-preserved c =
    let text = c.args.text.now in
    let slots = c.args.object.now.slots in
    let l = c.loop-program in
    let i = l.program-index in
    let ps = c.programs-programs.result.now in
    let p = get_or ps i no_program in
    let n : p.first + p.relocs - p.first ≡ p.relocs = omega arith in
    let turn = subst (λ (qs : List Program). Turn c.args.out.now c.args.start (program_pieces text slots ps) l.out l.end (program_pieces text slots qs)) (program_from ps i (omega arith)) l.invariant in
    let w = c.write_program-end.ensures in
    row_on (own_pieces text (take p.relocs (drop p.first slots)) p) (program_pieces text slots (drop (i + 1) ps)) _ _ turn (rw n at w.out_after) (rw n at w.value)

pub returns-clause-out_after : goal.returns-clause-out_after
returns-clause-out_after c =
    let a = c.args in
    let slots = a.object.now.slots in
    let l = c.loop-program in
    let ps = c.programs-programs.result.now in
    let none : drop l.program-index ps ≡ [] = drop_of_length-le ps (omega arith) in
    let done = turn_done (subst (λ (qs : List Program). Turn a.out.now a.start (program_pieces a.text.now slots ps) l.out l.end (program_pieces a.text.now slots qs)) none l.invariant) in
    done.0 ∙ ap (λ (qs : List Program). over a.out.now a.start (laid a.start (program_pieces a.text.now slots qs))) c.programs-programs.ensures
