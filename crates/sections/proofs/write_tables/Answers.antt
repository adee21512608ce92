-- `sections::write_tables` meets its contract. Assumes nothing.
use mathlib.Core.Path.{◌≡◌, sym}
use native.Mathlib.Omega.{arith}
use borrow.Author.Rules.{rules}
use Rattle.object.specs.Read.{job_in}
use Rattle.elf.specs.Added.{one, eight}
use Rattle.strtab.specs.Rows.{symtab_of, strtab_of}
use Rattle.strtab.proofs.Whole.{symtab_long}
use Rattle.headers.specs.Names.{shstrtab_of}
use Rattle.sections.specs.Pieces.{table_pieces}
use Rattle.sections.proofs.Turns.{turn_start, turn_room, turn_lay, turn_done}
use Rattle.sections.proofs.write_tables.Goals as goal

pub lay-first-requires-clause-room : goal.lay-first-requires-clause-room
lay-first-requires-clause-room c =
    let a = c.args in
    let begun = turn_start a.out.now a.end (table_pieces (job_in a.text.now a.object.now)) (omega arith, (omega arith, (omega arith, tt))) c.requires.object_in_bounds.0 in
    turn_room _ _ _ begun eight (sym (symtab_long a.text.now a.object.now c.requires.kept)) c.requires.object_in_bounds.1

pub lay-second-requires-clause-room : goal.lay-second-requires-clause-room
lay-second-requires-clause-room c =
    let a = c.args in
    let j = job_in a.text.now a.object.now in
    let begun = turn_start a.out.now a.end (table_pieces j) (omega arith, (omega arith, (omega arith, tt))) c.requires.object_in_bounds.0 in
    let s₁ : c.lay-first.ensures.out_after.bytes ≡ symtab_of j = search rules in
    let first = turn_lay _ _ begun (sym (symtab_long a.text.now a.object.now c.requires.kept)) c.lay-first.ensures.out_after c.lay-first.ensures.value s₁ in
    turn_room _ _ _ first one (sym c.requires.sizes_of.strtab) c.requires.object_in_bounds.1

pub lay-requires-clause-room : goal.lay-requires-clause-room
lay-requires-clause-room c =
    let a = c.args in
    let j = job_in a.text.now a.object.now in
    let begun = turn_start a.out.now a.end (table_pieces j) (omega arith, (omega arith, (omega arith, tt))) c.requires.object_in_bounds.0 in
    let s₁ : c.lay-first.ensures.out_after.bytes ≡ symtab_of j = search rules in
    let first = turn_lay _ _ begun (sym (symtab_long a.text.now a.object.now c.requires.kept)) c.lay-first.ensures.out_after c.lay-first.ensures.value s₁ in
    let s₂ : c.lay-second.ensures.out_after.bytes ≡ strtab_of j = search rules in
    let second = turn_lay _ _ first (sym c.requires.sizes_of.strtab) c.lay-second.ensures.out_after c.lay-second.ensures.value s₂ in
    turn_room _ _ _ second one c.requires.names_value c.requires.object_in_bounds.1

pub returns-clause-out_after : goal.returns-clause-out_after
returns-clause-out_after c =
    let a = c.args in
    let j = job_in a.text.now a.object.now in
    let begun = turn_start a.out.now a.end (table_pieces j) (omega arith, (omega arith, (omega arith, tt))) c.requires.object_in_bounds.0 in
    let s₁ : c.lay-first.ensures.out_after.bytes ≡ symtab_of j = search rules in
    let first = turn_lay _ _ begun (sym (symtab_long a.text.now a.object.now c.requires.kept)) c.lay-first.ensures.out_after c.lay-first.ensures.value s₁ in
    let s₂ : c.lay-second.ensures.out_after.bytes ≡ strtab_of j = search rules in
    let second = turn_lay _ _ first (sym c.requires.sizes_of.strtab) c.lay-second.ensures.out_after c.lay-second.ensures.value s₂ in
    let s₃ : c.lay.ensures.out_after.bytes ≡ shstrtab_of j = search rules in
    (turn_done (turn_lay _ _ second c.requires.names_value c.lay.ensures.out_after c.lay.ensures.value s₃)).0
