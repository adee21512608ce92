-- `sections::write_sections` meets its contract: the licence, the maps' sections, the programs', the tables. Assumes nothing.
use mathlib.Core.Path.{◌≡◌}
use mathlib.Core.List.{[], ◌∷◌, ◌++◌}
use Prim.Native.Nat.{◌+◌}
use native.Mathlib.Omega.{arith}
use lib.ListN.{length, take, length-append}
use borrow.Author.Rules.{rules}
use Rattle.elf.specs.Added.{one}
use Rattle.object.specs.Read.{licence_in, declared_maps, job_in}
use Rattle.measure.specs.Measured.{sections_of}
use Rattle.measure.proofs.Whole.{aligned}
use Rattle.sections.specs.Pieces.{map_pieces, program_pieces, table_pieces, all_pieces}
use Rattle.sections.proofs.Turns.{turn_start, turn_room, turn_lay, turn_done, row_room, row_on}
use Rattle.sections.proofs.Alike.{alike_all, alike_aligned}
use Rattle.sections.proofs.write_sections.Goals as goal

pub lay-licensed-requires-clause-room : goal.lay-licensed-requires-clause-room
lay-licensed-requires-clause-room c =
    let a = c.args in
    let j = job_in a.text.now a.object.now in
    let all = all_pieces a.text.now a.object.now in
    let begun = turn_start a.out.now 64 all (alike_aligned (sections_of j) all (alike_all a.text.now a.object.now c.requires.kept) (aligned j)) c.requires.object_in_bounds.0 in
    let n : a.sizes.license + 1 ≡ length (licence_in a.text.now a.object.now.license ++ (0 ∷ [])) =
    omega (arith, c.requires.sizes_of.license, length-append (licence_in a.text.now a.object.now.license) (0 ∷ [])) in
    turn_room _ _ _ begun one n c.requires.object_in_bounds.1

pub write_maps-mapped-requires-clause-object_in_bounds : goal.write_maps-mapped-requires-clause-object_in_bounds
write_maps-mapped-requires-clause-object_in_bounds c =
    let a = c.args in
    let j = job_in a.text.now a.object.now in
    let all = all_pieces a.text.now a.object.now in
    let begun = turn_start a.out.now 64 all (alike_aligned (sections_of j) all (alike_all a.text.now a.object.now c.requires.kept) (aligned j)) c.requires.object_in_bounds.0 in
    let n : a.sizes.license + 1 ≡ length (licence_in a.text.now a.object.now.license ++ (0 ∷ [])) =
    omega (arith, c.requires.sizes_of.license, length-append (licence_in a.text.now a.object.now.license) (0 ∷ [])) in
    let s₁ : c.lay-licensed.ensures.out_after.bytes ≡ licence_in a.text.now a.object.now.license ++ (0 ∷ []) = search rules in
    let licensed = turn_lay _ _ begun n c.lay-licensed.ensures.out_after c.lay-licensed.ensures.value s₁ in
    let maps = map_pieces a.object.now.map_count (declared_maps a.text.now a.object.now) in
    let programs = program_pieces a.text.now a.object.now.slots (take a.object.now.program_count a.object.now.programs) in
    let tables = table_pieces j in
    (row_room maps (programs ++ tables) licensed, omega (arith, licensed.going.same, c.requires.object_in_bounds.1))

pub write_programs-programmed-requires-clause-programs_in_bounds : goal.write_programs-programmed-requires-clause-programs_in_bounds
write_programs-programmed-requires-clause-programs_in_bounds c =
    let a = c.args in
    let j = job_in a.text.now a.object.now in
    let all = all_pieces a.text.now a.object.now in
    let begun = turn_start a.out.now 64 all (alike_aligned (sections_of j) all (alike_all a.text.now a.object.now c.requires.kept) (aligned j)) c.requires.object_in_bounds.0 in
    let n : a.sizes.license + 1 ≡ length (licence_in a.text.now a.object.now.license ++ (0 ∷ [])) =
    omega (arith, c.requires.sizes_of.license, length-append (licence_in a.text.now a.object.now.license) (0 ∷ [])) in
    let s₁ : c.lay-licensed.ensures.out_after.bytes ≡ licence_in a.text.now a.object.now.license ++ (0 ∷ []) = search rules in
    let licensed = turn_lay _ _ begun n c.lay-licensed.ensures.out_after c.lay-licensed.ensures.value s₁ in
    let maps = map_pieces a.object.now.map_count (declared_maps a.text.now a.object.now) in
    let programs = program_pieces a.text.now a.object.now.slots (take a.object.now.program_count a.object.now.programs) in
    let tables = table_pieces j in
    let mapped = row_on maps (programs ++ tables) _ _ licensed c.write_maps-mapped.ensures.out_after c.write_maps-mapped.ensures.value in
    (row_room programs tables mapped, omega (arith, mapped.going.same, c.requires.object_in_bounds.1))

pub write_tables-requires-clause-object_in_bounds : goal.write_tables-requires-clause-object_in_bounds
write_tables-requires-clause-object_in_bounds c =
    let a = c.args in
    let j = job_in a.text.now a.object.now in
    let all = all_pieces a.text.now a.object.now in
    let begun = turn_start a.out.now 64 all (alike_aligned (sections_of j) all (alike_all a.text.now a.object.now c.requires.kept) (aligned j)) c.requires.object_in_bounds.0 in
    let n : a.sizes.license + 1 ≡ length (licence_in a.text.now a.object.now.license ++ (0 ∷ [])) =
    omega (arith, c.requires.sizes_of.license, length-append (licence_in a.text.now a.object.now.license) (0 ∷ [])) in
    let s₁ : c.lay-licensed.ensures.out_after.bytes ≡ licence_in a.text.now a.object.now.license ++ (0 ∷ []) = search rules in
    let licensed = turn_lay _ _ begun n c.lay-licensed.ensures.out_after c.lay-licensed.ensures.value s₁ in
    let maps = map_pieces a.object.now.map_count (declared_maps a.text.now a.object.now) in
    let programs = program_pieces a.text.now a.object.now.slots (take a.object.now.program_count a.object.now.programs) in
    let tables = table_pieces j in
    let mapped = row_on maps (programs ++ tables) _ _ licensed c.write_maps-mapped.ensures.out_after c.write_maps-mapped.ensures.value in
    let programmed = row_on programs tables _ _ mapped c.write_programs-programmed.ensures.out_after c.write_programs-programmed.ensures.value in
    (row_room tables [] programmed, omega (arith, programmed.going.same, c.requires.object_in_bounds.1))

pub returns : goal.returns
returns c =
    let a = c.args in
    let j = job_in a.text.now a.object.now in
    let all = all_pieces a.text.now a.object.now in
    let begun = turn_start a.out.now 64 all (alike_aligned (sections_of j) all (alike_all a.text.now a.object.now c.requires.kept) (aligned j)) c.requires.object_in_bounds.0 in
    let n : a.sizes.license + 1 ≡ length (licence_in a.text.now a.object.now.license ++ (0 ∷ [])) =
    omega (arith, c.requires.sizes_of.license, length-append (licence_in a.text.now a.object.now.license) (0 ∷ [])) in
    let s₁ : c.lay-licensed.ensures.out_after.bytes ≡ licence_in a.text.now a.object.now.license ++ (0 ∷ []) = search rules in
    let licensed = turn_lay _ _ begun n c.lay-licensed.ensures.out_after c.lay-licensed.ensures.value s₁ in
    let maps = map_pieces a.object.now.map_count (declared_maps a.text.now a.object.now) in
    let programs = program_pieces a.text.now a.object.now.slots (take a.object.now.program_count a.object.now.programs) in
    let tables = table_pieces j in
    let mapped = row_on maps (programs ++ tables) _ _ licensed c.write_maps-mapped.ensures.out_after c.write_maps-mapped.ensures.value in
    let programmed = row_on programs tables _ _ mapped c.write_programs-programmed.ensures.out_after c.write_programs-programmed.ensures.value in
    let done = turn_done (row_on tables [] _ _ programmed c.write_tables.ensures.out_after c.write_tables.ensures.value) in
    record { out_after = done.0; value = done.1 }
