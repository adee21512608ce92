-- `headers::build_shstrtab` meets its contract: five pieces. Assumes nothing.
use mathlib.Core.List.{[], ◌∷◌, ◌++◌}
use native.Mathlib.Omega.{arith}
use Rattle.octets.specs.Octets.{ascii}
use Rattle.octets.proofs.Filling.{Filling, fill_room}
use Rattle.elf.specs.Row.{joined}
use Rattle.object.specs.Read.{job_in}
use Rattle.strtab.proofs.Whole.{programs_there}
use Rattle.headers.specs.Names.{table_names, shstrtab_of}
use Rattle.headers.proofs.Whole.{shstrtab_some, names_zero, names_license, names_maps, names_programs, names_tables, map_named, program_named, after_license, after_maps}
use Rattle.headers.proofs.build_shstrtab.Goals as goal
use Rattle.headers.proofs.build_shstrtab.Goals.{After-put_string_at, After-programs}

-- before the names of the maps' sections, and before those of the programs'
before_maps : (c : After-put_string_at) → Filling (shstrtab_of (job_in c.args.text.now c.args.object.now)) c.put_string_at.new.out 9 (after_license c.args.text.now c.args.object.now c.requires.kept)
before_maps c =
    let a = c.args in
    let f = names_zero a.text.now a.object.now c.requires.kept a.out.now _ c.requires.out_len c.clear.ensures in
    names_license a.text.now a.object.now c.requires.kept _ _ f c.put_string_at.ensures.out_after

before_programs : (c : After-programs) → Filling (shstrtab_of (job_in c.args.text.now c.args.object.now)) c.put_string_at.new.out 9 (after_license c.args.text.now c.args.object.now c.requires.kept)
    → Filling (shstrtab_of (job_in c.args.text.now c.args.object.now)) c.put_map_sections-at.new.out c.put_map_sections-at.result (after_maps c.args.text.now c.args.object.now c.requires.kept)
before_programs c f =
    let put = c.put_map_sections-at.ensures in
    names_maps c.args.text.now c.args.object.now c.requires.kept _ _ _ f put.out_after put.value

pub slice_bounds-clear-end : goal.slice_bounds-clear-end
slice_bounds-clear-end c = omega (arith, shstrtab_some c.args.text.now c.args.object.now c.requires.kept)

pub put_string_at-requires : goal.put_string_at-requires
put_string_at-requires c =
    let a = c.args in
    let f = names_zero a.text.now a.object.now c.requires.kept a.out.now _ c.requires.out_len c.clear.ensures in
    fill_room (ascii "license" ++ (0 ∷ [])) _ f

pub put_map_sections-at-requires : goal.put_map_sections-at-requires
put_map_sections-at-requires c =
    fill_room (joined (map_named c.args.text.now c.args.object.now c.requires.kept)) _ (before_maps (goal.at.put_map_sections-at-requires c).After-put_string_at)

pub put_program_sections-behind-requires : goal.put_program_sections-behind-requires
put_program_sections-behind-requires c =
    let a = c.args in
    let f = before_programs c (before_maps (goal.at.put_program_sections-behind-requires c).After-put_string_at) in record {
      programs_there = rw c.programs.ensures (programs_there a.text.now a.object.now c.requires.kept);
      programs_in_bounds = rw c.programs.ensures (fill_room (joined (program_named a.text.now a.object.now c.requires.kept)) _ f);
    }

pub put_table_names-requires : goal.put_table_names-requires
put_table_names-requires c =
    let a = c.args in
    let f = before_programs (goal.at.put_table_names-requires c).After-programs (before_maps (goal.at.put_table_names-requires c).After-put_string_at) in
    let put = rw c.programs.ensures at c.put_program_sections-behind.ensures in
    fill_room (joined table_names) _ (names_programs a.text.now a.object.now c.requires.kept _ _ _ _ f put.out_after put.value)

pub returns : goal.returns
returns c =
    let a = c.args in
    let f = before_programs (goal.at.returns c).After-programs (before_maps (goal.at.returns c).After-put_string_at) in
    let put = rw c.programs.ensures at c.put_program_sections-behind.ensures in
    let g = names_programs a.text.now a.object.now c.requires.kept _ _ _ _ f put.out_after put.value in
    names_tables a.text.now a.object.now c.requires.kept _ _ _ g c.put_table_names.ensures
