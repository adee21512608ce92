-- `strtab::put_strtab` meets its contract: four pieces. Assumes nothing.
use mathlib.Core.List.{[], ◌∷◌, ◌++◌}
use native.Mathlib.Omega.{arith}
use Rattle.octets.specs.Octets.{ascii}
use Rattle.octets.proofs.Filling.{Filling, fill_room}
use Rattle.elf.specs.Row.{joined}
use Rattle.object.specs.Read.{job_in}
use Rattle.strtab.specs.Rows.{strtab_of}
use Rattle.strtab.proofs.Whole.{strtab_long, maps_named, symbols_named, strings-zeros, strings_licence, strings_maps, strings_programs, map_names, program_named, after_licence}
use Rattle.strtab.proofs.put_strtab.Goals as goal
use Rattle.strtab.proofs.put_strtab.Goals.{After-maps, After-programs}

-- before the maps' names, and before those of the programs
before_maps : (c : After-maps) → Filling (strtab_of (job_in c.args.text.now c.args.object.now)) c.put_string_at.new.out 10 (after_licence c.args.text.now c.args.object.now c.requires.kept)
before_maps c =
    let a = c.args in
    let f = strings-zeros a.text.now a.object.now c.requires.kept a.out.now _ c.requires.out_len c.clear.ensures in
    strings_licence a.text.now a.object.now c.requires.kept _ _ f c.put_string_at.ensures.out_after

before_programs : (c : After-programs) → Filling (strtab_of (job_in c.args.text.now c.args.object.now)) c.put_string_at.new.out 10 (after_licence c.args.text.now c.args.object.now c.requires.kept)
    → Filling (strtab_of (job_in c.args.text.now c.args.object.now)) c.put_names-at.new.out c.put_names-at.result (joined (program_named c.args.text.now c.args.object.now c.requires.kept) ++ [])
before_programs c f =
    let put = rw c.maps.ensures at c.put_names-at.ensures in
    strings_maps c.args.text.now c.args.object.now c.requires.kept _ _ _ f put.out_after put.value

pub slice_bounds-clear-end : goal.slice_bounds-clear-end
slice_bounds-clear-end c = omega (arith, strtab_long c.args.text.now c.args.object.now c.requires.kept)

pub put_string_at-requires : goal.put_string_at-requires
put_string_at-requires c =
    let a = c.args in
    let f = strings-zeros a.text.now a.object.now c.requires.kept a.out.now _ c.requires.out_len c.clear.ensures in
    fill_room (ascii "LICENSE" ++ (0 ∷ [])) _ f

pub put_names-at-requires : goal.put_names-at-requires
put_names-at-requires c =
    let a = c.args in record {
      named = rw c.maps.ensures (maps_named a.text.now a.object.now c.requires.kept);
      names_in_bounds = rw c.maps.ensures (fill_room (joined (map_names a.text.now a.object.now c.requires.kept)) _ (before_maps c));
    }

pub put_names-requires : goal.put_names-requires
put_names-requires c =
    let a = c.args in
    let f = before_programs c (before_maps (goal.at.put_names-requires c).After-maps) in record {
      named = rw c.programs.ensures (symbols_named a.text.now a.object.now c.requires.kept);
      names_in_bounds = rw c.programs.ensures (omega (arith, fill_room (joined (program_named a.text.now a.object.now c.requires.kept)) _ f));
    }

pub returns : goal.returns
returns c =
    let a = c.args in
    let f = before_programs (goal.at.returns c).After-programs (before_maps (goal.at.returns c).After-maps) in
    strings_programs a.text.now a.object.now c.requires.kept _ _ _ f (rw c.programs.ensures at c.put_names.ensures.out_after)
