-- The tables of the code: as they are at the start, and after each step.
use Rattle.std.specs.Prelude.{None, ◌≡◌, cond, ◌+◌, ◌≤◌, length, replicate, set, ltb, Result, Ok, Err}
use Rattle.octets.specs.Told.{Told, gives, refuses}
use Rattle.ast.specs.declared.Name.{Name}
use Rattle.ast.specs.declared.MapDecl.{MapDecl}
use Rattle.ast.specs.declared.NamedMap.{NamedMap}
use Rattle.ast.specs.declared.MapType.TheVariants.{Hash}
use Rattle.ast.specs.declared.Attr.TheVariants.{Absent, Present}
use Rattle.object.specs.declared.License.TheVariants.{Gpl, Text}
use Rattle.object.specs.declared.Program.{Program}
use Rattle.object.specs.declared.BpfObject.{BpfObject}
use Rattle.object.specs.declared.Full.{Full}
use Rattle.object.specs.declared.Added.{Added}

abbrev pub no_name : Name
no_name = record { at = 0; len = 0 }

abbrev pub no_decl : MapDecl
no_decl = record { map_type = Hash; key_type = Absent; value_type = Absent; max_entries = Absent }

abbrev pub no_map : NamedMap
no_map = record { decl = no_decl; name = no_name }

abbrev pub no_program : Program
no_program =
    record { section = no_name; symbol = no_name; from = 0; lines = 0; code_len = 0; first = 0; relocs = 0 }

-- no licence frame, no map, no program, 256 empty slots
abbrev pub empty_object : BpfObject
empty_object =
    record {
      license = Gpl;
      maps = replicate 64 no_map;
      map_count = 0;
      programs = replicate 32 no_program;
      program_count = 0;
      slots = replicate 256 None;
      reloc_count = 0;
    }

-- what every object keeps: its tables have their lengths, and its counts are within them
pub record Sound (o : BpfObject) : Type 0 where
  pub maps : length o.maps ≡ 64
  pub programs : length o.programs ≡ 32
  pub slots : length o.slots ≡ 256
  pub few_maps : o.map_count ≤ 64
  pub few_programs : o.program_count ≤ 32
  pub few_slots : o.reloc_count ≤ 256

-- what a step says: a full table is refused 6
abbrev pub adding_told : Result (Unit {0}) Full → Told (Unit {0})
adding_told (Ok u) = gives tt
adding_told (Err e) = refuses 6

abbrev pub done : BpfObject → Added
done o = record { answer = Ok tt; object = o }

abbrev pub full : BpfObject → Added
full o = record { answer = Err (record {}); object = o }

abbrev pub with_license : BpfObject → Name → Added
with_license o n = done (record {
  license = Text n;
  maps = o.maps;
  map_count = o.map_count;
  programs = o.programs;
  program_count = o.program_count;
  slots = o.slots;
  reloc_count = o.reloc_count;
})

abbrev pub with_map : BpfObject → MapDecl → Name → BpfObject
with_map o d n = record {
  license = o.license;
  maps = set o.maps o.map_count (record { decl = d; name = n });
  map_count = o.map_count + 1;
  programs = o.programs;
  program_count = o.program_count;
  slots = o.slots;
  reloc_count = o.reloc_count;
}

abbrev pub added_map : BpfObject → MapDecl → Name → Added
added_map o d n = cond (ltb o.map_count 64) (done (with_map o d n)) (full o)

abbrev pub with_program : BpfObject → Program → BpfObject
with_program o p = record {
  license = o.license;
  maps = o.maps;
  map_count = o.map_count;
  programs = set o.programs o.program_count p;
  program_count = o.program_count + 1;
  slots = o.slots;
  reloc_count = o.reloc_count;
}

abbrev pub added_program : BpfObject → Program → Added
added_program o p = cond (ltb o.program_count 32) (done (with_program o p)) (full o)
