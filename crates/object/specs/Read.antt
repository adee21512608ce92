-- The tables of the code, read as a job. Every name, every byte of code and every offset is a function of the text and a place, so that
-- nothing that was read changes when the tables grow.
use Rattle.std.proofs.Math.Option.{Option, none, some}
use Rattle.std.specs.Prelude as slot
use Rattle.std.specs.Prelude.{List, [], ◌∷◌, ◌++◌, ℕ, ◌+◌, ◌*◌, take, drop}
use Rattle.octets.specs.Octets.{value, ascii}
use Rattle.lines.specs.Lines.{Line, lines, frame_bytes}
use Rattle.lines.specs.Hex.{bytes_in}
use Rattle.frames.specs.Frames.{Frame, licence, map_decl, program, code, relocation, frame_of}
use Rattle.ast.specs.Job.{Map, Relocation, Job}
use Rattle.ast.specs.Job as job
use Rattle.ast.specs.declared.Name.{Name}
use Rattle.ast.specs.declared.NamedMap.{NamedMap}
use Rattle.object.specs.declared.License.{License}
use Rattle.object.specs.declared.License.TheVariants.{Gpl, Text}
use Rattle.object.specs.declared.Slot.{Slot}
use Rattle.object.specs.declared.Program.{Program}
use Rattle.object.specs.declared.BpfObject.{BpfObject}

-- the `n` bytes whose characters begin at `at`
abbrev pub bytes_at : List ℕ → ℕ → ℕ → List ℕ
bytes_at text at n = bytes_in (take (2 * n) (drop at text))

abbrev pub name_in : List ℕ → Name → List ℕ
name_in text n = bytes_at text n.at n.len

abbrev pub licence_in : List ℕ → License → List ℕ
licence_in text Gpl = ascii "GPL"
licence_in text (Text n) = name_in text n

abbrev pub map_in : List ℕ → NamedMap → Map
map_in text m =
    record {
      name = name_in text m.name;
      kind = m.decl.map_type;
      key = m.decl.key_type;
      value = m.decl.value_type;
      entries = m.decl.max_entries;
    }

abbrev pub maps_in : List ℕ → List NamedMap → List Map
maps_in text [] = []
maps_in text (m ∷ ms) = map_in text m ∷ maps_in text ms

-- the relocation whose offset, of 8 bytes, is at `place`, and after it the name of map `number`
abbrev pub relocation_at : List ℕ → ℕ → ℕ → ℕ → Relocation
relocation_at text place len number =
    record { offset = value (bytes_at text place 8); map = bytes_at text (place + 16) len; number = number }

-- a slot that is taken gives one relocation, an empty one none
abbrev pub slot_in : List ℕ → slot.Option Slot → List Relocation
slot_in text slot.None = []
slot_in text (slot.Some s) = relocation_at text s.place s.len s.map ∷ []

abbrev pub relocations_in : List ℕ → List (slot.Option Slot) → List Relocation
relocations_in text [] = []
relocations_in text (s ∷ ss) = slot_in text s ++ relocations_in text ss

-- the code that a line adds
abbrev pub frame_code : Option Frame → List ℕ
frame_code none = []
frame_code (some (licence text)) = []
frame_code (some (map_decl kind key val entries name)) = []
frame_code (some (program section symbol)) = []
frame_code (some (code bytes)) = bytes
frame_code (some (relocation offset name)) = []

abbrev pub line_code : Option (List ℕ) → List ℕ
line_code none = []
line_code (some bs) = frame_code (frame_of bs)

abbrev pub code_of : List Line → List ℕ
code_of [] = []
code_of (l ∷ ls) = line_code (frame_bytes l) ++ code_of ls

-- the `n` lines that start at `from`
abbrev pub body : List ℕ → ℕ → ℕ → List Line
body text from n = take n (lines (drop from text))

abbrev pub program_in : List ℕ → List (slot.Option Slot) → Program → job.Program
program_in text slots p =
    record {
      section = name_in text p.section;
      symbol = name_in text p.symbol;
      code = code_of (body text p.from p.lines);
      relocations = relocations_in text (take p.relocs (drop p.first slots));
    }

abbrev pub programs_in : List ℕ → List (slot.Option Slot) → List Program → List job.Program
programs_in text slots [] = []
programs_in text slots (p ∷ ps) = program_in text slots p ∷ programs_in text slots ps

abbrev pub declared_maps : List ℕ → BpfObject → List Map
declared_maps text o = maps_in text (take o.map_count o.maps)

abbrev pub job_in : List ℕ → BpfObject → Job
job_in text o =
    record {
      licence = licence_in text o.license;
      maps = declared_maps text o;
      programs = programs_in text o.slots (take o.program_count o.programs);
    }
