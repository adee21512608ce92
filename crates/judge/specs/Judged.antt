-- What a verdict says of a line: what the table of refusals does with its bytes, in every stage that has these counts.
use Rattle.std.specs.Prelude.{◌≡◌, true, List, [], ℕ, suc, ◌+◌, ◌-◌, ◌/◌, ◌≤◌, ◌<◌, length, take, drop, Result, Ok, Err}
use Rattle.std.proofs.Math.Option.{some}
use Rattle.lines.specs.Hex.{is_hex, bytes_in}
use Rattle.frames.specs.Frames.{Frame, licence, map_decl, program, code, relocation, frame_of}
use Rattle.ast.specs.declared.Name.{Name}
use Rattle.ast.specs.declared.MapDecl.{MapDecl}
use Rattle.ast.specs.declared.NamedMap.{NamedMap}
use Rattle.octets.specs.Octets.{value}
use Rattle.object.specs.declared.Slot.{Slot}
use Rattle.object.specs.Read.{bytes_at, name_in, maps_in, relocation_at, frame_code}
use Rattle.object.specs.Kept.{Named, Resolved}
use Rattle.refusals.specs.Checked.{Stage, take_bytes, went, stopped, relocated, added}
use Rattle.refusals.specs.Refusal.{number_of, line_of}
use Rattle.judge.specs.declared.Counts.{Counts}
use Rattle.judge.specs.declared.Declaration.{Declaration}
use Rattle.judge.specs.declared.Declaration.TheVariants as declaration
use Rattle.judge.specs.declared.Order.{Order}
use Rattle.judge.specs.declared.Order.TheVariants as order
use Rattle.refusals.specs.declared.Refusal.{Refusal}

-- a line whose hexadecimal is from `at` to `end`
pub record Framed (text : List ℕ) (at end : ℕ) : Type 0 where
  pub few : length text ≤ 65535
  pub first : at + 2 ≤ end
  pub last : end ≤ length text
  pub hex : is_hex (take (end - at) (drop at text)) ≡ true

abbrev pub line_bytes : List ℕ → ℕ → ℕ → List ℕ
line_bytes text at end = bytes_in (take (end - at) (drop at text))

-- the line is this frame
abbrev pub Says : List ℕ → ℕ → ℕ → Frame → Type 0
Says text at end f = frame_of (line_bytes text at end) ≡ some f

-- the name that the characters from `from` to `end` give
abbrev pub name_at : ℕ → ℕ → Name
name_at from end = record { at = from; len = (end - from) / 2 }

-- the slot of a relocation whose line is from `at` to `end`
abbrev pub slot_at : ℕ → ℕ → ℕ → Slot
slot_at at end map = record { map = map; place = at + 2; len = (end - (at + 18)) / 2 }

-- the code's counts are those of the stage
pub record Agrees (s : Stage) (k : Counts) : Type 0 where
  pub lines : s.lines ≡ k.lines
  pub programs : length s.job.programs ≡ k.programs
  pub relocs : s.relocations ≡ k.relocs

-- the stage's maps are those of the table
abbrev pub Held : List ℕ → List NamedMap → Stage → Type 0
Held text ms s = s.job.maps ≡ maps_in text ms

-- frames by the parts of their bytes
abbrev pub map_frame_of : MapDecl → List ℕ → Frame
map_frame_of d name = map_decl d.map_type d.key_type d.value_type d.max_entries name

abbrev pub program_frame_of : ℕ → List ℕ → Frame
program_frame_of symbol bs = program (take (symbol - 2) (drop 2 bs)) (drop symbol bs)

abbrev pub relocation_frame_of : List ℕ → Frame
relocation_frame_of bs = relocation (value (take 8 (drop 1 bs))) (drop 9 bs)

-- what is known when a frame adds to the tables
abbrev pub Declared : List ℕ → Stage → Declaration → Type 0
Declared text s (declaration.License n) = Named text n × (s.lines ≡ 0)
Declared text s (declaration.Map d n) = Named text n × (length s.job.maps < 64) × (length s.job.programs ≡ 0)
Declared text s (declaration.Program a b) = Named text a × Named text b × (length s.job.programs < 32)

abbrev pub declaration_frame : List ℕ → Declaration → Frame
declaration_frame text (declaration.License n) = licence (name_in text n)
declaration_frame text (declaration.Map d n) = map_frame_of d (name_in text n)
declaration_frame text (declaration.Program a b) = program (name_in text a) (name_in text b)

-- what is known when a frame is taken; `bs` are the line's bytes
abbrev pub Ordered : List ℕ → Stage → List ℕ → Order → Type 0
Ordered text s bs (order.Declares d) =
    (take_bytes s bs ≡ added s (declaration_frame text d)) × Declared text s d × (frame_of bs ≡ some (declaration_frame text d))
Ordered text s bs (order.Code n) =
    (take_bytes s bs ≡ added s (code (frame_code (frame_of bs)))) × (length (frame_code (frame_of bs)) ≡ n)
    × (0 < length s.job.programs) × (n ≤ length bs) × (frame_of bs ≡ some (code (frame_code (frame_of bs))))
Ordered text s bs (order.Reloc x) =
    (take_bytes s bs ≡ went (relocated s (relocation_at text x.place x.len x.map)))
    × Resolved text s.job.maps x.place x.len x.map × (s.relocations < 256) × (0 < length s.job.programs) × (frame_code (frame_of bs) ≡ [])
    × (frame_of bs ≡ some (relocation (value (bytes_at text x.place 8)) (bytes_at text (x.place + 16) x.len)))

abbrev pub Judged : List ℕ → Stage → List ℕ → Result Order Refusal → Type 0
Judged text s bs (Ok o) = Ordered text s bs o
Judged text s bs (Err r) = (take_bytes s bs ≡ stopped (number_of r)) × (line_of r ≡ suc s.lines)
