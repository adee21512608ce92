-- What is known of the tables of an accepted job: every place is in the text and has what the tables say.
use Rattle.std.specs.Prelude.{Option, Some, None, ◌≡◌, true, List, [], ◌∷◌, ℕ, ◌+◌, ◌*◌, ◌≤◌, ◌<◌, length, take, drop, get_or}
use Rattle.std.proofs.Math.Option.{some}
use Rattle.lines.specs.Lines.{Line, frame_bytes}
use Rattle.lines.specs.Hex.{there, is_hex}
use Rattle.utf8.specs.Utf8.{is_text}
use Rattle.ast.specs.Job.{Map, last_map}
use Rattle.ast.specs.declared.Name.{Name}
use Rattle.object.specs.declared.License.{License}
use Rattle.object.specs.declared.License.TheVariants.{Gpl, Text}
use Rattle.object.specs.declared.Slot.{Slot}
use Rattle.object.specs.declared.Program.{Program}
use Rattle.object.specs.declared.BpfObject.{BpfObject}
use Rattle.ast.specs.declared.NamedMap.{NamedMap}
use Rattle.object.specs.Tables.{no_map, Sound}
use Rattle.object.specs.Read.{bytes_at, name_in, code_of, body, declared_maps}

-- a name is in the text, is hexadecimal and UTF-8, and has at most 64 bytes
pub record Named (text : List ℕ) (n : Name) : Type 0 where
  pub inside : n.at + 2 * n.len ≤ length text
  pub hex : is_hex (take (2 * n.len) (drop n.at text)) ≡ true
  pub good : is_text (name_in text n) ≡ true
  pub short : n.len ≤ 64

-- each map's name is one
abbrev pub MapsNamed : List ℕ → List NamedMap → Type 0
MapsNamed text ms = (i : ℕ) → i < length ms → Named text (get_or ms i no_map).name

abbrev pub LicenceNamed : List ℕ → License → Type 0
LicenceNamed text Gpl = Unit
LicenceNamed text (Text n) = Named text n

-- a relocation's offset and name are in the text, and its map is the last of that name
pub record Resolved (text : List ℕ) (ms : List Map) (place len number : ℕ) : Type 0 where
  pub inside : place + 16 + 2 * len ≤ length text
  pub hex : is_hex (take 16 (drop place text)) ≡ true
  pub last : last_map (bytes_at text (place + 16) len) ms ≡ some number
  pub short : len ≤ 64

abbrev pub ResolvedSlot : List ℕ → List Map → Option Slot → Type 0
ResolvedSlot text ms None = ⊥
ResolvedSlot text ms (Some s) = Resolved text ms s.place s.len s.map

-- lines that are hexadecimal
abbrev pub AllFrames : List Line → Type 0
AllFrames [] = Unit
AllFrames (l ∷ ls) = (there (frame_bytes l) ≡ true) × AllFrames ls

-- a program's names, its body and the code in it, and its slots, which are below `n`
pub record ProgramKept (text : List ℕ) (n : ℕ) (p : Program) : Type 0 where
  pub section : Named text p.section
  pub symbol : Named text p.symbol
  pub there : length (body text p.from p.lines) ≡ p.lines
  pub frames : AllFrames (body text p.from p.lines)
  pub code : length (code_of (body text p.from p.lines)) ≡ p.code_len
  pub slots : p.first + p.relocs ≤ n

abbrev pub AllKept : List ℕ → ℕ → List Program → Type 0
AllKept text n [] = Unit
AllKept text n (p ∷ ps) = ProgramKept text n p × AllKept text n ps

pub record Kept (text : List ℕ) (o : BpfObject) : Type 0 where
  pub sound : Sound o
  pub licence : LicenceNamed text o.license
  pub maps : MapsNamed text (take o.map_count o.maps)
  pub programs : AllKept text o.reloc_count (take o.program_count o.programs)
  pub slots : (i : ℕ) → i < o.reloc_count → ResolvedSlot text (declared_maps text o) (get_or o.slots i None)
