-- The sections of an object, read from the tables, by what the layout needs: alignment and contents. And that a section has room in the
-- output.
use Rattle.std.specs.Prelude.{Option, ◌≡◌, cond, List, [], ◌∷◌, ◌++◌, ℕ, ◌+◌, ◌≤◌, length, take, drop, eqb}
use Rattle.std.specs.Borrow.{MutBor}
use Rattle.std.specs.Fn.{Once, FnOnceReturnsAtMut}
use Rattle.octets.specs.Over.{over}
use Rattle.elf.specs.Elf.{Section, align_to, place, laid}
use Rattle.elf.specs.Added.{Alignment}
use Rattle.object.specs.declared.Slot.{Slot}
use Rattle.object.specs.declared.Program.{Program}
use Rattle.octets.specs.Octets.{zeros}
use Rattle.ast.specs.Job.{Map, Job}
use Rattle.btf.specs.Btf.{btf_bytes}
use Rattle.btf.specs.Maps.{map_types, btf_types}
use Rattle.object.specs.declared.BpfObject.{BpfObject}
use Rattle.object.specs.Read.{licence_in, code_of, body, declared_maps, job_in}
use Rattle.strtab.specs.Rows.{symtab_of, strtab_of}
use Rattle.headers.specs.Names.{shstrtab_of}
use Rattle.contents.specs.Slots.{slots_bytes}

-- a section of which only the alignment and the contents count
abbrev pub bare : ℕ → List ℕ → Section
bare align contents = record { name = []; kind = 0; flags = 0; align = align; entry = 0; link = 0; info = 0; contents = contents }

-- a program's REL section, if it has relocations
abbrev pub rel_piece : List ℕ → List (Option Slot) → Program → List Section
rel_piece text slots p = cond (eqb p.relocs 0) [] (bare 8 (slots_bytes text (take p.relocs (drop p.first slots))) ∷ [])

-- a program's section and its REL section, whose slots are `part`
abbrev pub own_pieces : List ℕ → List (Option Slot) → Program → List Section
own_pieces text part p = bare 8 (code_of (body text p.from p.lines)) ∷ cond (eqb p.relocs 0) [] (bare 8 (slots_bytes text part) ∷ [])

-- the programs' sections
abbrev pub program_pieces : List ℕ → List (Option Slot) → List Program → List Section
program_pieces text slots [] = []
program_pieces text slots (p ∷ ps) = bare 8 (code_of (body text p.from p.lines)) ∷ rel_piece text slots p ++ program_pieces text slots ps

-- a section of `size` bytes has its place in `out` after what ends at `end`, and the numbers are far below what their types hold
pub record Fits (out : List ℕ) (end size : ℕ) (s : Section) : Type 0 where
  pub aligned : Alignment s.align
  pub long : size ≡ length s.contents
  pub room : place end s + size ≤ length out
  pub short : length out ≤ 200000000

-- the same of any bytes of that size, at that alignment
pub record Room (out : List ℕ) (end align size : ℕ) : Type 0 where
  pub aligned : Alignment align
  pub room : align_to align end + size ≤ length out
  pub short : length out ≤ 200000000

-- `write` was lent a part of `size` bytes and left `bytes` there: they are written after what ends at `end`, at their alignment, and the
-- bytes between are cleared
pub record Wrote {F : Type 0} (g : Once F (MutBor (List ℕ) × Unit {0}) (Unit {0} × (MutBor (List ℕ) × Unit {0}))) (write : F) (out : List ℕ) (end align size : ℕ) (out' : List ℕ) : Type 0 where
  pub part : List ℕ
  pub bytes : List ℕ
  pub long : length part ≡ size
  pub left : FnOnceReturnsAtMut g write part tt bytes
  pub is : out' ≡ over out end (laid end (bare align bytes ∷ []))

-- `.maps` and `.BTF`, if there are maps
abbrev pub map_pieces : ℕ → List Map → List Section
map_pieces count ms = cond (eqb count 0) [] (bare 8 (zeros (map_types 6 0 ms).size) ∷ bare 4 (btf_bytes (btf_types ms)) ∷ [])

-- the three tables
abbrev pub table_pieces : Job → List Section
table_pieces j = bare 8 (symtab_of j) ∷ bare 1 (strtab_of j) ∷ bare 1 (shstrtab_of j) ∷ []

-- all of them
abbrev pub all_pieces : List ℕ → BpfObject → List Section
all_pieces text o =
    bare 1 (licence_in text o.license ++ (0 ∷ []))
    ∷ map_pieces o.map_count (declared_maps text o) ++ (program_pieces text o.slots (take o.program_count o.programs) ++ table_pieces (job_in text o))
