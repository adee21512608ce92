-- The sections of the definitions and those that the tables give agree in alignment and contents; so their layout is the same.
use mathlib.Core.Path.{◌≡◌, refl, ap}
use mathlib.Core.Bool.{cond}
use mathlib.Core.List.{List, [], ◌∷◌, ◌++◌, map, append_assoc}
use Prim.Native.Nat.{ℕ, suc, ◌+◌, ◌≤◌}
use native.Mathlib.Omega.{arith}
use lib.ListN.{length, take, drop}
use lib.Dec.{eqb, eqb-suc-zero}
use Rattle.std.specs.Prelude.{Option}
use Rattle.octets.specs.All.{All}
use Rattle.ast.specs.Job.{Map, Relocation}
use Rattle.elf.specs.Elf.{Section, place, after, end_of, laid, header_bytes, section_headers, header_for}
use Rattle.elf.specs.Row.{places_at}
use Rattle.elf.proofs.Places.{Aligned}
use Rattle.object.specs.declared.Slot.{Slot}
use Rattle.object.specs.declared.Program.{Program}
use Rattle.object.specs.declared.BpfObject.{BpfObject}
use Rattle.object.specs.Read.{name_in, programs_in, relocations_in, declared_maps, job_in}
use Rattle.object.specs.Kept.{Kept}
use Rattle.object.specs.Object.{map_sections, relocation_bytes, rel_sections, past, program_sections, past_all, first_program}
use Rattle.object.proofs.Slots.{AllCounted, part-resolved, all_counted}
use Rattle.contents.specs.Slots.{AllPlaced}
use Rattle.contents.proofs.Slots.{slots_relocations, resolved_placed}
use Rattle.strtab.proofs.Whole.{count_declared}
use Rattle.elf.specs.Headers.{headers_bytes}
use Rattle.measure.specs.Measured.{rows_from, sections_of, table_sections}
use Rattle.sections.specs.Pieces.{bare, rel_piece, program_pieces, map_pieces, table_pieces, all_pieces}

abbrev pub Alike : List Section → List Section → Type 0
Alike [] [] = Unit
Alike [] (y ∷ ys) = ⊥
Alike (x ∷ xs) [] = ⊥
Alike (x ∷ xs) (y ∷ ys) = (x.align ≡ y.align) × (x.contents ≡ y.contents) × Alike xs ys

pub alike_laid : (end : ℕ) (xs ys : List Section) → Alike xs ys → (laid end xs ≡ laid end ys) × (end_of end xs ≡ end_of end ys)
alike_laid end [] [] a = (refl, refl)
alike_laid end [] (y ∷ ys) a = absurd a
alike_laid end (x ∷ xs) [] a = absurd a
alike_laid end (x ∷ xs) (y ∷ ys) a = let r = alike_laid (after end y) xs ys a.2 in rw (a.0, a.1) (rw r.0, r.1)

pub alike_append : (xs ys us vs : List Section) → Alike xs ys → Alike us vs → Alike (xs ++ us) (ys ++ vs)
alike_append [] [] us vs a b = b
alike_append [] (y ∷ ys) us vs a b = absurd a
alike_append (x ∷ xs) [] us vs a b = absurd a
alike_append (x ∷ xs) (y ∷ ys) us vs a b = (a.0, a.1, alike_append xs ys us vs a.2 b)

pub alike_length : (xs ys : List Section) → Alike xs ys → length xs ≡ length ys
alike_length [] [] a = refl
alike_length [] (y ∷ ys) a = absurd a
alike_length (x ∷ xs) [] a = absurd a
alike_length (x ∷ xs) (y ∷ ys) a = ap suc (alike_length xs ys a.2)

pub alike_aligned : (xs ys : List Section) → Alike xs ys → All Aligned xs → All Aligned ys
alike_aligned [] [] a h = tt
alike_aligned [] (y ∷ ys) a h = absurd a
alike_aligned (x ∷ xs) [] a h = absurd a
alike_aligned (x ∷ xs) (y ∷ ys) a h = (omega (arith, a.0, h.0), alike_aligned xs ys a.2 h.1)

-- ---- the tables of an accepted job

alike_maps : (ms : List Map) → Alike (map_sections ms) (map_pieces (length ms) ms)
alike_maps [] = tt
alike_maps (m ∷ ms) = rw (eqb-suc-zero (length ms)) (refl, refl, (refl, refl, tt))

alike_rel : (symtab at : ℕ) (name : List ℕ) (rs : List Relocation)
    → Alike (rel_sections symtab at name rs) (cond (eqb (length rs) 0) [] (bare 8 (relocation_bytes rs) ∷ []))
alike_rel symtab at name [] = tt
alike_rel symtab at name (r ∷ rs) = rw (eqb-suc-zero (length rs)) (refl, refl, tt)

alike_programs : (text : List ℕ) (slots : List (Option Slot)) (symtab at : ℕ) (ps : List Program) → AllCounted text slots ps
    → Alike (program_sections symtab at (programs_in text slots ps)) (program_pieces text slots ps)
alike_programs text slots symtab at [] c = tt
alike_programs text slots symtab at (p ∷ ps) c =
    let name = name_in text p.section in
    let part = take p.relocs (drop p.first slots) in
    let rs = relocations_in text part in
    let rel : Alike (rel_sections symtab at name rs) (rel_piece text slots p) = rw (c.0, ← slots_relocations text part) at (alike_rel symtab at name rs) in (
      refl,
      refl,
      alike_append (rel_sections symtab at name rs) (rel_piece text slots p) (program_sections symtab (past rs at) (programs_in text slots ps)) (program_pieces text slots ps)
          rel (alike_programs text slots symtab (past rs at) ps c.1),
    )

module _ (text : List ℕ) (o : BpfObject) (k : Kept text o) where
  abbrev ms : List Map
  ms = declared_maps text o

  -- the offsets of a program's slots are in the text
  pub placed : (p : Program) → p.first + p.relocs ≤ o.reloc_count → AllPlaced text (take p.relocs (drop p.first o.slots))
  placed p h = resolved_placed text ms (take p.relocs (drop p.first o.slots)) (part-resolved text o k p h)

  pub alike_all : Alike (sections_of (job_in text o)) (all_pieces text o)
  alike_all =
      let first = first_program ms in
      let ps = program_sections (past_all (job_in text o).programs first) first (job_in text o).programs in
      let mp = rw (count_declared text o k) at (alike_maps ms) in
      let tail = alike_append ps (program_pieces text o.slots (take o.program_count o.programs)) (table_sections (job_in text o)) (table_pieces (job_in text o))
      (alike_programs text o.slots (past_all (job_in text o).programs first) first (take o.program_count o.programs) (all_counted text o k)) (refl, refl, (refl, refl, (refl, refl, tt))) in
      (refl, refl, rw (append_assoc (map_sections ms) ps (table_sections (job_in text o))) (alike_append (map_sections ms) (map_pieces o.map_count ms) (ps ++ table_sections (job_in text o)) (program_pieces text o.slots (take o.program_count o.programs) ++ table_pieces (job_in text o)) mp tail))

-- ---- the headers

-- those that are measured are those of the file
pub rows_headers : (names end : ℕ) (ss : List Section) → section_headers (places_at names (map (λ s. s.name) ss)) end ss ≡ headers_bytes (rows_from names end ss)
rows_headers names end [] = refl
rows_headers names end (s ∷ ss) = ap (λ (r : List ℕ). header_bytes (header_for names (place end s) s) ++ r) (rows_headers (names + suc (length s.name)) (after end s) ss)

pub rows_count : (names end : ℕ) (ss : List Section) → length (rows_from names end ss) ≡ length ss
rows_count names end [] = refl
rows_count names end (s ∷ ss) = ap suc (rows_count (names + suc (length s.name)) (after end s) ss)
