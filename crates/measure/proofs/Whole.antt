-- The headers that are measured are those of the definitions: the licence and the maps' sections, the programs', and the three tables.
use mathlib.Core.Path.{◌≡◌, refl, sym, ◌∙◌, ap, subst}
use mathlib.Core.List.{List, [], ◌∷◌, ◌++◌, map, map-append, append_assoc, append-nil}
use Prim.Native.Nat.{ℕ, suc, ◌+◌, ◌*◌}
use native.Mathlib.Omega.{arith}
use lib.ListN.{length, take, length-append, length-map, length-replicate}
use lib.Dec.{eqb-suc-zero}
use Rattle.octets.specs.Octets.{ascii, zeros}
use Rattle.octets.specs.All.{All}
use Rattle.octets.proofs.Lists.{all_append}
use Rattle.ast.specs.Job.{Map, Job}
use Rattle.ast.specs.Job as job
use Rattle.elf.specs.Strings.{add_strings, empty_table}
use Rattle.elf.specs.Elf.{Section, align_to, end_of}
use Rattle.elf.specs.Entries.{null_section}
use Rattle.elf.specs.declared.Section as code
use Rattle.elf.specs.Row.{size_of}
use Rattle.elf.proofs.Strings.{table-length}
use Rattle.elf.proofs.Joined.{places_at_lem, count_places}
use Rattle.elf.proofs.Places.{Aligned, length-file}
use Rattle.btf.specs.Btf.{btf_bytes}
use Rattle.btf.specs.Maps.{map_types, btf_types}
use Rattle.std.specs.Prelude.{Option}
use Rattle.object.specs.declared.Slot.{Slot}
use Rattle.object.specs.declared.Program.{Program}
use Rattle.object.specs.declared.BpfObject.{BpfObject}
use Rattle.object.specs.Read.{program_in, programs_in, job_in, declared_maps}
use Rattle.object.specs.Kept.{Kept, AllKept}
use Rattle.object.specs.Object.{plain, license_section, map_sections, rel_sections, past, program_sections, past_all, first_program, symbols, declared_sections, symbol_section, table_section, object}
use Rattle.object.proofs.Names.{name_length}
use Rattle.object.proofs.Slots.{AllCounted, all_counted}
use Rattle.strtab.specs.Rows.{behind, first_of, strtab_of, symtab_of}
use Rattle.headers.specs.Names.{section_names, shstrtab_of}
use Rattle.strtab.proofs.Whole.{first_of_lem, past_of, count_declared, symtab_long}
use Rattle.measure.specs.declared.Measuring.{Measuring}
use Rattle.measure.specs.declared.Measured.{Measured}
use Rattle.measure.specs.declared.Sizes.{Sizes}
use Rattle.measure.specs.Measured.{begun, licence_at, licensed, maps_at, btf_at, mapped, front, front_rows, symtab_at, strtab_at, with_strings, shstrtab_at, tabled, table_rows, after_programs, program_rows, behind_all, table_sections, sections_of, rows_of, measured_of, SizesOf}
use Rattle.measure.proofs.Table.{Rows, rows_on}
use Rattle.measure.proofs.Programs.{AllSame, rows_programs}

-- ---- before the programs

rows_begin : (all : List Section) → Rows all (null_section ∷ []) begun all
rows_begin all = record { is = refl; size = refl; counted = omega arith; ends = refl; named = refl }

module _ (j : Job) (z : Sizes) (s : SizesOf j z) where
  abbrev programs : ℕ → List Section
  programs first = program_sections (past_all j.programs (first_program j.maps)) first j.programs

  rows_licence : Rows (sections_of j) (null_section ∷ licence_at z ∷ []) (licensed z) (map_sections j.maps ++ programs (first_program j.maps) ++ table_sections j)
  rows_licence =
      let n : z.license + 1 ≡ length (j.licence ++ (0 ∷ [])) = omega (arith, s.license, length-append j.licence (0 ∷ [])) in
      rows_on (license_section j.licence) _ (licence_at z) 7 (rows_begin (sections_of j)) (rw n) refl

  rows_maps : (m : Map) (ms : List Map) (rest : List Section) → j.maps ≡ m ∷ ms → Rows (sections_of j) (null_section ∷ licence_at z ∷ []) (licensed z) (map_sections (m ∷ ms) ++ rest)
      → Rows (sections_of j) (null_section ∷ licence_at z ∷ maps_at z ∷ btf_at z ∷ []) (mapped z) rest
  rows_maps m ms rest e r =
      let a : z.maps ≡ length (zeros (map_types 6 0 (m ∷ ms)).size) = sym (ap length (ap zeros (ap (λ (x : List Map). (map_types 6 0 x).size) (sym e) ∙ s.maps)) ∙ length-replicate z.maps 0) in
      let b : z.btf ≡ length (btf_bytes (btf_types (m ∷ ms))) = sym (ap (λ (x : List Map). length (btf_bytes (btf_types x))) (sym e) ∙ s.btf) in
      let r₁ = rows_on (plain (ascii ".maps") 3 8 (zeros (map_types 6 0 (m ∷ ms)).size)) _ (maps_at z) 5 r (rw a) refl in
      rows_on (plain (ascii ".BTF") 0 4 (btf_bytes (btf_types (m ∷ ms)))) rest (btf_at z) 4 r₁ (rw b) refl

  start : (ms : List Map) → j.maps ≡ ms → Rows (sections_of j) (null_section ∷ licence_at z ∷ []) (licensed z) (map_sections ms ++ programs (first_program ms) ++ table_sections j)
  start ms e = subst (λ (x : List Map). Rows (sections_of j) (null_section ∷ licence_at z ∷ []) (licensed z) (map_sections x ++ programs (first_program x) ++ table_sections j)) e rows_licence

  rows-front : Rows (sections_of j) (front_rows z (length j.maps)) (front z (length j.maps)) (programs (front z (length j.maps)).count ++ table_sections j)
  rows-front = go j.maps refl
    where
      go : (ms : List Map) → j.maps ≡ ms → Rows (sections_of j) (front_rows z (length ms)) (front z (length ms)) (programs (front z (length ms)).count ++ table_sections j)
      go [] e = start [] e
      go (m ∷ ms) e = rw (eqb-suc-zero (length ms)) (rows_maps m ms (programs 4 ++ table_sections j) e (start (m ∷ ms) e))

  -- ---- after the programs

  names_all : map (λ x. x.name) (sections_of j) ≡ section_names j
  names_all = map-append (λ x. x.name) (declared_sections j) (table_sections j)

  shstrtab_long : length (shstrtab_of j) ≡ 1 + size_of (map (λ x. x.name) (sections_of j))
  shstrtab_long = table-length empty_table (section_names j) ∙ ap (λ (n : ℕ). 1 + n) (sym (ap size_of names_all))

  rows_tables : (rows : List code.Section) (m : Measuring) (n : ℕ) → length (symtab_of j) ≡ 24 * n → Rows (sections_of j) rows m (table_sections j)
      → Rows (sections_of j) (rows ++ table_rows m n z.strtab) (tabled m n z.strtab) [] × ((tabled m n z.strtab).names ≡ length (shstrtab_of j))
  rows_tables rows m n long r =
      let number : m.count ≡ suc (length (declared_sections j)) = omega (arith, r.counted, length-append (declared_sections j) (table_sections j)) in
      let link : m.count + 1 ≡ suc (length (declared_sections j)) + 1 = ap (λ (k : ℕ). k + 1) number in
      let size : 24 * n ≡ length (symtab_of j) = sym long in
      let str : z.strtab ≡ length (strtab_of j) = sym s.strtab in
      let r₁ = rows_on (symbol_section (suc (length (declared_sections j))) (add_strings empty_table (map (λ x. x.name) (symbols j))).places (symbols j)) _ (symtab_at m n) 7 r (rw (link, size)) refl in
      let r₂ = rows_on (table_section (ascii ".strtab") (strtab_of j)) _ (strtab_at m n z.strtab) 7 r₁ (rw str) refl in
      let self : (with_strings m n z.strtab).names + 10 ≡ length (shstrtab_of j) = omega (arith, r₂.named, shstrtab_long) in
      let r₃ = rows_on (table_section (ascii ".shstrtab") (shstrtab_of j)) [] (shstrtab_at m n z.strtab) 9 r₂ (rw self) refl in (
        subst (λ (xs : List code.Section). Rows (sections_of j) xs (tabled m n z.strtab) [])
            (append_assoc (rows ++ (symtab_at m n ∷ [])) (strtab_at m n z.strtab ∷ []) (shstrtab_at m n z.strtab ∷ []) ∙ append_assoc rows (symtab_at m n ∷ []) (strtab_at m n z.strtab ∷ shstrtab_at m n z.strtab ∷ [])) r₃,
        omega (arith, self),
      )

-- ---- the programs of the tables

same_programs : (text : List ℕ) (slots : List (Option Slot)) (n : ℕ) (ps : List Program) → AllCounted text slots ps → AllKept text n ps → AllSame (programs_in text slots ps) ps
same_programs text slots n [] c k = tt
same_programs text slots n (p ∷ ps) c k = (
  record { section = name_length text p.section k.0.section; code = k.0.code; relocations = c.0 },
  same_programs text slots n ps c.1 k.1,
)

number_of_lem : (text : List ℕ) (slots : List (Option Slot)) (at : ℕ) (ps : List Program) → AllCounted text slots ps → past_all (programs_in text slots ps) at ≡ behind_all ps at
number_of_lem text slots at [] c = refl
number_of_lem text slots at (p ∷ ps) c =
    let b = past_of at (program_in text slots p).relocations ∙ ap (λ (n : ℕ). behind n at) c.0 in
    ap (past_all (programs_in text slots ps)) b ∙ number_of_lem text slots (behind p.relocs at) ps c.1

-- ---- alignments and the length

aligned_rel : (symtab at : ℕ) (name : List ℕ) (rs : List job.Relocation) → All Aligned (rel_sections symtab at name rs)
aligned_rel symtab at name [] = tt
aligned_rel symtab at name (r ∷ rs) = (omega arith, tt)

aligned_programs : (symtab at : ℕ) (ps : List job.Program) → All Aligned (program_sections symtab at ps)
aligned_programs symtab at [] = tt
aligned_programs symtab at (p ∷ ps) =
    (omega arith, all_append Aligned (rel_sections symtab at p.section p.relocations) (program_sections symtab (past p.relocations at) ps) (aligned_rel symtab at p.section p.relocations) (aligned_programs symtab (past p.relocations at) ps))

aligned_maps : (ms : List Map) → All Aligned (map_sections ms)
aligned_maps [] = tt
aligned_maps (m ∷ ms) = (omega arith, (omega arith, tt))

pub aligned : (j : Job) → All Aligned (sections_of j)
aligned j =
    let first = first_program j.maps in
    let later = program_sections (past_all j.programs first) first j.programs in
    all_append Aligned (declared_sections j) (table_sections j)
    (omega arith, all_append Aligned (map_sections j.maps) later (aligned_maps j.maps) (aligned_programs (past_all j.programs first) first j.programs))
    (omega arith, (omega arith, (omega arith, tt)))

pub object-length : (j : Job) → length (object j) ≡ align_to 8 (end_of 64 (sections_of j)) + 64 * suc (length (sections_of j))
object-length j =
    let names = (add_strings empty_table (section_names j)).places in
    let n : length names ≡ length (sections_of j) =
    ap length (places_at_lem empty_table (section_names j)) ∙ count_places 1 (section_names j)
    ∙ omega (arith, length-append (map (λ x. x.name) (declared_sections j)) (ascii ".symtab" ∷ ascii ".strtab" ∷ ascii ".shstrtab" ∷ []), length-map (declared_sections j) (λ x. x.name), length-append (declared_sections j) (table_sections j)) in
    length-file names (sections_of j) (aligned j) n

-- ---- the whole

-- the headers and the answer, when all sections are measured
pub measured_is : (j : Job) (rows : List code.Section) (m : Measuring) (at : ℕ) → Rows (sections_of j) rows m [] → m.names ≡ length (shstrtab_of j) → at ≡ align_to 8 m.end
    → (rows ≡ rows_of j) × (◌≡◌ {A = Measured} (record { count = m.count; at = at; names = m.names; len = at + 64 * m.count }) (measured_of j))
measured_is j rows m at r names e =
    let n : m.count ≡ suc (length (sections_of j)) = omega (arith, r.counted) in
    let a : at ≡ align_to 8 (end_of 64 (sections_of j)) = e ∙ ap (align_to 8) r.ends in
    (sym (r.is ∙ append-nil rows), rw (n, a, names, object-length j))

-- all headers that the code writes, and the state after them
abbrev pub all_rows : Sizes → BpfObject → ℕ → List code.Section
all_rows z o symtab =
    let before = front z o.map_count in
    let declared = after_programs before symtab (take o.program_count o.programs) in
    (front_rows z o.map_count ++ program_rows before symtab (take o.program_count o.programs)) ++ table_rows declared (2 + o.map_count + o.program_count) z.strtab

abbrev pub after_all : Sizes → BpfObject → ℕ → Measuring
after_all z o symtab =
    tabled (after_programs (front z o.map_count) symtab (take o.program_count o.programs)) (2 + o.map_count + o.program_count) z.strtab

module _ (text : List ℕ) (o : BpfObject) (k : Kept text o) (z : Sizes) (s : SizesOf (job_in text o) z) where
  pub rows_whole : (first symtab : ℕ) → first ≡ first_of o.map_count → symtab ≡ behind_all (take o.program_count o.programs) first
      → Rows (sections_of (job_in text o)) (all_rows z o symtab) (after_all z o symtab) [] × ((after_all z o symtab).names ≡ length (shstrtab_of (job_in text o)))
  rows_whole first symtab f t =
      let n = count_declared text o k in
      let ps = take o.program_count o.programs in
      let j = job_in text o in
      let number : symtab ≡ past_all j.programs (first_program (declared_maps text o)) =
      t ∙ ap (behind_all ps) (f ∙ sym (first_of_lem (declared_maps text o) ∙ ap first_of n)) ∙ sym (number_of_lem text o.slots (first_program (declared_maps text o)) ps (all_counted text o k)) in
      let before : Rows (sections_of j) (front_rows z o.map_count) (front z o.map_count) (program_sections symtab (front z o.map_count).count j.programs ++ table_sections j) =
      subst (λ (c : ℕ). Rows (sections_of j) (front_rows z c) (front z c) (program_sections symtab (front z c).count j.programs ++ table_sections j)) n
      (subst (λ (y : ℕ). Rows (sections_of j) (front_rows z (length (declared_maps text o))) (front z (length (declared_maps text o)))
      (program_sections y (front z (length (declared_maps text o))).count j.programs ++ table_sections j)) (sym number) (rows-front j z s)) in
      let declared = rows_programs (sections_of j) symtab (table_sections j) (front_rows z o.map_count) (front z o.map_count) j.programs ps (same_programs text o.slots o.reloc_count ps (all_counted text o k) k.programs) before in
      rows_tables j z s _ _ (2 + o.map_count + o.program_count) (symtab_long text o k) declared

  pub whole_is : (first at : ℕ) → first ≡ first_of o.map_count
      → let symtab = behind_all (take o.program_count o.programs) first in
      let whole = after_all z o symtab in
      at ≡ align_to 8 whole.end
      → (all_rows z o symtab ≡ rows_of (job_in text o)) × (◌≡◌ {A = Measured} (record { count = whole.count; at = at; names = whole.names; len = at + 64 * whole.count }) (measured_of (job_in text o)))
  whole_is first at f e =
      let symtab = behind_all (take o.program_count o.programs) first in
      let r = rows_whole first symtab f refl in
      measured_is (job_in text o) (all_rows z o symtab) (after_all z o symtab) at r.0 r.1 e
