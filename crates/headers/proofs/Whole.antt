-- `.shstrtab` of the definition is the row of names that the code writes: a zero byte, the licence's section, the maps', the programs', the
-- tables.
use mathlib.Core.Path.{◌≡◌, refl, ◌∙◌, ap}
use mathlib.Core.List.{List, [], ◌∷◌, ◌++◌, map, map-append, append_assoc}
use Prim.Native.Nat.{ℕ, ◌+◌, ◌-◌, ◌≤◌}
use native.Mathlib.Omega.{arith}
use lib.ListN.{length, take}
use lib.Seq.{length-take-le}
use lib.Dec.{eqb-suc-zero}
use borrow.Rule.Slice.PartMut.{put_mid}
use Rattle.octets.specs.Octets.{zeros, ascii}
use Rattle.octets.specs.Over.{over}
use Rattle.octets.proofs.Filling.{Filling, fill_start, fill_as, fill_on, fill_done, over-part}
use Rattle.ast.specs.Job.{Map, Relocation}
use Rattle.elf.specs.Strings.{empty_table}
use Rattle.elf.specs.Row.{joined}
use Rattle.elf.proofs.Joined.{table-joined, joined-append}
use Rattle.std.specs.Prelude.{Option}
use Rattle.object.specs.declared.Slot.{Slot}
use Rattle.object.specs.declared.Program.{Program}
use Rattle.object.specs.declared.BpfObject.{BpfObject}
use Rattle.object.specs.Read.{name_in, program_in, programs_in, declared_maps, job_in}
use Rattle.object.specs.Kept.{Kept}
use Rattle.object.specs.Object.{map_sections, rel_sections, past, program_sections, past_all, first_program}
use Rattle.object.proofs.Slots.{AllCounted, all_counted}
use Rattle.strtab.proofs.Whole.{count_declared}
use Rattle.headers.specs.Names.{section_names, shstrtab_of, map_section_names, rel_name, program_section_names, table_names}

-- ---- the names by the tables

map_section_names_lem : (ms : List Map) → map (λ s. s.name) (map_sections ms) ≡ map_section_names (length ms)
map_section_names_lem [] = refl
map_section_names_lem (m ∷ ms) = rw (eqb-suc-zero (length ms))

rel_names : (symtab at : ℕ) (name : List ℕ) (rs : List Relocation)
    → map (λ s. s.name) (rel_sections symtab at name rs) ≡ rel_name (length rs) name
rel_names symtab at name [] = refl
rel_names symtab at name (r ∷ rs) = rw (eqb-suc-zero (length rs))

program_section_names_lem : (symtab at : ℕ) (text : List ℕ) (slots : List (Option Slot)) (ps : List Program) → AllCounted text slots ps
    → map (λ s. s.name) (program_sections symtab at (programs_in text slots ps)) ≡ program_section_names text ps
program_section_names_lem symtab at text slots [] c = refl
program_section_names_lem symtab at text slots (p ∷ ps) c =
    let name = name_in text p.section in
    let rs = (program_in text slots p).relocations in
    let r = rel_names symtab at name rs ∙ ap (λ (i : ℕ). rel_name i name) c.0 in
    ap (λ (r : List (List ℕ)). name ∷ r)
    (map-append (λ s. s.name) (rel_sections symtab at name rs) (program_sections symtab (past rs at) (programs_in text slots ps))
    ∙ rw (r, program_section_names_lem symtab (past rs at) text slots ps c.1))

-- ---- the tables of an accepted job

module _ (text : List ℕ) (o : BpfObject) (k : Kept text o) where
  abbrev pub map_named : List (List ℕ)
  map_named = map_section_names o.map_count

  abbrev pub program_named : List (List ℕ)
  program_named = program_section_names text (take o.program_count o.programs)

  pub names_are : section_names (job_in text o) ≡ ascii "license" ∷ map_named ++ (program_named ++ table_names)
  names_are =
      let ms = declared_maps text o in
      let ps = programs_in text o.slots (take o.program_count o.programs) in
      let first = first_program ms in
      let m = map_section_names_lem ms ∙ ap map_section_names (count_declared text o k) in
      let p = program_section_names_lem (past_all ps first) first text o.slots (take o.program_count o.programs) (all_counted text o k) in
      let both : map (λ s. s.name) (map_sections ms ++ program_sections (past_all ps first) first ps) ≡ map_named ++ program_named =
      map-append (λ s. s.name) (map_sections ms) (program_sections (past_all ps first) first ps) ∙ rw (m, p) in
      ap (λ (r : List (List ℕ)). ascii "license" ∷ r ++ table_names) both
      ∙ ap (λ (r : List (List ℕ)). ascii "license" ∷ r) (append_assoc map_named program_named table_names)

  pub shstrtab_is : shstrtab_of (job_in text o)
      ≡ (0 ∷ []) ++ ((ascii "license" ++ (0 ∷ [])) ++ (joined map_named ++ (joined program_named ++ (joined table_names ++ []))))
  shstrtab_is =
      table-joined empty_table (section_names (job_in text o)) ∙ ap (λ (r : List (List ℕ)). empty_table ++ joined r) names_are
      ∙ ap (λ (r : List ℕ). 0 ∷ (ascii "license" ++ (0 ∷ [])) ++ r)
      (joined-append map_named (program_named ++ table_names) ∙ ap (λ (r : List ℕ). joined map_named ++ r) (joined-append program_named table_names))

  pub shstrtab_some : 1 ≤ length (shstrtab_of (job_in text o))
  shstrtab_some = omega (arith, ap length shstrtab_is)

  -- what is still to come after each piece of `.shstrtab`, and the pieces one by one
  abbrev pub after_programs : List ℕ
  after_programs = joined table_names ++ []

  abbrev pub after_maps : List ℕ
  after_maps = joined program_named ++ after_programs

  abbrev pub after_license : List ℕ
  after_license = joined map_named ++ after_maps

  abbrev after_zero : List ℕ
  after_zero = (ascii "license" ++ (0 ∷ [])) ++ after_license

  pub names_zero : (out l : List ℕ) → length out ≡ length (shstrtab_of (job_in text o)) → l ≡ zeros (length (take 1 out))
      → Filling (shstrtab_of (job_in text o)) (put_mid 0 (1 - 0) out l) 1 after_zero
  names_zero out l e q =
      let one : length (take 1 out) ≡ 1 = length-take-le 1 out (omega (arith, shstrtab_some)) in
      fill_on (0 ∷ []) after_zero (put_mid 0 (1 - 0) out l) 1 (fill_as _ shstrtab_is (fill_start (shstrtab_of (job_in text o)) out e))
      (over-part out 0 1 l (0 ∷ []) refl (q ∙ ap zeros one)) refl

  pub names_license : (out out' : List ℕ) → Filling (shstrtab_of (job_in text o)) out 1 after_zero → out' ≡ over out 1 (ascii "license" ++ (0 ∷ []))
      → Filling (shstrtab_of (job_in text o)) out' 9 after_license
  names_license out out' f e = fill_on (ascii "license" ++ (0 ∷ [])) after_license out' 9 f e refl

  pub names_maps : (out out' : List ℕ) (at : ℕ) → Filling (shstrtab_of (job_in text o)) out 9 after_license → out' ≡ over out 9 (joined map_named)
      → at ≡ 9 + length (joined map_named) → Filling (shstrtab_of (job_in text o)) out' at after_maps
  names_maps out out' at f e n = fill_on (joined map_named) after_maps out' at f e n

  pub names_programs : (out out' : List ℕ) (at at' : ℕ) → Filling (shstrtab_of (job_in text o)) out at after_maps → out' ≡ over out at (joined program_named)
      → at' ≡ at + length (joined program_named) → Filling (shstrtab_of (job_in text o)) out' at' after_programs
  names_programs out out' at at' f e n = fill_on (joined program_named) after_programs out' at' f e n

  pub names_tables : (out out' : List ℕ) (at : ℕ) → Filling (shstrtab_of (job_in text o)) out at after_programs → out' ≡ over out at (joined table_names)
      → out' ≡ shstrtab_of (job_in text o)
  names_tables out out' at f e = fill_done (fill_on (joined table_names) [] out' (at + length (joined table_names)) f e refl)
