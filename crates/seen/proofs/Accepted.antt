-- Demand 3: in the object of every accepted job a loader reads what the job declares, for each of its programs, and the job's relocations
-- have their maps' numbers. It holds of every job within limits, as an accepted one is. The bytes that answer a text are such an object.
use mathlib.Core.Path.{◌≡◌, refl, sym, subst, ◌∙◌}
use mathlib.Core.Bool.{Bool, true, false, cond}
use mathlib.Core.List.{List, [], ◌∷◌, ◌++◌, map, map-append}
use Prim.Native.Nat.{ℕ, ◌+◌, ◌^◌, ◌<◌}
use native.Mathlib.Omega.{arith}
use lib.Dec.{leb}
use lib.ListN.{length, length-append, length-map}
use Rattle.octets.specs.Octets.{ascii}
use Rattle.octets.specs.All.{All}
use Rattle.octets.proofs.Lists.{all_append, all_weaken, get_add}
use Rattle.ast.specs.Job.{Program, Job}
use Rattle.elf.specs.Strings.{add_strings, empty_table, AllPlaced}
use Rattle.elf.specs.Elf.{Section, end_of}
use Rattle.elf.proofs.Strings.{AllStand, all_stand, stand_length, size_append, table-length}
use Rattle.elf.proofs.Places.{align_near}
use Rattle.object.specs.Object.{declared_sections, symbols, table_section, object}
use Rattle.object.proofs.Counts.{count_symbols}
use Rattle.refusals.specs.Checked.{Checked, checked, accepted, faulty}
use Rattle.job.specs.Answer.{Answer, made, refused, fitted, answer}
use Rattle.refusals.proofs.Within.{RelocationWithin, ProgramWithin, Within, accepted_within}
use Rattle.reading.specs.Reading.{reading, reads}
use Rattle.seen.specs.Seen.{seen, Last, Resolved, Loads}
use Rattle.seen.proofs.Sections.{Sound, SoundFile, reading-file}
use Rattle.seen.proofs.Bounds.{Good, good_names, good_end, declared_good, declared_few, tables, tables_good, symbols_fit, symbols_names}
use Rattle.seen.proofs.Loading.{loaded-object}

module _ (j : Job) where
  -- the symbols' names and their table; the sections' names and theirs
  abbrev symbol_names : List (List ℕ)
  symbol_names = map (λ s. s.name) (symbols j)

  abbrev sym_names : AllPlaced
  sym_names = add_strings empty_table symbol_names

  abbrev section_names : List (List ℕ)
  section_names = map (λ s. s.name) (declared_sections j) ++ (ascii ".symtab" ∷ ascii ".strtab" ∷ ascii ".shstrtab" ∷ [])

  abbrev sec_names : AllPlaced
  sec_names = add_strings empty_table section_names

  abbrev rest : List Section
  rest = tables j sym_names.places sym_names.table sec_names.table

  abbrev all : List Section
  all = declared_sections j ++ rest

  symbols_stand : AllStand sym_names.table sym_names.places symbol_names
  symbols_stand = all_stand empty_table symbol_names

  sections_stand : AllStand sec_names.table sec_names.places (map (λ s. s.name) all)
  sections_stand =
      subst (λ (l : List (List ℕ)). AllStand sec_names.table sec_names.places l) (sym (map-append (λ s. s.name) (declared_sections j) rest))
      (all_stand empty_table section_names)

  module _ (w : Within j) where
    symbols-short : length sym_names.table < 2 ^ 16
    symbols-short =
        omega (arith, table-length empty_table symbol_names, symbols_names (symbols j) (symbols_fit j w), count_symbols j, w.map_count, w.program_count)

    names_short : length sec_names.table < 2 ^ 16
    names_short =
        omega (
          arith,
          table-length empty_table section_names,
          size_append (map (λ s. s.name) (declared_sections j)) (ascii ".symtab" ∷ ascii ".strtab" ∷ ascii ".shstrtab" ∷ []),
          good_names (declared_sections j) (declared_good j w),
          declared_few j w,
        )

    all_good : All Good all
    all_good =
        let same = stand_length sym_names.table sym_names.places symbol_names symbols_stand ∙ length-map (symbols j) (λ s. s.name) in
        all_append Good (declared_sections j) rest (declared_good j w)
        (tables_good j sym_names.places sym_names.table sec_names.table w same (omega (arith, symbols-short)) (omega (arith, names_short)))

    sound_file : SoundFile sec_names.places all (table_section (ascii ".shstrtab") sec_names.table)
    sound_file =
        let few = declared_few j w in
        let count = length-append (declared_sections j) rest in
        record {
          sound = all_weaken Good Sound (λ s g. g.sound) all all_good;
          few = omega arith;
          early = omega (arith, good_end 64 all all_good, align_near 8 (end_of 64 all) (omega arith));
          last = length (declared_sections j) + 2;
          count = omega arith;
          there = get_add (declared_sections j) rest 2;
          kind = refl;
          small = omega (arith, names_short);
          stand = sections_stand;
        }

    pub reads_within : reading (object j) ≡ reads (seen j)
    reads_within =
        reading-file sec_names.places all (table_section (ascii ".shstrtab") sec_names.table) sound_file
        ∙ loaded-object j w sym_names.places sym_names.table sec_names.table (omega (arith, symbols-short)) symbols_stand

pub resolved_accepted : (text : List ℕ) (j : Job) → checked text ≡ accepted j → Resolved j
resolved_accepted text j e =
    all_weaken (ProgramWithin j.maps) (λ (p : Program). All (Last j.maps) p.relocations)
    (λ p h. all_weaken (RelocationWithin j.maps) (Last j.maps) (λ r w. w.last) p.relocations h.relocations)
    j.programs (accepted_within text j e).programs

pub reads_accepted : (text : List ℕ) (j : Job) → checked text ≡ accepted j → Loads (object j) j
reads_accepted text j e = record { read = reads_within j (accepted_within text j e); resolved = resolved_accepted text j e }

-- ---- the same for the bytes that answer a text

abbrev answered : Checked → ℕ → Answer
answered c room = elim c [ accepted j ↦ fitted room (object j) | faulty n l ↦ refused n l 0 ]

fitted_made : (room : ℕ) (o bytes : List ℕ) → fitted room o ≡ made bytes → o ≡ bytes
fitted_made room o bytes e = go (leb (length o) room) e
  where
    go : (b : Bool) → cond b (made o) (refused 8 0 (length o)) ≡ made bytes → o ≡ bytes
    go true q = cc
    go false q = cc

pub reads_made : (text : List ℕ) (room : ℕ) (bytes : List ℕ) → answer text room ≡ made bytes
    → (j : Job) × (checked text ≡ accepted j) × Loads bytes j
reads_made text room bytes e = go (checked text) refl e
  where
    go : (c : Checked) → checked text ≡ c → answered c room ≡ made bytes → (j : Job) × (checked text ≡ accepted j) × Loads bytes j
    go (accepted j) q a = (j, q, subst (λ (b : List ℕ). Loads b j) (fitted_made room (object j) bytes a) (reads_accepted text j q))
    go (faulty n l) q a = let z : ◌≡◌ {A = ℕ} 0 1 = cc in absurd (omega arith)
