-- How many sections, symbols and bytes of relocations an object has, exactly: the counts of the definitions are the lengths of the rows
-- that they make. And a relocation's map has a number below the count of maps.
use mathlib.Core.Path.{◌≡◌, refl, ap}
use mathlib.Core.Bool.{Bool, true, false}
use mathlib.Core.Option.{Option, none, some}
use mathlib.Core.List.{List, [], ◌∷◌}
use Prim.Native.Nat.{ℕ, suc, ◌+◌, ◌*◌, ◌≤◌, ◌<◌}
use native.Mathlib.Omega.{arith}
use lib.ListN.{length, length-append}
use Rattle.octets.specs.Octets.{equal}
use Rattle.ast.specs.Job.{Map, Relocation, Program, Job, last_from}
use Rattle.btf.specs.Maps.{map_size}
use Rattle.object.specs.Object.{map_sections, relocation_bytes, rel_sections, past, program_sections, past_all, map_symbols, program_symbols, first_program, symbols, declared_sections}

-- ---- sections

pub past_more : (rs : List Relocation) (at : ℕ) → at < past rs at
past_more [] at = omega arith
past_more (r ∷ rs) at = omega arith

pub past_near : (rs : List Relocation) (at : ℕ) → past rs at ≤ at + 2
past_near [] at = omega arith
past_near (r ∷ rs) at = omega arith

pub past_all_near : (ps : List Program) (at : ℕ) → past_all ps at ≤ at + 2 * length ps
past_all_near [] at = omega arith
past_all_near (p ∷ ps) at = omega (arith, past_all_near ps (past p.relocations at), past_near p.relocations at)

pub first_near : (ms : List Map) → first_program ms ≤ 4
first_near [] = omega arith
first_near (m ∷ ms) = omega arith

count_rel : (symtab at : ℕ) (name : List ℕ) (rs : List Relocation)
    → at + suc (length (rel_sections symtab at name rs)) ≡ past rs at
count_rel symtab at name [] = omega arith
count_rel symtab at name (r ∷ rs) = omega arith

count_programs : (symtab at : ℕ) (ps : List Program) → at + length (program_sections symtab at ps) ≡ past_all ps at
count_programs symtab at [] = omega arith
count_programs symtab at (p ∷ ps) =
    omega (
      arith,
      length-append (rel_sections symtab at p.section p.relocations) (program_sections symtab (past p.relocations at) ps),
      count_rel symtab at p.section p.relocations,
      count_programs symtab (past p.relocations at) ps,
    )

count_maps : (ms : List Map) → 2 + length (map_sections ms) ≡ first_program ms
count_maps [] = refl
count_maps (m ∷ ms) = refl

-- `.symtab` follows the sections that the job asks for; section 0 is not one of them
pub symtab_number : (j : Job) → suc (length (declared_sections j)) ≡ past_all j.programs (first_program j.maps)
symtab_number j =
    let first = first_program j.maps in
    let later = program_sections (past_all j.programs first) first j.programs in
    omega (
      arith,
      length-append (map_sections j.maps) later,
      count_maps j.maps,
      count_programs (past_all j.programs first) first j.programs,
    )

-- ---- symbols

pub count_map_symbols : (at : ℕ) (ms : List Map) → length (map_symbols at ms) ≡ length ms
count_map_symbols at [] = refl
count_map_symbols at (m ∷ ms) = ap suc (count_map_symbols (at + map_size m) ms)

count_program_symbols : (at : ℕ) (ps : List Program) → length (program_symbols at ps) ≡ length ps
count_program_symbols at [] = refl
count_program_symbols at (p ∷ ps) = ap suc (count_program_symbols (past p.relocations at) ps)

pub count_symbols : (j : Job) → length (symbols j) ≡ 2 + length j.maps + length j.programs
count_symbols j =
    let later = program_symbols (first_program j.maps) j.programs in
    omega (
      arith,
      length-append (map_symbols 0 j.maps) later,
      count_map_symbols 0 j.maps,
      count_program_symbols (first_program j.maps) j.programs,
    )

-- ---- relocations

pub length_relocations : (rs : List Relocation) → length (relocation_bytes rs) ≡ 16 * length rs
length_relocations [] = refl
length_relocations (r ∷ rs) = omega (arith, length_relocations rs)

-- ---- maps

-- the number of a map that is found is one of those that were looked through
pub last_below : (i : ℕ) (name : List ℕ) (ms : List Map) (k : ℕ) → last_from i name ms ≡ some k → k < i + length ms
last_below i name [] k e = let c : ◌≡◌ {A = ℕ} 0 1 = cc in absurd (omega arith)
last_below i name (m ∷ ms) k e = go (last_from (suc i) name ms) (equal name m.name) refl refl (last_below (suc i) name ms)
  where
    go : (o : Option ℕ) (b : Bool) → last_from (suc i) name ms ≡ o → equal name m.name ≡ b
        → ((n : ℕ) → last_from (suc i) name ms ≡ some n → n < suc i + length ms)
        → k < i + suc (length ms)
    go (some n) b q t h =
        let x : ◌≡◌ {A = Option ℕ} (some n) (some k) = rw q at e in
        let y : n ≡ k = cc in
        omega (arith, h n q)
    go none true q t h =
        let x : ◌≡◌ {A = Option ℕ} (some i) (some k) = rw (q, t) at e in
        let y : i ≡ k = cc in
        omega arith
    go none false q t h =
        let x : ◌≡◌ {A = Option ℕ} none (some k) = rw (q, t) at e in
        let y : ◌≡◌ {A = ℕ} 0 1 = cc in
        absurd (omega arith)
