-- The names of sections in a row: short rows of the format's own strings, and the invariant of the loop over the programs.
use mathlib.Core.Path.{◌≡◌}
use mathlib.Core.List.{List, [], ◌∷◌, ◌++◌}
use Prim.Native.Nat.{ℕ, ◌+◌, ◌≤◌, ◌<◌}
use native.Mathlib.Omega.{arith}
use lib.ListN.{length, drop, get_or}
use borrow.Author.Tests.{eq-eqb, ne_eqb}
use Rattle.std.proofs.lemmas.List.{at_drop_more, at_drop_all}
use Rattle.octets.specs.Octets.{ascii}
use Rattle.octets.specs.Over.{over}
use Rattle.octets.proofs.Going.{Going, go_as, go_on, go_done}
use Rattle.elf.specs.Row.{joined}
use Rattle.object.specs.declared.Program.{Program}
use Rattle.object.specs.Tables.{no_program}
use Rattle.object.specs.Read.{name_in}
use Rattle.headers.specs.Names.{map_section_names, rel_name, program_section_names}

-- ---- the maps' sections

pub no_map_sections : (maps : ℕ) → maps ≡ 0 → joined (map_section_names maps) ≡ []
no_map_sections maps e = rw (eq-eqb maps 0 e)

pub map_sections_lem : (maps : ℕ) → 0 < maps → joined (map_section_names maps) ≡ (ascii ".maps" ++ (0 ∷ [])) ++ (ascii ".BTF" ++ (0 ∷ []))
map_sections_lem maps h = rw (ne_eqb maps 0 (omega arith))

-- ---- the programs' sections

module _ (text : List ℕ) (ps : List Program) where
  -- the names from program `i` on, and those after the name of a program's own section
  abbrev pub names_from : ℕ → List (List ℕ)
  names_from i = program_section_names text (drop i ps)

  abbrev pub section_of : ℕ → List ℕ
  section_of i = name_in text (get_or ps i no_program).section

  abbrev pub relocs_of : ℕ → ℕ
  relocs_of i = (get_or ps i no_program).relocs

  abbrev pub names_behind : ℕ → List (List ℕ)
  names_behind i = rel_name (relocs_of i) (section_of i) ++ names_from (i + 1)

  pub section_from : (i : ℕ) → i < length ps → joined (names_from i) ≡ (section_of i ++ (0 ∷ [])) ++ joined (names_behind i)
  section_from i h = at_drop_more (λ qs. joined (program_section_names text qs)) ps i no_program h

  -- one more: a program's own section
  pub section_on : {d out whole : List ℕ} {start at : ℕ} (i : ℕ) (out' : List ℕ) (at' : ℕ) → i < length ps
      → Going d start whole out at (joined (names_from i)) → out' ≡ over out at (section_of i ++ (0 ∷ [])) → at' ≡ at + length (section_of i ++ (0 ∷ []))
      → Going d start whole out' at' (joined (names_behind i))
  section_on i out' at' h g e n = go_on (section_of i ++ (0 ∷ [])) (joined (names_behind i)) out' at' (go_as _ (section_from i h) g) e n

  -- and then its REL section, if it has relocations
  rel_from : (i : ℕ) → 0 < relocs_of i → joined (names_behind i) ≡ ((ascii ".rel" ++ section_of i) ++ (0 ∷ [])) ++ joined (names_from (i + 1))
  rel_from i h = rw (ne_eqb (relocs_of i) 0 (omega arith))

  pub rel_on : {d out whole : List ℕ} {start at : ℕ} (i : ℕ) (out' : List ℕ) (at' : ℕ) → 0 < relocs_of i → Going d start whole out at (joined (names_behind i))
      → out' ≡ over out at ((ascii ".rel" ++ section_of i) ++ (0 ∷ [])) → at' ≡ at + length ((ascii ".rel" ++ section_of i) ++ (0 ∷ []))
      → Going d start whole out' at' (joined (names_from (i + 1)))
  rel_on i out' at' h g e n = go_on ((ascii ".rel" ++ section_of i) ++ (0 ∷ [])) (joined (names_from (i + 1))) out' at' (go_as _ (rel_from i h) g) e n

  pub no_rel : {d out whole : List ℕ} {start at : ℕ} (i : ℕ) → relocs_of i ≡ 0 → Going d start whole out at (joined (names_behind i))
      → Going d start whole out at (joined (names_from (i + 1)))
  no_rel i e g = go_as _ (rw (eq-eqb (relocs_of i) 0 e)) g

  pub sections_done : {d out whole : List ℕ} {start at : ℕ} (i : ℕ) → length ps ≤ i → Going d start whole out at (joined (names_from i))
      → (out ≡ over d start whole) × (at ≡ start + length whole)
  sections_done i h g = go_done (go_as [] (at_drop_all (λ qs. joined (program_section_names text qs)) ps i h) g)
