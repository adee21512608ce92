-- The headers of one program more, and then of all: a program's section, and its REL section if it has relocations.
use mathlib.Core.Path.{◌≡◌, refl, sym, ◌∙◌, ap, subst}
use mathlib.Core.Bool.{Bool, true, false, cond}
use mathlib.Core.List.{List, [], ◌∷◌, ◌++◌, append_assoc, append-nil}
use Prim.Native.Nat.{ℕ, suc, ◌+◌, ◌*◌, ◌≤◌}
use native.Mathlib.Omega.{arith}
use lib.ListN.{length, length-append}
use lib.Dec.{eqb, eqb-suc-zero}
use borrow.Author.Tests.{eq-eqb}
use Rattle.octets.specs.Octets.{ascii}
use Rattle.ast.specs.Job.{Relocation}
use Rattle.ast.specs.Job as job
use Rattle.elf.specs.Elf.{Section}
use Rattle.elf.specs.declared.Section as code
use Rattle.object.specs.declared.Program.{Program}
use Rattle.object.specs.Object.{plain, rel_sections, past, program_sections, relocation_bytes}
use Rattle.object.specs.Kept.{AllKept}
use Rattle.object.proofs.Counts.{length_relocations}
use Rattle.measure.specs.declared.Measuring.{Measuring}
use Rattle.measure.specs.Measured.{with_section, code_at, coded, rel_of, programmed, program_row, after_programs, program_rows, ShortNames}
use Rattle.measure.proofs.Table.{Rows, rows_on}

-- the programs of a job are those of the tables, as far as measuring goes
pub record Same (j : job.Program) (p : Program) : Type 0 where
  pub section : length j.section ≡ p.section.len
  pub code : length j.code ≡ p.code_len
  pub relocations : length j.relocations ≡ p.relocs

abbrev pub AllSame : List job.Program → List Program → Type 0
AllSame [] [] = Unit
AllSame [] (p ∷ ps) = ⊥
AllSame (j ∷ js) [] = ⊥
AllSame (j ∷ js) (p ∷ ps) = Same j p × AllSame js ps

-- the names that an accepted job's tables keep are short
pub short_names : (text : List ℕ) (n : ℕ) (ps : List Program) → AllKept text n ps → ShortNames ps
short_names text n [] k = tt
short_names text n (p ∷ ps) k = (k.0.section.short, short_names text n ps k.1)

module _ (all : List Section) (symtab : ℕ) (rest : List Section) where
  -- the program's own section, and then the REL section by its relocations
  rel_rows : (rows : List code.Section) (m : Measuring) (p : Program) (name : List ℕ) (rs : List Relocation) (js : List job.Program)
      → length rs ≡ p.relocs → length name ≡ p.section.len
      → Rows all (rows ++ (code_at m p ∷ [])) (coded m p) (rel_sections symtab m.count name rs ++ program_sections symtab (past rs m.count) js ++ rest)
      → Rows all (rows ++ program_row m symtab p) (programmed m symtab p) (program_sections symtab (programmed m symtab p).count js ++ rest)
  rel_rows rows m p name [] js e l r =
      let none : eqb p.relocs 0 ≡ true = eq-eqb p.relocs 0 (sym e) in
      let one : m.count + 1 ≡ suc m.count = omega arith in
      rw none (subst (λ (k : ℕ). Rows all (rows ++ (code_at m p ∷ [])) (coded m p) (program_sections symtab k js ++ rest)) (sym one) r)
  rel_rows rows m p name (x ∷ rs) js e l r =
      let some : eqb p.relocs 0 ≡ false = ap (λ (n : ℕ). eqb n 0) (sym e) ∙ eqb-suc-zero (length rs) in
      let two : m.count + 1 + 1 ≡ suc (suc m.count) = omega arith in
      let size : 16 * p.relocs ≡ length (relocation_bytes (x ∷ rs)) = omega (arith, length_relocations (x ∷ rs), e) in
      let on =
      rows_on (record { name = ascii ".rel" ++ name; kind = 9; flags = 0; align = 8; entry = 16; link = symtab; info = m.count; contents = relocation_bytes (x ∷ rs) })
      (program_sections symtab (suc (suc m.count)) js ++ rest) (rel_of m symtab p) (p.section.len + 4) r (rw size) (omega (arith, l)) in
      let both = subst (λ (rs : List code.Section). Rows all rs (with_section (coded m p) (rel_of m symtab p) (p.section.len + 4)) (program_sections symtab (suc (suc m.count)) js ++ rest))
      (append_assoc rows (code_at m p ∷ []) (rel_of m symtab p ∷ [])) on in
      rw some (subst (λ (k : ℕ). Rows all (rows ++ (code_at m p ∷ rel_of m symtab p ∷ [])) (with_section (coded m p) (rel_of m symtab p) (p.section.len + 4)) (program_sections symtab k js ++ rest)) (sym two) both)

  rows_program : (rows : List code.Section) (m : Measuring) (j : job.Program) (js : List job.Program) (p : Program) → Same j p
      → Rows all rows m (program_sections symtab m.count (j ∷ js) ++ rest)
      → Rows all (rows ++ program_row m symtab p) (programmed m symtab p) (program_sections symtab (programmed m symtab p).count js ++ rest)
  rows_program rows m j js p s r =
      rel_rows rows m p j.section j.relocations js s.relocations s.section
      (rows_on (plain j.section 6 8 j.code) _ (code_at m p) p.section.len r (rw s.code) (sym s.section))

  pub rows_programs : (rows : List code.Section) (m : Measuring) (js : List job.Program) (ps : List Program) → AllSame js ps
      → Rows all rows m (program_sections symtab m.count js ++ rest) → Rows all (rows ++ program_rows m symtab ps) (after_programs m symtab ps) rest
  rows_programs rows m [] [] s r = rw append-nil r
  rows_programs rows m [] (p ∷ ps) s r = absurd s
  rows_programs rows m (j ∷ js) [] s r = absurd s
  rows_programs rows m (j ∷ js) (p ∷ ps) s r =
      subst (λ (xs : List code.Section). Rows all xs (after_programs (programmed m symtab p) symtab ps) rest)
      (append_assoc rows (program_row m symtab p) (program_rows (programmed m symtab p) symtab ps))
      (rows_programs (rows ++ program_row m symtab p) (programmed m symtab p) js ps s.1 (rows_program rows m j js p s.0 r))

-- a program has at most two headers
row_few : (m : Measuring) (symtab : ℕ) (p : Program) → (length (program_row m symtab p) ≤ 2) × ((programmed m symtab p).count ≡ m.count + length (program_row m symtab p))
row_few m symtab p = go (eqb p.relocs 0)
  where
    go : (b : Bool) → (length {A = code.Section} (code_at m p ∷ cond b [] (rel_of m symtab p ∷ [])) ≤ 2)
        × ((cond b (coded m p) (with_section (coded m p) (rel_of m symtab p) (p.section.len + 4))).count ≡ m.count + length {A = code.Section} (code_at m p ∷ cond b [] (rel_of m symtab p ∷ [])))
    go true = (omega arith, refl)
    go false = (omega arith, omega arith)

pub rows_few : (m : Measuring) (symtab : ℕ) (ps : List Program) → length (program_rows m symtab ps) ≤ 2 * length ps
rows_few m symtab [] = omega arith
rows_few m symtab (p ∷ ps) =
    omega (arith, length-append (program_row m symtab p) (program_rows (programmed m symtab p) symtab ps), (row_few m symtab p).0, rows_few (programmed m symtab p) symtab ps)

pub row_count : (m : Measuring) (symtab : ℕ) (p : Program) → (programmed m symtab p).count ≡ m.count + length (program_row m symtab p)
row_count m symtab p = (row_few m symtab p).1

pub rows_count : (m : Measuring) (symtab : ℕ) (ps : List Program) → (after_programs m symtab ps).count ≡ m.count + length (program_rows m symtab ps)
rows_count m symtab [] = omega arith
rows_count m symtab (p ∷ ps) =
    omega (arith, length-append (program_row m symtab p) (program_rows (programmed m symtab p) symtab ps), (row_few m symtab p).1, rows_count (programmed m symtab p) symtab ps)
