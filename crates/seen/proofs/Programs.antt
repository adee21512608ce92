-- L5 and L7: in the programs' sections, symbols and relocation entries a loader finds every program with its code and its relocations, each
-- with its map's number. It holds wherever the sections begin and whatever sections follow.
use mathlib.Core.Path.{◌≡◌, refl, ap, ◌∙◌}
use mathlib.Core.Bool.{Bool, false}
use mathlib.Core.Option.{some}
use mathlib.Core.List.{List, [], ◌∷◌, ◌++◌, map, append_assoc, append-nil}
use Prim.Native.Nat.{ℕ, suc, ◌+◌, ◌*◌, ◌^◌, ◌≤◌, ◌<◌}
use native.Mathlib.Omega.{arith}
use lib.ListN.{length, get_elem?}
use borrow.Author.Tests.{eq-eqb, ne_eqb}
use Rattle.octets.specs.Octets.{ascii}
use Rattle.octets.proofs.Numbers.{value-le}
use Rattle.octets.specs.All.{All}
use Rattle.written.specs.Written.{written}
use Rattle.ast.specs.Job.{Relocation, Program}
use Rattle.elf.specs.Elf.{Section, symbol_info, rel_bytes}
use Rattle.object.specs.Object.{plain, past, past_all, rel_sections, program_sections, relocation_bytes, program_symbols}
use Rattle.object.proofs.Counts.{past_more, length_relocations}
use Rattle.reading.specs.Steps.{keep}
use Rattle.reading.specs.Sections.{Named}
use Rattle.reading.specs.Programs.{Code, is_code, is_function, codes_of}
use Rattle.reading.specs.Programs as reading
use Rattle.reading.specs.Maps.{Mapped}
use Rattle.reading.specs.Relocations.{map_at, maps_section, relocates, rel_of, relocation_of, relocations_of, relocated}
use Rattle.reading.proofs.Rules.{relocation_of_lem, relocations_on, relocations_of_lem}
use Rattle.seen.specs.Seen.{seen_relocation, seen_program}
use Rattle.seen.proofs.Sections.{named_of, named_for}
use Rattle.seen.proofs.Symbols.{seen_symbol}

-- a program's REL section, if it has one
abbrev rel_section : ℕ → ℕ → List ℕ → List Relocation → Section
rel_section symtab at name rs =
    record {
      name = ascii ".rel" ++ name;
      kind = 9;
      flags = 0;
      align = 8;
      entry = 16;
      link = symtab;
      info = at;
      contents = relocation_bytes rs;
    }

-- ---- what no program has

-- a test that fails on programs' sections
pub record Passes (p : Named → Bool) : Type 0 where
  pub code : (i : ℕ) (name bytes : List ℕ) → p (named_of i (plain name 6 8 bytes)) ≡ false
  pub rel : (i symtab at : ℕ) (name : List ℕ) (rs : List Relocation)
      → p (named_of i (rel_section symtab at name rs)) ≡ false

module _ (p : Named → Bool) (no : Passes p) (symtab : ℕ) (rest : List Section) where
  pass_rel : (at : ℕ) (name : List ℕ) (rs : List Relocation) (more : List Section)
      → keep p (named_for (suc at) (rel_sections symtab at name rs ++ more)) ≡ keep p (named_for (past rs at) more)
  pass_rel at name [] more = refl
  pass_rel at name (r ∷ rs) more = rw (no.rel (suc at) symtab at name (r ∷ rs))

  pub pass_programs : (at : ℕ) (ps : List Program)
      → keep p (named_for at (program_sections symtab at ps ++ rest)) ≡ keep p (named_for (past_all ps at) rest)
  pass_programs at [] = refl
  pass_programs at (q ∷ ps) =
      rw (
        no.code at q.section q.code,
        append_assoc (rel_sections symtab at q.section q.relocations) (program_sections symtab (past q.relocations at) ps) rest,
        pass_rel at q.section q.relocations (program_sections symtab (past q.relocations at) ps ++ rest),
      )
      (pass_programs (past q.relocations at) ps)

-- ---- L5

-- the programs' sections as L5 sees them
abbrev pub code_named : ℕ → List Program → List Named
code_named at [] = []
code_named at (p ∷ ps) = named_of at (plain p.section 6 8 p.code) ∷ code_named (past p.relocations at) ps

pub count_code : (at : ℕ) (ps : List Program) → length (code_named at ps) ≡ length ps
count_code at [] = refl
count_code at (p ∷ ps) = ap suc (count_code (past p.relocations at) ps)

module _ (symtab : ℕ) (rest : List Section) (none_there : (i : ℕ) → keep is_code (named_for i rest) ≡ []) where
  code_rel : (at : ℕ) (name : List ℕ) (rs : List Relocation) (more : List Section)
      → keep is_code (named_for (suc at) (rel_sections symtab at name rs ++ more)) ≡ keep is_code (named_for (past rs at) more)
  code_rel at name [] more = refl
  code_rel at name (r ∷ rs) more = refl

  pub keep_code : (at : ℕ) (ps : List Program) → keep is_code (named_for at (program_sections symtab at ps ++ rest)) ≡ code_named at ps
  keep_code at [] = none_there at
  keep_code at (p ∷ ps) =
      rw (
        append_assoc (rel_sections symtab at p.section p.relocations) (program_sections symtab (past p.relocations at) ps) rest,
        code_rel at p.section p.relocations (program_sections symtab (past p.relocations at) ps ++ rest),
        keep_code (past p.relocations at) ps,
      )

-- the programs that L5 finds
abbrev pub codes_for : ℕ → List Program → List Code
codes_for at [] = []
codes_for at (p ∷ ps) =
    record { section = p.section; symbol = written p.symbol; number = at; bytes = p.code } ∷ codes_for (past p.relocations at) ps

abbrev programs_seen : ℕ → List Program → List reading.Symbol
programs_seen at ps = map seen_symbol (program_symbols at ps)

later_none : (k at : ℕ) (ps : List Program) → k < at → keep (is_function k) (programs_seen at ps) ≡ []
later_none k at [] h = refl
later_none k at (p ∷ ps) h =
    let more = past_more p.relocations at in
    rw (ne_eqb at k (λ e. omega arith)) (later_none k (past p.relocations at) ps (omega arith))

-- `syms` has for the sections from `at` on just the programs' symbols
pub codes_read : (syms : List reading.Symbol) (at : ℕ) (ps : List Program)
    → ((k : ℕ) → at ≤ k → keep (is_function k) syms ≡ keep (is_function k) (programs_seen at ps))
    → codes_of syms (code_named at ps) ≡ some (codes_for at ps)
codes_read syms at [] h = refl
codes_read syms at (p ∷ ps) h =
    let more = past_more p.relocations at in
    let one : keep (is_function at) syms ≡ seen_symbol (record { name = written p.symbol; info = symbol_info 1 2; section = at; at = 0; size = length p.code }) ∷ [] =
    h at (omega arith) ∙ rw (eq-eqb at at refl, later_none at (past p.relocations at) ps more) in
    rw (
      one,
      codes_read syms (past p.relocations at) ps (λ k l. h k (omega arith) ∙ rw (ne_eqb at k (λ e. omega arith))),
    )

-- ---- L7, a row of relocation entries

-- symbol number `n` is in section `maps`, at the place of map number `k`
pub record Leads (syms : List reading.Symbol) (found : List Mapped) (maps n k : ℕ) : Type 0 where
  pub symbol : reading.Symbol
  pub there : get_elem? syms n ≡ some symbol
  pub section : symbol.section ≡ maps
  pub at : map_at 0 symbol.at found ≡ some k

pub relocation_read : (syms : List reading.Symbol) (found : List Mapped) (maps offset n k : ℕ) (d : List ℕ) → Leads syms found maps n k
    → offset < 2 ^ 64 → n < 2 ^ 31
    → relocation_of syms found maps (rel_bytes offset n ++ d) ≡ some (record { offset = offset; map = k })
relocation_read syms found maps offset n k d l h b =
    relocation_of_lem syms found maps (rel_bytes offset n ++ d) offset n k l.symbol (value-le 8 offset h) (value-le 8 (n * 2 ^ 32 + 1) (omega arith))
    l.there l.section l.at

-- a relocation's offset fits its field, and its map is one of `maps`
pub record FitRelocation (maps : ℕ) (r : Relocation) : Type 0 where
  pub offset : r.offset < 2 ^ 64
  pub below : r.number < maps

relocations_read : (syms : List reading.Symbol) (found : List Mapped) (maps count : ℕ) (rs : List Relocation)
    → ((k : ℕ) → k < count → Leads syms found maps (2 + k) k) → count ≤ 64 → All (FitRelocation count) rs
    → relocations_of syms found maps (length rs) (relocation_bytes rs) ≡ some (map seen_relocation rs)
relocations_read syms found maps count [] l b f = refl
relocations_read syms found maps count (r ∷ rs) l b f =
    let k = r.number in
    let below = f.0.below in
    relocations_on syms found maps (length rs) (rel_bytes r.offset (2 + k) ++ relocation_bytes rs) (seen_relocation r) (map seen_relocation rs)
    (relocation_read syms found maps r.offset (2 + k) k (relocation_bytes rs) (l k below) f.0.offset (omega arith))
    (relocations_read syms found maps count rs l b f.1)

-- ---- L7, the programs

module _ (ns : List Named) (syms : List reading.Symbol) (found : List Mapped) (maps count symtab : ℕ) (rest : List Section)
    (maps_there : 0 < count → maps_section ns ≡ some maps) (links : (k : ℕ) → k < count → Leads syms found maps (2 + k) k) (few : count ≤ 64)
    (none_there : (k i : ℕ) → keep (relocates k) (named_for i rest) ≡ []) where
  rel_named : ℕ → List ℕ → List Relocation → List Named
  rel_named at name [] = []
  rel_named at name (r ∷ rs) = named_of (suc at) (rel_section symtab at name (r ∷ rs)) ∷ []

  -- a program's relocations are those of its REL section
  rel_read : (at : ℕ) (name : List ℕ) (rs : List Relocation) → All (FitRelocation count) rs
      → rel_of ns syms found (rel_named at name rs) ≡ some (map seen_relocation rs)
  unfolding rel_named
  rel_read at name [] f = refl
  rel_read at name (r ∷ rs) f =
      let below = f.0.below in
      relocations_of_lem ns syms found (named_of (suc at) (rel_section symtab at name (r ∷ rs))) maps (suc (length rs)) (length_relocations (r ∷ rs))
      (omega arith) (maps_there (omega arith))
      ∙ relocations_read syms found maps count (r ∷ rs) links few f

  -- the REL sections of section `k`, among a program's own and the later ones
  rel_own : (at : ℕ) (name : List ℕ) (rs : List Relocation) (more : List Section)
      → keep (relocates at) (named_for (suc at) (rel_sections symtab at name rs ++ more))
      ≡ rel_named at name rs ++ keep (relocates at) (named_for (past rs at) more)
  unfolding rel_named
  rel_own at name [] more = refl
  rel_own at name (r ∷ rs) more = rw (eq-eqb at at refl)

  rel_other : (k at : ℕ) (name : List ℕ) (rs : List Relocation) (more : List Section) → (at ≡ k → ⊥)
      → keep (relocates k) (named_for (suc at) (rel_sections symtab at name rs ++ more)) ≡ keep (relocates k) (named_for (past rs at) more)
  rel_other k at name [] more h = refl
  rel_other k at name (r ∷ rs) more h = rw (ne_eqb at k h)

  -- by a program's name, so that a sum of lists is regrouped once
  regroup : (k at : ℕ) (p : Program) (ps : List Program)
      → keep (relocates k) (named_for at (program_sections symtab at (p ∷ ps) ++ rest))
      ≡ keep (relocates k)
      (named_for (suc at)
      (rel_sections symtab at p.section p.relocations ++ (program_sections symtab (past p.relocations at) ps ++ rest)))
  regroup k at p ps =
      rw (append_assoc (rel_sections symtab at p.section p.relocations) (program_sections symtab (past p.relocations at) ps) rest)

  rel_later : (k at : ℕ) (ps : List Program) → k < at
      → keep (relocates k) (named_for at (program_sections symtab at ps ++ rest)) ≡ []
  rel_later k at [] h = none_there k at
  rel_later k at (p ∷ ps) h =
      let more = past_more p.relocations at in
      regroup k at p ps
      ∙ rel_other k at p.section p.relocations (program_sections symtab (past p.relocations at) ps ++ rest) (λ e. omega arith)
      ∙ rel_later k (past p.relocations at) ps (omega arith)

  pub relocated_read : (at : ℕ) (ps : List Program) → All (λ (p : Program). All (FitRelocation count) p.relocations) ps
      → ((k : ℕ) → at ≤ k → keep (relocates k) ns ≡ keep (relocates k) (named_for at (program_sections symtab at ps ++ rest)))
      → relocated ns syms found (codes_for at ps) ≡ some (map seen_program ps)
  relocated_read at [] f h = refl
  relocated_read at (p ∷ ps) f h =
      let more = past_more p.relocations at in
      let next = past p.relocations at in
      let tail = program_sections symtab next ps ++ rest in
      let own : keep (relocates at) ns ≡ rel_named at p.section p.relocations =
      h at (omega arith) ∙ regroup at at p ps ∙ rel_own at p.section p.relocations tail
      ∙ rw (rel_later at next ps more) (append-nil (rel_named at p.section p.relocations)) in
      rw (
        own,
        rel_read at p.section p.relocations f.0,
        relocated_read next ps f.1
            (λ k l. h k (omega arith) ∙ regroup k at p ps ∙ rel_other k at p.section p.relocations tail (λ e. omega arith)),
      )
