-- L3 to L7 on an object's sections: a loader finds what the job declares, if the job is within limits and its symbols' names are in the
-- string table.
use mathlib.Core.Path.{◌≡◌, refl, ap, ◌∙◌}
use mathlib.Core.Bool.{Bool}
use mathlib.Core.Option.{some}
use mathlib.Core.List.{List, [], ◌∷◌, ◌++◌, map}
use Prim.Native.Nat.{ℕ, suc, ◌+◌, ◌^◌, ◌≤◌, ◌<◌}
use native.Mathlib.Omega.{arith}
use native.Mathlib.Nat.{suc-add, zero-add}
use lib.ListN.{length, get_elem?, length-map}
use borrow.Author.Tests.{le-leb}
use Rattle.octets.specs.Octets.{ascii}
use Rattle.octets.specs.All.{All}
use Rattle.ast.specs.Job.{Map, Program, Job}
use Rattle.elf.specs.Elf.{Section, Symbol}
use Rattle.elf.proofs.Strings.{AllStand, stand_length}
use Rattle.elf.proofs.Rows.{length_symbols}
use Rattle.btf.specs.Btf.{btf_bytes}
use Rattle.btf.specs.Maps.{map_size, btf_types}
use Rattle.object.specs.Object.{plain, license_section, map_sections, program_sections, past_all, first_program, symbol_section, table_section, map_symbols, program_symbols, symbols, declared_sections}
use Rattle.refusals.proofs.Within.{Within, relocations_in}
use Rattle.reading.specs.Steps.{keep}
use Rattle.reading.specs.Sections.{Named, is_plain}
use Rattle.reading.specs.Programs.{is_kind, is_code, is_function, strings, read_licence, read_symbols, read_codes}
use Rattle.reading.specs.Programs as reading
use Rattle.reading.specs.Maps.{read_maps, read_btf}
use Rattle.reading.specs.Relocations.{relocates, maps_section, relocation_count, read_programs}
use Rattle.reading.specs.Reading.{loaded, reads, maps_in}
use Rattle.reading.proofs.Rules.{less_zero_lem, symbols_of_lem, codes_of_lem, programs_of, loaded_by}
use Rattle.seen.specs.Seen.{seen_map, seen_relocation, seen_program, seen}
use Rattle.seen.proofs.Sections.{named_of, named_for}
use Rattle.seen.proofs.Symbols.{seen_symbol, symbols_read}
use Rattle.seen.proofs.Types.{seen_type}
use Rattle.seen.proofs.Maps.{ShortName, found_for, maps_read, map_at_lem, map_symbol_at}
use Rattle.seen.proofs.Programs.{Passes, pass_programs, code_named, count_code, keep_code, codes_for, codes_read, Leads, relocated_read}
use Rattle.seen.proofs.Bounds.{relocations_fit, short_names, btf_there, tables, symbols_fit}

-- ---- a section by its number

get_named : (i : ℕ) (xs ys : List Section) (n : ℕ)
    → (k : ℕ) × (get_elem? (named_for i (xs ++ ys)) (length xs + n) ≡ get_elem? (named_for k ys) n)
get_named i [] ys n = (i, rw zero-add)
get_named i (x ∷ xs) ys n = let (k, e) = get_named (suc i) xs ys n in (k, rw suc-add e)

-- the table two after the sections `xs`
strings_at : (xs : List Section) (a s : Section) (rest : List Section) → s.kind ≡ 3
    → strings (named_for 1 (xs ++ (a ∷ s ∷ rest))) (suc (length xs) + 1) ≡ some s.contents
strings_at xs a s rest q =
    let (k, e) = get_named 1 xs (a ∷ s ∷ rest) 1 in
    let n : suc (length xs) + 1 ≡ suc (length xs + 1) = omega arith in
    rw (n, e, q)

-- ---- the sections before the programs'

abbrev declared_of : List ℕ → List Map → List Program → ℕ → List Section
declared_of licence ms ps symtab = license_section licence ∷ map_sections ms ++ program_sections symtab (first_program ms) ps

-- the programs' sections and those after them
abbrev later_of : List Map → List Program → ℕ → List Section → List Named
later_of ms ps symtab rest = named_for (first_program ms) (program_sections symtab (first_program ms) ps ++ rest)

module _ (licence : List ℕ) (ps : List Program) (symtab : ℕ) (rest : List Section) where
  later_kind : (ms : List Map) → keep (is_kind 2) (named_for 1 (declared_of licence ms ps symtab ++ rest)) ≡ keep (is_kind 2) (later_of ms ps symtab rest)
  later_kind [] = refl
  later_kind (m ∷ ms) = refl

  later_code : (ms : List Map) → keep is_code (named_for 1 (declared_of licence ms ps symtab ++ rest)) ≡ keep is_code (later_of ms ps symtab rest)
  later_code [] = refl
  later_code (m ∷ ms) = refl

  later_rel : (k : ℕ) (ms : List Map)
      → keep (relocates k) (named_for 1 (declared_of licence ms ps symtab ++ rest)) ≡ keep (relocates k) (later_of ms ps symtab rest)
  later_rel k [] = refl
  later_rel k (m ∷ ms) = refl

  maps_there_lem : (ms : List Map) → keep (is_plain 3 (ascii ".maps")) (later_of ms ps symtab rest) ≡ [] → 0 < length ms
      → maps_section (named_for 1 (declared_of licence ms ps symtab ++ rest)) ≡ some 2
  maps_there_lem [] e l = absurd (omega arith)
  maps_there_lem (m ∷ ms) e l = rw e

  maps_found : (ms : List Map) → length ms ≤ 64 → All ShortName ms → read_btf (btf_bytes (btf_types ms)) ≡ some (map seen_type (btf_types ms))
      → keep (is_plain 0 (ascii ".BTF")) (later_of ms ps symtab rest) ≡ []
      → read_maps (named_for 1 (declared_of licence ms ps symtab ++ rest)) ≡ some (found_for 0 ms)
  maps_found [] few w r e = rw e
  maps_found (m ∷ ms) few w r e =
      rw e (maps_read (m ∷ ms) few w (named_of 3 (plain (ascii ".BTF") 0 4 (btf_bytes (btf_types (m ∷ ms))))) r)

-- ---- what the programs' sections and the maps' symbols are not

passes_kind : Passes (is_kind 2)
passes_kind = record { code = λ i name bytes. refl; rel = λ i symtab at name rs. refl }

passes_maps : Passes (is_plain 3 (ascii ".maps"))
passes_maps = record { code = λ i name bytes. refl; rel = λ i symtab at name rs. refl }

passes_btf : Passes (is_plain 0 (ascii ".BTF"))
passes_btf = record { code = λ i name bytes. refl; rel = λ i symtab at name rs. refl }

no_function : (k at : ℕ) (ms : List Map) (rest : List Symbol)
    → keep (is_function k) (map seen_symbol (map_symbols at ms ++ rest)) ≡ keep (is_function k) (map seen_symbol rest)
no_function k at [] rest = refl
no_function k at (m ∷ ms) rest = no_function k (at + map_size m) ms rest

-- ---- what is seen

count_seen : (ps : List Program) → relocation_count (map seen_program ps) ≡ relocations_in ps
count_seen [] = refl
count_seen (p ∷ ps) = omega (arith, count_seen ps, length-map p.relocations seen_relocation)

maps_in_lem : (at : ℕ) (ms : List Map) → maps_in (found_for at ms) ≡ map seen_map ms
maps_in_lem at [] = refl
maps_in_lem at (m ∷ ms) = ap (λ (l : List Map). seen_map m ∷ l) (maps_in_lem (at + map_size m) ms)

-- ---- the rules, one by one

module _ (j : Job) (w : Within j) (names strs secs : List ℕ) (short : length strs ≤ 2 ^ 32) (stand : AllStand strs names (map (λ s. s.name) (symbols j))) where
  abbrev first : ℕ
  first = first_program j.maps

  abbrev symtab : ℕ
  symtab = past_all j.programs first

  abbrev rest : List Section
  rest = tables j names strs secs

  abbrev ns : List Named
  ns = named_for 1 (declared_sections j ++ rest)

  abbrev syms : List reading.Symbol
  syms = map seen_symbol (symbols j)

  pass_later : (p : Named → Bool) → Passes p → ((i : ℕ) → keep p (named_for i rest) ≡ []) → keep p (later_of j.maps j.programs symtab rest) ≡ []
  pass_later p passes h = pass_programs p passes symtab rest first j.programs ∙ h (past_all j.programs first)

  licence_there : read_licence ns ≡ some j.licence
  licence_there = rw (less_zero_lem j.licence, le-leb (length j.licence) 64 w.licence.short)

  symbols-there : read_symbols ns ≡ some syms
  symbols-there =
      let section = symbol_section (suc (length (declared_sections j))) names (symbols j) in
      symbols_of_lem ns (named_of symtab section) strs (length (symbols j))
      (later_kind j.licence j.programs symtab rest j.maps ∙ pass_programs (is_kind 2) passes_kind symtab rest first j.programs)
      (strings_at (declared_sections j) section (table_section (ascii ".strtab") strs) (table_section (ascii ".shstrtab") secs ∷ []) refl)
      (length_symbols names (symbols j) (stand_length strs names (map (λ s. s.name) (symbols j)) stand ∙ length-map (symbols j) (λ s. s.name)))
      ∙ symbols_read strs names (symbols j) short stand (symbols_fit j w)

  codes_there : read_codes syms ns ≡ some (codes_for first j.programs)
  codes_there =
      codes_of_lem ns (code_named first j.programs) syms
      (later_code j.licence j.programs symtab rest j.maps ∙ keep_code symtab rest (λ i. refl) first j.programs)
      (omega (arith, count_code first j.programs, w.program_count))
      ∙ codes_read syms first j.programs (λ k l. no_function k 0 j.maps (program_symbols first j.programs))

  maps_are_there : read_maps ns ≡ some (found_for 0 j.maps)
  maps_are_there =
      maps_found j.licence j.programs symtab rest j.maps w.map_count (short_names j w) (btf_there j w)
      (pass_later (is_plain 0 (ascii ".BTF")) passes_btf (λ i. refl))

  -- a map's symbol is the one at 2 and its number
  leads : (k : ℕ) → k < length j.maps → Leads syms (found_for 0 j.maps) 2 (2 + k) k
  leads k h =
      let (y, e, s, a) = map_symbol_at 0 j.maps (program_symbols first j.programs) k h in
      let two : 2 + k ≡ suc (suc k) = omega arith in
      let none : 0 + k ≡ k = omega arith in
      record { symbol = y; there = rw two e; section = s; at = rw a (map_at_lem 0 0 j.maps k h ∙ ap some none) }

  programs_there : read_programs ns syms (found_for 0 j.maps) (codes_for first j.programs) ≡ some (map seen_program j.programs)
  programs_there =
      programs_of ns syms (found_for 0 j.maps) (codes_for first j.programs) (map seen_program j.programs)
      (relocated_read ns syms (found_for 0 j.maps) 2 (length j.maps) symtab rest
      (maps_there_lem j.licence j.programs symtab rest j.maps (pass_later (is_plain 3 (ascii ".maps")) passes_maps (λ i. refl)))
      leads w.map_count (λ k i. refl) first j.programs (relocations_fit j w)
      (λ k l. later_rel j.licence j.programs symtab rest k j.maps))
      (omega (arith, count_seen j.programs, w.relocations))

  pub loaded-object : loaded ns ≡ reads (seen j)
  loaded-object =
      loaded_by ns j.licence syms (codes_for first j.programs) (found_for 0 j.maps) (map seen_program j.programs)
      licence_there symbols-there codes_there maps_are_there programs_there
      ∙ rw (maps_in_lem 0 j.maps)
