-- `.symtab` and `.strtab` of the definitions are the rows that the code writes: the null symbol, LICENSE, the maps, the programs.
use mathlib.Core.Path.{◌≡◌, refl, sym, ◌∙◌, ap}
use mathlib.Core.List.{List, [], ◌∷◌, ◌++◌, map, map-append, append_assoc, append-nil}
use Prim.Native.Nat.{ℕ, suc, ◌+◌, ◌-◌, ◌*◌}
use native.Mathlib.Omega.{arith}
use lib.ListN.{length, take, length-append}
use lib.Seq.{length-take-le}
use lib.Dec.{eqb-suc-zero}
use borrow.Rule.Slice.PartMut.{put_mid}
use Rattle.octets.specs.Octets.{zeros, ascii}
use Rattle.octets.specs.Over.{over}
use Rattle.octets.proofs.Filling.{Filling, fill_start, fill_as, fill_on, fill_done, over-part}
use Rattle.written.specs.Written.{written}
use Rattle.ast.specs.Job.{Map, Relocation}
use Rattle.ast.specs.declared.NamedMap.{NamedMap}
use Rattle.std.specs.Prelude.{Option}
use Rattle.std.specs.List.{All}
use Rattle.std.proofs.lemmas.List.Elements.{All-from_get_or}
use Rattle.elf.specs.Strings.{empty_table}
use Rattle.elf.specs.Elf.{Symbol, symbol_bytes, symbols_bytes, symbol_info, entry_bytes, null_entry}
use Rattle.elf.specs.Row.{size_of, joined}
use Rattle.elf.proofs.Joined.{table-joined, places_at_lem, joined-append, length-joined}
use Rattle.btf.specs.Maps.{map_size}
use Rattle.object.specs.declared.Slot.{Slot}
use Rattle.object.specs.declared.Program.{Program}
use Rattle.object.specs.declared.BpfObject.{BpfObject}
use Rattle.object.specs.Read.{name_in, map_in, licence_in, maps_in, program_in, programs_in, declared_maps, job_in}
use Rattle.object.specs.Kept.{Named, Kept, AllKept}
use Rattle.object.specs.Tables.{no_map, no_program}
use Rattle.object.specs.Object.{past, map_symbols, program_symbols, first_program, symbols}
use Rattle.object.proofs.Read.{count_maps}
use Rattle.object.proofs.Counts.{count_map_symbols}
use Rattle.object.proofs.Programs.{kept_more}
use Rattle.object.proofs.Slots.{AllCounted, all_counted}
use Rattle.named.proofs.There.{kept_program}
use Rattle.strtab.specs.Rows.{row_at, row_size, map_row, behind, first_of, program_row, names_in, symtab_of, strtab_of, ProgramsThere}
use Rattle.strtab.proofs.Rows.{row_is, row_length, length_programs}

-- ---- rows

pub row_append : (n : ℕ) (xs ys : List Symbol) → row_at n (xs ++ ys) ≡ row_at n xs ++ row_at (n + row_size xs) ys
row_append n [] ys = let e : n + 0 ≡ n = omega arith in rw e
row_append n (x ∷ xs) ys =
    let e : n + suc (length x.name) + row_size xs ≡ n + (suc (length x.name) + row_size xs) = omega arith in
    ap (λ (r : List ℕ). symbol_bytes n x ++ r) (row_append (n + suc (length x.name)) xs ys ∙ ap (λ (k : ℕ). row_at (n + suc (length x.name)) xs ++ row_at k ys) e)
    ∙ sym (append_assoc (symbol_bytes n x) (row_at (n + suc (length x.name)) xs) (row_at (n + (suc (length x.name) + row_size xs)) ys))

-- ---- the first program's section, and the one after a program's

pub first_of_lem : (ms : List Map) → first_program ms ≡ first_of (length ms)
first_of_lem [] = refl
first_of_lem (m ∷ ms) = rw (eqb-suc-zero (length ms))

pub past_of : (at : ℕ) (rs : List Relocation) → past rs at ≡ behind (length rs) at
past_of at [] = refl
past_of at (r ∷ rs) = rw (eqb-suc-zero (length rs))

-- ---- programs

program_row_lem : (text : List ℕ) (slots : List (Option Slot)) (at n : ℕ) (ps : List Program) → AllCounted text slots ps → AllKept text n ps
    → program_symbols at (programs_in text slots ps) ≡ program_row text at ps
program_row_lem text slots at n [] c k = refl
program_row_lem text slots at n (p ∷ ps) c k =
    rw (past_of at (program_in text slots p).relocations, c.0, k.0.code)
    (ap (λ (r : List Symbol). record { name = written (name_in text p.symbol); info = symbol_info 1 2; section = at; at = 0; size = p.code_len } ∷ r) (program_row_lem text slots (behind p.relocs at) n ps c.1 k.1))

program_names_lem : (text : List ℕ) (at : ℕ) (ps : List Program) → map (λ s. s.name) (program_row text at ps) ≡ names_in (λ p. p.symbol) text ps
program_names_lem text at [] = refl
program_names_lem text at (p ∷ ps) = ap (λ (r : List (List ℕ)). written (name_in text p.symbol) ∷ r) (program_names_lem text (behind p.relocs at) ps)

map_names_lem : (text : List ℕ) (at : ℕ) (ms : List NamedMap) → map (λ s. s.name) (map_symbols at (maps_in text ms)) ≡ names_in (λ m. m.name) text ms
map_names_lem text at [] = refl
map_names_lem text at (m ∷ ms) = ap (λ (r : List (List ℕ)). written (name_in text m.name) ∷ r) (map_names_lem text (at + map_size (map_in text m)) ms)

-- ---- the tables of an accepted job

module _ (text : List ℕ) (o : BpfObject) (k : Kept text o) where
  pub programs_there : ProgramsThere text (take o.program_count o.programs)
  programs_there =
      let s = k.sound in
      let n = length-take-le o.program_count o.programs (omega (arith, s.programs, s.few_programs)) in
      record {
        few = omega (arith, n, s.few_programs);
        kept = kept_more text o.reloc_count 256 (take o.program_count o.programs) s.few_slots k.programs;
      }

  pub maps_named : All (λ m. Named text m.name) (take o.map_count o.maps)
  maps_named = All-from_get_or (λ m. Named text m.name) (take o.map_count o.maps) no_map k.maps

  pub symbols_named : All (λ p. Named text p.symbol) (take o.program_count o.programs)
  symbols_named =
      let ps = take o.program_count o.programs in
      All-from_get_or (λ p. Named text p.symbol) ps no_program (λ i h. (kept_program text o.reloc_count ps i h k.programs).symbol)

  abbrev mapped : List Symbol
  mapped = map_row text (take o.map_count o.maps)

  abbrev programmed : List Symbol
  programmed = program_row text (first_of o.map_count) (take o.program_count o.programs)

  abbrev licence : Symbol
  licence = record { name = ascii "LICENSE"; info = symbol_info 1 1; section = 1; at = 0; size = length (licence_in text o.license) + 1 }

  pub count_declared : length (declared_maps text o) ≡ o.map_count
  count_declared = count_maps text o.maps o.map_count (omega (arith, k.sound))

  pub symbols_are : symbols (job_in text o) ≡ record { name = []; info = 0; section = 0; at = 0; size = 0 } ∷ licence ∷ mapped ++ programmed
  symbols_are =
      let f = first_of_lem (declared_maps text o) ∙ ap first_of count_declared in
      let p = program_row_lem text o.slots (first_of o.map_count) o.reloc_count (take o.program_count o.programs) (all_counted text o k) k.programs in
      rw (f, p)

  pub symtab_is : symtab_of (job_in text o)
      ≡ entry_bytes null_entry ++ (symbol_bytes 2 licence ++ (row_at 10 mapped ++ (row_at (10 + row_size mapped) programmed ++ [])))
  symtab_is =
      let ss = symbols (job_in text o) in
      ap (λ (ps : List ℕ). symbols_bytes ps ss) (places_at_lem empty_table (map (λ s. s.name) ss))
      ∙ row_is 1 ss ∙ ap (row_at 1) symbols_are
      ∙ ap (λ (r : List ℕ). entry_bytes null_entry ++ (symbol_bytes 2 licence ++ r)) (row_append 10 mapped programmed ∙ ap (λ (r : List ℕ). row_at 10 mapped ++ r) (sym (append-nil _)))

  abbrev pub map_names : List (List ℕ)
  map_names = names_in (λ m. m.name) text (take o.map_count o.maps)

  abbrev pub program_named : List (List ℕ)
  program_named = names_in (λ p. p.symbol) text (take o.program_count o.programs)

  pub names_are : map (λ s. s.name) (symbols (job_in text o)) ≡ [] ∷ ascii "LICENSE" ∷ map_names ++ program_named
  names_are =
      let first = first_of o.map_count in
      ap (map (λ s. s.name)) symbols_are
      ∙ ap (λ (r : List (List ℕ)). [] ∷ ascii "LICENSE" ∷ r)
      (map-append (λ s. s.name) mapped programmed
      ∙ rw (map_names_lem text 0 (take o.map_count o.maps), program_names_lem text first (take o.program_count o.programs)))

  pub strtab_is : strtab_of (job_in text o) ≡ (0 ∷ 0 ∷ []) ++ ((ascii "LICENSE" ++ (0 ∷ [])) ++ (joined map_names ++ (joined program_named ++ [])))
  strtab_is =
      table-joined empty_table (map (λ s. s.name) (symbols (job_in text o))) ∙ ap (λ (r : List (List ℕ)). empty_table ++ joined r) names_are
      ∙ ap (λ (r : List ℕ). 0 ∷ 0 ∷ (ascii "LICENSE" ++ (0 ∷ [])) ++ r) (joined-append map_names program_named ∙ ap (λ (r : List ℕ). joined map_names ++ r) (sym (append-nil _)))

  pub strtab_long : length (strtab_of (job_in text o)) ≡ 10 + size_of map_names + size_of program_named
  strtab_long =
      ap length strtab_is
      ∙ omega (arith, length-append (joined map_names) (joined program_named ++ []), length-append (joined program_named) [], length-joined map_names, length-joined program_named)

  -- `.strtab` filled piece by piece
  abbrev after_zeros : List ℕ
  after_zeros = (ascii "LICENSE" ++ (0 ∷ [])) ++ (joined map_names ++ (joined program_named ++ []))

  abbrev pub after_licence : List ℕ
  after_licence = joined map_names ++ (joined program_named ++ [])

  pub strings-zeros : (out l : List ℕ) → length out ≡ length (strtab_of (job_in text o)) → l ≡ zeros (length (take 2 out))
      → Filling (strtab_of (job_in text o)) (put_mid 0 (2 - 0) out l) 2 after_zeros
  strings-zeros out l e q =
      let two : length (take 2 out) ≡ 2 = length-take-le 2 out (omega (arith, strtab_long)) in
      fill_on (0 ∷ 0 ∷ []) after_zeros (put_mid 0 (2 - 0) out l) 2 (fill_as _ strtab_is (fill_start (strtab_of (job_in text o)) out e))
      (over-part out 0 2 l (0 ∷ 0 ∷ []) refl (q ∙ ap zeros two)) refl

  pub strings_licence : (out out' : List ℕ) → Filling (strtab_of (job_in text o)) out 2 after_zeros → out' ≡ over out 2 (ascii "LICENSE" ++ (0 ∷ []))
      → Filling (strtab_of (job_in text o)) out' 10 after_licence
  strings_licence out out' f e = fill_on (ascii "LICENSE" ++ (0 ∷ [])) after_licence out' 10 f e refl

  pub strings_maps : (out out' : List ℕ) (at : ℕ) → Filling (strtab_of (job_in text o)) out 10 after_licence → out' ≡ over out 10 (joined map_names) → at ≡ 10 + length (joined map_names)
      → Filling (strtab_of (job_in text o)) out' at (joined program_named ++ [])
  strings_maps out out' at f e n = fill_on (joined map_names) (joined program_named ++ []) out' at f e n

  pub strings_programs : (out out' : List ℕ) (at : ℕ) → Filling (strtab_of (job_in text o)) out at (joined program_named ++ []) → out' ≡ over out at (joined program_named)
      → out' ≡ strtab_of (job_in text o)
  strings_programs out out' at f e = fill_done (fill_on (joined program_named) [] out' (at + length (joined program_named)) f e refl)

  -- `.symtab` in the same way
  abbrev after_null : List ℕ
  after_null = symbol_bytes 2 licence ++ (row_at 10 mapped ++ (row_at (10 + row_size mapped) programmed ++ []))

  abbrev after_ours : List ℕ
  after_ours = row_at 10 mapped ++ (row_at (10 + row_size mapped) programmed ++ [])

  pub symbols_null : (out l : List ℕ) → length out ≡ length (symtab_of (job_in text o)) → l ≡ entry_bytes null_entry
      → Filling (symtab_of (job_in text o)) (put_mid 0 (24 - 0) out l) 24 after_null
  symbols_null out l e q =
      fill_on (entry_bytes null_entry) after_null (put_mid 0 (24 - 0) out l) 24 (fill_as _ symtab_is (fill_start (symtab_of (job_in text o)) out e))
      (over-part out 0 24 l (entry_bytes null_entry) refl q) refl

  pub symbols_licence : (out l : List ℕ) (n : ℕ) → Filling (symtab_of (job_in text o)) out 24 after_null → n ≡ length (licence_in text o.license)
      → l ≡ symbol_bytes 2 (record { name = ascii "LICENSE"; info = symbol_info 1 1; section = 1; at = 0; size = n + 1 })
      → Filling (symtab_of (job_in text o)) (put_mid 24 (48 - 24) out l) 48 after_ours
  symbols_licence out l n f g q =
      fill_on (symbol_bytes 2 licence) after_ours (put_mid 24 (48 - 24) out l) 48 f (over-part out 24 48 l (symbol_bytes 2 licence) refl (rw g at q)) refl

  pub symbols-mapped : (out out' : List ℕ) → Filling (symtab_of (job_in text o)) out 48 after_ours → out' ≡ over out 48 (row_at 10 mapped)
      → Filling (symtab_of (job_in text o)) out' (48 + 24 * o.map_count) (row_at (10 + row_size mapped) programmed ++ [])
  symbols-mapped out out' f e =
      let n : length (row_at 10 mapped) ≡ 24 * o.map_count = row_length 10 mapped ∙ ap (λ (k : ℕ). 24 * k) (count_map_symbols 0 (declared_maps text o) ∙ count_declared) in
      fill_on (row_at 10 mapped) (row_at (10 + row_size mapped) programmed ++ []) out' (48 + 24 * o.map_count) f e (ap (λ (k : ℕ). 48 + k) (sym n))

  pub symbols-programmed : (out out' : List ℕ) (at names first : ℕ) → Filling (symtab_of (job_in text o)) out at (row_at (10 + row_size mapped) programmed ++ [])
      → names ≡ 10 + row_size mapped → first ≡ first_of o.map_count
      → out' ≡ over out at (row_at names (program_row text first (take o.program_count o.programs))) → out' ≡ symtab_of (job_in text o)
  symbols-programmed out out' at names first f n g e =
      let e' : out' ≡ over out at (row_at (10 + row_size mapped) programmed) = rw (n, g) at e in
      fill_done (fill_on (row_at (10 + row_size mapped) programmed) [] out' (at + length (row_at (10 + row_size mapped) programmed)) f e' refl)

  pub symtab_long : length (symtab_of (job_in text o)) ≡ 24 * (2 + o.map_count + o.program_count)
  symtab_long =
      let s = row_length (10 + row_size mapped) programmed in
      let n = length_programs text (first_of o.map_count) (take o.program_count o.programs) in
      let m = length-take-le o.program_count o.programs (omega (arith, k.sound)) in
      ap length symtab_is
      ∙ omega (
        arith,
        length-append (row_at 10 mapped) (row_at (10 + row_size mapped) programmed ++ []),
        length-append (row_at (10 + row_size mapped) programmed) [],
        row_length 10 mapped,
        count_map_symbols 0 (declared_maps text o),
        count_declared,
        s,
        n,
        m,
      )
