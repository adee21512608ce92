-- Rows of symbols: how long they are, the invariants of the loops over the maps and over the programs, and that the rows are those of the
-- definitions. And one name more in a row of names.
use mathlib.Core.Path.{◌≡◌, refl, sym, ◌∙◌, ap}
use mathlib.Core.List.{List, [], ◌∷◌, ◌++◌, map}
use Prim.Native.Nat.{ℕ, suc, ◌+◌, ◌*◌, ◌≤◌, ◌<◌}
use native.Mathlib.Omega.{arith}
use lib.ListN.{length, drop, get_or}
use Rattle.std.proofs.lemmas.List.{drop_more, at_drop_more, at_drop_all}
use Rattle.octets.specs.Over.{over}
use Rattle.octets.proofs.Going.{Going, go_start, go_as, go_on, go_done}
use Rattle.written.specs.Written.{written}
use Rattle.ast.specs.declared.Name.{Name}
use Rattle.ast.specs.declared.NamedMap.{NamedMap}
use Rattle.elf.specs.Elf.{Symbol, symbol_bytes, symbols_bytes, symbol_info}
use Rattle.elf.specs.Row.{places_at, joined}
use Rattle.btf.specs.Maps.{map_size}
use Rattle.btf.proofs.MapTypes.{map_size_lem}
use Rattle.object.specs.declared.Program.{Program}
use Rattle.object.specs.Tables.{no_map, no_program}
use Rattle.object.specs.Read.{map_in, maps_in, name_in}
use Rattle.object.specs.Object.{map_symbols}
use Rattle.object.proofs.Read.{maps_length}
use Rattle.object.proofs.Counts.{count_map_symbols}
use Rattle.named.specs.There.{MapsThere}
use Rattle.named.proofs.Names.{written_most}
use Rattle.named.proofs.There.{maps_from, maps_end}
use Rattle.strtab.specs.Rows.{row_at, row_size, map_row, behind, program_row, names_in}

-- ---- any row

pub row_length : (n : ℕ) (ss : List Symbol) → length (row_at n ss) ≡ 24 * length ss
row_length n [] = refl
row_length n (s ∷ ss) = omega (arith, row_length (n + suc (length s.name)) ss)

pub row_is : (n : ℕ) (ss : List Symbol) → symbols_bytes (places_at n (map (λ s. s.name) ss)) ss ≡ row_at n ss
row_is n [] = refl
row_is n (s ∷ ss) = ap (λ (r : List ℕ). symbol_bytes n s ++ r) (row_is (n + suc (length s.name)) ss)

-- ---- names

-- one name more of a row of names, that of `x`, which is at `i`
pub names_on : {T : Type 0} {d whole out : List ℕ} {start at : ℕ} (symbol : T → Name) (text : List ℕ) (row : List T) (i : ℕ) (x : T) (out' : List ℕ) (at' : ℕ)
    → Going d start whole out at (joined (names_in symbol text (drop i row))) → i < length row → x ≡ get_or row i x
    → out' ≡ over out at (written (name_in text (symbol x)) ++ (0 ∷ [])) → at' ≡ at + length (written (name_in text (symbol x)) ++ (0 ∷ []))
    → Going d start whole out' at' (joined (names_in symbol text (drop (i + 1) row)))
names_on symbol text row i x out' at' g h r e n =
    let rest = joined (names_in symbol text (drop (i + 1) row)) in
    let next = at_drop_more (λ xs. joined (names_in symbol text xs)) row i x h
    ∙ ap (λ y. (written (name_in text (symbol y)) ++ (0 ∷ [])) ++ rest) (sym r) in
    go_on (written (name_in text (symbol x)) ++ (0 ∷ [])) rest out' at' (go_as _ next g) e n

-- ---- the maps

module _ (text : List ℕ) (ms : List NamedMap) where
  -- the symbols from map `i` on, whose place in `.maps` is `value`
  abbrev maps_to_come : ℕ → ℕ → List Symbol
  maps_to_come value i = map_symbols value (drop i (maps_in text ms))

  -- before map `i`: the entries and the names so far, and the place of the map in `.maps`
  pub record MapTurn (d out : List ℕ) (at place value i : ℕ) : Type 0 where
    pub going : Going d 48 (row_at 10 (map_row text ms)) out at (row_at place (maps_to_come value i))
    pub size : place + row_size (maps_to_come value i) ≡ 10 + row_size (map_row text ms)
    pub near : place ≤ 10 + 65 * i
    pub small : value ≤ 32 * i
    pub where_at : at ≡ 48 + 24 * i

  pub map_start : (d : List ℕ) → 48 + 24 * length ms ≤ length d → MapTurn d d 48 10 0 0
  map_start d h = record {
    going = go_start d 48 (row_at 10 (map_row text ms)) (omega (arith, row_length 10 (map_row text ms), count_map_symbols 0 (maps_in text ms), maps_length text ms));
    size = refl;
    near = omega arith;
    small = omega arith;
    where_at = omega arith;
  }

  -- the entry of a map
  abbrev pub entry_here : ℕ → ℕ → ℕ → NamedMap → List ℕ
  entry_here place value size m =
      symbol_bytes place (record { name = written (name_in text m.name); info = symbol_info 1 1; section = 2; at = value; size = size })

  pub map_on : MapsThere text ms → {d out : List ℕ} {at place value i : ℕ} (out' : List ℕ) (size w : ℕ) → MapTurn d out at place value i → i < length ms
      → size ≡ map_size (map_in text (get_or ms i no_map)) → w ≡ length (written (name_in text (get_or ms i no_map).name))
      → out' ≡ over out at (entry_here place value size (get_or ms i no_map))
      → MapTurn d out' (at + 24) (place + (w + 1)) (value + size) (i + 1)
  map_on there {d} {out} {at} {place} {value} {i} out' size w t h e g q =
      let m = get_or ms i no_map in
      let next = maps_from text ms i h in
      let row : row_at place (maps_to_come value i) ≡ entry_here place value size m ++ row_at (place + (w + 1)) (maps_to_come (value + size) (i + 1)) =
      let k : place + (w + 1) ≡ place + suc (length (written (name_in text m.name))) = omega (arith, g) in
      rw (next, k, e) in
      let names : row_size (maps_to_come value i) ≡ suc w + row_size (maps_to_come (value + size) (i + 1)) = rw (next, g, e) in
      record {
        going = go_on (entry_here place value size m) (row_at (place + (w + 1)) (maps_to_come (value + size) (i + 1))) out' (at + 24) (go_as _ row t.going) q refl;
        size = omega (arith, t.size, names);
        near = omega (arith, t.near, g, written_most text m.name (there.named i h));
        small = omega (arith, t.small, e, map_size_lem (map_in text m));
        where_at = omega (arith, t.where_at);
      }

  pub map_done : {d out : List ℕ} {at place value i : ℕ} → MapTurn d out at place value i → length ms ≤ i
      → (out ≡ over d 48 (row_at 10 (map_row text ms))) × (place ≡ 10 + row_size (map_row text ms))
  map_done {d} {out} {at} {place} {value} {i} t h =
      let none = maps_end text ms i h in
      let row : row_at place (maps_to_come value i) ≡ [] = rw none in
      let names : row_size (maps_to_come value i) ≡ 0 = rw none in
      ((go_done (go_as [] row t.going)).0, omega (arith, t.size, names))

-- ---- the programs' symbols

-- the program at `i`, and those after it
pub program_from : (ps : List Program) (i : ℕ) → i < length ps → drop i ps ≡ get_or ps i no_program ∷ drop (i + 1) ps
program_from ps i h = drop_more ps i no_program h

pub length_programs : (text : List ℕ) (at : ℕ) (ps : List Program) → length (program_row text at ps) ≡ length ps
length_programs text at [] = refl
length_programs text at (p ∷ ps) = ap suc (length_programs text (behind p.relocs at) ps)

module _ (text : List ℕ) (ps : List Program) (first start names : ℕ) where
  -- before program `i`
  pub record ProgramTurn (d out : List ℕ) (at place section i : ℕ) : Type 0 where
    pub going : Going d start (row_at names (program_row text first ps)) out at (row_at place (program_row text section (drop i ps)))
    pub near : place ≤ 5000 + 65 * i
    pub small : section ≤ 4 + 2 * i
    pub where_at : at ≡ start + 24 * i

  pub program_start : (d : List ℕ) → start + 24 * length ps ≤ length d → names ≤ 5000 → first ≤ 4 → ProgramTurn d d start names first 0
  program_start d h n f = record {
    going = go_start d start (row_at names (program_row text first ps)) (omega (arith, row_length names (program_row text first ps), length_programs text first ps));
    near = omega arith;
    small = omega arith;
    where_at = omega arith;
  }

  -- the entry of a program
  abbrev pub program_here : ℕ → ℕ → Program → List ℕ
  program_here place section p =
      symbol_bytes place (record { name = written (name_in text p.symbol); info = symbol_info 1 2; section = section; at = 0; size = p.code_len })

  pub program_on : {d out : List ℕ} {at place section i : ℕ} (out' : List ℕ) (w next : ℕ) → ProgramTurn d out at place section i → i < length ps
      → w ≡ length (written (name_in text (get_or ps i no_program).symbol)) → w ≤ 64 → next ≡ behind (get_or ps i no_program).relocs section → next ≤ section + 2
      → out' ≡ over out at (program_here place section (get_or ps i no_program))
      → ProgramTurn d out' (at + 24) (place + (w + 1)) next (i + 1)
  program_on {d} {out} {at} {place} {section} {i} out' w next t h g short b two q =
      let p = get_or ps i no_program in
      let rest = row_at (place + (w + 1)) (program_row text next (drop (i + 1) ps)) in
      let row : row_at place (program_row text section (drop i ps)) ≡ program_here place section p ++ rest =
      let k : place + (w + 1) ≡ place + suc (length (written (name_in text p.symbol))) = omega (arith, g) in
      rw (program_from ps i h, k, b) in
      record {
        going = go_on (program_here place section p) rest out' (at + 24) (go_as _ row t.going) q refl;
        near = omega (arith, t.near);
        small = omega (arith, t.small);
        where_at = omega (arith, t.where_at);
      }

  pub program_done : {d out : List ℕ} {at place section i : ℕ} → ProgramTurn d out at place section i → length ps ≤ i
      → out ≡ over d start (row_at names (program_row text first ps))
  program_done {d} {out} {at} {place} {section} {i} t h =
      (go_done (go_as [] (at_drop_all (λ qs. row_at place (program_row text section qs)) ps i h) t.going)).0
