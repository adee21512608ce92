-- L6, the maps: from the types that `build_btf` makes a loader finds every map, in order and with exactly its declared attributes. Then the
-- way from a map's symbol to its number, for L7.
use mathlib.Core.Path.{◌≡◌, refl, sym, ap, ◌∙◌}
use mathlib.Core.Option.{some}
use mathlib.Core.List.{List, [], ◌∷◌, ◌++◌, map, append_assoc, map-append}
use Prim.Native.Nat.{ℕ, zero, suc, ◌+◌, ◌^◌, ◌≤◌, ◌<◌}
use native.Mathlib.Omega.{arith}
use native.Mathlib.Nat.{add-zero}
use lib.ListN.{length, get_elem?, length-map}
use borrow.Author.Tests.{le-leb, eq-eqb, ne_eqb}
use Rattle.octets.specs.Octets.{ascii}
use Rattle.octets.specs.All.{All}
use Rattle.octets.proofs.Lists.{get_add}
use Rattle.written.specs.Written.{written}
use Rattle.ast.specs.Job.{Map}
use Rattle.ast.specs.Numbers.{map_type_numbered, map_type_number}
use Rattle.ast.specs.declared.«Type».{«Type» as MemberType}
use Rattle.ast.specs.declared.«Type».TheVariants.{U32, U64, I32, I64}
use Rattle.ast.specs.declared.MapType.{MapType}
use Rattle.ast.specs.declared.MapType.TheVariants.{Hash, Array, ProgArray, LruHash, Ringbuf}
use Rattle.ast.specs.declared.Attr.{Attr}
use Rattle.ast.specs.declared.Attr.TheVariants.{Absent, Present}
use Rattle.elf.specs.Elf.{Symbol}
use Rattle.btf.specs.Btf.{BtfType, struct, var, datasec}
use Rattle.btf.specs.Maps.{type_id, int_types, Attributes, add_number, add_pointer, add_attr, attributes, map_size, map_types, btf_types}
use Rattle.btf.proofs.MapTypes.{attributes-next, map_size_lem, count_vars}
use Rattle.object.specs.Object.{map_symbols}
use Rattle.reading.specs.Steps.{numbered}
use Rattle.reading.specs.Sections.{Named}
use Rattle.reading.specs.Maps.{Mapped, number_of, member_type_of, map_of, vars_of, map_sections, maps_of, read_btf}
use Rattle.reading.specs.Maps as reading
use Rattle.reading.specs.Programs as programs
use Rattle.reading.specs.Relocations.{map_at}
use Rattle.reading.proofs.Rules.{number_of_lem, var_of_lem, maps_of_lem}
use Rattle.seen.specs.Seen.{seen_map}
use Rattle.seen.proofs.Symbols.{seen_symbol}
use Rattle.seen.proofs.Types.{seen_member, seen_var, seen_type}

-- ---- numbers and types behind pointers

map_type_lem : (k : MapType) → map_type_numbered (map_type_number k) ≡ some k
map_type_lem Hash = refl
map_type_lem Array = refl
map_type_lem ProgArray = refl
map_type_lem LruHash = refl
map_type_lem Ringbuf = refl

-- the int that a key's or a value's type is
abbrev int_of : MemberType → reading.BtfType
int_of U32 = reading.int 4 32
int_of U64 = reading.int 8 64
int_of I32 = reading.int 4 (2 ^ 24 + 32)
int_of I64 = reading.int 8 (2 ^ 24 + 64)

-- the types that BTF begins with
Ints : List reading.BtfType → Type 0
Ints b = (t : MemberType) → numbered b (type_id t) ≡ some (int_of t)

member_type_lem : (b : List reading.BtfType) (i : ℕ) (t : MemberType) → Ints b → numbered b i ≡ some (reading.ptr (type_id t))
    → member_type_of b i ≡ some t
unfolding Ints
member_type_lem b i U32 h e = rw (e, h U32)
member_type_lem b i U64 h e = rw (e, h U64)
member_type_lem b i I32 h e = rw (e, h I32)
member_type_lem b i I64 h e = rw (e, h I64)

-- ---- one map

-- the types from id `next` on are `ts`
record From (b : List reading.BtfType) (next : ℕ) (ts : List reading.BtfType) : Type 0 where
  id : (k i : ℕ) → i ≡ next + k → numbered b i ≡ get_elem? ts k

from_start : (xs ys : List reading.BtfType) (n : ℕ) → n ≡ suc (length xs) → From (xs ++ ys) n ys
from_start xs ys n e =
    record { id = λ k i q. (let p : i ≡ suc (length xs + k) = omega arith in rw p (get_add xs ys k)) }

from_after : (b : List reading.BtfType) (next : ℕ) (xs ys : List reading.BtfType) (n : ℕ) → From b next (xs ++ ys) → n ≡ next + length xs → From b n ys
from_after b next xs ys n h e = record { id = λ k i q. h.id (length xs + k) i (omega arith) ∙ get_add xs ys k }

-- a map by its parts
abbrev map_by : List ℕ → MapType → Attr MemberType → Attr MemberType → Attr ℕ → Map
map_by name kind key value entries = record { name = name; kind = kind; key = key; value = value; entries = entries }

module _ (b : List reading.BtfType) (ints : Ints b) (next at : ℕ) (raw name : List ℕ) (short : length name ≤ 64) (kind : MapType)
    (post : List reading.BtfType) where
  -- facts about the id that is `k` after `next`
  number_from : {ts : List reading.BtfType} → From b next ts → (k i n : ℕ) → i ≡ next + k → get_elem? ts k ≡ some (reading.array n)
      → get_elem? ts (suc k) ≡ some (reading.ptr i)
      → number_of b (i + 1) ≡ some n
  number_from h k i n e x y = number_of_lem b (i + 1) i n (h.id (suc k) (i + 1) (omega arith) ∙ y) (h.id k i e ∙ x)

  type_from : {ts : List reading.BtfType} → From b next ts → (k i : ℕ) (t : MemberType) → i ≡ next + k → get_elem? ts k ≡ some (reading.ptr (type_id t))
      → member_type_of b i ≡ some t
  type_from h k i t e x = member_type_lem b i t ints (h.id k i e ∙ x)

  -- the first attribute is the map's type
  kind_from : {ts : List reading.BtfType} → From b next ts → get_elem? ts 0 ≡ some (reading.array (map_type_number kind))
      → get_elem? ts 1 ≡ some (reading.ptr next)
      → number_of b (next + 1) ≡ some (map_type_number kind)
  kind_from h x y = number_from h 0 next (map_type_number kind) (omega arith) x y

  -- by which attributes are there: each is found by its member, and there is no other member
  map_read : (key value : Attr MemberType) (entries : Attr ℕ) → From b next (map seen_type (attributes next (map_by raw kind key value entries)).types ++ post)
      → map_of b at (some name) (map seen_member (attributes next (map_by raw kind key value entries)).members)
      ≡ some (record { map = map_by name kind key value entries; offset = at })
  map_read Absent Absent Absent h = rw (le-leb (length name) 64 short, kind_from h refl refl, map_type_lem)
  map_read Absent Absent (Present n) h =
      rw (le-leb (length name) 64 short, kind_from h refl refl, map_type_lem, number_from h 2 (next + 2) n (omega arith) refl refl)
  map_read Absent (Present v) Absent h =
      rw (le-leb (length name) 64 short, kind_from h refl refl, map_type_lem, type_from h 2 (next + 2) v (omega arith) refl)
  map_read Absent (Present v) (Present n) h =
      rw (
        le-leb (length name) 64 short,
        kind_from h refl refl,
        map_type_lem,
        type_from h 2 (next + 2) v (omega arith) refl,
        number_from h 3 (next + 2 + 1) n (omega arith) refl refl,
      )
  map_read (Present k) Absent Absent h =
      rw (le-leb (length name) 64 short, kind_from h refl refl, map_type_lem, type_from h 2 (next + 2) k (omega arith) refl)
  map_read (Present k) Absent (Present n) h =
      rw (
        le-leb (length name) 64 short,
        kind_from h refl refl,
        map_type_lem,
        type_from h 2 (next + 2) k (omega arith) refl,
        number_from h 3 (next + 2 + 1) n (omega arith) refl refl,
      )
  map_read (Present k) (Present v) Absent h =
      rw (
        le-leb (length name) 64 short,
        kind_from h refl refl,
        map_type_lem,
        type_from h 2 (next + 2) k (omega arith) refl,
        type_from h 3 (next + 2 + 1) v (omega arith) refl,
      )
  map_read (Present k) (Present v) (Present n) h =
      rw (
        le-leb (length name) 64 short,
        kind_from h refl refl,
        map_type_lem,
        type_from h 2 (next + 2) k (omega arith) refl,
        type_from h 3 (next + 2 + 1) v (omega arith) refl,
        number_from h 4 (next + 2 + 1 + 1) n (omega arith) refl refl,
      )

-- ---- all maps

-- the maps that L6 finds, from place `at` on
abbrev pub found_for : ℕ → List Map → List Mapped
found_for at [] = []
found_for at (m ∷ ms) = record { map = seen_map m; offset = at } ∷ found_for (at + map_size m) ms

abbrev pub ShortName : Map → Type 0
ShortName m = length (written m.name) ≤ 64

vars_read : (b : List reading.BtfType) (ints : Ints b) (next at : ℕ) (ms : List Map) (rest : List BtfType) → All ShortName ms
    → From b next (map seen_type ((map_types next at ms).types ++ rest))
    → vars_of b (map seen_var (map_types next at ms).vars) ≡ some (found_for at ms)
vars_read b ints next at [] rest w h = refl
vars_read b ints next at (m ∷ ms) rest w h =
    let a = attributes next m in
    let r = map_types (a.next + 2) (at + map_size m) ms in
    let pair : List reading.BtfType = reading.struct (map seen_member a.members) ∷ reading.var (some (written m.name)) a.next ∷ [] in
    let z : List reading.BtfType = pair ++ map seen_type (r.types ++ rest) in
    let here : From b next (map seen_type a.types ++ z) =
    rw (append_assoc a.types (struct a.members ∷ var (written m.name) a.next ∷ r.types) rest, map-append seen_type a.types) at h in
    let later : From b a.next z =
    from_after b next (map seen_type a.types) z a.next here (attributes-next next m ∙ ap (λ (n : ℕ). next + n) (sym (length-map a.types seen_type))) in
    rw (
      var_of_lem b a.next (a.next + 1) at (some (written m.name)) (map seen_member a.members) (later.id 1 (a.next + 1) refl) (later.id 0 a.next (omega arith)),
      map_read b ints next at m.name (written m.name) w.0 m.kind z m.key m.value m.entries here,
      vars_read b ints (a.next + 2) (at + map_size m) ms rest w.1 (from_after b a.next pair (map seen_type (r.types ++ rest)) (a.next + 2) later refl),
    )

-- ---- the one data section

-- attributes have no data section among their types
abbrev Skips : Attributes → Type 0
Skips a = (rest : List BtfType) → map_sections (map seen_type (a.types ++ rest)) ≡ map_sections (map seen_type rest)

skips_number : (name : List ℕ) (n : ℕ) (a : Attributes) → Skips a → Skips (add_number name n a)
skips_number name n a h rest = rw (append_assoc a.types) (h _)

skips_pointer : (name : List ℕ) (t : MemberType) (a : Attributes) → Skips a → Skips (add_pointer name t a)
skips_pointer name t a h rest = rw (append_assoc a.types) (h _)

skips_attr : {A : Type 0} (add : List ℕ → A → Attributes → Attributes) → ((name : List ℕ) (x : A) (a : Attributes) → Skips a → Skips (add name x a))
    → (name : List ℕ) (attr : Attr A) (a : Attributes) → Skips a → Skips (add_attr add name attr a)
skips_attr add f name Absent a h = h
skips_attr add f name (Present x) a h = f name x a h

attributes_skip : (next : ℕ) (m : Map) → Skips (attributes next m)
attributes_skip next m =
    let pointer = skips_attr add_pointer skips_pointer in
    skips_attr add_number skips_number (ascii "max_entries") m.entries _ (pointer (ascii "value") m.value _ (pointer (ascii "key") m.key _ (λ rest. refl)))

map_sections_lem : (next at : ℕ) (ms : List Map) (rest : List BtfType)
    → map_sections (map seen_type ((map_types next at ms).types ++ rest)) ≡ map_sections (map seen_type rest)
map_sections_lem next at [] rest = refl
map_sections_lem next at (m ∷ ms) rest =
    let a = attributes next m in
    let r = map_types (a.next + 2) (at + map_size m) ms in
    let z = struct a.members ∷ var (written m.name) a.next ∷ r.types in
    rw (append_assoc a.types z rest) (attributes_skip next m (z ++ rest) ∙ map_sections_lem (a.next + 2) (at + map_size m) ms rest)

module _ (ms : List Map) (few : length ms ≤ 64) (w : All ShortName ms) where
  abbrev last : List BtfType
  last = datasec (ascii ".maps") (map_types 6 0 ms).size (map_types 6 0 ms).vars ∷ []

  ints_there : Ints (map seen_type (btf_types ms))
  unfolding Ints
  ints_there U32 = refl
  ints_there U64 = refl
  ints_there I32 = refl
  ints_there I64 = refl

  pub maps_read : (s : Named) → read_btf s.bytes ≡ some (map seen_type (btf_types ms)) → maps_of (s ∷ []) ≡ some (found_for 0 ms)
  maps_read s e =
      maps_of_lem s (map seen_type (btf_types ms)) (map seen_var (map_types 6 0 ms).vars) (found_for 0 ms) e (map_sections_lem 6 0 ms last)
      (omega (arith, length-map (map_types 6 0 ms).vars seen_var, count_vars 6 0 ms))
      (vars_read (map seen_type (btf_types ms)) ints_there 6 0 ms last w
      (from_start (map seen_type int_types) (map seen_type ((map_types 6 0 ms).types ++ last)) 6 refl))

-- ---- from a symbol to a map's number

-- the place of map number `k`
abbrev pub place_of : ℕ → List Map → ℕ → ℕ
place_of at [] k = at
place_of at (m ∷ ms) zero = at
place_of at (m ∷ ms) (suc k) = place_of (at + map_size m) ms k

place_after : (at : ℕ) (ms : List Map) (k : ℕ) → at ≤ place_of at ms k
place_after at [] k = omega arith
place_after at (m ∷ ms) zero = omega arith
place_after at (m ∷ ms) (suc k) = omega (arith, place_after (at + map_size m) ms k)

-- every map has room, so no two have the same place
pub map_at_lem : (i at : ℕ) (ms : List Map) (k : ℕ) → k < length ms → map_at i (place_of at ms k) (found_for at ms) ≡ some (i + k)
map_at_lem i at [] k h = absurd (omega arith)
map_at_lem i at (m ∷ ms) zero h = rw (eq-eqb at at refl, add-zero)
map_at_lem i at (m ∷ ms) (suc k) h =
    let size = (map_size_lem m).0 in
    let more = place_after (at + map_size m) ms k in
    let next : i + suc k ≡ suc i + k = omega arith in
    rw (ne_eqb at (place_of (at + map_size m) ms k) (λ e. omega arith), next) (map_at_lem (suc i) (at + map_size m) ms k (omega arith))

pub map_symbol_at : (at : ℕ) (ms : List Map) (rest : List Symbol) (k : ℕ) → k < length ms
    → (y : programs.Symbol) × (get_elem? (map seen_symbol (map_symbols at ms ++ rest)) k ≡ some y) × (y.section ≡ 2) × (y.at ≡ place_of at ms k)
map_symbol_at at [] rest k h = absurd (omega arith)
map_symbol_at at (m ∷ ms) rest zero h = (_, refl, refl, refl)
map_symbol_at at (m ∷ ms) rest (suc k) h = map_symbol_at (at + map_size m) ms rest k (omega arith)
