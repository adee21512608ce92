-- The BTF types of maps: ids follow each other, numbers fit their fields, and the section stays short, for maps within limits. Crate `seen`
-- proves what a loader reads back from them.
use mathlib.Core.Path.{◌≡◌, refl, ap}
use mathlib.Core.List.{List, [], ◌∷◌, ◌++◌, map, map-append}
use Prim.Native.Nat.{ℕ, suc, ◌+◌, ◌*◌, ◌^◌, ◌≤◌, ◌<◌}
use native.Mathlib.Omega.{arith}
use lib.ListN.{length, length-append}
use Rattle.octets.specs.Octets.{ascii}
use Rattle.octets.specs.All.{All}
use Rattle.octets.proofs.Lists.{all_append}
use Rattle.written.specs.Written.{written}
use Rattle.written.proofs.Names.{Clean, written-short, written_clean}
use Rattle.ast.specs.Job.{Map}
use Rattle.ast.specs.Numbers.{map_type_number}
use Rattle.ast.specs.declared.«Type».{«Type» as MemberType}
use Rattle.ast.specs.declared.«Type».TheVariants.{U32, U64, I32, I64}
use Rattle.ast.specs.declared.MapType.{MapType}
use Rattle.ast.specs.declared.MapType.TheVariants.{Hash, Array, ProgArray, LruHash, Ringbuf}
use Rattle.ast.specs.declared.Attr.{Attr}
use Rattle.ast.specs.declared.Attr.TheVariants.{Absent, Present}
use Rattle.elf.specs.Row.{size_of}
use Rattle.elf.proofs.Strings.{size_append}
use Rattle.btf.specs.Btf.{BtfType, ptr, array, struct, var, datasec, btf_bytes}
use Rattle.btf.specs.Maps.{int_id, type_id, int_types, Attributes, add_number, add_pointer, add_attr, attributes, attr_count, map_size, map_types, btf_types}
use Rattle.btf.proofs.Types.{FitMember, FitVar, FitType, weigh, weigh_append, length_btf}

-- ---- ids and sizes

-- the next id follows those of the attributes' types, which begin at `first`
abbrev Follows : ℕ → Attributes → Type 0
Follows first a = a.next ≡ first + length a.types

follows_number : (first : ℕ) (name : List ℕ) (n : ℕ) (a : Attributes) → Follows first a → Follows first (add_number name n a)
follows_number first name n a h = omega (arith, length-append a.types (array int_id int_id n ∷ ptr a.next ∷ []))

follows_pointer : (first : ℕ) (name : List ℕ) (t : MemberType) (a : Attributes) → Follows first a → Follows first (add_pointer name t a)
follows_pointer first name t a h = omega (arith, length-append a.types (ptr (type_id t) ∷ []))

follows_attr : {A : Type 0} (first : ℕ) (add : List ℕ → A → Attributes → Attributes) → ((name : List ℕ) (x : A) (a : Attributes) → Follows first a → Follows first (add name x a))
    → (name : List ℕ) (attr : Attr A) (a : Attributes) → Follows first a → Follows first (add_attr add name attr a)
follows_attr first add f name Absent a h = h
follows_attr first add f name (Present x) a h = f name x a h

pub attributes-next : (next : ℕ) (m : Map) → (attributes next m).next ≡ next + length (attributes next m).types
attributes-next next m =
    let pointer = follows_attr next add_pointer (follows_pointer next) in
    follows_attr next add_number (follows_number next) (ascii "max_entries") m.entries _
    (pointer (ascii "value") m.value _ (pointer (ascii "key") m.key _ (omega arith)))

attr_count_lem : {A : Type 0} (attr : Attr A) → attr_count attr ≤ 1
attr_count_lem Absent = omega arith
attr_count_lem (Present x) = omega arith

pub map_size_lem : (m : Map) → (8 ≤ map_size m) × (map_size m ≤ 32)
map_size_lem m = omega (arith, attr_count_lem m.key, attr_count_lem m.value, attr_count_lem m.entries)

pub count_vars : (next at : ℕ) (ms : List Map) → length (map_types next at ms).vars ≡ length ms
count_vars next at [] = refl
count_vars next at (m ∷ ms) = ap suc (count_vars ((attributes next m).next + 2) (at + map_size m) ms)

-- ---- a map's attributes

-- what the attributes so far give: the next id, and how many members and bytes
record Good (a : Attributes) (n c w : ℕ) : Type 0 where
  next : a.next ≤ n
  number : length a.members ≤ c
  types : All FitType a.types
  weight : weigh a.types ≤ w
  members : All FitMember a.members
  clean : All Clean (map (λ m. m.name) a.members)
  names : size_of (map (λ m. m.name) a.members) ≤ 12 * c

-- one attribute more: a member of the name `name`, and the types `more`
module _ (a : Attributes) (n c w : ℕ) (g : Good a n c w) (name : List ℕ) (clean : Clean name) (short : length name ≤ 11) where
  good_more : (i : ℕ) (more : List BtfType) (next k v : ℕ) → i < 2 ^ 32 → All FitType more → next ≤ n + k → weigh more ≤ v
      → Good (record { next = next; types = a.types ++ more; members = a.members ++ (record { name = name; type_id = i } ∷ []) }) (n + k) (c + 1) (w + v)
  good_more i more next k v l f h j =
      record {
        next = h;
        number = omega (arith, g.number, length-append a.members (record { name = name; type_id = i } ∷ []));
        types = all_append FitType a.types more g.types f;
        weight = omega (arith, g.weight, weigh_append a.types more);
        members = all_append FitMember a.members (record { name = name; type_id = i } ∷ []) g.members (l, tt);
        clean =
            rw (map-append (λ m. m.name) a.members) (all_append Clean (map (λ m. m.name) a.members) (name ∷ []) g.clean (clean, tt));
        names =
            rw (map-append (λ m. m.name) a.members) (omega (arith, g.names, size_append (map (λ m. m.name) a.members) (name ∷ [])));
      }

  -- an attribute that is absent, at the same bounds
  good_none : (k v : ℕ) → Good a (n + k) (c + 1) (w + v)
  good_none k v =
      record {
        next = omega (arith, g.next);
        number = omega (arith, g.number);
        types = g.types;
        weight = omega (arith, g.weight);
        members = g.members;
        clean = g.clean;
        names = omega (arith, g.names);
      }

  good_number : (x : ℕ) → x < 2 ^ 32 → n < 2 ^ 31 → Good (add_number name x a) (n + 2) (c + 1) (w + 36)
  good_number x l b =
      let h = g.next in
      good_more (a.next + 1) (array int_id int_id x ∷ ptr a.next ∷ []) (a.next + 2) 2 36 (omega arith)
      (record { numbers = l; clean = tt }, (record { numbers = omega arith; clean = tt }, tt)) (omega arith) (omega arith)

type_id_lem : (t : MemberType) → type_id t < 2 ^ 32
type_id_lem U32 = omega arith
type_id_lem U64 = omega arith
type_id_lem I32 = omega arith
type_id_lem I64 = omega arith

good_pointer : (a : Attributes) (n c w : ℕ) → Good a n c w → (name : List ℕ) → Clean name → length name ≤ 11 → (t : MemberType) → n < 2 ^ 31
    → Good (add_pointer name t a) (n + 1) (c + 1) (w + 12)
good_pointer a n c w g name clean short t b =
    let h = g.next in
    good_more a n c w g name clean short a.next (ptr (type_id t) ∷ []) (a.next + 1) 1 12 (omega arith)
    (record { numbers = type_id_lem t; clean = tt }, tt) (omega arith) (omega arith)

good_attr : {A : Type 0} (add : List ℕ → A → Attributes → Attributes) (k v : ℕ) (a : Attributes) (n c w : ℕ) → Good a n c w → (name : List ℕ) → Clean name → length name ≤ 11
    → (attr : Attr A) → ((x : A) → attr ≡ Present x → Good (add name x a) (n + k) (c + 1) (w + v))
    → Good (add_attr add name attr a) (n + k) (c + 1) (w + v)
good_attr add k v a n c w g name clean short Absent f = good_none a n c w g name clean short k v
good_attr add k v a n c w g name clean short (Present x) f = f x refl

map_number : (k : MapType) → map_type_number k < 2 ^ 32
map_number Hash = omega arith
map_number Array = omega arith
map_number ProgArray = omega arith
map_number LruHash = omega arith
map_number Ringbuf = omega arith

good_attributes : (next : ℕ) (m : Map) → ((x : ℕ) → m.entries ≡ Present x → x < 2 ^ 32) → next < 2 ^ 30
    → Good (attributes next m) (next + 2 + 1 + 1 + 2) 4 96
good_attributes next m f b =
    let typed =
    good_number (record { next = next; types = []; members = [] }) next 0 0
    (record { next = omega arith; number = omega arith; types = tt; weight = omega arith; members = tt; clean = tt; names = omega arith })
    (ascii "type") refl (omega arith) (map_type_number m.kind) (map_number m.kind) (omega arith) in
    let keyed =
    good_attr add_pointer 1 12 _ _ _ _ typed (ascii "key") refl (omega arith) m.key
    (λ t e. good_pointer _ _ _ _ typed (ascii "key") refl (omega arith) t (omega arith)) in
    let valued =
    good_attr add_pointer 1 12 _ _ _ _ keyed (ascii "value") refl (omega arith) m.value
    (λ t e. good_pointer _ _ _ _ keyed (ascii "value") refl (omega arith) t (omega arith)) in
    good_attr add_number 2 36 _ _ _ _ valued (ascii "max_entries") refl (omega arith) m.entries
    (λ x e. good_number _ _ _ _ valued (ascii "max_entries") refl (omega arith) x (f x e) (omega arith))

-- ---- all maps

pub record FitMap (m : Map) : Type 0 where
  pub name : length m.name ≤ 64
  pub entries : (x : ℕ) → m.entries ≡ Present x → x < 2 ^ 32

pub record FitMaps (next at : ℕ) (ms : List Map) : Type 0 where
  pub types : All FitType (map_types next at ms).types
  pub weight : weigh (map_types next at ms).types ≤ 300 * length ms
  pub vars : All FitVar (map_types next at ms).vars
  pub size : (map_types next at ms).size ≤ at + 32 * length ms

pub maps_fit : (next at : ℕ) (ms : List Map) → All FitMap ms → next + 8 * length ms < 2 ^ 30 → at + 32 * length ms < 2 ^ 30 → FitMaps next at ms
maps_fit next at [] f l k = record { types = tt; weight = omega arith; vars = tt; size = omega arith }
maps_fit next at (m ∷ ms) f l k =
    let a = attributes next m in
    let g = good_attributes next m f.0.entries (omega arith) in
    let more = g.next in
    let size = (map_size_lem m).1 in
    let short = written-short 64 m.name (omega arith) f.0.name in
    let r = maps_fit (a.next + 2) (at + map_size m) ms f.1 (omega arith) (omega arith) in
    let z = struct a.members ∷ var (written m.name) a.next ∷ (map_types (a.next + 2) (at + map_size m) ms).types in
    record {
      types =
          all_append FitType a.types z g.types (
            record { numbers = (omega (arith, g.number), g.members); clean = g.clean },
            (record { numbers = omega arith; clean = (written_clean m.name, tt) }, r.types),
          );
      weight = omega (arith, weigh_append a.types z, g.weight, g.number, g.names, r.weight);
      vars = (record { type_id = omega arith; offset = omega arith }, r.vars);
      size = omega (arith, r.size);
    }

module _ (ms : List Map) (f : All FitMap ms) (few : length ms ≤ 64) where
  abbrev last : BtfType
  last = datasec (ascii ".maps") (map_types 6 0 ms).size (map_types 6 0 ms).vars

  pub btf_fits : All FitType (btf_types ms)
  btf_fits =
      let g = maps_fit 6 0 ms f (omega arith) (omega arith) in
      all_append FitType int_types ((map_types 6 0 ms).types ++ (last ∷ [])) (
        record { numbers = omega arith; clean = (refl, tt) },
        (
          record { numbers = omega arith; clean = (refl, tt) },
          (
            record { numbers = omega arith; clean = (refl, tt) },
            (record { numbers = omega arith; clean = (refl, tt) }, (record { numbers = omega arith; clean = (refl, tt) }, tt)),
          ),
        ),
      )
      (all_append FitType (map_types 6 0 ms).types (last ∷ []) g.types
      (record { numbers = (omega (arith, count_vars 6 0 ms), g.vars); clean = (refl, tt) }, tt))

  pub btf_weighs : weigh (btf_types ms) < 2 ^ 16
  btf_weighs =
      let g = maps_fit 6 0 ms f (omega arith) (omega arith) in
      omega
      (arith, weigh_append int_types ((map_types 6 0 ms).types ++ (last ∷ [])), weigh_append (map_types 6 0 ms).types (last ∷ []), g.weight, count_vars 6 0 ms)

  pub btf_short : length (btf_bytes (btf_types ms)) < 2 ^ 17
  btf_short = omega (arith, length_btf (btf_types ms), btf_weighs)
