-- Rule L6: the maps, by BTF. Nothing here names the writer or its layout.
use Rattle.std.specs.Prelude.{Bool, false, cond, ◌&&◌, ◌||◌, List, [], ◌∷◌, ℕ, zero, suc, ◌+◌, ◌*◌, ◌/◌, ◌%◌, ◌^◌, length, drop, leb, eqb}
use Rattle.std.proofs.Math.Option.{Option, none, some}
use Rattle.octets.specs.Octets.{ascii, zeros, equal}
use Rattle.ast.specs.Job.{Map}
use Rattle.ast.specs.Numbers.{map_type_numbered}
use Rattle.ast.specs.declared.«Type».{«Type» as MemberType}
use Rattle.ast.specs.declared.«Type».TheVariants.{U32, U64, I32, I64}
use Rattle.ast.specs.declared.Attr.{Attr}
use Rattle.ast.specs.declared.Attr.TheVariants.{Absent, Present}
use Rattle.reading.specs.Steps.{◌>>=◌, ◌guards◌, field, keep, numbered, only, part, short, text_at}
use Rattle.reading.specs.Sections.{Named, is_plain}

-- ---- L6: the maps

pub record Member : Type 0 where
  pub name : Option (List ℕ)
  pub type_id : ℕ

pub record Var : Type 0 where
  pub type_id : ℕ
  pub offset : ℕ

-- a BTF type, as far as a rule looks at it, with what is at its names' places in the strings
pub data BtfType : Type 0 where
  int : ℕ → ℕ → BtfType
  ptr : ℕ → BtfType
  array : ℕ → BtfType
  struct : List Member → BtfType
  var : Option (List ℕ) → ℕ → BtfType
  datasec : Option (List ℕ) → List Var → BtfType

-- `strs` are the section's strings
abbrev pub members_of : List ℕ → ℕ → List ℕ → List Member
members_of strs zero d = []
members_of strs (suc n) d = record { name = text_at strs (field 4 d 0); type_id = field 4 d 4 } ∷ members_of strs n (drop 12 d)

abbrev pub entries_of : ℕ → List ℕ → List Var
entries_of zero d = []
entries_of (suc n) d = record { type_id = field 4 d 0; offset = field 4 d 4 } ∷ entries_of n (drop 12 d)

-- the type at the front of the type section, and how many bytes it takes
pub record Front : Type 0 where
  pub this : BtfType
  pub size : ℕ

abbrev pub front_of : List ℕ → ℕ → ℕ → List ℕ → Option Front
front_of strs kind n d =
    cond (eqb kind 1) (some (record { this = int (field 4 d 8) (field 4 d 12); size = 16 }))
    (cond (eqb kind 2) (some (record { this = ptr (field 4 d 8); size = 12 }))
    (cond (eqb kind 3) (some (record { this = array (field 4 d 20); size = 24 }))
    (cond (eqb kind 4) (some (record { this = struct (members_of strs n (drop 12 d)); size = 12 + 12 * n }))
    (cond (eqb kind 14) (some (record { this = var (text_at strs (field 4 d 0)) (field 4 d 8); size = 16 }))
    (cond (eqb kind 15) (some (record { this = datasec (text_at strs (field 4 d 0)) (entries_of n (drop 12 d)); size = 12 + 12 * n })) none)))))

abbrev pub front : List ℕ → List ℕ → Option Front
front strs d =
    leb 12 (length d) guards
    (front_of strs (field 4 d 4 / 2 ^ 24) (field 4 d 4 % 2 ^ 24) d >>= λ t. leb t.size (length d) guards some t)

-- the types of a type section; `n` is at least how many there are
abbrev pub types_of : List ℕ → ℕ → List ℕ → Option (List BtfType)
types_of strs zero d = eqb (length d) 0 guards some []
types_of strs (suc n) d =
    cond (eqb (length d) 0) (some [])
    (front strs d >>= λ t.
    types_of strs n (drop t.size d) >>= λ ts.
    some (t.this ∷ ts))

-- the section is document 01's BTF header, types and strings, with nothing left over
abbrev pub read_btf : List ℕ → Option (List BtfType)
read_btf d =
    let types = field 4 d 12 in
    (leb 24 (length d) && equal (part d 0 12) (0x9f ∷ 0xeb ∷ 1 ∷ 0 ∷ 24 ∷ zeros 7) && eqb (field 4 d 16) types
    && eqb (24 + types + field 4 d 20) (length d))
    guards types_of (drop (24 + types) d) types (part d 24 types)

abbrev pub pointee : List BtfType → ℕ → Option BtfType
pointee b i = numbered b i >>= λ t. elim t
    [ int s e ↦ none | ptr p ↦ numbered b p | array n ↦ none | struct ms ↦ none | var n p ↦ none | datasec n vs ↦ none ]

-- `type`, `max_entries`: a pointer to an array, whose length is the number
abbrev pub number_of : List BtfType → ℕ → Option ℕ
number_of b i = pointee b i >>= λ t. elim t
    [ int s e ↦ none | ptr p ↦ none | array n ↦ some n | struct ms ↦ none | var n p ↦ none | datasec n vs ↦ none ]

-- a key or a value: a pointer to an int, by size and sign
abbrev pub int_type : ℕ → ℕ → Option MemberType
int_type size data' =
    cond (eqb size 4 && eqb data' 32) (some U32)
    (cond (eqb size 8 && eqb data' 64) (some U64)
    (cond (eqb size 4 && eqb data' (2 ^ 24 + 32)) (some I32)
    (cond (eqb size 8 && eqb data' (2 ^ 24 + 64)) (some I64) none)))

abbrev pub member_type_of : List BtfType → ℕ → Option MemberType
member_type_of b i = pointee b i >>= λ t. elim t
    [ int s e ↦ int_type s e | ptr p ↦ none | array n ↦ none | struct ms ↦ none | var n p ↦ none | datasec n vs ↦ none ]

-- members with their names
pub record NamedMember : Type 0 where
  pub name : List ℕ
  pub type_id : ℕ

abbrev pub known : List ℕ → Bool
known s = equal s (ascii "type") || equal s (ascii "key") || equal s (ascii "value") || equal s (ascii "max_entries")

abbrev pub name_members : List Member → Option (List NamedMember)
name_members [] = some []
name_members (m ∷ ms) =
    short 64 m.name >>= λ s.
    name_members ms >>= λ ns.
    known s guards some (record { name = s; type_id = m.type_id } ∷ ns)

abbrev pub member_named : List ℕ → List NamedMember → List NamedMember
member_named s ms = keep (λ m. equal m.name s) ms

-- a member that is not there is absent, and one that is there twice fails
abbrev pub attr_of : {A : Type 0} → (ℕ → Option A) → List NamedMember → Option (Attr A)
attr_of value [] = some Absent
attr_of value (m ∷ []) = value m.type_id >>= λ x. some (Present x)
attr_of value (m ∷ n ∷ ms) = none

-- a map of L6, and its place in `.maps`
pub record Mapped : Type 0 where
  pub map : Map
  pub offset : ℕ

abbrev pub map_of : List BtfType → ℕ → Option (List ℕ) → List Member → Option Mapped
map_of b offset name members =
    short 64 name >>= λ s.
    name_members members >>= λ ms.
    only (member_named (ascii "type") ms) >>= λ m.
    number_of b m.type_id >>= λ n.
    map_type_numbered n >>= λ kind.
    attr_of (member_type_of b) (member_named (ascii "key") ms) >>= λ key.
    attr_of (member_type_of b) (member_named (ascii "value") ms) >>= λ val.
    attr_of (number_of b) (member_named (ascii "max_entries") ms) >>= λ entries.
    some (record { map = record { name = s; kind = kind; key = key; value = val; entries = entries }; offset = offset })

abbrev pub var_of : List BtfType → Var → Option Mapped
var_of b v = numbered b v.type_id >>= λ t. elim t [
  | int s e ↦ none
  | ptr p ↦ none
  | array n ↦ none
  | struct ms ↦ none
  | var name p ↦
      numbered b p >>= λ t'. elim t'
      [ int s e ↦ none | ptr q ↦ none | array n ↦ none | struct ms ↦ map_of b v.offset name ms | var n q ↦ none | datasec n vs ↦ none ]
  | datasec n vs ↦ none
]

abbrev pub vars_of : List BtfType → List Var → Option (List Mapped)
vars_of b [] = some []
vars_of b (v ∷ vs) = var_of b v >>= λ m. vars_of b vs >>= λ ms. some (m ∷ ms)

-- the entries of the data sections named `.maps`; a data section whose name cannot be read is not one of them
abbrev pub is_maps : Option (List ℕ) → Bool
is_maps none = false
is_maps (some s) = equal s (ascii ".maps")

abbrev pub map_sections : List BtfType → List (List Var)
map_sections [] = []
map_sections (t ∷ ts) = elim t [
  | int s e ↦ map_sections ts
  | ptr p ↦ map_sections ts
  | array n ↦ map_sections ts
  | struct ms ↦ map_sections ts
  | var n p ↦ map_sections ts
  | datasec name vs ↦ cond (is_maps name) (vs ∷ map_sections ts) (map_sections ts)
]

abbrev pub maps_of : List Named → Option (List Mapped)
maps_of [] = some []
maps_of (s ∷ []) =
    read_btf s.bytes >>= λ b.
    only (map_sections b) >>= λ vs.
    leb (length vs) 64 guards vars_of b vs
maps_of (s ∷ t ∷ ss) = none

abbrev pub read_maps : List Named → Option (List Mapped)
read_maps ss = maps_of (keep (is_plain 0 (ascii ".BTF")) ss)
