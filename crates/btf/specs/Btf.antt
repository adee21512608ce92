-- BTF as the Linux kernel's document gives it: a header, a row of types, and the string table that holds their names.
use Rattle.std.specs.Prelude.{List, [], ◌∷◌, ◌++◌, map, ℕ, suc, ◌+◌, ◌*◌, ◌^◌, length}
use Rattle.octets.specs.Octets.{le, cat}
use Rattle.elf.specs.Strings.{add_strings, empty_table}

pub record Member : Type 0 where
  pub name : List ℕ
  pub type_id : ℕ

pub record Var : Type 0 where
  pub type_id : ℕ
  pub offset : ℕ
  pub size : ℕ

-- the kinds of type in an object: `int name size encoding` (encoding 1 is signed), `ptr type`, `array element index n`, `struct members`,
-- `var name type`, `datasec name size vars`
pub data BtfType : Type 0 where
  int : List ℕ → ℕ → ℕ → BtfType
  ptr : ℕ → BtfType
  array : ℕ → ℕ → ℕ → BtfType
  struct : List Member → BtfType
  var : List ℕ → ℕ → BtfType
  datasec : List ℕ → ℕ → List Var → BtfType

-- a type's info word: its kind and how many parts follow
abbrev pub info : ℕ → ℕ → ℕ
info kind count = kind * 2 ^ 24 + count

-- the names of a type, in the order of its bytes; a type with no name of its own has place 0
abbrev pub type_names : BtfType → List (List ℕ)
type_names (int name size encoding) = name ∷ []
type_names (ptr t) = []
type_names (array elem index n) = []
type_names (struct ms) = map (λ m. m.name) ms
type_names (var name t) = name ∷ []
type_names (datasec name size vs) = name ∷ []

-- members of a struct, from position `i` on, whose names are at `ps`
abbrev pub member_bytes : ℕ → List ℕ → List Member → List ℕ
member_bytes i [] [] = []
member_bytes i [] (m ∷ ms) = []
member_bytes i (p ∷ ps) [] = []
member_bytes i (p ∷ ps) (m ∷ ms) = cat (le 4 p ∷ le 4 m.type_id ∷ le 4 (64 * i) ∷ []) ++ member_bytes (suc i) ps ms

abbrev pub var_bytes : List Var → List ℕ
var_bytes [] = []
var_bytes (v ∷ vs) = cat (le 4 v.type_id ∷ le 4 v.offset ∷ le 4 v.size ∷ []) ++ var_bytes vs

-- the place of a type's one name
abbrev pub one : List ℕ → ℕ
one [] = 0
one (p ∷ ps) = p

-- a type whose names are at `ps`
abbrev pub type_bytes : List ℕ → BtfType → List ℕ
type_bytes ps (int name size encoding) =
    cat (le 4 (one ps) ∷ le 4 (info 1 0) ∷ le 4 size ∷ le 4 (encoding * 2 ^ 24 + 8 * size) ∷ [])
type_bytes ps (ptr t) = cat (le 4 0 ∷ le 4 (info 2 0) ∷ le 4 t ∷ [])
type_bytes ps (array elem index n) = cat (le 4 0 ∷ le 4 (info 3 0) ∷ le 4 0 ∷ le 4 elem ∷ le 4 index ∷ le 4 n ∷ [])
type_bytes ps (struct ms) = cat (le 4 0 ∷ le 4 (info 4 (length ms)) ∷ le 4 (8 * length ms) ∷ member_bytes 0 ps ms ∷ [])
type_bytes ps (var name t) = cat (le 4 (one ps) ∷ le 4 (info 14 0) ∷ le 4 t ∷ le 4 1 ∷ [])
type_bytes ps (datasec name size vs) = cat (le 4 (one ps) ∷ le 4 (info 15 (length vs)) ∷ le 4 size ∷ var_bytes vs ∷ [])

-- the types and the strings so far (`BtfBuilder`)
pub record Builder : Type 0 where
  pub types : List ℕ
  pub strings : List ℕ

abbrev pub start : Builder
start = record { types = []; strings = empty_table }

abbrev pub add_type : BtfType → Builder → Builder
add_type t b =
    let p = add_strings b.strings (type_names t) in
    record { types = b.types ++ type_bytes p.places t; strings = p.table }

abbrev pub add_types : List BtfType → Builder → Builder
add_types [] b = b
add_types (t ∷ ts) b = add_types ts (add_type t b)

-- the whole section: header, types, strings (`finish`)
abbrev pub finished : Builder → List ℕ
finished b =
    cat (le 2 0xeb9f ∷ le 1 1 ∷ le 1 0 ∷ le 4 24 ∷ le 4 0 ∷ le 4 (length b.types) ∷ le 4 (length b.types)
    ∷ le 4 (length b.strings) ∷ b.types ∷ b.strings ∷ [])

abbrev pub btf_bytes : List BtfType → List ℕ
btf_bytes ts = finished (add_types ts start)
