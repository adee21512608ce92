-- The BTF types of a job's maps (`build_btf`): five ints; for each map its attributes, a struct of those that are declared and a VAR; last
-- the DATASEC `.maps`.
use Rattle.std.specs.Prelude.{List, [], ◌∷◌, ◌++◌, ℕ, ◌+◌, ◌*◌}
use Rattle.octets.specs.Octets.{ascii}
use Rattle.written.specs.Written.{written}
use Rattle.ast.specs.Job.{Map}
use Rattle.ast.specs.Numbers.{map_type_number}
use Rattle.btf.specs.Btf.{BtfType, int, ptr, array, struct, var, datasec, Member, Var}
use Rattle.ast.specs.declared.«Type».{«Type» as MemberType}
use Rattle.ast.specs.declared.«Type».TheVariants.{U32, U64, I32, I64}
use Rattle.ast.specs.declared.Attr.{Attr}
use Rattle.ast.specs.declared.Attr.TheVariants.{Absent, Present}

-- the ids of BTF's first five types, and those of a key's or a value's type
abbrev pub int_id : ℕ
int_id = 1

abbrev pub type_id : MemberType → ℕ
type_id U32 = 2
type_id U64 = 3
type_id I32 = 4
type_id I64 = 5

abbrev pub int_types : List BtfType
int_types = int (ascii "int") 4 1 ∷ int (ascii "u32") 4 0 ∷ int (ascii "u64") 8 0 ∷ int (ascii "i32") 4 1 ∷ int (ascii "i64") 8 1 ∷ []

-- A map's attributes as BTF types and the members that name them. `next` is the id of the next type.
pub record Attributes : Type 0 where
  pub next : ℕ
  pub types : List BtfType
  pub members : List Member

abbrev pub add_number : List ℕ → ℕ → Attributes → Attributes
add_number name n a =
    record {
      next = a.next + 2;
      types = a.types ++ (array int_id int_id n ∷ ptr a.next ∷ []);
      members = a.members ++ (record { name = name; type_id = a.next + 1 } ∷ []);
    }

abbrev pub add_pointer : List ℕ → MemberType → Attributes → Attributes
add_pointer name t a =
    record {
      next = a.next + 1;
      types = a.types ++ (ptr (type_id t) ∷ []);
      members = a.members ++ (record { name = name; type_id = a.next } ∷ []);
    }

-- an attribute that nobody declared has no member
abbrev pub add_attr : {A : Type 0} → (List ℕ → A → Attributes → Attributes) → List ℕ → Attr A → Attributes → Attributes
add_attr add name Absent a = a
add_attr add name (Present x) a = add name x a

abbrev pub attributes : ℕ → Map → Attributes
attributes next m =
    add_attr add_number (ascii "max_entries") m.entries
    (add_attr add_pointer (ascii "value") m.value
    (add_attr add_pointer (ascii "key") m.key
    (add_number (ascii "type") (map_type_number m.kind) (record { next = next; types = []; members = [] }))))

-- how many attributes are declared: one or none
abbrev pub attr_count : {A : Type 0} → Attr A → ℕ
attr_count Absent = 0
attr_count (Present x) = 1

-- map room: 8 bytes for each attribute, type included (`btf_map_size`)
abbrev pub map_room : Attr MemberType → Attr MemberType → Attr ℕ → ℕ
map_room key value entries = 8 * (1 + attr_count key + attr_count value + attr_count entries)

abbrev pub map_size : Map → ℕ
map_size m = map_room m.key m.value m.entries

-- the maps' types, from id `next` and place `at` on, and the section's entries for them
pub record MapTypes : Type 0 where
  pub types : List BtfType
  pub vars : List Var
  pub size : ℕ

abbrev pub map_types : ℕ → ℕ → List Map → MapTypes
map_types next at [] = record { types = []; vars = []; size = at }
map_types next at (m ∷ ms) =
    let a = attributes next m in
    let r = map_types (a.next + 2) (at + map_size m) ms in
    record {
      types = a.types ++ (struct a.members ∷ var (written m.name) a.next ∷ r.types);
      vars = record { type_id = a.next + 1; offset = at; size = map_size m } ∷ r.vars;
      size = r.size;
    }

-- `build_btf`
abbrev pub btf_types : List Map → List BtfType
btf_types ms =
    let r = map_types 6 0 ms in
    int_types ++ (r.types ++ (datasec (ascii ".maps") r.size r.vars ∷ []))
