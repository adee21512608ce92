-- The types of one map's attributes, piece by piece: the bytes of each, and where the builder is after them. An attribute that nobody
-- declared has none, and leaves the builder where it is.
use Rattle.std.specs.Prelude.{List, [], ◌++◌, ℕ, length}
use Rattle.ast.specs.Numbers.{map_type_number}
use Rattle.ast.specs.declared.MapDecl.{MapDecl}
use Rattle.ast.specs.declared.Attr.{Attr}
use Rattle.ast.specs.declared.«Type».{«Type» as MemberType}
use Rattle.ast.specs.declared.Attr.TheVariants.{Absent, Present}
use Rattle.btf.specs.declared.BtfBuilder.{BtfBuilder}
use Rattle.btf.specs.Btf.{ptr, array, type_bytes}
use Rattle.btf.specs.Maps.{int_id, type_id}
use Rattle.btf.specs.Builder.{passed}

-- a key's or a value's type is a pointer to its int
abbrev pub pointer_bytes : ℕ → MemberType → List ℕ
pointer_bytes id t = type_bytes [] (ptr (type_id t))

-- a number is an array of that many ints, whose id is `id`, and a pointer to it
abbrev pub number_bytes : ℕ → ℕ → List ℕ
number_bytes id n = type_bytes [] (array int_id int_id n) ++ type_bytes [] (ptr id)

-- the types of an attribute from the id `id` on, where `bytes` are those of a value
abbrev pub attr_bytes : {A : Type 0} → (ℕ → A → List ℕ) → ℕ → Attr A → List ℕ
attr_bytes bytes id Absent = []
attr_bytes bytes id (Present x) = bytes id x

-- the builder after them, where a value has `n` types
abbrev pub attr_passed : {A : Type 0} → (ℕ → A → List ℕ) → ℕ → Attr A → BtfBuilder → BtfBuilder
attr_passed bytes n Absent b = b
attr_passed bytes n (Present x) b = passed b (length (bytes b.next_type_id x)) n

-- the builder after the type of a declaration, after its key and after its value
abbrev pub type_passed : BtfBuilder → BtfBuilder
type_passed b = passed b 36 2

abbrev pub key_passed : BtfBuilder → MapDecl → BtfBuilder
key_passed b d = attr_passed pointer_bytes 1 d.key_type (type_passed b)

abbrev pub value_passed : BtfBuilder → MapDecl → BtfBuilder
value_passed b d = attr_passed pointer_bytes 1 d.value_type (key_passed b d)

abbrev pub attrs_passed : BtfBuilder → MapDecl → BtfBuilder
attrs_passed b d = attr_passed number_bytes 2 d.max_entries (value_passed b d)

abbrev pub attrs_bytes : BtfBuilder → MapDecl → List ℕ
attrs_bytes b d =
    number_bytes b.next_type_id (map_type_number d.map_type)
    ++ (attr_bytes pointer_bytes (type_passed b).next_type_id d.key_type
    ++ (attr_bytes pointer_bytes (key_passed b d).next_type_id d.value_type
    ++ attr_bytes number_bytes (value_passed b d).next_type_id d.max_entries))
