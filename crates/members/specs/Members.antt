-- The members of one map's struct, piece by piece: the bytes of each, and the state for the next one. An attribute that nobody declared has
-- no member, so only the declared attributes are counted as positions.
use Rattle.std.specs.Prelude.{List, [], ◌∷◌, ◌++◌, ℕ, ◌+◌, ◌-◌, ◌*◌, ◌/◌, ◌^◌, ◌≤◌, ◌<◌}
use Rattle.ast.specs.declared.MapDecl.{MapDecl}
use Rattle.ast.specs.declared.Attr.{Attr}
use Rattle.ast.specs.declared.Attr.TheVariants.{Absent, Present}
use Rattle.btf.specs.declared.BtfBuilder.{BtfBuilder}
use Rattle.btf.specs.Btf.{info}
use Rattle.btf.specs.Maps.{map_room}
use Rattle.btf.specs.Builder.{words, passed, membered}
use Rattle.members.specs.declared.Members.{Members}
use Rattle.members.specs.Attributes.{attrs_bytes, attrs_passed}

-- `n` more bytes of members are within the memory, and with `names` more bytes of names and `k` more members all numbers fit
pub record Ahead (s : Members) (n names k room : ℕ) : Type 0 where
  pub at : s.builder.at + n ≤ room
  pub strings : s.builder.strings + names < 2 ^ 32
  pub next : s.builder.next_type_id < 2 ^ 32
  pub position : s.position + k ≤ 8
  pub id : s.id + 2 * k < 2 ^ 32

-- a member of the type `id`
abbrev pub member_words : Members → ℕ → List ℕ
member_words s id = words (s.builder.strings ∷ id ∷ 64 * s.position ∷ [])

-- after a member whose name takes `n` bytes and whose attribute has `k` types
abbrev pub members_on : Members → ℕ → ℕ → Members
members_on s n k = record { builder = membered s.builder n; position = s.position + 1; id = s.id + k }

-- the member of an attribute that has `n` types: it names the last, which is a pointer
abbrev pub value_member : ℕ → Members → List ℕ
value_member n s = member_words s (s.id + (n - 1))

abbrev pub attr_member : {A : Type 0} → ℕ → Attr A → Members → List ℕ
attr_member n Absent s = []
attr_member n (Present x) s = value_member n s

abbrev pub attr_membered : {A : Type 0} → ℕ → ℕ → Attr A → Members → Members
attr_membered name n Absent s = s
attr_membered name n (Present x) s = members_on s name n

-- after `type`, after `key` and after `value`, which take 5, 4 and 6 bytes
abbrev pub type_done : Members → Members
type_done s = members_on s 5 2

abbrev pub key_done : Members → MapDecl → Members
key_done s d = attr_membered 4 1 d.key_type (type_done s)

abbrev pub value_done : Members → MapDecl → Members
value_done s d = attr_membered 6 1 d.value_type (key_done s d)

abbrev pub members_done : Members → MapDecl → Members
members_done s d = attr_membered 12 2 d.max_entries (value_done s d)

abbrev pub members_bytes : Members → MapDecl → List ℕ
members_bytes s d =
    value_member 2 s
    ++ (attr_member 1 d.key_type (type_done s)
    ++ (attr_member 1 d.value_type (key_done s d)
    ++ attr_member 2 d.max_entries (value_done s d)))

-- ---- the struct

abbrev pub decl_room : MapDecl → ℕ
decl_room d = map_room d.key_type d.value_type d.max_entries

-- the first member of a struct that begins at `b` and whose attributes' types begin at `id`
abbrev pub first_member : BtfBuilder → ℕ → Members
first_member b id = record { builder = passed b 12 1; position = 0; id = id }

abbrev pub struct_head : MapDecl → List ℕ
struct_head d = words (0 ∷ info 4 (decl_room d / 8) ∷ 8 * (decl_room d / 8) ∷ [])

abbrev pub struct_bytes : BtfBuilder → ℕ → MapDecl → List ℕ
struct_bytes b id d = struct_head d ++ members_bytes (first_member b id) d

abbrev pub struct_done : BtfBuilder → ℕ → MapDecl → BtfBuilder
struct_done b id d = (members_done (first_member b id) d).builder

-- ---- the attributes' types and the struct

abbrev pub map_pieces : BtfBuilder → MapDecl → List ℕ
map_pieces b d = attrs_bytes b d ++ struct_bytes (attrs_passed b d) b.next_type_id d

abbrev pub struct_end : BtfBuilder → MapDecl → BtfBuilder
struct_end b d = struct_done (attrs_passed b d) b.next_type_id d
