-- The types and the strings of a job's maps, from some map on.
use Rattle.std.specs.Prelude.{List, [], ◌∷◌, ◌++◌, ℕ, ◌+◌, ◌*◌, length}
use Rattle.octets.specs.Octets.{le, cat}
use Rattle.written.specs.Written.{written}
use Rattle.ast.specs.Job.{Map}
use Rattle.ast.specs.declared.MapDecl.{MapDecl}
use Rattle.ast.specs.declared.NamedMap.{NamedMap}
use Rattle.ast.specs.declared.Attr.{Attr}
use Rattle.btf.specs.declared.BtfBuilder.{BtfBuilder}
use Rattle.btf.specs.Btf.{BtfType, struct, var, info}
use Rattle.btf.specs.Maps.{attributes, attr_count}
use Rattle.btf.specs.Builder.{words, bytes_at, past}
use Rattle.members.specs.Members.{decl_room}

-- ---- types

-- one map's types, the first of which has the id `next`
abbrev pub one_map : ℕ → Map → List BtfType
one_map next m =
    let a = attributes next m in
    a.types ++ (struct a.members ∷ var (written m.name) a.next ∷ [])

abbrev pub types_of : ℕ → List Map → List BtfType
types_of next [] = []
types_of next (m ∷ ms) = one_map next m ++ types_of ((attributes next m).next + 2) ms

-- the builder after one map and after several
abbrev pub map_built : BtfBuilder → Map → BtfBuilder
map_built b m =
    let ts = one_map b.next_type_id m in
    record {
      at = b.at + length (bytes_at b.strings ts);
      strings = past b.strings ts;
      next_type_id = (attributes b.next_type_id m).next + 2;
    }

abbrev pub maps_built : BtfBuilder → List Map → BtfBuilder
maps_built b [] = b
maps_built b (m ∷ ms) = maps_built (map_built b m) ms

-- the builder after the five ints
abbrev pub ints_built : BtfBuilder
ints_built = record { at = 80; strings = 21; next_type_id = 6 }

-- ---- the section `.maps`, which knows nothing of names

abbrev pub rooms_of : List NamedMap → ℕ
rooms_of [] = 0
rooms_of (m ∷ ms) = decl_room m.decl + rooms_of ms

-- how many types an attribute has, where a value has `n`
abbrev pub attr_ids : {A : Type 0} → ℕ → Attr A → ℕ
attr_ids n attr = n * attr_count attr

-- the id of a map's struct, if the map's types begin at `next`; the variable's follows it
abbrev pub struct_id : ℕ → MapDecl → ℕ
struct_id next d =
    (attributes next (record { name = []; kind = d.map_type; key = d.key_type; value = d.value_type; entries = d.max_entries })).next

abbrev pub entries_bytes : ℕ → ℕ → List NamedMap → List ℕ
entries_bytes next at [] = []
entries_bytes next at (m ∷ ms) =
    words ((struct_id next m.decl + 1) ∷ at ∷ decl_room m.decl ∷ []) ++ entries_bytes (struct_id next m.decl + 2) (at + decl_room m.decl) ms

-- the section of the maps' variables, whose name is at `name`
abbrev pub section_bytes : ℕ → List NamedMap → List ℕ
section_bytes name ms = words (name ∷ info 15 (length ms) ∷ rooms_of ms ∷ []) ++ entries_bytes 6 0 ms

-- ---- sizes and the header

-- the bytes that a map's types and its entry take: three times its room, 64, and 24 more for a number of entries
abbrev pub span_of : MapDecl → ℕ
span_of d = 3 * decl_room d + 64 + 12 * attr_ids 2 d.max_entries

abbrev pub header_bytes : ℕ → ℕ → List ℕ
header_bytes types strings =
    cat (le 2 0xeb9f ∷ le 1 1 ∷ le 1 0 ∷ le 4 24 ∷ le 4 0 ∷ le 4 types ∷ le 4 types ∷ le 4 strings ∷ [])
