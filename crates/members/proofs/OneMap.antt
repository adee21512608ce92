-- One map's types, as its pieces make them: attributes, the struct and the variable. Each law has eight cases, for a key, a value and a
-- number of entries that are there or not.
use mathlib.Core.Path.{◌≡◌, refl, sym, ◌∙◌, ap}
use mathlib.Core.List.{List, [], ◌∷◌, ◌++◌}
use Prim.Native.Nat.{ℕ, ◌+◌, ◌≤◌}
use native.Mathlib.Nat.{add-zero}
use native.Mathlib.Omega.{arith}
use lib.ListN.{length, length-append}
use Rattle.octets.specs.Over.{over}
use Rattle.octets.proofs.Filling.{over_two}
use Rattle.written.specs.Written.{written}
use Rattle.ast.specs.Job.{Map}
use Rattle.ast.specs.declared.MapType.{MapType}
use Rattle.ast.specs.declared.MapDecl.{MapDecl}
use Rattle.ast.specs.declared.Attr.{Attr}
use Rattle.ast.specs.declared.«Type».{«Type» as MemberType}
use Rattle.ast.specs.declared.Attr.TheVariants.{Absent, Present}
use Rattle.btf.specs.declared.BtfBuilder.{BtfBuilder}
use Rattle.btf.specs.Btf.{type_bytes, var}
use Rattle.btf.specs.Maps.{attributes}
use Rattle.btf.specs.Builder.{bytes_at, past, moved, Within}
use Rattle.members.specs.Attributes.{attrs_bytes, attrs_passed}
use Rattle.members.specs.Members.{decl_room, struct_bytes, map_pieces, struct_end}
use Rattle.members.specs.Section.{one_map, map_built}

-- a declaration, and the map that it is under a name
abbrev decl : MapType → Attr MemberType → Attr MemberType → Attr ℕ → MapDecl
decl kind key value entries = record { map_type = kind; key_type = key; value_type = value; max_entries = entries }

abbrev named : List ℕ → MapType → Attr MemberType → Attr MemberType → Attr ℕ → Map
named name kind key value entries = record { name = name; kind = kind; key = key; value = value; entries = entries }

pub record AttrsEnd (b : BtfBuilder) (d : MapDecl) : Type 0 where
  pub at : (attrs_passed b d).at ≡ b.at + length (attrs_bytes b d)
  pub strings : (attrs_passed b d).strings ≡ b.strings
  pub next : (attrs_passed b d).next_type_id ≤ b.next_type_id + 6

pub record StructEnd (b : BtfBuilder) (d : MapDecl) : Type 0 where
  pub at : (struct_end b d).at ≡ b.at + length (map_pieces b d)
  pub strings : (struct_end b d).strings ≤ b.strings + 27
  pub next : (struct_end b d).next_type_id ≤ b.next_type_id + 7
  pub some : 1 ≤ (struct_end b d).next_type_id

bytes_case : (b : BtfBuilder) (name : List ℕ) (kind : MapType) (key value : Attr MemberType) (entries : Attr ℕ) →
    let d = decl kind key value entries in
    let m = named name kind key value entries in
    bytes_at b.strings (one_map b.next_type_id m)
    ≡ map_pieces b d ++ type_bytes ((struct_end b d).strings ∷ []) (var [] (attributes b.next_type_id m).next)
bytes_case b name kind Absent Absent Absent = refl
bytes_case b name kind Absent Absent (Present n) = refl
bytes_case b name kind Absent (Present u) Absent = simp add-zero
bytes_case b name kind Absent (Present u) (Present n) = simp add-zero
bytes_case b name kind (Present t) Absent Absent = simp add-zero
bytes_case b name kind (Present t) Absent (Present n) = simp add-zero
bytes_case b name kind (Present t) (Present u) Absent = simp add-zero
bytes_case b name kind (Present t) (Present u) (Present n) = simp add-zero

strings_case : (b : BtfBuilder) (name : List ℕ) (kind : MapType) (key value : Attr MemberType) (entries : Attr ℕ) →
    let d = decl kind key value entries in
    let m = named name kind key value entries in
    (struct_end b d).strings + (length (written name) + 1) ≡ past b.strings (one_map b.next_type_id m)
strings_case b name kind Absent Absent Absent = omega arith
strings_case b name kind Absent Absent (Present n) = omega arith
strings_case b name kind Absent (Present u) Absent = omega arith
strings_case b name kind Absent (Present u) (Present n) = omega arith
strings_case b name kind (Present t) Absent Absent = omega arith
strings_case b name kind (Present t) Absent (Present n) = omega arith
strings_case b name kind (Present t) (Present u) Absent = omega arith
strings_case b name kind (Present t) (Present u) (Present n) = omega arith

next_case : (b : BtfBuilder) (name : List ℕ) (kind : MapType) (key value : Attr MemberType) (entries : Attr ℕ) →
    (struct_end b (decl kind key value entries)).next_type_id ≡ (attributes b.next_type_id (named name kind key value entries)).next + 1
next_case b name kind Absent Absent Absent = refl
next_case b name kind Absent Absent (Present n) = refl
next_case b name kind Absent (Present u) Absent = refl
next_case b name kind Absent (Present u) (Present n) = refl
next_case b name kind (Present t) Absent Absent = refl
next_case b name kind (Present t) Absent (Present n) = refl
next_case b name kind (Present t) (Present u) Absent = refl
next_case b name kind (Present t) (Present u) (Present n) = refl

-- where the attributes' types and the struct end
attrs_case : (b : BtfBuilder) (kind : MapType) (key value : Attr MemberType) (entries : Attr ℕ) → AttrsEnd b (decl kind key value entries)
attrs_case b kind Absent Absent Absent = omega arith
attrs_case b kind Absent Absent (Present n) = omega arith
attrs_case b kind Absent (Present u) Absent = omega arith
attrs_case b kind Absent (Present u) (Present n) = omega arith
attrs_case b kind (Present t) Absent Absent = omega arith
attrs_case b kind (Present t) Absent (Present n) = omega arith
attrs_case b kind (Present t) (Present u) Absent = omega arith
attrs_case b kind (Present t) (Present u) (Present n) = omega arith

end_case : (b : BtfBuilder) (kind : MapType) (key value : Attr MemberType) (entries : Attr ℕ) → StructEnd b (decl kind key value entries)
end_case b kind Absent Absent Absent = omega arith
end_case b kind Absent Absent (Present n) = omega arith
end_case b kind Absent (Present u) Absent = omega arith
end_case b kind Absent (Present u) (Present n) = omega arith
end_case b kind (Present t) Absent Absent = omega arith
end_case b kind (Present t) Absent (Present n) = omega arith
end_case b kind (Present t) (Present u) Absent = omega arith
end_case b kind (Present t) (Present u) (Present n) = omega arith

room_case : (kind : MapType) (key value : Attr MemberType) (entries : Attr ℕ) → decl_room (decl kind key value entries) ≤ 32
room_case kind Absent Absent Absent = omega arith
room_case kind Absent Absent (Present n) = omega arith
room_case kind Absent (Present u) Absent = omega arith
room_case kind Absent (Present u) (Present n) = omega arith
room_case kind (Present t) Absent Absent = omega arith
room_case kind (Present t) Absent (Present n) = omega arith
room_case kind (Present t) (Present u) Absent = omega arith
room_case kind (Present t) (Present u) (Present n) = omega arith

-- ---- the same for a declaration in a table

pub attrs_end : (b : BtfBuilder) (d : MapDecl) → AttrsEnd b d
attrs_end b d = attrs_case b d.map_type d.key_type d.value_type d.max_entries

pub struct_end_lem : (b : BtfBuilder) (d : MapDecl) → StructEnd b d
struct_end_lem b d = end_case b d.map_type d.key_type d.value_type d.max_entries

pub decl_room_lem : (d : MapDecl) → decl_room d ≤ 32
decl_room_lem d = room_case d.map_type d.key_type d.value_type d.max_entries

-- the map that a declaration is under a name
abbrev pub as_map : MapDecl → List ℕ → Map
as_map d name = record { name = name; kind = d.map_type; key = d.key_type; value = d.value_type; entries = d.max_entries }

module _ (b : BtfBuilder) (d : MapDecl) (name : List ℕ) where
  -- the variable's bytes after the struct
  abbrev pub var_piece : List ℕ
  var_piece = type_bytes ((struct_end b d).strings ∷ []) (var [] (attributes b.next_type_id (as_map d name)).next)

  pub map_bytes : bytes_at b.strings (one_map b.next_type_id (as_map d name)) ≡ map_pieces b d ++ var_piece
  map_bytes = bytes_case b name d.map_type d.key_type d.value_type d.max_entries

  pub map_strings_lem : (struct_end b d).strings + (length (written name) + 1) ≡ (map_built b (as_map d name)).strings
  map_strings_lem = strings_case b name d.map_type d.key_type d.value_type d.max_entries

  pub map_next : (struct_end b d).next_type_id ≡ (attributes b.next_type_id (as_map d name)).next + 1
  map_next = next_case b name d.map_type d.key_type d.value_type d.max_entries

  pub map_length : length (bytes_at b.strings (one_map b.next_type_id (as_map d name))) ≡ length (map_pieces b d) + 16
  map_length = ap length map_bytes ∙ length-append (map_pieces b d) var_piece

  -- what the call for the variable leaves
  pub map_left : (out out₁ out₂ : List ℕ) (done : BtfBuilder) (id : ℕ) → b.at + length (map_pieces b d) ≤ length out → done ≡ struct_end b d → id + 1 ≡ done.next_type_id
      → out₁ ≡ over out b.at (map_pieces b d) → out₂ ≡ over out₁ done.at (type_bytes (done.strings ∷ []) (var [] id))
      → out₂ ≡ over out b.at (bytes_at b.strings (one_map b.next_type_id (as_map d name)))
  map_left out out₁ out₂ done id room p i e f =
      let same : id ≡ (attributes b.next_type_id (as_map d name)).next = omega (arith, map_next, ap (λ (x : BtfBuilder). x.next_type_id) p) in
      let f' : out₂ ≡ over out₁ (struct_end b d).at var_piece = f ∙ rw (p, same) in
      over_two out b.at (map_pieces b d) var_piece out₁ out₂ (struct_end b d).at (omega arith) e (struct_end_lem b d).at f'
      ∙ ap (λ (l : List ℕ). over out b.at l) (sym map_bytes)

-- what the calls for the attributes and for the struct leave
pub pieces_left : (b b₁ : BtfBuilder) (d : MapDecl) (out out₁ out₂ : List ℕ) → b.at + length (map_pieces b d) ≤ length out → b₁ ≡ attrs_passed b d
    → out₁ ≡ over out b.at (attrs_bytes b d) → out₂ ≡ over out₁ b₁.at (struct_bytes b₁ b.next_type_id d) → out₂ ≡ over out b.at (map_pieces b d)
pieces_left b b₁ d out out₁ out₂ room q e f =
    over_two out b.at (attrs_bytes b d) (struct_bytes (attrs_passed b d) b.next_type_id d) out₁ out₂ (attrs_passed b d).at (omega arith) e (attrs_end b d).at
    (f ∙ ap (λ (x : BtfBuilder). over out₁ x.at (struct_bytes x b.next_type_id d)) q)

-- and what the call for the struct asks
pub pieces_room : (b b₁ : BtfBuilder) (d : MapDecl) (n room : ℕ) → Within (moved b (length (map_pieces b d)) 27 8) n → n ≡ room → b₁ ≡ attrs_passed b d
    → Within (moved b₁ (length (struct_bytes b₁ b.next_type_id d)) 27 1) room
pieces_room b b₁ d n room w p q =
    let e = attrs_end b d in
    rw q
    (record {
      at = omega (arith, w.at, e.at, length-append (attrs_bytes b d) (struct_bytes (attrs_passed b d) b.next_type_id d));
      strings = omega (arith, w.strings, e.strings);
      next = omega (arith, w.next, e.next);
    })
