-- Maps from some one on: the room that they take in `.maps`, and the entries of the section.
use mathlib.Core.Path.{◌≡◌, refl, ◌∙◌, ap}
use mathlib.Core.List.{List, [], ◌∷◌, ◌++◌}
use Prim.Native.Nat.{ℕ, ◌+◌, ◌*◌, ◌^◌, ◌≤◌, ◌<◌}
use native.Mathlib.Omega.{arith}
use native.Mathlib.Numerals.{add-one}
use lib.ListN.{length, drop, get_or, drop_of_length-le}
use lib.Seq.{drop-cons}
use Rattle.octets.specs.Over.{over}
use Rattle.octets.proofs.Going.{Going, go_start, go_as, go_room, go_on, go_done}
use Rattle.ast.specs.declared.MapType.{MapType}
use Rattle.ast.specs.declared.MapDecl.{MapDecl}
use Rattle.ast.specs.declared.NamedMap.{NamedMap}
use Rattle.ast.specs.declared.Attr.{Attr}
use Rattle.ast.specs.declared.«Type».{«Type» as MemberType}
use Rattle.ast.specs.declared.Attr.TheVariants.{Absent, Present}
use Rattle.object.specs.Tables.{no_map}
use Rattle.object.specs.Read.{maps_in}
use Rattle.btf.specs.declared.BtfBuilder.{BtfBuilder}
use Rattle.btf.specs.Btf.{var_bytes, info}
use Rattle.btf.specs.Maps.{map_types}
use Rattle.btf.specs.Builder.{words, passed, entered, Within}
use Rattle.members.specs.Members.{decl_room}
use Rattle.members.specs.Section.{rooms_of, attr_ids, struct_id, entries_bytes}
use Rattle.members.proofs.OneMap.{decl_room_lem}

-- ---- room

pub map_from : (ms : List NamedMap) (i : ℕ) → i < length ms → drop i ms ≡ get_or ms i no_map ∷ drop (i + 1) ms
map_from ms i h = rw (add-one i) (drop-cons ms i no_map h)

pub no_more : (ms : List NamedMap) (i : ℕ) → length ms ≤ i → drop i ms ≡ []
no_more ms i h = drop_of_length-le ms {i = i} h

-- the size that the definition gives
pub rooms_size : (text : List ℕ) (next at : ℕ) (ms : List NamedMap) → (map_types next at (maps_in text ms)).size ≡ at + rooms_of ms
rooms_size text next at [] = omega arith
rooms_size text next at (m ∷ ms) = rooms_size text (struct_id next m.decl + 2) (at + decl_room m.decl) ms ∙ omega arith

-- ---- ids

id_case : (next : ℕ) (kind : MapType) (key value : Attr MemberType) (entries : Attr ℕ)
    → struct_id next (record { map_type = kind; key_type = key; value_type = value; max_entries = entries }) ≡ next + 2 + attr_ids 1 key + attr_ids 1 value + attr_ids 2 entries
id_case next kind Absent Absent Absent = omega arith
id_case next kind Absent Absent (Present n) = omega arith
id_case next kind Absent (Present u) Absent = omega arith
id_case next kind Absent (Present u) (Present n) = omega arith
id_case next kind (Present t) Absent Absent = omega arith
id_case next kind (Present t) Absent (Present n) = omega arith
id_case next kind (Present t) (Present u) Absent = omega arith
id_case next kind (Present t) (Present u) (Present n) = omega arith

pub id_is : (next : ℕ) (d : MapDecl) → struct_id next d ≡ next + 2 + attr_ids 1 d.key_type + attr_ids 1 d.value_type + attr_ids 2 d.max_entries
id_is next d = id_case next d.map_type d.key_type d.value_type d.max_entries

-- ---- entries

pub length_entries : (next at : ℕ) (ms : List NamedMap) → length (entries_bytes next at ms) ≡ 12 * length ms
length_entries next at [] = refl
length_entries next at (m ∷ ms) = omega (arith, length_entries (struct_id next m.decl + 2) (at + decl_room m.decl) ms)

-- the definition's entries
pub entries_are : (text : List ℕ) (next at : ℕ) (ms : List NamedMap) → var_bytes (map_types next at (maps_in text ms)).vars ≡ entries_bytes next at ms
entries_are text next at [] = refl
entries_are text next at (m ∷ ms) =
    ap (λ (r : List ℕ). words ((struct_id next m.decl + 1) ∷ at ∷ decl_room m.decl ∷ []) ++ r)
    (entries_are text (struct_id next m.decl + 2) (at + decl_room m.decl) ms)

module _ (ms : List NamedMap) where
  abbrev entries_from : ℕ → ℕ → ℕ → List ℕ
  entries_from next at i = entries_bytes next at (drop i ms)

  -- the entries before map `i` are written
  pub record EntriesTurn (b₀ : BtfBuilder) (out₀ out : List ℕ) (b : BtfBuilder) (next offset i : ℕ) : Type 0 where
    pub most : length ms ≤ 64
    pub going : Going out₀ b₀.at (entries_from 6 0 0) out b.at (entries_from next offset i)
    pub strings : b.strings < 2 ^ 32
    pub id : b.next_type_id < 2 ^ 32
    pub next_small : next ≤ 6 + 8 * i
    pub offset_small : offset ≤ 32 * i

  pub entries_start : (b : BtfBuilder) (out : List ℕ) → length ms ≤ 64 → Within (passed b (12 * length ms) 0) (length out) → EntriesTurn b out out b 6 0 0
  entries_start b out m w =
      let n = length_entries 6 0 ms in
      record {
        most = m;
        going = go_start out b.at (entries_from 6 0 0) (omega (arith, w.at));
        strings = w.strings;
        id = omega (arith, w.next);
        next_small = omega arith;
        offset_small = omega arith;
      }

  module _ {b₀ : BtfBuilder} {out₀ out : List ℕ} {b : BtfBuilder} {next offset i : ℕ} (t : EntriesTurn b₀ out₀ out b next offset i) (h : i < length ms) where
    abbrev here : MapDecl
    here = (get_or ms i no_map).decl

    going_on : Going out₀ b₀.at (entries_from 6 0 0) out b.at
        (words ((struct_id next here + 1) ∷ offset ∷ decl_room here ∷ []) ++ entries_from (struct_id next here + 2) (offset + decl_room here) (i + 1))
    going_on =
        go_as (words ((struct_id next here + 1) ∷ offset ∷ decl_room here ∷ []) ++ entries_from (struct_id next here + 2) (offset + decl_room here) (i + 1))
        (ap (λ (l : List NamedMap). entries_bytes next offset l) (map_from ms i h)) t.going

    pub entry_room : Within (entered b) (length out)
    entry_room =
        record {
          at = go_room (words ((struct_id next here + 1) ∷ offset ∷ decl_room here ∷ [])) (entries_from (struct_id next here + 2) (offset + decl_room here) (i + 1)) going_on;
          strings = t.strings;
          next = t.id;
        }

    pub entries_on : (out' : List ℕ) (b' : BtfBuilder) (id size : ℕ) → out' ≡ over out b.at (words (id ∷ offset ∷ size ∷ [])) → b' ≡ entered b → id ≡ struct_id next here + 1
        → id ≤ next + 7 → size ≡ decl_room here → EntriesTurn b₀ out₀ out' b' (id + 1) (offset + size) (i + 1)
    entries_on out' b' id size e q p l r =
        let small = decl_room_lem here in
        let n : id + 1 ≡ struct_id next here + 2 = omega arith in
        rw (q, n, r)
        (record {
          most = t.most;
          going =
              go_on (words ((struct_id next here + 1) ∷ offset ∷ decl_room here ∷ [])) (entries_from (struct_id next here + 2) (offset + decl_room here) (i + 1)) out' (b.at + 12) going_on
              (e ∙ rw (p, r)) refl;
          strings = t.strings;
          id = t.id;
          next_small = omega (arith, t.next_small);
          offset_small = omega (arith, t.offset_small);
        })

  pub entries_done : {b₀ : BtfBuilder} {out₀ out : List ℕ} {b : BtfBuilder} {next offset i : ℕ} → EntriesTurn b₀ out₀ out b next offset i → length ms ≤ i
      → out ≡ over out₀ b₀.at (entries_from 6 0 0)
  entries_done {next = next} {offset = offset} {i = i} t h =
      (go_done (go_as [] (ap (λ (l : List NamedMap). entries_bytes next offset l) (no_more ms i h)) t.going)).0

-- the section's head, with the size that it is known to have
pub head_left : (d out : List ℕ) (at name n size room : ℕ) → out ≡ over d at (words (name ∷ info 15 n ∷ size ∷ [])) → size ≡ room
    → out ≡ over d at (words (name ∷ info 15 n ∷ room ∷ []))
head_left d out at name n size room e q = e ∙ ap (λ (k : ℕ). over d at (words (name ∷ info 15 n ∷ k ∷ []))) q
