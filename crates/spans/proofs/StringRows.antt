-- The strings of maps, from some map on: the invariant of the loop over the maps, and that all of them are the table of the definition.
use mathlib.Core.Path.{◌≡◌, refl, sym, ◌∙◌, ap}
use mathlib.Core.List.{List, [], ◌∷◌, ◌++◌, append_assoc}
use Prim.Native.Nat.{ℕ, ◌+◌, ◌-◌, ◌≤◌, ◌<◌}
use native.Mathlib.Omega.{arith}
use lib.ListN.{length, drop, get_or}
use borrow.Rule.Slice.PartMut.{put_mid}
use Rattle.octets.specs.Over.{over}
use Rattle.octets.proofs.Filling.{over-part}
use Rattle.octets.specs.Octets.{ascii}
use Rattle.octets.proofs.Going.{Going, go_start, go_as, go_room, go_on, go_done}
use Rattle.ast.specs.Job.{Map}
use Rattle.ast.specs.declared.«Type».{«Type» as MemberType}
use Rattle.ast.specs.declared.MapType.{MapType}
use Rattle.ast.specs.declared.NamedMap.{NamedMap}
use Rattle.ast.specs.declared.Attr.{Attr}
use Rattle.ast.specs.declared.Attr.TheVariants.{Absent, Present}
use Rattle.object.specs.Read.{map_in, maps_in}
use Rattle.object.specs.Tables.{no_map}
use Rattle.elf.specs.Row.{joined}
use Rattle.named.specs.There.{MapsThere}
use Rattle.named.proofs.There.{maps_from, maps_end}
use Rattle.btf.specs.Btf.{BtfType, start, add_types, datasec}
use Rattle.btf.specs.Maps.{attributes, map_types, btf_types}
use Rattle.btf.specs.Builder.{names_of}
use Rattle.btf.proofs.Builder.{names_append, strings_built}
use Rattle.members.specs.Section.{one_map, types_of}
use Rattle.members.specs.Strings.{map_strings, maps_strings, int_strings, all_strings}
use Rattle.spans.proofs.TypeRows.{map_types_are}
use Rattle.spans.proofs.AllTypes.{over-all}

-- ---- all maps

module _ (text : List ℕ) (ms : List NamedMap) where
  abbrev all : List Map
  all = maps_in text ms

  abbrev map_at : ℕ → Map
  map_at i = map_in text (get_or ms i no_map)

  -- the strings before map `i` are written
  pub record StringsTurn (start : ℕ) (out₀ out : List ℕ) (at i : ℕ) : Type 0 where
    pub there : MapsThere text ms
    pub going : Going out₀ start (maps_strings all) out at (maps_strings (drop i all))

  pub strings-start : (at : ℕ) (out : List ℕ) → MapsThere text ms → at + length (maps_strings all) ≤ length out → StringsTurn at out out at 0
  strings-start at out m h = record { there = m; going = go_start out at (maps_strings all) h }

  module _ {start at i : ℕ} {out₀ out : List ℕ} (t : StringsTurn start out₀ out at i) (h : i < length ms) where
    here_on : Going out₀ start (maps_strings all) out at (map_strings (map_at i) ++ maps_strings (drop (i + 1) all))
    here_on = go_as (map_strings (map_at i) ++ maps_strings (drop (i + 1) all)) (ap maps_strings (maps_from text ms i h)) t.going

    pub strings_room : at + length (map_strings (map_at i)) ≤ length out
    strings_room = go_room (map_strings (map_at i)) (maps_strings (drop (i + 1) all)) here_on

    pub strings_on : (out' : List ℕ) (at' : ℕ) → out' ≡ over out at (map_strings (map_at i)) → at' ≡ at + length (map_strings (map_at i)) → StringsTurn start out₀ out' at' (i + 1)
    strings_on out' at' e n =
        record { there = t.there; going = go_on (map_strings (map_at i)) (maps_strings (drop (i + 1) all)) out' at' here_on e n }

  pub strings-done : {start at i : ℕ} {out₀ out : List ℕ} → StringsTurn start out₀ out at i → length ms ≤ i
      → (out ≡ over out₀ start (maps_strings all)) × (at ≡ start + length (maps_strings all))
  strings-done {i = i} t h = go_done (go_as [] (ap maps_strings (maps_end text ms i h)) t.going)

-- ---- the table

joined_case : (next : ℕ) (name : List ℕ) (names : List (List ℕ)) (kind : MapType) (key value : Attr MemberType) (entries : Attr ℕ) →
    let m : Map = record { name = name; kind = kind; key = key; value = value; entries = entries } in
    joined (names_of (one_map next m) ++ names) ≡ map_strings m ++ joined names
joined_case next name names kind Absent Absent Absent = refl
joined_case next name names kind Absent Absent (Present n) = refl
joined_case next name names kind Absent (Present u) Absent = refl
joined_case next name names kind Absent (Present u) (Present n) = refl
joined_case next name names kind (Present t) Absent Absent = refl
joined_case next name names kind (Present t) Absent (Present n) = refl
joined_case next name names kind (Present t) (Present u) Absent = refl
joined_case next name names kind (Present t) (Present u) (Present n) = refl

joined_maps : (next : ℕ) (ms : List Map) (names : List (List ℕ)) → joined (names_of (types_of next ms) ++ names) ≡ maps_strings ms ++ joined names
joined_maps next [] names = refl
joined_maps next (m ∷ ms) names =
    let more = types_of ((attributes next m).next + 2) ms in
    ap (λ (l : List (List ℕ)). joined (l ++ names)) (names_append (one_map next m) more)
    ∙ ap joined (append_assoc (names_of (one_map next m)) (names_of more) names)
    ∙ joined_case next m.name (names_of more ++ names) m.kind m.key m.value m.entries
    ∙ ap (λ (l : List ℕ). map_strings m ++ l) (joined_maps ((attributes next m).next + 2) ms names)
    ∙ sym (append_assoc (map_strings m) (maps_strings ms) (joined names))

pub strings_are : (ms : List Map) → (add_types (btf_types ms) start).strings ≡ all_strings ms
strings_are ms =
    let last = datasec (ascii ".maps") (map_types 6 0 ms).size (map_types 6 0 ms).vars ∷ [] in
    strings_built (btf_types ms)
    ∙ ap (λ (ts : List BtfType). int_strings ++ joined (names_of (ts ++ last))) (map_types_are 6 0 ms)
    ∙ ap (λ (l : List (List ℕ)). int_strings ++ joined l) (names_append (types_of 6 ms) last)
    ∙ ap (λ (l : List ℕ). int_strings ++ l) (joined_maps 6 ms (ascii ".maps" ∷ []))

-- ---- what each call leaves

abbrev last_name : List ℕ
last_name = ascii ".maps" ++ (0 ∷ [])

module _ (ms : List Map) (out : List ℕ) (same : length out ≡ length (all_strings ms)) where
  abbrev table : List ℕ
  table = all_strings ms

  module _ (l : List ℕ) (e : l ≡ int_strings) where
    abbrev ints : List ℕ
    ints = put_mid 0 (21 - 0) out l

    ints_left : Going out 0 table ints 21 (maps_strings ms ++ last_name)
    ints_left = go_on int_strings (maps_strings ms ++ last_name) ints 21 (go_start out 0 table (omega arith)) (over-part out 0 21 l int_strings refl e) refl

    pub names_room : 21 + length (maps_strings ms) ≤ length ints
    names_room = go_room (maps_strings ms) last_name ints_left

    module _ (out₂ : List ℕ) (at : ℕ) (e₂ : out₂ ≡ over ints 21 (maps_strings ms)) (n : at ≡ 21 + length (maps_strings ms)) where
      names_left : Going out 0 table out₂ at (last_name ++ [])
      names_left = go_on (maps_strings ms) last_name out₂ at ints_left e₂ n

      pub last_room : at + 6 ≤ length out₂
      last_room = go_room last_name [] names_left

      pub table_left : (out₃ : List ℕ) → out₃ ≡ over out₂ at last_name → out₃ ≡ table
      table_left out₃ e₃ = (go_done (go_on last_name [] out₃ (at + 6) names_left e₃ refl)).0 ∙ over-all out table same
