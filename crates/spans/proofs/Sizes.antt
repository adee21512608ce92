-- How many bytes the types and the strings of maps take: laws for the loop that measures.
use mathlib.Core.Path.{◌≡◌, refl, sym, ap}
use mathlib.Core.List.{List, [], ◌∷◌, ◌++◌}
use Prim.Native.Nat.{ℕ, ◌+◌, ◌*◌, ◌≤◌, ◌<◌}
use native.Mathlib.Omega.{arith}
use lib.ListN.{length, drop, get_or, length-append}
use Rattle.octets.specs.Octets.{ascii}
use Rattle.written.specs.Written.{written}
use Rattle.ast.specs.Job.{Map}
use Rattle.ast.specs.declared.MapType.{MapType}
use Rattle.ast.specs.declared.MapDecl.{MapDecl}
use Rattle.ast.specs.declared.NamedMap.{NamedMap}
use Rattle.ast.specs.declared.Attr.{Attr}
use Rattle.ast.specs.declared.«Type».{«Type» as MemberType}
use Rattle.ast.specs.declared.Attr.TheVariants.{Absent, Present}
use Rattle.object.specs.Read.{map_in, maps_in}
use Rattle.object.specs.Tables.{no_map}
use Rattle.named.specs.There.{MapsThere}
use Rattle.named.proofs.There.{maps_from, maps_end}
use Rattle.btf.specs.Btf.{start, add_types}
use Rattle.btf.specs.Maps.{attributes, map_size, int_types, btf_types}
use Rattle.btf.specs.Builder.{bytes_at, past}
use Rattle.btf.proofs.Builder.{bytes_append, length_bytes, sizes, types_built}
use Rattle.members.specs.Section.{one_map, types_of, attr_ids, span_of}
use Rattle.members.specs.Strings.{attr_names, map_strings, maps_strings, all_strings}
use Rattle.spans.proofs.AllTypes.{maps_count, types_are, length_section, maps_part, section_part}
use Rattle.spans.proofs.StringRows.{strings_are}

-- ---- one map

abbrev span_map : Map → ℕ
span_map m = 3 * map_size m + 64 + 12 * attr_ids 2 m.entries

size_case : (next : ℕ) (name : List ℕ) (kind : MapType) (key value : Attr MemberType) (entries : Attr ℕ) →
    let m : Map = record { name = name; kind = kind; key = key; value = value; entries = entries } in
    sizes (one_map next m) + 12 ≡ span_map m
size_case next name kind Absent Absent Absent = refl
size_case next name kind Absent Absent (Present n) = refl
size_case next name kind Absent (Present u) Absent = refl
size_case next name kind Absent (Present u) (Present n) = refl
size_case next name kind (Present t) Absent Absent = refl
size_case next name kind (Present t) Absent (Present n) = refl
size_case next name kind (Present t) (Present u) Absent = refl
size_case next name kind (Present t) (Present u) (Present n) = refl

pub names_length : (key value : Attr MemberType) (entries : Attr ℕ) → length (attr_names key value entries) ≡ 5 + 4 * attr_ids 1 key + 6 * attr_ids 1 value + 6 * attr_ids 2 entries
names_length Absent Absent Absent = refl
names_length Absent Absent (Present n) = refl
names_length Absent (Present u) Absent = refl
names_length Absent (Present u) (Present n) = refl
names_length (Present t) Absent Absent = refl
names_length (Present t) Absent (Present n) = refl
names_length (Present t) (Present u) Absent = refl
names_length (Present t) (Present u) (Present n) = refl

one_size : (n next : ℕ) (m : Map) → length (bytes_at n (one_map next m)) + 12 ≡ span_map m
one_size n next m = omega (arith, length_bytes n (one_map next m), size_case next m.name m.kind m.key m.value m.entries)

-- ---- all maps

abbrev spans : List Map → ℕ
spans [] = 0
spans (m ∷ ms) = span_map m + spans ms

types_size : (n next : ℕ) (ms : List Map) → length (bytes_at n (types_of next ms)) + 12 * length ms ≡ spans ms
types_size n next [] = refl
types_size n next (m ∷ ms) =
    let more = types_of ((attributes next m).next + 2) ms in
    omega (
      arith,
      ap length (bytes_append n (one_map next m) more),
      length-append (bytes_at n (one_map next m)) (bytes_at (past n (one_map next m)) more),
      one_size n next m,
      types_size (past n (one_map next m)) ((attributes next m).next + 2) ms,
    )

module _ (text : List ℕ) (ms : List NamedMap) where
  abbrev all : List Map
  all = maps_in text ms

  abbrev decl_at : ℕ → MapDecl
  decl_at i = (get_or ms i no_map).decl

  abbrev map_at : ℕ → Map
  map_at i = map_in text (get_or ms i no_map)

  all_size : MapsThere text ms → length (bytes_at 1 (btf_types all)) ≡ 92 + spans all
  all_size m =
      omega (
        arith,
        ap length (types_are text ms m),
        length-append (bytes_at 1 int_types) (maps_part text ms m ++ section_part text ms m),
        length-append (maps_part text ms m) (section_part text ms m),
        length_section text ms m,
        types_size 21 6 all,
        maps_count text ms m,
      )

  -- the maps before map `i` are counted
  pub record SizeTurn (types strings i : ℕ) : Type 0 where
    pub there : MapsThere text ms
    pub few : i ≤ length ms
    pub types_is : types + spans (drop i all) ≡ length (bytes_at 1 (btf_types all))
    pub strings_is : strings + length (maps_strings (drop i all)) ≡ length (all_strings all)
    pub types_small : types ≤ 92 + 184 * i
    pub strings_small : strings ≤ 27 + 92 * i

  pub size_start : MapsThere text ms → SizeTurn 92 27 0
  size_start m =
      record {
        there = m;
        few = omega arith;
        types_is = sym (all_size m);
        strings_is = omega (arith, length-append (maps_strings all) (ascii ".maps" ++ (0 ∷ [])));
        types_small = omega arith;
        strings_small = omega arith;
      }

  pub size_on : {types strings i : ℕ} (span names w : ℕ) → SizeTurn types strings i → i < length ms → span ≡ span_of (decl_at i) → span ≤ 184
      → names ≡ length (attr_names (decl_at i).key_type (decl_at i).value_type (decl_at i).max_entries) → names ≤ 27
      → w ≡ length (written (map_at i).name) → w ≤ 64 → SizeTurn (types + span) (strings + (names + (w + 1))) (i + 1)
  size_on {i = i} span names w t h e small f short g most =
      let d = decl_at i in
      let n = attr_names d.key_type d.value_type d.max_entries in
      let next = maps_from text ms i h in
      record {
        there = t.there;
        few = omega arith;
        types_is = omega (arith, t.types_is, ap spans next);
        strings_is =
            omega (
              arith,
              t.strings_is,
              ap (λ (ms : List Map). length (maps_strings ms)) next,
              length-append (map_strings (map_at i)) (maps_strings (drop (i + 1) all)),
              length-append n (written (map_at i).name ++ (0 ∷ [])),
              length-append (written (map_at i).name) (0 ∷ []),
            );
        types_small = omega (arith, t.types_small);
        strings_small = omega (arith, t.strings_small);
      }

  pub size_done : {types strings i : ℕ} → SizeTurn types strings i → length ms ≤ i
      → (types ≡ length (add_types (btf_types all) start).types) × (strings ≡ length (add_types (btf_types all) start).strings) × (types + strings ≤ 65535)
  size_done {i = i} t h =
      let e = maps_end text ms i h in (
        omega (arith, t.types_is, ap spans e, ap length (types_built (btf_types all))),
        omega (arith, t.strings_is, ap (λ (ms : List Map). length (maps_strings ms)) e, ap length (strings_are all)),
        omega (arith, t.types_small, t.strings_small, t.few, t.there.few),
      )
