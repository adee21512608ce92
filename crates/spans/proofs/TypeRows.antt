-- The types of all maps, from some map on: the invariant of the loop over the maps.
use mathlib.Core.Path.{◌≡◌, refl, sym, ◌∙◌, ap}
use mathlib.Core.List.{List, [], ◌∷◌, ◌++◌, append_assoc}
use Prim.Native.Nat.{ℕ, ◌+◌, ◌-◌, ◌*◌, ◌≤◌, ◌<◌}
use native.Mathlib.Omega.{arith}
use lib.ListN.{length, drop, get_or, length-append}
use Rattle.octets.specs.Over.{over}
use Rattle.written.specs.Written.{written}
use Rattle.ast.specs.Job.{Map}
use Rattle.ast.specs.declared.MapDecl.{MapDecl}
use Rattle.ast.specs.declared.NamedMap.{NamedMap}
use Rattle.object.specs.Read.{map_in, maps_in}
use Rattle.object.specs.Tables.{no_map}
use Rattle.named.specs.There.{MapsThere}
use Rattle.named.proofs.Names.{written_most}
use Rattle.named.proofs.There.{maps_from, maps_end}
use Rattle.btf.specs.declared.BtfBuilder.{BtfBuilder}
use Rattle.btf.specs.Btf.{BtfType}
use Rattle.btf.specs.Maps.{attributes, map_size, map_types}
use Rattle.btf.specs.Btf.{struct, var}
use Rattle.btf.specs.Builder.{moved, bytes_at, past, Within}
use Rattle.btf.proofs.Builder.{bytes_append, past-append}
use Rattle.members.specs.Section.{one_map, types_of, map_built, maps_built}
use Rattle.members.proofs.Stages.{Stage, stage_start, stage_as, stage_within, stage_on, stage_done}
use Rattle.members.proofs.OneMap.{as_map, struct_end_lem, map_strings_lem, map_next}

-- the definition's types are these, wherever the maps are in their section
pub map_types_are : (next at : ℕ) (ms : List Map) → (map_types next at ms).types ≡ types_of next ms
map_types_are next at [] = refl
map_types_are next at (m ∷ ms) =
    let a = attributes next m in
    let tail = struct a.members ∷ var (written m.name) a.next ∷ [] in
    ap (λ (r : List BtfType). a.types ++ (tail ++ r)) (map_types_are (a.next + 2) (at + map_size m) ms)
    ∙ sym (append_assoc a.types tail (types_of (a.next + 2) ms))

-- how far one map moves the builder at the most
pub map_grows : (b : BtfBuilder) (d : MapDecl) (name : List ℕ) → length (written name) ≤ 64
    → ((map_built b (as_map d name)).strings ≤ b.strings + 92) × ((map_built b (as_map d name)).next_type_id ≤ b.next_type_id + 8)
map_grows b d name h =
    let e = struct_end_lem b d in
    (omega (arith, e.strings, map_strings_lem b d name), omega (arith, e.next, map_next b d name))

module _ (text : List ℕ) (ms : List NamedMap) where
  abbrev map_at : ℕ → Map
  map_at i = map_in text (get_or ms i no_map)

  abbrev rest_at : BtfBuilder → ℕ → List ℕ
  rest_at b i = bytes_at b.strings (types_of b.next_type_id (drop i (maps_in text ms)))

  -- the types before map `i` are written, and the builder is `b`
  pub record TypesTurn (b₀ : BtfBuilder) (out₀ out : List ℕ) (b : BtfBuilder) (i : ℕ) : Type 0 where
    pub there : MapsThere text ms
    pub few : i ≤ length ms
    pub stage : Stage out₀ b₀.at (rest_at b₀ 0) out b (rest_at b i) (92 * (length ms - i)) (8 * (length ms - i))
    pub strings_small : b.strings ≤ b₀.strings + 92 * i
    pub next_small : b.next_type_id ≤ b₀.next_type_id + 8 * i
    pub built : maps_built b₀ (maps_in text ms) ≡ maps_built b (drop i (maps_in text ms))

  pub types_start : (b : BtfBuilder) (out : List ℕ) → MapsThere text ms → Within (moved b (length (rest_at b 0)) (92 * length ms) (8 * length ms)) (length out)
      → TypesTurn b out out b 0
  types_start b out m w =
      record { there = m; few = omega arith; stage = stage_start out (rest_at b 0) b (92 * (length ms - 0)) (8 * (length ms - 0)) within; strings_small = omega arith; next_small = omega arith; built = refl }
    where
      within : Within (moved b (length (rest_at b 0)) (92 * (length ms - 0)) (8 * (length ms - 0))) (length out)
      within = record { at = w.at; strings = omega (arith, w.strings); next = omega (arith, w.next) }

  module _ {b₀ : BtfBuilder} {out₀ out : List ℕ} {b : BtfBuilder} {i : ℕ} (t : TypesTurn b₀ out₀ out b i) (h : i < length ms) where
    abbrev here : List ℕ
    here = bytes_at b.strings (one_map b.next_type_id (map_at i))

    abbrev behind : List ℕ
    behind = rest_at (map_built b (map_at i)) (i + 1)

    rest_is : rest_at b i ≡ here ++ behind
    rest_is =
        ap (λ (ms : List Map). bytes_at b.strings (types_of b.next_type_id ms)) (maps_from text ms i h)
        ∙ bytes_append b.strings (one_map b.next_type_id (map_at i))
        (types_of ((attributes b.next_type_id (map_at i)).next + 2) (drop (i + 1) (maps_in text ms)))

    pub types_room : Within (moved b (length here) 92 8) (length out)
    types_room = stage_within here behind 92 8 (stage_as (here ++ behind) rest_is t.stage) (omega arith) (omega arith)

    pub types_on : (out' : List ℕ) (b' : BtfBuilder) → out' ≡ over out b.at here → b' ≡ map_built b (map_at i) → TypesTurn b₀ out₀ out' b' (i + 1)
    types_on out' b' e q =
        let short = written_most text (get_or ms i no_map).name (t.there.named i h) in
        let g = map_grows b (get_or ms i no_map).decl (map_at i).name short in
        rw q
        (record {
          there = t.there;
          few = omega arith;
          stage =
              stage_on here behind out' (map_built b (map_at i)) (92 * (length ms - (i + 1))) (8 * (length ms - (i + 1)))
              (stage_as (here ++ behind) rest_is t.stage) e refl (omega (arith, g.0)) (omega (arith, g.1));
          strings_small = omega (arith, g.0, t.strings_small);
          next_small = omega (arith, g.1, t.next_small);
          built = t.built ∙ ap (λ (ms : List Map). maps_built b ms) (maps_from text ms i h);
        })

  pub types_done : {b₀ : BtfBuilder} {out₀ out : List ℕ} {b : BtfBuilder} {i : ℕ} → TypesTurn b₀ out₀ out b i → length ms ≤ i
      → (out ≡ over out₀ b₀.at (rest_at b₀ 0)) × (b ≡ maps_built b₀ (maps_in text ms))
      × (b.strings ≤ b₀.strings + 92 * length ms) × (b.next_type_id ≤ b₀.next_type_id + 8 * length ms)
  types_done {b = b} {i = i} t h =
      let e = maps_end text ms i h in (
        stage_done (stage_as [] (ap (λ (ms : List Map). bytes_at b.strings (types_of b.next_type_id ms)) e) t.stage),
        sym (t.built ∙ ap (λ (ms : List Map). maps_built b ms) e),
        omega (arith, t.strings_small, t.few),
        omega (arith, t.next_small, t.few),
      )

-- the builder after maps
pub maps_built_lem : (b : BtfBuilder) (ms : List Map)
    → ((maps_built b ms).at ≡ b.at + length (bytes_at b.strings (types_of b.next_type_id ms))) × ((maps_built b ms).strings ≡ past b.strings (types_of b.next_type_id ms))
maps_built_lem b [] = (omega arith, refl)
maps_built_lem b (m ∷ ms) =
    let ts = one_map b.next_type_id m in
    let us = types_of ((attributes b.next_type_id m).next + 2) ms in
    let r = maps_built_lem (map_built b m) ms in (
      omega (arith, r.0, ap length (bytes_append b.strings ts us), length-append (bytes_at b.strings ts) (bytes_at (past b.strings ts) us)),
      r.1 ∙ sym (past-append b.strings ts us),
    )
