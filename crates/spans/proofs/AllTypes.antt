-- All types of the section: the ints, those of the maps, and the section `.maps`, as the definition has them.
use mathlib.Core.Path.{◌≡◌, refl, sym, ◌∙◌, ap, subst}
use mathlib.Core.List.{List, [], ◌∷◌, ◌++◌, append-nil}
use Prim.Native.Nat.{ℕ, ◌+◌, ◌*◌, ◌≤◌}
use native.Mathlib.Omega.{arith}
use lib.ListN.{length, length-append}
use Rattle.octets.specs.Over.{over}
use Rattle.octets.specs.Octets.{ascii}
use Rattle.octets.proofs.Laws.{read_done}
use Rattle.octets.proofs.Going.{Going, go_start, go_as, go_room, go_on, go_done}
use Rattle.ast.specs.Job.{Map}
use Rattle.ast.specs.declared.NamedMap.{NamedMap}
use Rattle.object.specs.Read.{maps_in}
use Rattle.object.proofs.Read.{maps_length}
use Rattle.named.specs.There.{MapsThere}
use Rattle.btf.specs.declared.BtfBuilder.{BtfBuilder}
use Rattle.btf.specs.Btf.{BtfType, datasec, var_bytes}
use Rattle.btf.specs.Maps.{int_types, map_types, btf_types}
use Rattle.btf.specs.Builder.{moved, bytes_at, past, Within}
use Rattle.btf.proofs.MapTypes.{count_vars}
use Rattle.btf.proofs.Builder.{bytes_append}
use Rattle.members.specs.Section.{types_of, maps_built, ints_built, rooms_of, section_bytes}
use Rattle.spans.proofs.TypeRows.{map_types_are, maps_built_lem}
use Rattle.spans.proofs.Decls.{rooms_size, entries_are, length_entries}

-- a list written over another of the same length
pub over-all : (d s : List ℕ) → length d ≡ length s → over d 0 s ≡ s
unfolding over
over-all d s e = rw (read_done d (0 + length s) (omega arith)) (append-nil s)

module _ (text : List ℕ) (ms : List NamedMap) (m : MapsThere text ms) where
  abbrev all : List Map
  all = maps_in text ms

  pub maps_count : length all ≡ length ms
  maps_count = maps_length text ms

  -- `.maps` is as long as the maps' room
  pub size_is : (map_types 6 0 all).size ≡ rooms_of ms
  size_is = rooms_size text 6 0 ms ∙ omega arith

  section_is : (n : ℕ) → bytes_at n (datasec (ascii ".maps") (map_types 6 0 all).size (map_types 6 0 all).vars ∷ []) ≡ section_bytes n ms
  section_is n =
      let vars : length (map_types 6 0 all).vars ≡ length ms = count_vars 6 0 all ∙ maps_count in
      let bytes = entries_are text 6 0 ms in
      rw (vars, size_is, append-nil (var_bytes (map_types 6 0 all).vars), append-nil (var_bytes (map_types 6 0 all).vars), bytes)

  abbrev pub maps_part : List ℕ
  maps_part = bytes_at 21 (types_of 6 all)

  abbrev pub section_part : List ℕ
  section_part = section_bytes (maps_built ints_built all).strings ms

  pub types_are : bytes_at 1 (btf_types all) ≡ bytes_at 1 int_types ++ (maps_part ++ section_part)
  types_are =
      let last = datasec (ascii ".maps") (map_types 6 0 all).size (map_types 6 0 all).vars ∷ [] in
      ap (λ (ts : List BtfType). bytes_at 1 (int_types ++ (ts ++ last))) (map_types_are 6 0 all)
      ∙ ap (λ (r : List ℕ). bytes_at 1 int_types ++ r)
      (bytes_append 21 (types_of 6 all) last ∙ ap (λ (r : List ℕ). maps_part ++ r) (section_is (past 21 (types_of 6 all)) ∙ ap (λ (n : ℕ). section_bytes n ms) (sym (maps_built_lem ints_built all).1)))

  pub length_section : length section_part ≡ 12 + 12 * length ms
  length_section = omega (arith, length_entries 6 0 ms)

  -- ---- what each call leaves

  abbrev whole : List ℕ
  whole = bytes_at 1 (btf_types all)

  module _ (out : List ℕ) (same : length out ≡ length whole) where
    pub ints_room : 80 ≤ length out
    ints_room = omega (arith, ap length types_are, length-append (bytes_at 1 int_types) (maps_part ++ section_part))

    module _ (out₁ : List ℕ) (b₁ : BtfBuilder) (e₁ : out₁ ≡ over out 0 (bytes_at 1 int_types)) (q₁ : b₁ ≡ ints_built) where
      ints_left : Going out 0 whole out₁ 80 (maps_part ++ section_part)
      ints_left =
          go_on (bytes_at 1 int_types) (maps_part ++ section_part) out₁ 80 (go_as (bytes_at 1 int_types ++ (maps_part ++ section_part)) types_are (go_start out 0 whole (omega arith))) e₁ refl

      pub maps_room : Within (moved b₁ (length (bytes_at b₁.strings (types_of b₁.next_type_id all))) (92 * length ms) (8 * length ms)) (length out₁)
      maps_room =
          subst (λ (b : BtfBuilder). Within (moved b (length (bytes_at b.strings (types_of b.next_type_id all))) (92 * length ms) (8 * length ms)) (length out₁)) (sym q₁)
          (record { at = go_room maps_part section_part ints_left; strings = omega (arith, m.few); next = omega (arith, m.few) })

      module _ (out₂ : List ℕ) (b₂ : BtfBuilder) (e₂ : out₂ ≡ over out₁ b₁.at (bytes_at b₁.strings (types_of b₁.next_type_id all))) (q₂ : b₂ ≡ maps_built b₁ all)
          (s₂ : (b₂.strings ≤ b₁.strings + 92 * length ms) × (b₂.next_type_id ≤ b₁.next_type_id + 8 * length ms)) where
        end_is : b₂ ≡ maps_built ints_built all
        end_is = q₂ ∙ ap (λ (b : BtfBuilder). maps_built b all) q₁

        maps_left : Going out 0 whole out₂ (maps_built ints_built all).at (section_part ++ [])
        maps_left =
            go_as (section_part ++ []) (sym (append-nil section_part))
            (go_on maps_part section_part out₂ (maps_built ints_built all).at ints_left
            (e₂ ∙ ap (λ (b : BtfBuilder). over out₁ b.at (bytes_at b.strings (types_of b.next_type_id all))) q₁) (maps_built_lem ints_built all).0)

        pub section_room : Within (moved b₂ (12 + 12 * length ms) 6 1) (length out₂)
        section_room =
            let at = ap (λ (b : BtfBuilder). b.at) end_is in
            let s = ap (λ (b : BtfBuilder). b.strings) q₁ in
            let n = ap (λ (b : BtfBuilder). b.next_type_id) q₁ in
            record {
              at = omega (arith, go_room section_part [] maps_left, length_section);
              strings = omega (arith, m.few, s₂.0);
              next = omega (arith, m.few, s₂.1);
            }

        pub types_left : (out₃ : List ℕ) → out₃ ≡ over out₂ b₂.at (section_bytes b₂.strings ms) → out₃ ≡ whole
        types_left out₃ e₃ =
            (go_done
            (go_on section_part [] out₃ ((maps_built ints_built all).at + length section_part) maps_left
            (e₃ ∙ ap (λ (b : BtfBuilder). over out₂ b.at (section_bytes b.strings ms)) end_is) refl)).0
            ∙ over-all out whole same
