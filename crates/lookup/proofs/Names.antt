-- Laws for the walk over the maps' names, from the last to the first.
use mathlib.Core.Path.{◌≡◌, sym, ◌∙◌, ap}
use mathlib.Core.Bool.{Bool, true, false}
use mathlib.Core.Option.{some}
use mathlib.Core.List.{List, [], ◌∷◌, ◌++◌}
use Prim.Native.Nat.{ℕ, suc, ◌+◌, ◌-◌, ◌*◌, ◌≤◌, ◌<◌}
use native.Mathlib.Omega.{arith}
use lib.ListN.{length, take, drop, get_or}
use Rattle.octets.specs.Octets.{equal}
use Rattle.lines.specs.Hex.{is_hex, bytes_in}
use Rattle.lines.proofs.Same.{equal_hex}
use Rattle.ast.specs.Job.{last_map}
use Rattle.ast.specs.declared.Name.{Name}
use Rattle.ast.specs.declared.NamedMap.{NamedMap}
use Rattle.ast.proofs.Last.{last_is, last_not}
use Rattle.object.specs.Tables.{no_map}
use Rattle.object.specs.Read.{map_in, maps_in}
use Rattle.object.proofs.Read.{maps_more, count_maps}
use Rattle.lookup.specs.Names.{Names}

module _ (text : List ℕ) (ms : List NamedMap) (name : List ℕ) (known : Names text ms) (hex : is_hex name ≡ true) (i : ℕ) (some_left : 0 < i) (below : i ≤ length ms) where
  abbrev pub own : Name
  own = (get_or ms (i - 1) no_map).name

  one_less : maps_in text (take i ms) ≡ maps_in text (take (suc (i - 1)) ms)
  one_less = let e : i ≡ suc (i - 1) = omega arith in ap (λ (k : ℕ). maps_in text (take k ms)) e

  same_name : (b : Bool) → b ≡ equal name (take (own.at + 2 * own.len - own.at) (drop own.at text))
      → equal (bytes_in name) (bytes_in (take (2 * own.len) (drop own.at text))) ≡ b
  same_name b e =
      let n : own.at + 2 * own.len - own.at ≡ 2 * own.len = omega arith in
      equal_hex name _ hex (known (i - 1) (omega arith)).hex ∙ sym (rw n at e)

  more : maps_in text (take (suc (i - 1)) ms) ≡ maps_in text (take (i - 1) ms) ++ (map_in text (get_or ms (i - 1) no_map) ∷ [])
  more = maps_more text ms (i - 1) (omega arith)

  -- the map before `i` has the name
  pub here : true ≡ equal name (take (own.at + 2 * own.len - own.at) (drop own.at text)) → last_map (bytes_in name) (maps_in text (take i ms)) ≡ some (i - 1)
  here e =
      ap (last_map (bytes_in name)) (one_less ∙ more)
      ∙ last_is (bytes_in name) (maps_in text (take (i - 1) ms)) (map_in text (get_or ms (i - 1) no_map)) (same_name true e)
      ∙ ap some (count_maps text ms (i - 1) (omega arith))

  -- or it has not, and the walk goes on without it
  pub not_here : false ≡ equal name (take (own.at + 2 * own.len - own.at) (drop own.at text))
      → last_map (bytes_in name) (maps_in text (take i ms)) ≡ last_map (bytes_in name) (maps_in text (take (i - 1) ms))
  not_here e =
      ap (last_map (bytes_in name)) (one_less ∙ more) ∙ last_not (bytes_in name) (maps_in text (take (i - 1) ms)) (map_in text (get_or ms (i - 1) no_map)) (same_name false e)
