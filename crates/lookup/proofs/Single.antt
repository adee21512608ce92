-- Single outcomes: two outcomes that meet the promise of `find_map` are equal.
use mathlib.Core.Path.{◌≡◌, refl, sym, ◌∙◌}
use Rattle.std.specs.Prelude.{ℕ, Option, Some, None}
use Rattle.octets.proofs.Single.{OneResult}
use Rattle.lookup.specs.Names.{found_told}
use Rattle.lookup.proofs.find_map.Kinds as find_map_kinds
use Rattle.lookup.proofs.find_map.Reads as find_map

found_once : (r r' : Option ℕ) → found_told r ≡ found_told r' → r ≡ r'
found_once (Some i) (Some j) e = cc
found_once (Some i) None e = cc
found_once None (Some j) e = cc
found_once None None e = refl

find_map_single : OneResult find_map_kinds.ps find_map_kinds.r find_map.Post
find_map_single κs a z z' e e' p p' = found_once z z' (p.0 ∙ sym p'.0)
