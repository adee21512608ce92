-- What is known of the maps of an accepted job: there are at most 64, and each one's name is in the text.
use Rattle.std.specs.Prelude.{List, ℕ, ◌≤◌, length}
use Rattle.ast.specs.declared.NamedMap.{NamedMap}
use Rattle.object.specs.Kept.{MapsNamed}

pub record MapsThere (text : List ℕ) (ms : List NamedMap) : Type 0 where
  pub few : length ms ≤ 64
  pub named : MapsNamed text ms
