-- `spans::maps_size` meets its contract. Assumes nothing.
use mathlib.Core.Path.{◌≡◌}
use Prim.Native.Nat.{◌+◌, ◌*◌, ◌≤◌}
use lib.ListN.{length, drop}
use Rattle.members.specs.Section.{rooms_of}
use Rattle.spans.proofs.maps_size.Given as goal

abbrev pub invariant-loop-map : goal.invariant-loop-map
invariant-loop-map l =
    (length l.maps ≤ 64) × (l.size ≤ 32 * l.map-index) × (rooms_of l.maps ≡ l.size + rooms_of (drop l.map-index l.maps))
