-- `strings::put_maps_strings` meets its contract. Assumes nothing.
use native.Mathlib.Omega.{arith}
use Rattle.spans.proofs.StringRows.{strings-start, strings_room, strings_on, strings-done}
use Rattle.strings.proofs.put_maps_strings.Goals as goal

pub loop-map-init : goal.loop-map-init
loop-map-init c = strings-start c.args.text.now c.args.maps.now c.args.at c.args.out.now c.requires.maps_there c.requires.maps_in_bounds

pub put_map_strings-place-requires : goal.put_map_strings-place-requires
put_map_strings-place-requires c =
    let l = c.loop-map in record {
      named = l.invariant.there.named l.map-index (omega arith);
      len_in_bounds = strings_room _ _ l.invariant (omega arith);
    }

pub loop-map-preserved : goal.loop-map-preserved
loop-map-preserved c =
    let l = c.loop-map in
    strings_on _ _ l.invariant (omega arith) _ c.put_map_strings-place.result c.put_map_strings-place.ensures.out_after c.put_map_strings-place.ensures.value

pub returns : goal.returns
returns c = let both = strings-done _ _ c.loop-map.invariant (omega arith) in record {
  out_after = both.0;
  value = both.1;
}
