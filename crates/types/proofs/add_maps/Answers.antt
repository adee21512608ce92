-- `types::add_maps` meets its contract. Assumes nothing.
use native.Mathlib.Omega.{arith}
use Rattle.spans.proofs.TypeRows.{types_start, types_room, types_on, types_done}
use Rattle.types.proofs.add_maps.Goals as goal

pub loop-map-init : goal.loop-map-init
loop-map-init c = types_start c.args.text.now c.args.maps.now c.args.b c.args.out.now c.requires.maps_there c.requires.within

pub add_map-next-requires : goal.add_map-next-requires
add_map-next-requires c =
    let l = c.loop-map in record {
      named = l.invariant.there.named l.map-index (omega arith);
      within = types_room _ _ l.invariant (omega arith);
    }

pub loop-map-preserved : goal.loop-map-preserved
loop-map-preserved c =
    let l = c.loop-map in
    types_on _ _ l.invariant (omega arith) _ c.add_map-next.result c.add_map-next.ensures.out_after c.add_map-next.ensures.value

pub returns : goal.returns
returns c =
    let r = types_done _ _ c.loop-map.invariant (omega arith) in record {
      out_after = r.0;
      value = r.1;
      strings_bound = (r.2, r.3);
    }
