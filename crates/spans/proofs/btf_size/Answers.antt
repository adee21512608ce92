-- `spans::btf_size` meets its contract. Assumes nothing.
use native.Mathlib.Omega.{arith}
use Rattle.spans.proofs.Sizes.{size_start, size_on, size_done}
use Rattle.spans.proofs.btf_size.Goals as goal

pub loop-map-init : goal.loop-map-init
loop-map-init c = size_start c.args.text.now c.args.maps.now c.requires

pub loop-map-preserved : goal.loop-map-preserved
loop-map-preserved c =
    let l = c.loop-map in
    size_on _ _ c.map_span-types.result c.names_span.result c.written_size.result l.invariant (omega arith) c.map_span-types.ensures.value c.map_span-types.ensures.upper_bound
    c.names_span.ensures.value c.names_span.ensures.upper_bound c.written_size.ensures.value c.written_size.ensures.upper_bound

pub returns : goal.returns
returns c =
    let r = size_done _ _ c.loop-map.invariant (omega arith) in record {
      types_value = r.0;
      strings_value = r.1;
      strings_bound = r.2;
    }
