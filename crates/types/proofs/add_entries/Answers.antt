-- `types::add_entries` meets its contract. Assumes nothing.
use native.Mathlib.Omega.{arith}
use Rattle.spans.proofs.Decls.{entries_start, entry_room, entries_on, entries_done}
use Rattle.types.proofs.add_entries.Goals as goal

pub loop-map-init : goal.loop-map-init
loop-map-init c = let a = c.args in entries_start a.maps.now a.b a.out.now c.requires.few c.requires.within

pub loop-map-preserved : goal.loop-map-preserved
loop-map-preserved c =
    let l = c.loop-map in
    entries_on _ l.invariant (omega arith) _ c.add_entry-done.result c.var_id-id.result c.btf_map_size-size.result c.add_entry-done.ensures.out_after c.add_entry-done.ensures.value
    c.var_id-id.ensures.value c.var_id-id.ensures.upper_bound c.btf_map_size-size.ensures

pub returns : goal.returns
returns c = entries_done _ c.loop-map.invariant (omega arith)
