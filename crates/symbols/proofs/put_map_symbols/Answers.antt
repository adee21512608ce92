-- `symbols::put_map_symbols` meets its contract. Assumes nothing.
use mathlib.Core.Path.{refl}
use Prim.Native.Nat.{◌+◌}
use lib.ListN.{get_or}
use Rattle.octets.proofs.Filling.{over-part}
use Rattle.object.specs.Tables.{no_map}
use Rattle.strtab.proofs.Rows.{map_start, map_on, map_done, entry_here}
use Rattle.symbols.proofs.put_map_symbols.Goals as goal

pub loop-map-init : goal.loop-map-init
loop-map-init c = map_start c.args.text.now c.args.maps.now c.args.out.now c.requires.maps_in_bounds

pub loop-map-preserved : goal.loop-map-preserved
loop-map-preserved c =
    let l = c.loop-map in
    let text = c.args.text.now in
    let ms = c.args.maps.now in
    let size = c.btf_map_size-size.result in
    let e = over-part l.out l.at (l.at + 24) _ (entry_here text ms l.place l.value size (get_or ms l.map-index no_map)) refl c.put.ensures in
    map_on text ms c.requires.maps_there _ size c.written_size.result l.invariant c.loop-map-test.true c.btf_map_size-size.ensures c.written_size.ensures.value e

pub returns-clause-out_after : goal.returns-clause-out_after
returns-clause-out_after c = (map_done c.args.text.now c.args.maps.now c.loop-map.invariant c.loop-map-test.false).0

pub returns-clause-value : goal.returns-clause-value
returns-clause-value c = (map_done c.args.text.now c.args.maps.now c.loop-map.invariant c.loop-map-test.false).1
