-- `members::add_btf_map_struct` meets its contract. Assumes nothing.
use mathlib.Core.Path.{sym}
use Rattle.members.proofs.OneMap.{pieces_left, pieces_room}
use Rattle.members.proofs.add_btf_map_struct.Goals as goal

pub add_map_struct-requires-clause-within : goal.add_map_struct-requires-clause-within
add_map_struct-requires-clause-within c =
    let first = c.add_attributes-with_types in
    pieces_room c.args.b first.result c.args.map _ _ c.requires (sym first.auto.out) first.ensures.value

pub returns-clause-out_after : goal.returns-clause-out_after
returns-clause-out_after c =
    let a = c.args in
    let e = c.add_attributes-with_types.ensures in
    pieces_left a.b c.add_attributes-with_types.result a.map a.out.now _ _ c.requires.at e.value e.out_after c.add_map_struct.ensures.out_after
