-- `types::add_map` meets its contract. Assumes nothing.
use mathlib.Core.Path.{ap}
use Prim.Native.Nat.{◌-◌}
use native.Mathlib.Omega.{arith}
use Rattle.object.specs.Read.{name_in}
use Rattle.btf.specs.declared.BtfBuilder.{BtfBuilder}
use Rattle.members.proofs.OneMap.{map_length, struct_end_lem, map_left}
use Rattle.types.proofs.add_map.Goals as goal

pub returns-clause-out_after : goal.returns-clause-out_after
returns-clause-out_after c =
    let a = c.args in
    let name = name_in a.text.now a.map.name in
    let n = map_length a.b a.map.decl name in
    let ended = c.add_btf_map_struct-done.ensures.value in
    let done = c.add_btf_map_struct-done.result in
    map_left a.b a.map.decl name a.out.now _ _ done (done.next_type_id - 1) (omega (arith, c.requires.within.at)) ended
    (omega (arith, (struct_end_lem a.b a.map.decl).some, ap (λ (b : BtfBuilder). b.next_type_id) ended))
    c.add_btf_map_struct-done.ensures.out_after c.add_var.ensures.out_after
