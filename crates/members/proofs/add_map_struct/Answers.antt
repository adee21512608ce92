-- `members::add_map_struct` meets its contract. Assumes nothing.
use native.Mathlib.Omega.{arith}
use Rattle.members.proofs.MemberRows.{struct_left}
use Rattle.members.proofs.add_map_struct.Goals as goal

pub returns-clause-out_after : goal.returns-clause-out_after
returns-clause-out_after c =
    let a = c.args in
    struct_left a.out.now _ _ a.b c.add_struct.result a.first c.btf_map_size-size.result a.map (omega (arith, c.requires.within.at)) c.add_struct.ensures.out_after
    c.add_struct.ensures.value c.btf_map_size-size.ensures c.add_all-done.ensures.out_after
