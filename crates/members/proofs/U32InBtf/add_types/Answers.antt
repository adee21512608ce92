-- The types of a number are an array and a pointer. Assumes nothing.
use mathlib.Core.Path.{refl, ◌∙◌, ap}
use mathlib.Core.List.{[]}
use Prim.Native.Nat.{◌+◌}
use native.Mathlib.Omega.{arith}
use Rattle.octets.specs.Over.{over}
use Rattle.octets.proofs.Filling.{over_two}
use Rattle.btf.specs.declared.BtfBuilder.{BtfBuilder}
use Rattle.btf.specs.Btf.{ptr, array, type_bytes}
use Rattle.btf.specs.Maps.{int_id}
use Rattle.members.proofs.U32InBtf.add_types.Goals as goal

pub returns-clause-out_after : goal.returns-clause-out_after
returns-clause-out_after c =
    let a = c.args in
    over_two a.out.now a.b.at (type_bytes [] (array int_id int_id a.self)) (type_bytes [] (ptr a.b.next_type_id)) _ _ (a.b.at + 24) (omega (arith, c.requires.at))
    c.add_array-next.ensures.out_after refl
    (c.add_ptr.ensures.out_after ∙ ap (λ (b : BtfBuilder). over c.add_array-next.new.out b.at (type_bytes [] (ptr a.b.next_type_id))) c.add_array-next.ensures.value)
