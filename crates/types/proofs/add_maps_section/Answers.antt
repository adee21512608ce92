-- `types::add_maps_section` meets its contract: the section's head and its entries. Assumes nothing.
use mathlib.Core.Path.{refl, ◌∙◌, ap}
use mathlib.Core.List.{[], ◌∷◌}
use Prim.Native.Nat.{◌+◌}
use native.Mathlib.Omega.{arith}
use lib.ListN.{length}
use Rattle.octets.specs.Over.{over}
use Rattle.octets.proofs.Filling.{over_two}
use Rattle.btf.specs.declared.BtfBuilder.{BtfBuilder}
use Rattle.btf.specs.Btf.{info}
use Rattle.btf.specs.Builder.{words}
use Rattle.members.specs.Section.{rooms_of, entries_bytes}
use Rattle.spans.proofs.Decls.{head_left}
use Rattle.types.proofs.add_maps_section.Goals as goal

pub returns : goal.returns
returns c =
    let head = (let a = c.args in head_left a.out.now _ a.b.at a.b.strings (length a.maps.now) c.maps_size-size.result (rooms_of a.maps.now) c.add_datasec-begun.ensures.out_after c.maps_size-size.ensures.value) in
    let a = c.args in
    let u = entries_bytes 6 0 a.maps.now in
    over_two a.out.now a.b.at (words (a.b.strings ∷ info 15 (length a.maps.now) ∷ rooms_of a.maps.now ∷ [])) u _ _ (a.b.at + 12) (omega (arith, c.requires.within.at))
    (head) refl
    (c.add_entries.ensures ∙ ap (λ (b : BtfBuilder). over c.add_datasec-begun.new.out b.at u) c.add_datasec-begun.ensures.value)
