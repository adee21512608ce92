-- `members::add_attributes` meets its contract: four pieces. Assumes nothing.
use mathlib.Core.Path.{refl, sym, ◌∙◌, ap}
use mathlib.Core.List.{[], append-nil}
use Prim.Native.Nat.{ℕ}
use Rattle.octets.specs.Over.{over}
use Rattle.octets.proofs.Going.{go_start, go_as, go_on, go_done}
use Rattle.ast.specs.Numbers.{map_type_number}
use Rattle.members.specs.Attributes.{pointer_bytes, number_bytes, attr_bytes, attr_passed, type_passed, key_passed, value_passed, attrs_bytes}
use Rattle.members.proofs.Attributes.{attr_on}
use Rattle.members.proofs.add_attributes.Goals as goal

pub returns-clause-out_after : goal.returns-clause-out_after
returns-clause-out_after c =
    let a = c.args in
    let key = c.add_types-with_type.ensures.value in
    let value = c.add_attr-with_key.ensures.value ∙ ap (attr_passed pointer_bytes 1 a.map.key_type) key in
    let entries = c.add_attr-with_value.ensures.value ∙ ap (attr_passed pointer_bytes 1 a.map.value_type) value in
    let last = attr_bytes number_bytes (value_passed a.b a.map).next_type_id a.map.max_entries in
    let typed =
    go_on (number_bytes a.b.next_type_id (map_type_number a.map.map_type)) _ _ (type_passed a.b).at (go_start a.out.now a.b.at (attrs_bytes a.b a.map) c.requires.at)
    (c.add_types-with_type.ensures.out_after ∙ ap (λ (n : ℕ). over a.out.now a.b.at (number_bytes a.b.next_type_id n)) c.map_type_num.ensures) refl in
    let keyed = attr_on pointer_bytes 1 (type_passed a.b) _ a.map.key_type _ _ typed key c.add_attr-with_key.ensures.out_after in
    let valued = attr_on pointer_bytes 1 (key_passed a.b a.map) _ a.map.value_type last _ keyed value c.add_attr-with_value.ensures.out_after in
    (go_done (attr_on number_bytes 2 (value_passed a.b a.map) _ a.map.max_entries [] _ (go_as _ (sym (append-nil last)) valued) entries c.add_attr.ensures.out_after)).0
