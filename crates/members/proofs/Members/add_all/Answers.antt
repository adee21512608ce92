-- `members::Members::add_all` meets its contract: four pieces. Assumes nothing.
use mathlib.Core.Path.{refl, sym, ◌∙◌, ap}
use mathlib.Core.List.{[], append-nil}
use Rattle.octets.proofs.Going.{go_start, go_as, go_on, go_done}
use Rattle.members.specs.Members.{value_member, attr_member, attr_membered, type_done, key_done, value_done, members_bytes}
use Rattle.members.proofs.MemberRows.{member_on}
use Rattle.members.proofs.Members.add_all.Goals as goal

pub returns-clause-out_after : goal.returns-clause-out_after
returns-clause-out_after c =
    let a = c.args in
    let key = c.add_member-with_type.ensures.value in
    let value = c.add_attr-with_key.ensures.value ∙ ap (attr_membered 4 1 a.map.key_type) key in
    let entries = c.add_attr-with_value.ensures.value ∙ ap (attr_membered 6 1 a.map.value_type) value in
    let last = attr_member 2 a.map.max_entries (value_done a.self a.map) in
    let typed =
    go_on (value_member 2 a.self) _ _ (type_done a.self).builder.at (go_start a.out.now a.self.builder.at (members_bytes a.self a.map) c.requires.at)
    c.add_member-with_type.ensures.out_after refl in
    let keyed = member_on 4 1 (type_done a.self) _ a.map.key_type _ _ typed key c.add_attr-with_key.ensures.out_after in
    let valued = member_on 6 1 (key_done a.self a.map) _ a.map.value_type last _ keyed value c.add_attr-with_value.ensures.out_after in
    (go_done (member_on 12 2 (value_done a.self a.map) _ a.map.max_entries [] _ (go_as _ (sym (append-nil last)) valued) entries c.add_attr.ensures.out_after)).0
