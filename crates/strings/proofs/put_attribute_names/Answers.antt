-- `strings::put_attribute_names` meets its contract: four pieces. Assumes nothing.
use mathlib.Core.Path.{sym}
use mathlib.Core.List.{[], ◌∷◌, ◌++◌, append-nil}
use Rattle.octets.specs.Octets.{ascii}
use Rattle.octets.proofs.Going.{go_start, go_as, go_on, go_done}
use Rattle.members.specs.Strings.{attr_name, attr_names}
use Rattle.strings.proofs.put_attribute_names.Goals as goal

pub returns-clause-out_after : goal.returns-clause-out_after
returns-clause-out_after c =
    let a = c.args in
    let d = a.map in
    let value = attr_name d.value_type (ascii "value") in
    let last = attr_name d.max_entries (ascii "max_entries") in
    let start = go_start a.out.now a.at (attr_names d.key_type d.value_type d.max_entries) c.requires in
    let typed =
    go_on (ascii "type" ++ (0 ∷ [])) (attr_name d.key_type (ascii "key") ++ (value ++ last)) _ _ start c.put_string_at-with_type.ensures.out_after
    c.put_string_at-with_type.ensures.value in
    let keyed = go_on _ (value ++ last) _ _ typed c.put_attr_name-with_key.ensures.out_after c.put_attr_name-with_key.ensures.value in
    let valued = go_on value last _ _ keyed c.put_attr_name-with_value.ensures.out_after c.put_attr_name-with_value.ensures.value in
    (go_done (go_on last [] _ _ (go_as _ (sym (append-nil last)) valued) c.put_attr_name.ensures.out_after c.put_attr_name.ensures.value)).0
