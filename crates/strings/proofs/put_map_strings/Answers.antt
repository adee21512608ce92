-- `strings::put_map_strings` meets its contract. Assumes nothing.
use mathlib.Core.Path.{sym}
use mathlib.Core.List.{[], ◌∷◌, ◌++◌, append-nil}
use Rattle.octets.proofs.Going.{go_start, go_as, go_on, go_done}
use Rattle.written.specs.Written.{written}
use Rattle.object.specs.Read.{name_in}
use Rattle.members.specs.Strings.{attr_names}
use Rattle.strings.proofs.put_map_strings.Goals as goal

pub returns-clause-out_after : goal.returns-clause-out_after
returns-clause-out_after c =
    let a = c.args in
    let names = attr_names a.map.decl.key_type a.map.decl.value_type a.map.decl.max_entries in
    let own = written (name_in a.text.now a.map.name) ++ (0 ∷ []) in
    let start = go_start a.out.now a.at (names ++ own) c.requires.len_in_bounds in
    let named = go_on names own _ _ start c.put_attribute_names-end.ensures.out_after c.put_attribute_names-end.ensures.value in
    (go_done (go_on own [] _ _ (go_as _ (sym (append-nil own)) named) c.put_written.ensures.out_after c.put_written.ensures.value)).0
