-- `frames::read_attrs` meets its contract. Assumes nothing.
use mathlib.Core.Path.{sym, ◌∙◌, ap}
use lib.ListN.{drop}
use Rattle.octets.specs.Told.{told}
use Rattle.octets.proofs.Told.{told-there, told_none}
use Rattle.lines.specs.Bytes.{bytes}
use Rattle.frames.specs.Attrs.{attr_is}
use Rattle.frames.proofs.Laws.{attrs_no_key, attrs_no_value, attrs_types}
use Rattle.frames.proofs.read_attrs.Goals as goal

pub returns-in_default-clause-result_value : goal.returns-in_default-clause-result_value
returns-in_default-clause-result_value c =
    let bs = bytes c.args.line in
    let r = c.read_attr-first in
    let e = told_none 3 3 _ (sym (ap (attr_is bs r.result.next) c.in_default.is) ∙ r.ensures.result_value) in
    ap (told 3) (attrs_no_key c.args.map_type c.args.p (drop 3 bs) (sym e))

pub returns-in_default-value-clause-result_value : goal.returns-in_default-value-clause-result_value
returns-in_default-value-clause-result_value c =
    let bs = bytes c.args.line in
    let q = c.read_attr-first in
    let r = c.read_attr-second in
    let f = told-there 3 _ _ (sym (ap (attr_is bs q.result.next) c.in-Some.is) ∙ q.ensures.result_value) in
    let e = told_none 3 3 _ (sym (ap (attr_is bs r.result.next) c.in_default-value.is) ∙ r.ensures.result_value) in
    ap (told 3) (attrs_no_value c.args.map_type c.args.p (drop 3 bs) _ (sym f) (sym e))

pub returns-clause-result_value : goal.returns-clause-result_value
returns-clause-result_value c =
    let bs = bytes c.args.line in
    let q = c.read_attr-first in
    let r = c.read_attr-second in
    let f = told-there 3 _ _ (sym (ap (attr_is bs q.result.next) c.in-Some.is) ∙ q.ensures.result_value) in
    let g = told-there 3 _ _ (sym (ap (attr_is bs r.result.next) c.in-Some-value.is) ∙ r.ensures.result_value) in
    c.read_entries.ensures.result_value ∙ ap (told 3) (attrs_types c.args.map_type c.args.p (drop 3 bs) _ (sym f) _ (sym g))
