-- `octets::put_fields` meets its contract. Assumes nothing.
use mathlib.Core.Path.{◌≡◌, sym, ◌∙◌}
use mathlib.Core.List.{[]}
use Rattle.octets.proofs.Filling.{fill_start, fill_as, fill_done, field_room, field_on}
use Rattle.octets.proofs.Laws.{fields_length, fields_done}
use Rattle.std.proofs.lemmas.Slice.Zip.{either_empty_from_Zip}
use Rattle.octets.proofs.put_fields.Goals as goal

pub loop-width-init : goal.loop-width-init
loop-width-init c =
    let a = c.args in
    let at = c.into_iter-width-iterator.result in
    let widths : at.a.rest.now ≡ a.widths.now = cc in
    let values : at.b.rest.now ≡ a.values.now = cc in
    rw (widths, values) (fill_start _ a.out.now (c.requires.out_len ∙ sym (fields_length a.widths.now a.values.now c.requires.widths_len)))

pub put_at-requires : goal.put_at-requires
put_at-requires c = field_room c.in-Some.ensures.steps.0 c.in-Some.ensures.steps.1 c.loop-width.invariant

pub loop-width-preserved : goal.loop-width-preserved
loop-width-preserved c = field_on c.in-Some.ensures.steps.0 c.in-Some.ensures.steps.1 c.loop-width.invariant c.put_at.ensures

pub returns : goal.returns
returns c = fill_done (fill_as [] (fields_done _ _ (either_empty_from_Zip _ c.next.new.self _ c.in-None.is c.next.ensures.steps)) c.loop-width.invariant)
