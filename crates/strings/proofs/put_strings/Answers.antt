-- `strings::put_strings` meets its contract: three pieces. Assumes nothing.
use Rattle.object.specs.Read.{maps_in}
use Rattle.spans.proofs.StringRows.{table_left}
use Rattle.strings.proofs.put_strings.Goals as goal

pub returns : goal.returns
returns c =
    let a = c.args in
    let ms = maps_in a.text.now a.maps.now in
    table_left ms a.out.now c.requires.out_len _ c.copy.ensures _ c.put_maps_strings-end.result c.put_maps_strings-end.ensures.out_after c.put_maps_strings-end.ensures.value _
    c.put_string_at.ensures.out_after
