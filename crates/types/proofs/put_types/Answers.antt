-- `types::put_types` meets its contract: three pieces. Assumes nothing.
use Rattle.spans.proofs.AllTypes.{maps_room, section_room, types_left}
use Rattle.types.proofs.put_types.Goals as goal

pub add_maps-done-requires : goal.add_maps-done-requires
add_maps-done-requires c =
    let a = c.args in record {
      maps_there = c.requires.maps_there;
      within = maps_room a.text.now a.maps.now c.requires.maps_there a.out.now c.requires.out_len _ c.add_ints-ints.result c.add_ints-ints.ensures.out_after
          c.add_ints-ints.ensures.value;
    }

pub add_maps_section-requires : goal.add_maps_section-requires
add_maps_section-requires c =
    let a = c.args in
    let m = c.requires.maps_there in record {
      few = m.few;
      within = section_room a.text.now a.maps.now m a.out.now c.requires.out_len _ c.add_ints-ints.result c.add_ints-ints.ensures.out_after
          c.add_ints-ints.ensures.value _ c.add_maps-done.result c.add_maps-done.ensures.out_after c.add_maps-done.ensures.value c.add_maps-done.ensures.strings_bound;
    }

pub returns : goal.returns
returns c =
    let a = c.args in
    types_left a.text.now a.maps.now c.requires.maps_there a.out.now c.requires.out_len _ c.add_ints-ints.result c.add_ints-ints.ensures.out_after
    c.add_ints-ints.ensures.value _ c.add_maps-done.result c.add_maps-done.ensures.out_after c.add_maps-done.ensures.value c.add_maps-done.ensures.strings_bound _ c.add_maps_section.ensures
