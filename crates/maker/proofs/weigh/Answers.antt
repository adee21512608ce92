-- `maker::weigh` meets its contract. Assumes nothing.
use mathlib.Core.Path.{◌≡◌, sym, ◌∙◌, ap}
use native.Mathlib.Omega.{arith}
use lib.ListN.{length}
use Rattle.btf.specs.Btf.{add_types, start}
use Rattle.btf.specs.Maps.{btf_types}
use Rattle.btf.proofs.Types.{length-finished}
use Rattle.members.specs.Section.{rooms_of}
use Rattle.object.specs.Read.{declared_maps}
use Rattle.contents.proofs.Slots.{licence_length}
use Rattle.maker.proofs.Sizes.{rooms}
use Rattle.maker.proofs.weigh.Goals as goal

pub returns-clause-sizes_of : goal.returns-clause-sizes_of
returns-clause-sizes_of c =
    let text = c.args.text.now in
    let o = c.args.object.now in
    let b = c.btf_size-btf.ensures in
    let types : c.btf_size-btf.result.types ≡ length (add_types (btf_types (declared_maps text o)) start).types = rw c.maps-maps.ensures at b.types_value in
    let strings : c.btf_size-btf.result.strings ≡ length (add_types (btf_types (declared_maps text o)) start).strings = rw c.maps-maps.ensures at b.strings_value in
    record {
      license = licence_length text o.license c.requires.licence ∙ sym c.license_len.ensures;
      maps = rooms text o c.requires c.maps_size.result (c.maps_size.ensures.value ∙ ap rooms_of c.maps-maps.ensures);
      btf = omega (arith, length-finished (add_types (btf_types (declared_maps text o)) start), types, strings);
      strtab = sym c.strtab_size.ensures.value;
    }
