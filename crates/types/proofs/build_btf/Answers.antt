-- `types::build_btf` meets its contract: three parts. Assumes nothing.
use mathlib.Core.Path.{sym, ◌∙◌, ap}
use lib.ListN.{length}
use Rattle.btf.specs.Maps.{btf_types}
use Rattle.btf.specs.Builder.{bytes_at}
use Rattle.btf.proofs.Builder.{types_built}
use Rattle.object.specs.Read.{maps_in}
use Rattle.members.specs.Strings.{all_strings}
use Rattle.types.proofs.Whole.{section_is, types_part, strings-part, section_left}
use Rattle.types.proofs.build_btf.Goals as goal

pub put_types-requires : goal.put_types-requires
put_types-requires c =
    let ms = maps_in c.args.text.now c.args.maps.now in
    let types = bytes_at 1 (btf_types (ms)) in
    let strings = all_strings (ms) in
    let long = c.requires.types_value ∙ ap length (types_built (btf_types (ms))) in
    let same = c.requires.out_len ∙ ap length (section_is (ms)) in record {
      maps_there = c.requires.maps_there;
      out_len = types_part (types) (strings) c.args.types c.args.out.now (long) (same) _ c.put_header.ensures;
    }

pub put_strings-requires : goal.put_strings-requires
put_strings-requires c =
    let ms = maps_in c.args.text.now c.args.maps.now in
    let types = bytes_at 1 (btf_types (ms)) in
    let strings = all_strings (ms) in
    let long = c.requires.types_value ∙ ap length (types_built (btf_types (ms))) in
    let same = c.requires.out_len ∙ ap length (section_is (ms)) in record {
      maps_there = c.requires.maps_there;
      out_len = strings-part (types) (strings) c.args.types c.args.out.now (long) (same) _ c.put_header.ensures _ c.put_types.ensures;
    }

pub returns : goal.returns
returns c =
    let ms = maps_in c.args.text.now c.args.maps.now in
    let types = bytes_at 1 (btf_types (ms)) in
    let strings = all_strings (ms) in
    let long = c.requires.types_value ∙ ap length (types_built (btf_types (ms))) in
    let same = c.requires.out_len ∙ ap length (section_is (ms)) in
    section_left (types) (strings) c.args.types c.args.out.now (long) (same) _ c.put_header.ensures _ c.put_types.ensures _ c.put_strings.ensures
    ∙ sym (section_is (ms))
