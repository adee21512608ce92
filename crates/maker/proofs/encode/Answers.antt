-- `maker::encode` meets its contract: the file header, the sections, the zeros after them, the section headers. Assumes nothing.
use mathlib.Core.Path.{◌≡◌, sym, ◌∙◌, ap}
use Prim.Native.Nat.{◌+◌, ◌-◌, ◌*◌, ◌≤◌}
use native.Mathlib.Omega.{arith}
use lib.ListN.{length}
use borrow.Rule.Slice.PartMut.{mid_len}
use Rattle.octets.specs.Octets.{zeros}
use Rattle.octets.proofs.Filling.{fill_left}
use Rattle.measure.specs.declared.Measured.{Measured}
use Rattle.maker.proofs.Sizes.{few_headers, ends_before, room_for, file_filled, sections_filled, padding_filled, headers_long, headers_filled}
use Rattle.maker.proofs.encode.Goals as goal

pub overflow_cast-count : goal.overflow_cast-count
overflow_cast-count c =
    let is = c.requires.measured_value in
    let few = few_headers c.args.text.now c.args.object.now c.requires.kept c.args.measured is in
    omega (arith, few)

pub overflow_cast-count-2 : goal.overflow_cast-count-2
overflow_cast-count-2 c =
    let is = c.requires.measured_value in
    let few = few_headers c.args.text.now c.args.object.now c.requires.kept c.args.measured is in
    omega (arith, few)

pub write_sections-end-requires : goal.write_sections-end-requires
write_sections-end-requires c =
    let is = c.requires.measured_value in
    let long = c.requires.out_len.0 in
    let room = room_for c.args.text.now c.args.object.now c.requires.kept c.args.measured is ∙ sym long in
    let few = few_headers c.args.text.now c.args.object.now c.requires.kept c.args.measured is in
    let a = c.args in
    let e = is in
    let f = file_filled a.text.now a.object.now c.requires.kept a.measured e a.out.now _ long c.put_file_header.ensures in record {
      kept = c.requires.kept;
      sizes_of = c.requires.sizes_of;
      small = c.requires.small;
      names_value = ap (λ (m : Measured). m.names) e;
      types_value = c.requires.types_value;
      object_in_bounds = (omega (arith, fill_left f, ends_before a.text.now a.object.now c.requires.kept a.measured e, room, few, sym long, f.same), omega (arith, f.same, long, c.requires.out_len.1));
    }

pub slice_bounds-clear-count : goal.slice_bounds-clear-count
slice_bounds-clear-count c =
    let is = c.requires.measured_value in
    let before-table : c.write_sections-end.result ≤ c.args.measured.at = (let a = c.args in omega (arith, c.write_sections-end.ensures.value, ends_before a.text.now a.object.now c.requires.kept a.measured is)) in
    omega (arith, before-table)

pub slice_bounds-clear-start : goal.slice_bounds-clear-start
slice_bounds-clear-start c =
    let is = c.requires.measured_value in
    let before-table : c.write_sections-end.result ≤ c.args.measured.at = (let a = c.args in omega (arith, c.write_sections-end.ensures.value, ends_before a.text.now a.object.now c.requires.kept a.measured is)) in
    omega (arith, before-table)

pub slice_bounds-clear-end : goal.slice_bounds-clear-end
slice_bounds-clear-end c =
    let is = c.requires.measured_value in
    let long = c.requires.out_len.0 in
    let room = room_for c.args.text.now c.args.object.now c.requires.kept c.args.measured is ∙ sym long in
    let a = c.args in
    let e = is in
    let f = file_filled a.text.now a.object.now c.requires.kept a.measured e a.out.now _ long c.put_file_header.ensures in
    let g = sections_filled a.text.now a.object.now c.requires.kept a.measured e _ _ c.write_sections-end.result f c.write_sections-end.ensures.out_after c.write_sections-end.ensures.value in
    omega (arith, g.same, room, long)

pub overflow_mul-behind : goal.overflow_mul-behind
overflow_mul-behind c =
    let is = c.requires.measured_value in
    let few = few_headers c.args.text.now c.args.object.now c.requires.kept c.args.measured is in
    omega (arith, few)

pub overflow_add-behind : goal.overflow_add-behind
overflow_add-behind c =
    let is = c.requires.measured_value in
    let long = c.requires.out_len.0 in
    let room = room_for c.args.text.now c.args.object.now c.requires.kept c.args.measured is ∙ sym long in
    omega (arith, room)

pub slice_bounds-copy-end : goal.slice_bounds-copy-end
slice_bounds-copy-end c =
    let is = c.requires.measured_value in
    let long = c.requires.out_len.0 in
    let room = room_for c.args.text.now c.args.object.now c.requires.kept c.args.measured is ∙ sym long in
    let a = c.args in
    let e = is in
    let f = file_filled a.text.now a.object.now c.requires.kept a.measured e a.out.now _ long c.put_file_header.ensures in
    let g = sections_filled a.text.now a.object.now c.requires.kept a.measured e _ _ c.write_sections-end.result f c.write_sections-end.ensures.out_after c.write_sections-end.ensures.value in
    let zero = c.clear.ensures ∙ ap zeros (mid_len c.write_sections-end.result a.measured.at _ (omega (arith, g.same, room, long))) in
    let h = padding_filled a.text.now a.object.now c.requires.kept a.measured e _ _ c.write_sections-end.result g c.write_sections-end.ensures.value zero in
    omega (arith, h.same, room, long)

pub copy-requires : goal.copy-requires
copy-requires c =
    let is = c.requires.measured_value in
    let long = c.requires.out_len.0 in
    let room = room_for c.args.text.now c.args.object.now c.requires.kept c.args.measured is ∙ sym long in
    let a = c.args in
    let e = is in
    let f = file_filled a.text.now a.object.now c.requires.kept a.measured e a.out.now _ long c.put_file_header.ensures in
    let g = sections_filled a.text.now a.object.now c.requires.kept a.measured e _ _ c.write_sections-end.result f c.write_sections-end.ensures.out_after c.write_sections-end.ensures.value in
    let zero = c.clear.ensures ∙ ap zeros (mid_len c.write_sections-end.result a.measured.at _ (omega (arith, g.same, room, long))) in
    let h = padding_filled a.text.now a.object.now c.requires.kept a.measured e _ _ c.write_sections-end.result g c.write_sections-end.ensures.value zero in
    let k : a.measured.at + 64 * a.measured.count - a.measured.at ≡ 64 * a.measured.count = omega arith in
    mid_len a.measured.at (a.measured.at + 64 * a.measured.count) _ (omega (arith, h.same, room, long)) ∙ k ∙ sym (ap length c.requires.rows_value ∙ headers_long a.text.now a.object.now c.requires.kept a.measured e)

pub returns : goal.returns
returns c =
    let is = c.requires.measured_value in
    let long = c.requires.out_len.0 in
    let room = room_for c.args.text.now c.args.object.now c.requires.kept c.args.measured is ∙ sym long in
    let a = c.args in
    let e = is in
    let f = file_filled a.text.now a.object.now c.requires.kept a.measured e a.out.now _ long c.put_file_header.ensures in
    let g = sections_filled a.text.now a.object.now c.requires.kept a.measured e _ _ c.write_sections-end.result f c.write_sections-end.ensures.out_after c.write_sections-end.ensures.value in
    let zero = c.clear.ensures ∙ ap zeros (mid_len c.write_sections-end.result a.measured.at _ (omega (arith, g.same, room, long))) in
    let h = padding_filled a.text.now a.object.now c.requires.kept a.measured e _ _ c.write_sections-end.result g c.write_sections-end.ensures.value zero in
    headers_filled a.text.now a.object.now c.requires.kept a.measured e _ _ h (c.copy.ensures ∙ c.requires.rows_value)
