-- `contents::put_slot` meets its contract. Assumes nothing.
use mathlib.Core.Path.{◌≡◌, ◌∙◌, ap}
use Prim.Native.Nat.{ℕ, ◌+◌, ◌-◌}
use native.Mathlib.Omega.{arith}
use lib.ListN.{take, drop}
use borrow.Rule.Slice.PartMut.{mid_len}
use Rattle.lines.proofs.Bytes.{bytes_length}
use Rattle.elf.specs.Elf.{rel_bytes}
use Rattle.contents.proofs.Slots.{offset_hex, offset_read}
use Rattle.contents.proofs.put_slot.Goals as goal

pub invariant_of-hex : goal.invariant_of-hex
invariant_of-hex c = record { hex = offset_hex c.args.text.now c.args.place c.requires.place_in_bounds c.requires.text_value }

pub returns : goal.returns
returns c =
    let o = c.number_at-offset.ensures.value ∙ offset_read c.args.text.now c.args.place c.requires.place_in_bounds c.requires.text_value in
    let w : c.put_rel.new.out ≡ rel_bytes c.number_at-offset.result (2 + c.args.map) = c.put_rel.ensures in
    w ∙ ap (λ (k : ℕ). rel_bytes k (2 + c.args.map)) o

pub number_at-offset-requires : goal.number_at-offset-requires
number_at-offset-requires c =
    let at = c.args.place in
    let k : at + 16 - at ≡ 16 = omega arith in
    let long = mid_len at (at + 16) c.args.text.now c.requires.place_in_bounds ∙ k in
    let half = bytes_length (take (at + 16 - at) (drop at c.args.text.now)) (offset_hex c.args.text.now at c.requires.place_in_bounds c.requires.text_value) in
    (omega arith, omega (arith, half, long))
