-- `contents::put_rels` meets its contract. Assumes nothing.
use mathlib.Core.Path.{refl}
use Prim.Native.Nat.{◌+◌}
use native.Mathlib.Omega.{arith}
use Rattle.octets.specs.Octets.{value}
use Rattle.octets.proofs.Filling.{fill_start, fill_as, fill_on, over-part}
use Rattle.elf.specs.Elf.{rel_bytes}
use Rattle.object.specs.Read.{bytes_at}
use Rattle.contents.proofs.Slots.{slots_length, next_slot}
use Rattle.contents.proofs.put_rels.Goals as goal

pub loop-slot-init : goal.loop-slot-init
loop-slot-init c =
    let a = c.args in (
      c.requires.all_placed,
      fill_start _ a.out.now (omega (arith, slots_length a.text.now a.slots.now c.requires.all_placed, c.requires.out_len)),
    )

pub loop-slot-preserved : goal.loop-slot-preserved
loop-slot-preserved c =
    let a = c.args in
    let l = c.loop-slot in
    let slot = c.in-Some.taken in
    let next = next_slot a.text.now a.slots.now l.slot-index slot (omega arith) c.in-Some.is l.invariant.0 in
    let entry = rel_bytes (value (bytes_at a.text.now slot.place 8)) (2 + slot.map) in
    let o = over-part l.out l.at (l.at + 16) c.put_slot.new.out entry refl c.put_slot.ensures in
    (next.placed, fill_on entry _ _ (l.at + 16) (fill_as _ next.bytes l.invariant.1) o refl)
