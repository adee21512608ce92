-- `contents::put_rels` meets its contract. The loop's invariant: the slots left are placed, and the entries of those before them are
-- written. Assumes nothing.
use lib.ListN.{drop}
use Rattle.octets.proofs.Filling.{Filling}
use Rattle.contents.specs.Slots.{slots_bytes, AllPlaced}
use Rattle.contents.proofs.put_rels.Given as goal

abbrev pub invariant-loop-slot : goal.invariant-loop-slot
invariant-loop-slot l =
    AllPlaced l.text (drop l.slot-index l.slots)
    × Filling (slots_bytes l.text l.slots) l.out l.at (slots_bytes l.text (drop l.slot-index l.slots))
