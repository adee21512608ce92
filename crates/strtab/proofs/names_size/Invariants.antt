-- `strtab::names_size` meets its contract. Assumes nothing.
use mathlib.Core.Path.{◌≡◌}
use Prim.Native.Nat.{◌+◌, ◌*◌, ◌≤◌}
use lib.ListN.{drop}
use Rattle.elf.specs.Row.{size_of}
use Rattle.strtab.specs.Rows.{names_in}
use Rattle.strtab.proofs.names_size.Given as goal

abbrev pub invariant-loop-item : goal.invariant-loop-item
invariant-loop-item g l =
    let symbol = g.T.Symbolled.symbol in
    (l.n ≤ 65 * l.item-index) × (l.n + size_of (names_in symbol l.text (drop l.item-index l.row)) ≡ size_of (names_in symbol l.text l.row))
