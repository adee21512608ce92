-- `measure::measure_front` meets its contract. Assumes nothing.
use mathlib.Core.Path.{◌≡◌, refl}
use mathlib.Core.Bool.{true, false}
use mathlib.Core.List.{[], ◌∷◌}
use native.Mathlib.Omega.{arith}
use lib.Dec.{eqb}
use borrow.Author.Rules.{rules}
use borrow.Author.Tests.{eq-eqb, ne_eqb}
use Rattle.elf.specs.Added.{one, four, eight}
use Rattle.elf.specs.Entries.{null_section}
use Rattle.measure.specs.Measured.{licence_at, licensed, maps_at, roomed, btf_at}
use Rattle.measure.proofs.Table.{Has, has_on}
use Rattle.measure.proofs.measure_front.Goals as goal

pub add_plain-licensed-requires-clause-alignment : goal.add_plain-licensed-requires-clause-alignment
add_plain-licensed-requires-clause-alignment c = one

pub add_plain-with_maps-requires-clause-alignment : goal.add_plain-with_maps-requires-clause-alignment
add_plain-with_maps-requires-clause-alignment c = eight

pub add_plain-requires-clause-alignment : goal.add_plain-requires-clause-alignment
add_plain-requires-clause-alignment c = four

pub returns-then-maps-eq0-clause-table_after : goal.returns-then-maps-eq0-clause-table_after
returns-then-maps-eq0-clause-table_after c =
    let z = c.args.sizes in
    let none : eqb c.args.maps 0 ≡ true = eq-eqb c.args.maps 0 (omega arith) in
    let null : Has c.args.table.now 0 c.begin-null.new.table (null_section ∷ []) = record { is = c.begin-null.ensures.table_after; room = omega arith } in
    let first = has_on _ 1 (licence_at z ∷ []) null (rw c.begin-null.ensures.value at c.add_plain-licensed.ensures.table_after) refl (omega arith) in
    rw none first.is

pub returns-clause-table_after : goal.returns-clause-table_after
returns-clause-table_after c =
    let z = c.args.sizes in
    let some : eqb c.args.maps 0 ≡ false = ne_eqb c.args.maps 0 (omega arith) in
    let null : Has c.args.table.now 0 c.begin-null.new.table (null_section ∷ []) = record { is = c.begin-null.ensures.table_after; room = omega arith } in
    let first = has_on _ 1 (licence_at z ∷ []) null (rw c.begin-null.ensures.value at c.add_plain-licensed.ensures.table_after) refl (omega arith) in
    let l : c.add_plain-licensed.result ≡ licensed z = search rules in
    let second = has_on _ 2 (maps_at z ∷ []) first (rw l at c.add_plain-with_maps.ensures.table_after) refl (omega arith) in
    let r : c.add_plain-with_maps.result ≡ roomed z = search rules in
    let third = has_on _ 3 (btf_at z ∷ []) second (rw r at c.add_plain.ensures.table_after) refl (omega arith) in
    rw some third.is
