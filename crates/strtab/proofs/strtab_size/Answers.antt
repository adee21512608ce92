-- `strtab::strtab_size` meets its contract. Assumes nothing.
use native.Mathlib.Omega.{arith}
use Rattle.strtab.proofs.Whole.{strtab_long, maps_named, symbols_named}
use Rattle.strtab.proofs.strtab_size.Goals as goal

pub names_size-maps_size-requires-clause-named : goal.names_size-maps_size-requires-clause-named
names_size-maps_size-requires-clause-named c = rw c.maps.ensures (maps_named c.args.text.now c.args.object.now c.requires)

pub names_size-programs_size-requires-clause-named : goal.names_size-programs_size-requires-clause-named
names_size-programs_size-requires-clause-named c = rw c.programs.ensures (symbols_named c.args.text.now c.args.object.now c.requires)

pub returns-clause-value : goal.returns-clause-value
returns-clause-value c =
    omega (
      arith,
      strtab_long c.args.text.now c.args.object.now c.requires,
      rw c.maps.ensures at c.names_size-maps_size.ensures.value,
      rw c.programs.ensures at c.names_size-programs_size.ensures.value,
    )
