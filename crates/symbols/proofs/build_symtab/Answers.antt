-- `symbols::build_symtab` meets its contract: four pieces. Assumes nothing.
use mathlib.Core.Path.{sym, ◌∙◌, ap}
use Rattle.elf.specs.Elf.{entry_bytes}
use Rattle.elf.specs.Entries.{entry_of}
use Rattle.elf.specs.declared.Symbol.{Symbol}
use Rattle.strtab.proofs.Whole.{symtab_long, programs_there, symbols_null, symbols_licence, symbols-mapped, symbols-programmed}
use Rattle.symbols.proofs.build_symtab.Goals as goal

pub put_program_symbols-requires-clause-programs_there : goal.put_program_symbols-requires-clause-programs_there
put_program_symbols-requires-clause-programs_there c =
    rw c.programs.ensures (programs_there c.args.text.now c.args.object.now c.requires.kept)

pub returns : goal.returns
returns c =
    let text = c.args.text.now in
    let o = c.args.object.now in
    let k = c.requires.kept in
    let long = c.requires.out_len ∙ sym (symtab_long text o k) in
    let maps = rw c.maps.ensures at c.put_map_symbols-names.ensures in
    let f = symbols_null text o k c.args.out.now _ long (c.put.ensures ∙ ap (λ (s : Symbol). entry_bytes (entry_of s)) c.null.ensures) in
    let g = symbols_licence text o k _ _ c.args.license f c.requires.license_value c.put-2.ensures in
    let h = symbols-mapped text o k _ _ g maps.out_after in
    symbols-programmed text o k _ _ _ _ _ h maps.value c.first_program.ensures.value (rw c.programs.ensures at c.put_program_symbols.ensures)
