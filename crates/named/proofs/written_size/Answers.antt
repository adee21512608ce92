-- `named::written_size` meets its contract. Assumes nothing.
use mathlib.Core.Path.{sym, ◌∙◌, ap}
use native.Mathlib.Omega.{arith}
use lib.ListN.{length}
use Rattle.utf8.specs.Utf8.{all_ascii}
use Rattle.written.proofs.Ascii.{written-ascii, written_some}
use Rattle.object.specs.Read.{name_in}
use Rattle.object.proofs.Names.{name_length}
use Rattle.named.proofs.Names.{written_none}
use Rattle.named.proofs.written_size.Goals as goal

pub returns-then-is_ascii : goal.returns-then-is_ascii
returns-then-is_ascii c =
    let ascii = sym (c.is_ascii.ensures ∙ ap all_ascii c.hex_of-hex.ensures) ∙ c.if-is_ascii.true in
    let a = c.args in
    let name = name_in a.text.now a.name in
    let n = name_length a.text.now a.name c.requires in record {
      value = sym (ap length (written-ascii name (ascii)) ∙ written_some name (λ e. omega (arith, e, n)) ∙ n);
      upper_bound = c.requires.short;
    }

pub returns-then-bytes-eq0-clause-value : goal.returns-then-bytes-eq0-clause-value
returns-then-bytes-eq0-clause-value c =
    let a = c.args in
    let n = name_length a.text.now a.name c.requires in
    written_none (name_in a.text.now a.name) (omega arith)
