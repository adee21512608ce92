-- `flaws::program_flaw` meets its contract. Assumes nothing.
use mathlib.Core.Path.{◌≡◌, ◌∙◌}
use native.Mathlib.Omega.{arith}
use lib.ListN.{length}
use borrow.Author.Tests.{ne_eqb}
use Rattle.octets.proofs.Told.{told_holds, told_free}
use Rattle.lines.specs.Bytes.{bytes}
use Rattle.refusals.specs.Checked.{bad_string}
use Rattle.flaws.proofs.program_flaw.Goals as goal

pub returns-in_default : goal.returns-in_default
returns-in_default c =
    let a = bytes c.args.section in
    rw (told_holds 5 5 (bad_string a) c.in_default.ensures)

pub returns : goal.returns
returns c =
    let a = bytes c.args.section in
    let n : length a ≡ 0 → ⊥ = λ e. c.if-len-eq0.false (omega arith) in
    c.name_flaw.ensures ∙ rw (told_free 5 (bad_string a) c.in-Ok.ensures, ne_eqb (length a) 0 n)
