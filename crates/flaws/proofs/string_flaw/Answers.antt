-- `flaws::string_flaw` meets its contract. Assumes nothing.
use mathlib.Core.Path.{sym, ◌∙◌, ap}
use mathlib.Core.Bool.{or-true, or-false}
use Rattle.octets.specs.Told.{told_if}
use Rattle.lines.specs.Bytes.{bytes}
use Rattle.refusals.specs.Checked.{bad_name}
use Rattle.flaws.proofs.string_flaw.Goals as goal

pub returns-then-has_zero : goal.returns-then-has_zero
returns-then-has_zero c =
    let s = bytes c.args.s in
    rw (sym c.has_zero.ensures ∙ c.if-has_zero.true, or-true (bad_name s))

pub returns : goal.returns
returns c =
    let s = bytes c.args.s in
    c.name_flaw.ensures ∙ rw (sym c.has_zero.ensures ∙ c.if-has_zero.false) (ap (told_if 5) (sym (or-false (bad_name s))))
