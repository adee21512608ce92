-- `utf8::is_text` meets its contract. Assumes nothing.
use mathlib.Core.Path.{sym, ◌∙◌}
use Rattle.lines.specs.Bytes.{bytes}
use Rattle.utf8.proofs.Ascii.{ascii-text}
use Rattle.utf8.proofs.is_text.Goals as goal

pub returns-then-is_ascii : goal.returns-then-is_ascii
returns-then-is_ascii c = c.if-is_ascii.true ∙ sym (ascii-text (bytes c.args.s) (sym c.is_ascii.ensures ∙ c.if-is_ascii.true))
