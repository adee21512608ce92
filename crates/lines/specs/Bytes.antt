-- The bytes that hexadecimal gives.
use Rattle.std.specs.Prelude.{List, ℕ}
use Rattle.lines.specs.Hex.{bytes_in}
use Rattle.lines.specs.declared.Hex.{Hex}

abbrev pub bytes : Hex → List ℕ
bytes h = bytes_in h.chars.now
