-- The section header table of sections as the code has them: their headers in a row.
use Rattle.std.specs.Prelude.{List, [], ◌∷◌, ◌++◌, ℕ}
use Rattle.elf.specs.Elf.{header_bytes}
use Rattle.elf.specs.Entries.{header_of}
use Rattle.elf.specs.declared.Section.{Section}

abbrev pub headers_bytes : List Section → List ℕ
headers_bytes [] = []
headers_bytes (s ∷ ss) = header_bytes (header_of s) ++ headers_bytes ss
