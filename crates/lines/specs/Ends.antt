-- Where a line ends, by places in the text.
use Rattle.std.specs.Prelude.{Bool, false, cond, ◌||◌, List, [], ◌∷◌, ℕ, ◌+◌, length, drop, eqb, Option, None, Some}
use Rattle.octets.specs.Told.{Told, gives, refuses}
use Rattle.lines.specs.Lines.{Line, lines}

-- the end of the first of the lines from `at` on; a line that no LF ends is refused 2
abbrev pub end_of : ℕ → List Line → Told ℕ
end_of at [] = refuses 2
end_of at (l ∷ ls) = cond l.ended (gives (at + length l.text)) (refuses 2)

-- the end of the line of `s` that starts at `at`: its LF
abbrev pub line_end : List ℕ → ℕ → Told ℕ
line_end s at = end_of at (lines (drop at s))

-- what the code's answer says
abbrev pub end_told : Option ℕ → Told ℕ
end_told (Some e) = gives e
end_told None = refuses 2

-- whether an LF is among characters
abbrev pub holds_end : List ℕ → Bool
holds_end [] = false
holds_end (c ∷ cs) = eqb c 10 || holds_end cs
