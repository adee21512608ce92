-- Text: UTF-8 as RFC 3629 gives it. A text is read byte by byte. Each byte ends a code point, leaves one unfinished, or is not allowed.
use Rattle.std.specs.Prelude.{Bool, true, false, cond, not, ◌&&◌, ◌||◌, List, [], ◌∷◌, ℕ, ◌+◌, ◌-◌, ◌*◌, ◌%◌, leb, eqb}
use Rattle.std.proofs.Math.Option.{Option, none, some}
use Rattle.octets.specs.Octets.{within}

-- The state between two bytes of a text: a code point of which `left` continuation bytes are still to come, whose bits so far are `bits`,
-- and which is overlong below `least`. With nothing to come the next byte leads.
pub record Wait : Type 0 where
  pub left : ℕ
  pub bits : ℕ
  pub least : ℕ

abbrev pub idle : Wait
idle = record { left = 0; bits = 0; least = 0 }

-- what a byte does in that state: it ends a code point, leaves one unfinished, or is not allowed
pub data Next : Type 0 where
  point : ℕ → Next
  more : Wait → Next
  bad : Next

-- RFC 3629, section 3: 0xxxxxxx is a code point, 110xxxxx, 1110xxxx and 11110xxx lead one, two and three bytes more
abbrev pub leads : ℕ → Next
leads b =
    cond (leb b 127) (point b)
    (cond (within 192 223 b) (more (record { left = 1; bits = b % 32; least = 128 }))
    (cond (within 224 239 b) (more (record { left = 2; bits = b % 16; least = 2048 }))
    (cond (within 240 247 b) (more (record { left = 3; bits = b % 8; least = 65536 })) bad)))

-- a code point that is not overlong, is no surrogate (D800 to DFFF hex) and is not over 10FFFF hex
abbrev pub allowed : ℕ → ℕ → Bool
allowed least c = leb least c && not (within 0xd800 0xdfff c) && leb c 0x10ffff

-- 10xxxxxx gives six bits more, and the last such byte ends the code point
abbrev pub continues : Wait → ℕ → Next
continues w b =
    let c = w.bits * 64 + b % 64 in
    cond (within 128 191 b)
    (cond (eqb w.left 1) (cond (allowed w.least c) (point c) bad)
    (more (record { left = w.left - 1; bits = c; least = w.least })))
    bad

abbrev pub next : Wait → ℕ → Next
next w b = cond (eqb w.left 0) (leads b) (continues w b)

abbrev pub put : ℕ → Option (List ℕ) → Option (List ℕ)
put c none = none
put c (some cs) = some (c ∷ cs)

-- the code points of what follows, from a state between two bytes on
abbrev pub points_from : Wait → List ℕ → Option (List ℕ)
points_from w [] = cond (eqb w.left 0) (some []) none
points_from w (b ∷ bs) =
    elim (next w b) [ point c ↦ put c (points_from idle bs) | more w' ↦ points_from w' bs | bad ↦ none ]

-- the code points of a text, or none if the bytes are not UTF-8
abbrev pub points : List ℕ → Option (List ℕ)
points bs = points_from idle bs

abbrev pub is_text : List ℕ → Bool
is_text bs = elim (points bs) [ none ↦ false | some cs ↦ true ]

-- whether every byte is ASCII, 0xxxxxxx: a code point by itself
abbrev pub all_ascii : List ℕ → Bool
all_ascii [] = true
all_ascii (b ∷ bs) = leb b 127 && all_ascii bs

abbrev pub has_zero : List ℕ → Bool
has_zero [] = false
has_zero (b ∷ bs) = eqb b 0 || has_zero bs
