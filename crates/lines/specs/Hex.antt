-- Hexadecimal as the code answers it: whether characters are digits, and the bytes that they give.
use Rattle.std.specs.Prelude.{Bool, true, false, List, [], ℕ}
use Rattle.std.proofs.Math.Option.{Option, none, some}
use Rattle.lines.specs.Lines.{unhex, frame_bytes}

abbrev pub there : {A : Type 0} → Option A → Bool
there none = false
there (some a) = true

-- the bytes, if there are any
abbrev pub bytes_of : Option (List ℕ) → List ℕ
bytes_of none = []
bytes_of (some bs) = bs

-- whether characters are an even number of digits, and the bytes that they then give
abbrev pub is_hex : List ℕ → Bool
is_hex s = there (unhex s)

abbrev pub bytes_in : List ℕ → List ℕ
bytes_in s = bytes_of (unhex s)

-- whether the text of a line that LF ends is a frame's
abbrev pub is_frame : List ℕ → Bool
is_frame text = there (frame_bytes (record { text = text; ended = true }))
