-- The instruction of a frame 06, by the places of its numbers among the frame's bytes.
use Rattle.std.specs.Prelude.{List, ℕ, take, drop, get_or}
use Rattle.octets.specs.Octets.{value}
use Rattle.insn.specs.Insn.{insn_bytes}

-- The frame's first byte is its kind. Code, dst and src follow in one byte each, then two bytes of off, and imm is all that is left.
abbrev pub insn_in : List ℕ → List ℕ
insn_in bs = insn_bytes (get_or bs 1 0) (get_or bs 2 0) (get_or bs 3 0) (value (take 2 (drop 4 bs))) (value (drop 6 bs))
