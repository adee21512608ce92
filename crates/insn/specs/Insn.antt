-- An instruction's bytes: code; the low four bits of dst with the low four bits of src above them; off; imm. Higher bits of dst and
-- src are dropped.
use Rattle.std.specs.Prelude.{List, [], ◌∷◌, ℕ, ◌+◌, ◌*◌, ◌%◌}
use Rattle.octets.specs.Octets.{le, cat}
use Rattle.insn.specs.declared.Insn.{Insn}

abbrev pub registers : ℕ → ℕ → ℕ
registers dst src = dst % 16 + 16 * (src % 16)

abbrev pub insn_bytes : ℕ → ℕ → ℕ → ℕ → ℕ → List ℕ
insn_bytes code dst src off imm = cat (le 1 code ∷ le 1 (registers dst src) ∷ le 2 off ∷ le 4 imm ∷ [])

abbrev pub insn_of : ℕ → ℕ → ℕ → ℕ → ℕ → Insn
insn_of code dst src off imm = record { code = code; dst = dst; src = src; off = off; imm = imm }
