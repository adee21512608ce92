-- Walks that look at every character, and walks in blocks.
use mathlib.Core.Path.{◌≡◌, refl, sym, ◌∙◌, ap}
use mathlib.Core.Bool.{Bool, true, false, ◌&&◌, and-false, and_assoc}
use mathlib.Core.List.{List, [], ◌∷◌, ◌++◌}
use Prim.Native.Nat.{ℕ, suc, ◌+◌, ◌-◌, ◌%◌, ◌<◌, ◌≤◌}
use native.Mathlib.Omega.{arith}
use lib.Dec.{eqb}
use lib.ListN.{length, drop, get_or, length-drop}
use borrow.Author.Tests.{eqb-false}
use Rattle.octets.proofs.Laws.{read_on}
use Rattle.octets.proofs.Tests.{or_false_both}
use Rattle.lines.specs.Lines.{digit, unhex}
use Rattle.lines.specs.Ends.{holds_end, line_end}
use Rattle.lines.specs.Hex.{there, is_hex}
use Rattle.lines.proofs.Laws.{there-pair, end_on}

-- ---- digits

abbrev pub all_digits : List ℕ → Bool
all_digits [] = true
all_digits (c ∷ cs) = there (digit c) && all_digits cs

turned : (even x y later : Bool) → (x && y && (even && later)) ≡ (even && (x && (y && later)))
turned true x y later = and_assoc x y later
turned false x y later = and-false (x && y)

-- hexadecimal is an even number of digits
pub hex_digits : (s : List ℕ) → is_hex s ≡ (eqb (length s % 2) 0 && all_digits s)
hex_digits [] = refl
hex_digits (c ∷ []) = refl
hex_digits (c ∷ d ∷ cs) =
    let e : length cs % 2 ≡ suc (suc (length cs)) % 2 = omega arith in
    there-pair (digit c) (digit d) (unhex cs) ∙ ap (λ (b : Bool). there (digit c) && there (digit d) && b) (hex_digits cs)
    ∙ turned (eqb (length cs % 2) 0) (there (digit c)) (there (digit d)) (all_digits cs)
    ∙ ap (λ (n : ℕ). eqb n 0 && all_digits (c ∷ d ∷ cs)) e

-- ---- an LF

-- a line's end is after a block that has none
pub block_on : (s block rest : List ℕ) (i : ℕ) → i ≤ length s → drop i s ≡ block ++ rest → holds_end block ≡ false
    → (i + length block ≤ length s) × (rest ≡ drop (i + length block) s) × (line_end s (i + length block) ≡ line_end s i)
block_on s [] rest i h d e = let z : i + 0 ≡ i = omega arith in rw z (h, sym d, refl)
block_on s (c ∷ block) rest i h d e =
    let n : length s - i ≡ suc (length (block ++ rest)) = sym (length-drop i s) ∙ ap length d in
    let k : i < length s = omega arith in
    let r = sym (read_on s i k) ∙ d in
    let first : get_or s i 0 ≡ c = cc in
    let later : drop (i + 1) s ≡ block ++ rest = cc in
    let g = or_false_both (eqb c 10) (holds_end block) e in
    let b = block_on s block rest (i + 1) (omega arith) later g.1 in
    let m : i + 1 + length block ≡ i + suc (length block) = omega arith in
    rw (← m) (b.0, b.1, b.2 ∙ sym (end_on s i k (λ x. eqb-false c 10 g.0 (sym first ∙ x))))
