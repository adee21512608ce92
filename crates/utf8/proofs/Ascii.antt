-- Texts of ASCII alone: their code points are their bytes.
use mathlib.Core.Path.{◌≡◌, refl, sym, ◌∙◌, ap}
use mathlib.Core.Bool.{Bool, true, false, ◌&&◌, and_assoc, false≢true}
use mathlib.Core.Option.{Option, none, some}
use mathlib.Core.List.{List, [], ◌∷◌}
use Prim.Native.Nat.{ℕ, ◌+◌, ◌*◌, ◌≤◌, ◌<◌}
use native.Mathlib.Omega.{arith}
use lib.Dec.{leb}
use lib.ListN.{length, drop, get_or}
use borrow.Author.Tests.{le-leb, lt-leb, leb-true, leb-false}
use Rattle.octets.proofs.Laws.{read_on}
use Rattle.octets.proofs.Tests.{and_true_both}
use Rattle.lines.specs.Hex.{there}
use Rattle.lines.specs.Bytes.{bytes}
use Rattle.lines.specs.declared.Hex.{Hex}
use Rattle.lines.proofs.Bytes.{number_of, chars_twice, digit_in, byte_in}
use Rattle.lines.proofs.Same.{digit_is}
use Rattle.utf8.specs.Utf8.{idle, point, put, points, is_text, all_ascii}
use Rattle.utf8.proofs.Laws.{took, ok}

pub ascii-points : (bs : List ℕ) → all_ascii bs ≡ true → points bs ≡ some bs
ascii-points [] t = refl
ascii-points (b ∷ bs) t =
    let two = and_true_both (leb b 127) (all_ascii bs) t in
    took (b ∷ bs) 0 idle (point b) (omega arith) (simp two.0) ∙ ap (put b) (ascii-points bs two.1)

pub ascii-text : (bs : List ℕ) → all_ascii bs ≡ true → is_text bs ≡ true
ascii-text bs t = ap ok (ascii-points bs t)

-- one byte more, by a test that tells whether it is ASCII
pub ascii_on : (bs : List ℕ) (i : ℕ) (all here : Bool) → i < length bs → here ≡ leb (get_or bs i 0) 127
    → (all && all_ascii (drop i bs)) ≡ ((all && here) && all_ascii (drop (i + 1) bs))
ascii_on bs i all here h e = rw (read_on bs i h, e) (sym (and_assoc all (leb (get_or bs i 0) 127) (all_ascii (drop (i + 1) bs))))

-- ---- a byte in hexadecimal: its first digit tells whether it is ASCII

same_test : (a k b m : ℕ) → (a ≤ k → b ≤ m) → (k < a → m < b) → leb a k ≡ leb b m
same_test a k b m f g = go (leb a k) refl
  where
    go : (t : Bool) → leb a k ≡ t → t ≡ leb b m
    go true e = sym (le-leb b m (f (leb-true a k e)))
    go false e = sym (lt-leb b m (g (leb-false a k e)))

numbered : (o : Option ℕ) → there o ≡ true → some (number_of o) ≡ o
numbered none t = absurd (false≢true t)
numbered (some n) t = refl

pub first-digit : (s : Hex) (i : ℕ) → i < length (bytes s) → leb (get_or s.chars.now (2 * i) 0) 55 ≡ leb (get_or (bytes s) i 0) 127
first-digit s i h =
    let n = chars_twice s in
    let p = digit_in s (2 * i) (omega arith) in
    let q = digit_in s (2 * i + 1) (omega arith) in
    let c = digit_is (get_or s.chars.now (2 * i) 0) p in
    let d = digit_is (get_or s.chars.now (2 * i + 1) 0) q in
    let b = byte_in s i _ _ h (numbered _ p) (numbered _ q) in
    same_test (get_or s.chars.now (2 * i) 0) 55 (get_or (bytes s) i 0) 127 (λ e. omega arith) (λ e. omega arith)
