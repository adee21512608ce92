-- The bytes of hexadecimal text by their places: how many there are, byte `i`, and the bytes of a part.
use mathlib.Core.Path.{◌≡◌, refl, sym, ◌∙◌, ap}
use mathlib.Core.Bool.{true, ◌&&◌, false≢true}
use mathlib.Core.Option.{Option, none, some}
use mathlib.Core.List.{List, [], ◌∷◌}
use Prim.Native.Nat.{ℕ, zero, suc, ◌+◌, ◌*◌, ◌≤◌, ◌<◌}
use native.Mathlib.Omega.{arith}
use native.Mathlib.Nat.{add-zero}
use lib.ListN.{length, take, drop, get_or, length-drop}
use lib.Seq.{get_or-drop, get_or-take, length-take-le}
use Rattle.octets.proofs.Tests.{and_true_both}
use Rattle.lines.specs.Lines.{digit, pair, unhex}
use Rattle.lines.specs.Hex.{there, is_hex, bytes_in, bytes_of}
use Rattle.lines.specs.Bytes.{bytes}
use Rattle.lines.specs.declared.Hex.{Hex}
use Rattle.lines.proofs.Laws.{there-pair, byte_on}

-- the number of a digit
abbrev pub number_of : Option ℕ → ℕ
number_of none = 0
number_of (some n) = n

-- the byte that two characters give
abbrev pub byte_of : ℕ → ℕ → ℕ
byte_of c d = number_of (digit c) * 16 + number_of (digit d)

pub record Front (c d : ℕ) (cs : List ℕ) : Type 0 where
  pub high : there (digit c) ≡ true
  pub low : there (digit d) ≡ true
  pub rest : is_hex cs ≡ true
  pub bytes : bytes_in (c ∷ d ∷ cs) ≡ byte_of c d ∷ bytes_in cs

paired : (x y : Option ℕ) (z : Option (List ℕ)) → there (pair x y z) ≡ true → bytes_of (pair x y z) ≡ (number_of x * 16 + number_of y) ∷ bytes_of z
paired none y z t = absurd (false≢true t)
paired (some x) none z t = absurd (false≢true t)
paired (some x) (some y) none t = absurd (false≢true t)
paired (some x) (some y) (some z) t = refl

-- two characters at the front
pub front : (c d : ℕ) (cs : List ℕ) → is_hex (c ∷ d ∷ cs) ≡ true → Front c d cs
front c d cs t =
    let three = sym (there-pair (digit c) (digit d) (unhex cs)) ∙ t in
    let two = and_true_both (there (digit c) && there (digit d)) (there (unhex cs)) three in
    let one = and_true_both (there (digit c)) (there (digit d)) two.0 in
    record { high = one.0; low = one.1; rest = two.1; bytes = paired (digit c) (digit d) (unhex cs) t }

-- and put before others
pub hex_cons : (c d : ℕ) (cs : List ℕ) → there (digit c) ≡ true → there (digit d) ≡ true → is_hex cs ≡ true → is_hex (c ∷ d ∷ cs) ≡ true
hex_cons c d cs h l t = there-pair (digit c) (digit d) (unhex cs) ∙ rw (h, l, t)

doubled : (i : ℕ) → 2 * suc i ≡ suc (suc (2 * i))
doubled i = omega arith

-- there are half as many bytes as characters
pub bytes_length : (s : List ℕ) → is_hex s ≡ true → length s ≡ 2 * length (bytes_in s)
bytes_length [] t = refl
bytes_length (c ∷ []) t = absurd (false≢true t)
bytes_length (c ∷ d ∷ cs) t =
    let f = front c d cs t in
    let l = bytes_length cs f.rest in
    rw f.bytes (omega arith)

-- the bytes from byte `i` on begin at character 2 i
pub hex_drop : (s : List ℕ) (i : ℕ) → is_hex s ≡ true → is_hex (drop (2 * i) s) ≡ true
hex_drop s zero t = t
hex_drop [] (suc i) t = rw (doubled i)
hex_drop (c ∷ []) (suc i) t = absurd (false≢true t)
hex_drop (c ∷ d ∷ cs) (suc i) t =
    rw (doubled i) (hex_drop cs i (front c d cs t).rest)

pub bytes_drop : (s : List ℕ) (i : ℕ) → is_hex s ≡ true → bytes_in (drop (2 * i) s) ≡ drop i (bytes_in s)
bytes_drop s zero t = refl
bytes_drop [] (suc i) t = rw (doubled i)
bytes_drop (c ∷ []) (suc i) t = absurd (false≢true t)
bytes_drop (c ∷ d ∷ cs) (suc i) t =
    let f = front c d cs t in
    rw (doubled i, f.bytes) (bytes_drop cs i f.rest)

-- and the first `n` bytes are the first 2 n characters
pub hex_take : (s : List ℕ) (n : ℕ) → is_hex s ≡ true → is_hex (take (2 * n) s) ≡ true
hex_take s zero t = refl
hex_take [] (suc n) t = rw (doubled n)
hex_take (c ∷ []) (suc n) t = absurd (false≢true t)
hex_take (c ∷ d ∷ cs) (suc n) t =
    let f = front c d cs t in
    rw (doubled n) (hex_cons c d (take (2 * n) cs) f.high f.low (hex_take cs n f.rest))

pub bytes_take : (s : List ℕ) (n : ℕ) → is_hex s ≡ true → bytes_in (take (2 * n) s) ≡ take n (bytes_in s)
bytes_take s zero t = refl
bytes_take [] (suc n) t = rw (doubled n)
bytes_take (c ∷ []) (suc n) t = absurd (false≢true t)
bytes_take (c ∷ d ∷ cs) (suc n) t =
    let f = front c d cs t in
    let g = front c d (take (2 * n) cs) (hex_cons c d (take (2 * n) cs) f.high f.low (hex_take cs n f.rest)) in
    rw (doubled n, g.bytes, f.bytes, bytes_take cs n f.rest)

-- each character is a digit
pub digit_at : (s : List ℕ) → is_hex s ≡ true → (k : ℕ) → k < length s → there (digit (get_or s k 0)) ≡ true
digit_at [] t k h = absurd (omega arith)
digit_at (c ∷ []) t k h = absurd (false≢true t)
digit_at (c ∷ d ∷ cs) t zero h = (front c d cs t).high
digit_at (c ∷ d ∷ cs) t (suc zero) h = (front c d cs t).low
digit_at (c ∷ d ∷ cs) t (suc (suc k)) h = digit_at cs (front c d cs t).rest k (omega arith)

-- byte `i` is what the characters 2 i and 2 i + 1 give
pub byte_here : (s : List ℕ) (i x y : ℕ) → 2 * i + 1 < length s → is_hex s ≡ true
    → some x ≡ digit (get_or s (2 * i) 0) → some y ≡ digit (get_or s (2 * i + 1) 0) → x * 16 + y ≡ get_or (bytes_in s) i 0
byte_here s i x y h t p q =
    let e = byte_on s (2 * i) h (hex_drop s i t) x y p q in
    let d = sym (bytes_drop s i t) ∙ e in
    sym (ap (λ (k : ℕ). get_or (bytes_in s) k 0) (sym (add-zero i)) ∙ sym (get_or-drop i (bytes_in s) 0 0) ∙ ap (λ (l : List ℕ). get_or l 0 0) d)

-- the `n` bytes from byte `i` on
pub part_length : (s : List ℕ) (i n : ℕ) → is_hex s ≡ true → 2 * (i + n) ≤ length s → length (take n (drop i (bytes_in s))) ≡ n
part_length s i n t h =
    let l = bytes_length s t in
    length-take-le n (drop i (bytes_in s)) (rw length-drop (omega arith))

pub part_byte : (s : List ℕ) (i n k : ℕ) → k < n → get_or (take n (drop i (bytes_in s))) k 0 ≡ get_or (bytes_in s) (i + k) 0
part_byte s i n k h = get_or-take n (drop i (bytes_in s)) k 0 h ∙ get_or-drop i (bytes_in s) k 0

-- ---- the same of `Hex`, which keeps that its characters are hexadecimal

pub chars_twice : (h : Hex) → length h.chars.now ≡ 2 * length (bytes h)
chars_twice h = bytes_length h.chars.now h.hex

pub digit_in : (h : Hex) (k : ℕ) → k < length h.chars.now → there (digit (get_or h.chars.now k 0)) ≡ true
digit_in h = digit_at h.chars.now h.hex

pub byte_in : (h : Hex) (i x y : ℕ) → i < length (bytes h) → some x ≡ digit (get_or h.chars.now (2 * i) 0)
    → some y ≡ digit (get_or h.chars.now (2 * i + 1) 0) → x * 16 + y ≡ get_or (bytes h) i 0
byte_in h i x y l = let n = chars_twice h in byte_here h.chars.now i x y (omega arith) h.hex
