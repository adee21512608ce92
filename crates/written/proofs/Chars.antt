-- What the proofs about written names share.
use mathlib.Core.Path.{◌≡◌, refl, sym, ◌∙◌, ap}
use Prim.Native.Nat.{ℕ, zero, suc, ◌+◌, ◌<◌, min}
use native.Mathlib.Omega.{arith}
use native.Mathlib.Numerals.{add-one}
use mathlib.Core.Bool.{true}
use mathlib.Core.Option.{Option, none, some}
use mathlib.Core.List.{List, ◌∷◌, ◌++◌}
use Rattle.written.specs.Name.{char_at, rest, rest_of}
use lib.ListN.{length, take, length-append, length-take}
use Rattle.utf8.specs.Utf8.{put, points}
use Rattle.written.specs.Written.{written}
use Rattle.utf8.proofs.Laws.{ok, ok_put}

-- a code point written after `n` others
pub point_on : (n c : ℕ) (o : Option (List ℕ)) → ok o ≡ true → rest_of n (put c o) ≡ char_at n c ∷ rest_of (n + 1) o
point_on n c none e = let z : ◌≡◌ {A = ℕ} 0 1 = cc in absurd (omega arith)
point_on zero c (some cs) e = refl
point_on (suc n) c (some cs) e = rw (add-one (suc n))

-- how long the whole is
abbrev pub len_of : ℕ → Option (List ℕ) → ℕ
len_of n none = 0
len_of n (some cs) = n + length (rest n cs)

pub len_on : (n c : ℕ) (o : Option (List ℕ)) → len_of n (put c o) ≡ len_of (n + 1) o
len_on n c none = refl
len_on zero c (some cs) = omega arith
len_on (suc n) c (some cs) = rw (add-one (suc n)) (omega arith)

pub rest-start : (s : List ℕ) → written s ≡ rest_of 0 (points s)
rest-start s = go (points s) refl
  where
    go : (o : Option (List ℕ)) → points s ≡ o → written s ≡ rest_of 0 o
    go none e = rw (e, written)
    go (some cs) e = rw (e, written)

-- if a byte is still to come, there is room for it
pub room : {whole : List ℕ} (out later : List ℕ) (n x : ℕ) → length out ≡ length whole → whole ≡ take n out ++ (x ∷ later) → n < length out
room {whole} out later n x e w =
    let l : length whole ≡ length (take n out) + suc (length later) = ap length w ∙ length-append (take n out) (x ∷ later) in
    let m : length (take n out) ≡ min n (length out) = length-take n out in
    omega arith

-- what comes next when the text goes on with the code point `c`
module _ (whole out : List ℕ) (n c : ℕ) (p o : Option (List ℕ)) (e : p ≡ put c o) (k : ok p ≡ true) where
  pub ok_next : ok o ≡ true
  ok_next = sym (ok_put c o) ∙ ap ok (sym e) ∙ k

  pub next_char : whole ≡ take n out ++ rest_of n p → whole ≡ take n out ++ (char_at n c ∷ rest_of (n + 1) o)
  next_char w = w ∙ ap (λ (r : Option (List ℕ)). take n out ++ rest_of n r) e ∙ ap (λ (r : List ℕ). take n out ++ r) (point_on n c o ok_next)
