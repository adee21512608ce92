-- Written names of ASCII characters: one byte for each, but for the empty name.
use mathlib.Core.Path.{◌≡◌, refl, ◌∙◌, ap}
use mathlib.Core.Bool.{true}
use mathlib.Core.List.{List, [], ◌∷◌}
use Prim.Native.Nat.{ℕ, suc, ◌≤◌}
use native.Mathlib.Omega.{arith}
use lib.ListN.{length}
use borrow.Author.Tests.{le-leb}
use Rattle.std.specs.Str.{IsAscii}
use Rattle.utf8.specs.Utf8.{all_ascii}
use Rattle.utf8.proofs.Ascii.{ascii-points}
use Rattle.written.specs.Written.{written_points, written}
use Rattle.written.specs.Name.{rest_of}
use Rattle.written.proofs.Chars.{rest-start}
use Rattle.written.proofs.Names.{rest-length}

-- the library's word for it
pub all_below : (s : List ℕ) → IsAscii s → all_ascii s ≡ true
all_below [] h = refl
all_below (b ∷ bs) h =
    let l : b ≤ 127 = omega (arith, h 0) in
    rw le-leb (all_below bs (λ i. h (suc i)))

pub written-ascii : (s : List ℕ) → all_ascii s ≡ true → written s ≡ written_points s
written-ascii s h = rest-start s ∙ ap (rest_of 0) (ascii-points s h)

pub written_some : (s : List ℕ) → (length s ≡ 0 → ⊥) → length (written_points s) ≡ length s
written_some [] e = absurd (e refl)
written_some (c ∷ cs) e = ap suc (rest-length cs)
