-- Words: how many bytes they are, and one word more.
use mathlib.Core.Path.{◌≡◌, refl, ap}
use mathlib.Core.List.{List, [], ◌∷◌, ◌++◌}
use Prim.Native.Nat.{ℕ, ◌+◌, ◌*◌, ◌≤◌, ◌<◌}
use native.Mathlib.Omega.{arith}
use lib.ListN.{length, drop, get_or}
use Rattle.octets.specs.Octets.{le}
use Rattle.octets.proofs.Laws.{read_on, read_done}
use Rattle.btf.specs.Builder.{words}

pub length-words : (vs : List ℕ) → length (words vs) ≡ 4 * length vs
length-words [] = refl
length-words (v ∷ vs) = omega (arith, length-words vs)

pub words_on : (vs : List ℕ) (i : ℕ) → i < length vs → words (drop i vs) ≡ le 4 (get_or vs i 0) ++ words (drop (i + 1) vs)
words_on vs i h = ap words (read_on vs i h)

pub words-done : (vs : List ℕ) (i : ℕ) → length vs ≤ i → words (drop i vs) ≡ []
words-done vs i h = ap words (read_done vs i h)
