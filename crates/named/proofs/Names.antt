-- A written name has at most 64 bytes; and the front of lent memory that a name was written over.
use mathlib.Core.Path.{◌≡◌, refl}
use mathlib.Core.List.{List, [], ◌∷◌}
use Prim.Native.Nat.{ℕ, ◌+◌, ◌-◌, ◌≤◌}
use native.Mathlib.Omega.{arith}
use lib.ListN.{length, take, drop}
use Rattle.octets.specs.Over.{over}
use Rattle.octets.proofs.Laws.{over_taken}
use Rattle.written.specs.Written.{written}
use Rattle.written.proofs.Names.{written-short}
use Rattle.ast.specs.declared.Name.{Name}
use Rattle.object.specs.Read.{name_in}
use Rattle.object.specs.Kept.{Named}
use Rattle.object.proofs.Names.{name_length}

pub written_most : (text : List ℕ) (n : Name) → Named text n → length (written (name_in text n)) ≤ 64
written_most text n known = written-short 64 (name_in text n) (omega arith) (omega (arith, name_length text n known, known.short))

-- what was written over the front of a list is the part `[0..n]`
pub over-front : (d t : List ℕ) (n : ℕ) → length t ≡ n → take (n - 0) (drop 0 (over d 0 t)) ≡ t
over-front d t n e =
    let z : n - 0 ≡ 0 + length t = omega arith in
    rw z (over_taken d 0 t (omega arith))

-- an empty name is written as `_solnix_symbol`
pub written_none : (l : List ℕ) → length l ≡ 0 → 14 ≡ length (written l)
written_none [] h = refl
written_none (x ∷ l) h = absurd (omega arith)
