-- The section header table: how long it is, and tables one after the other.
use mathlib.Core.Path.{◌≡◌, refl, sym, ◌∙◌, ap}
use mathlib.Core.List.{List, [], ◌∷◌, ◌++◌, append_assoc}
use Prim.Native.Nat.{ℕ, ◌*◌}
use native.Mathlib.Omega.{arith}
use lib.ListN.{length}
use Rattle.elf.specs.Elf.{header_bytes}
use Rattle.elf.specs.Entries.{header_of}
use Rattle.elf.specs.declared.Section.{Section}
use Rattle.elf.specs.Headers.{headers_bytes}

pub headers_length : (ss : List Section) → length (headers_bytes ss) ≡ 64 * length ss
headers_length [] = refl
headers_length (s ∷ ss) = omega (arith, headers_length ss)

pub headers_append : (xs ys : List Section) → headers_bytes (xs ++ ys) ≡ headers_bytes xs ++ headers_bytes ys
headers_append [] ys = refl
headers_append (x ∷ xs) ys =
    ap (λ (r : List ℕ). header_bytes (header_of x) ++ r) (headers_append xs ys) ∙ sym (append_assoc (header_bytes (header_of x)) (headers_bytes xs) (headers_bytes ys))
