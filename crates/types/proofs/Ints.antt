-- The five ints: each is written after the one before it, by a known builder.
use mathlib.Core.Path.{◌≡◌, refl, ◌∙◌, ap}
use mathlib.Core.List.{List, [], ◌∷◌, ◌++◌}
use Prim.Native.Nat.{ℕ, ◌+◌, ◌^◌, ◌<◌}
use lib.ListN.{length}
use Rattle.octets.specs.Over.{over}
use Rattle.octets.proofs.Going.{Going, go_room, go_on}
use Rattle.btf.specs.declared.BtfBuilder.{BtfBuilder}
use Rattle.btf.specs.Btf.{int, type_bytes}
use Rattle.btf.specs.Builder.{moved, Within}

-- an int of `size` bytes, whose name has three and is at `name`
abbrev pub int_piece : ℕ → ℕ → ℕ → List ℕ
int_piece name size encoding = type_bytes (name ∷ []) (int [] size encoding)

-- the builder is known to be `k`
pub record Known (d whole out : List ℕ) (b k : BtfBuilder) (rest : List ℕ) : Type 0 where
  pub is : b ≡ k
  pub going : Going d 0 whole out k.at rest

module _ {d whole out : List ℕ} {b : BtfBuilder} (k : BtfBuilder) (size encoding : ℕ) (more : List ℕ)
    (g : Known d whole out b k (int_piece k.strings size encoding ++ more)) where
  pub int_room : k.strings + 4 < 2 ^ 32 → k.next_type_id + 1 < 2 ^ 32 → Within (moved b 16 4 1) (length out)
  int_room p q = rw g.is (record { at = go_room (int_piece k.strings size encoding) more g.going; strings = p; next = q })

  pub int_on : (out' : List ℕ) (b' : BtfBuilder) → out' ≡ over out b.at (int_piece b.strings size encoding) → b' ≡ moved b 16 4 1
      → Known d whole out' b' (moved k 16 4 1) more
  int_on out' b' e q =
      record {
        is = q ∙ ap (λ (x : BtfBuilder). moved x 16 4 1) g.is;
        going =
            go_on (int_piece k.strings size encoding) more out' (k.at + 16) g.going
            (e ∙ ap (λ (x : BtfBuilder). over out x.at (int_piece x.strings size encoding)) g.is) refl;
      }
