-- The types of a map's attributes: where they end, and that those of two of them are a row.
use mathlib.Core.Path.{◌≡◌, refl, ◌∙◌, ap}
use mathlib.Core.List.{List, ◌++◌}
use Prim.Native.Nat.{ℕ, ◌+◌}
use native.Mathlib.Omega.{arith}
use lib.ListN.{length}
use Rattle.octets.specs.Over.{over}
use Rattle.octets.proofs.Going.{Going, go_on}
use Rattle.ast.specs.declared.Attr.{Attr}
use Rattle.ast.specs.declared.Attr.TheVariants.{Absent, Present}
use Rattle.btf.specs.declared.BtfBuilder.{BtfBuilder}
use Rattle.members.specs.Attributes.{attr_bytes, attr_passed}

module _ {A : Type 0} (bytes : ℕ → A → List ℕ) (n : ℕ) where
  attr_end : (b : BtfBuilder) (attr : Attr A) → (attr_passed bytes n attr b).at ≡ b.at + length (attr_bytes bytes b.next_type_id attr)
  attr_end b Absent = omega arith
  attr_end b (Present x) = refl

  -- one attribute more, whose types a call put where the builder `r` was
  pub attr_on : {d whole out : List ℕ} {start : ℕ} (b r : BtfBuilder) (attr : Attr A) (more out' : List ℕ)
      → Going d start whole out b.at (attr_bytes bytes b.next_type_id attr ++ more) → r ≡ b → out' ≡ over out r.at (attr_bytes bytes r.next_type_id attr)
      → Going d start whole out' (attr_passed bytes n attr b).at more
  attr_on {out = out} b r attr more out' g q e =
      go_on (attr_bytes bytes b.next_type_id attr) more out' (attr_passed bytes n attr b).at g
      (e ∙ ap (λ (x : BtfBuilder). over out x.at (attr_bytes bytes x.next_type_id attr)) q) (attr_end b attr)
