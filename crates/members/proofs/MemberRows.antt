-- The members of a map's struct: where they end, that two of them are a row, and the struct's head before them.
use mathlib.Core.Path.{◌≡◌, refl, ◌∙◌, ap}
use mathlib.Core.List.{List, [], ◌∷◌, ◌++◌}
use Prim.Native.Nat.{ℕ, ◌+◌, ◌*◌, ◌/◌, ◌≤◌}
use native.Mathlib.Omega.{arith}
use lib.ListN.{length}
use Rattle.octets.specs.Over.{over}
use Rattle.octets.proofs.Filling.{over_two}
use Rattle.octets.proofs.Going.{Going, go_on}
use Rattle.ast.specs.declared.MapDecl.{MapDecl}
use Rattle.ast.specs.declared.Attr.{Attr}
use Rattle.ast.specs.declared.Attr.TheVariants.{Absent, Present}
use Rattle.btf.specs.declared.BtfBuilder.{BtfBuilder}
use Rattle.btf.specs.Btf.{info}
use Rattle.btf.specs.Builder.{words, passed}
use Rattle.members.specs.declared.Members.{Members}
use Rattle.members.specs.Members.{attr_member, attr_membered, members_bytes, decl_room, first_member, struct_head, struct_bytes}

module _ {A : Type 0} (name n : ℕ) where
  member_end : (s : Members) (attr : Attr A) → (attr_membered name n attr s).builder.at ≡ s.builder.at + length (attr_member n attr s)
  member_end s Absent = omega arith
  member_end s (Present x) = refl

  -- one attribute more, whose member a call put where the state `r` was
  pub member_on : {d whole out : List ℕ} {start : ℕ} (s r : Members) (attr : Attr A) (more out' : List ℕ)
      → Going d start whole out s.builder.at (attr_member n attr s ++ more) → r ≡ s → out' ≡ over out r.builder.at (attr_member n attr r)
      → Going d start whole out' (attr_membered name n attr s).builder.at more
  member_on {out = out} s r attr more out' g q e =
      go_on (attr_member n attr s) more out' (attr_membered name n attr s).builder.at g
      (e ∙ ap (λ (x : Members). over out x.builder.at (attr_member n attr x)) q) (member_end s attr)

-- what the calls for the struct's head, of the size that is known, and for its members leave
pub struct_left : (d out out₂ : List ℕ) (b inner : BtfBuilder) (id size : ℕ) (map : MapDecl) → b.at ≤ length d
    → out ≡ over d b.at (words (0 ∷ info 4 (size / 8) ∷ 8 * (size / 8) ∷ [])) → inner ≡ passed b 12 1 → size ≡ decl_room map
    → out₂ ≡ over out inner.at (members_bytes (record { builder = inner; position = 0; id = id }) map) → out₂ ≡ over d b.at (struct_bytes b id map)
struct_left d out out₂ b inner id size map h e q r f =
    over_two d b.at (struct_head map) (members_bytes (first_member b id) map) out out₂ (b.at + 12) h
    (e ∙ ap (λ (n : ℕ). over d b.at (words (0 ∷ info 4 (n / 8) ∷ 8 * (n / 8) ∷ []))) r) refl
    (f ∙ ap (λ (x : BtfBuilder). over out x.at (members_bytes (record { builder = x; position = 0; id = id }) map)) q)
