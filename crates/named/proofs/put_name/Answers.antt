-- `named::put_name` meets its contract. Assumes nothing.
use mathlib.Core.Path.{◌≡◌, sym, ◌∙◌, ap}
use Prim.Native.Nat.{◌+◌, ◌-◌}
use native.Mathlib.Omega.{arith}
use lib.ListN.{length}
use borrow.Author.Rules.{rules}
use borrow.Rule.Slice.PartMut.{mid_len}
use Rattle.octets.proofs.Filling.{over-part}
use Rattle.object.specs.Read.{name_in}
use Rattle.object.proofs.Names.{name_length}
use Rattle.named.proofs.put_name.Goals as goal

pub put_unhex-requires : goal.put_unhex-requires
put_unhex-requires c =
    let a = c.args in
    let k : a.at + a.name.len - a.at ≡ a.name.len = omega arith in
    mid_len a.at (a.at + a.name.len) a.out.now c.requires.len_in_bounds ∙ k ∙ sym (ap length c.hex_of-hex.ensures ∙ name_length a.text.now a.name c.requires.named)

pub returns : goal.returns
returns c =
    let a = c.args in record {
      out_after = over-part a.out.now a.at (a.at + a.name.len) _ (name_in a.text.now a.name)
          (ap (λ n. a.at + n) (name_length a.text.now a.name c.requires.named))
          (c.put_unhex.ensures ∙ c.hex_of-hex.ensures);
      value = search rules;
    }
