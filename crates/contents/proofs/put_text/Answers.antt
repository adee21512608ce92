-- `contents::put_text` meets its contract: a run of two parts. Assumes nothing.
use mathlib.Core.Path.{◌≡◌, refl, sym, ◌∙◌, ap}
use mathlib.Core.List.{[], ◌∷◌}
use Prim.Native.Nat.{◌+◌, ◌-◌, ◌*◌}
use native.Mathlib.Omega.{arith}
use lib.ListN.{length, take, drop}
use lib.Seq.{length-take-le}
use borrow.Rule.Slice.PartMut.{put_mid}
use Rattle.octets.specs.Octets.{zeros}
use Rattle.octets.proofs.Laws.{start, part, part-long, done}
use Rattle.lines.specs.Hex.{bytes_in}
use Rattle.object.proofs.Names.{part_hex, part_name, name_length}
use Rattle.contents.proofs.put_text.Goals as goal

pub invariant_of-hex : goal.invariant_of-hex
invariant_of-hex c = record { hex = part_hex c.args.text.now c.args.name c.requires.named }

pub returns : goal.returns
returns c =
    let text = c.args.text.now in
    let name = c.args.name in
    let n = name.len in
    let one : n + 1 - n ≡ 1 = omega arith in
    let r₀ = start c.args.out.now c.requires.out_len in
    let u = c.put_unhex.ensures ∙ part_name text name c.requires.named in
    let r₁ = part n (bytes_in (take (2 * n) (drop name.at text))) r₀ u (omega (arith, name_length text name c.requires.named)) in
    let w : c.clear.new.out ≡ zeros (length (take (n + 1 - n) (drop n (put_mid 0 (n - 0) c.args.out.now c.put_unhex.new.out)))) = c.clear.ensures in
    let z = ap zeros (part-long (n + 1) r₁ (omega arith) (omega arith) ∙ one) in
    done (part (n + 1) (0 ∷ []) r₁ (w ∙ z) refl)

pub put_unhex-requires : goal.put_unhex-requires
put_unhex-requires c =
    let n = c.args.name.len in
    let k : n - 0 ≡ n = omega arith in
    length-take-le (n - 0) c.args.out.now (omega (arith, c.requires.out_len)) ∙ k
    ∙ sym (ap length (part_name c.args.text.now c.args.name c.requires.named) ∙ name_length c.args.text.now c.args.name c.requires.named)
