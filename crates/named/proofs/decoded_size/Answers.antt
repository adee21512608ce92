-- `named::decoded_size` meets its contract. Assumes nothing.
use mathlib.Core.Path.{◌∙◌, ap}
use mathlib.Core.List.{List}
use Prim.Native.Nat.{ℕ, ◌-◌}
use native.Mathlib.Omega.{arith}
use lib.ListN.{length, replicate, take, drop}
use Rattle.utf8.specs.Utf8.{is_text}
use Rattle.written.specs.Written.{written}
use Rattle.object.specs.Read.{name_in}
use Rattle.object.proofs.Names.{name_length}
use Rattle.named.proofs.Names.{written_most, over-front}
use Rattle.named.proofs.decoded_size.Goals as goal

pub written_len-requires : goal.written_len-requires
written_len-requires c =
    let raw = (let a = c.args in over-front (replicate 64 0) (name_in a.text.now a.name) a.name.len (name_length a.text.now a.name c.requires)) in
    ap (λ (l : List ℕ). is_text (take (c.args.name.len - 0) (drop 0 l))) c.put_name.ensures.out_after ∙ ap is_text (raw) ∙ c.requires.good

pub returns : goal.returns
returns c =
    let raw = (let a = c.args in over-front (replicate 64 0) (name_in a.text.now a.name) a.name.len (name_length a.text.now a.name c.requires)) in
    let a = c.args in
    let w = c.written_len.ensures ∙ ap (λ (l : List ℕ). length (written (take (a.name.len - 0) (drop 0 l)))) c.put_name.ensures.out_after ∙ ap (λ (l : List ℕ). length (written l)) (raw) in record {
      value = w;
      upper_bound = omega (arith, w, written_most a.text.now a.name c.requires);
    }
