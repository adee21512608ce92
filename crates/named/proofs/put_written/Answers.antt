-- `named::put_written` meets its contract: the written name and the zero byte are two pieces. Assumes nothing.
use mathlib.Core.Path.{◌≡◌, refl, sym, ◌∙◌, ap}
use mathlib.Core.List.{List, [], ◌∷◌}
use Prim.Native.Nat.{ℕ, ◌+◌, ◌-◌}
use native.Mathlib.Omega.{arith}
use lib.ListN.{length, replicate, take, drop, length-append}
use borrow.Rule.Slice.PartMut.{mid_len}
use Rattle.octets.specs.Octets.{zeros}
use Rattle.octets.proofs.Laws.{over-length}
use Rattle.octets.proofs.Filling.{over-part, over_two}
use Rattle.utf8.specs.Utf8.{is_text}
use Rattle.written.specs.Written.{written}
use Rattle.object.specs.Read.{name_in}
use Rattle.object.proofs.Names.{name_length}
use Rattle.named.proofs.Names.{over-front}
use Rattle.named.proofs.put_written.Goals as goal

pub written_len-m-requires : goal.written_len-m-requires
written_len-m-requires c =
    let raw = (let a = c.args in over-front (replicate 64 0) (name_in a.text.now a.name) a.name.len (name_length a.text.now a.name c.requires.named)) in
    ap (λ (l : List ℕ). is_text (take (c.args.name.len - 0) (drop 0 l))) c.put_name.ensures.out_after ∙ ap is_text (raw) ∙ c.requires.named.good

pub overflow_add-end : goal.overflow_add-end
overflow_add-end c =
    let raw = (let a = c.args in over-front (replicate 64 0) (name_in a.text.now a.name) a.name.len (name_length a.text.now a.name c.requires.named)) in
    let size = (let a = c.args in c.written_len-m.ensures ∙ ap (λ (l : List ℕ). length (written (take (a.name.len - 0) (drop 0 l)))) c.put_name.ensures.out_after ∙ ap (λ (l : List ℕ). length (written l)) (raw)) in
    omega (arith, size, c.requires.name_in_bounds)

pub slice_bounds-sanitize_ident-end : goal.slice_bounds-sanitize_ident-end
slice_bounds-sanitize_ident-end c =
    let raw = (let a = c.args in over-front (replicate 64 0) (name_in a.text.now a.name) a.name.len (name_length a.text.now a.name c.requires.named)) in
    let size = (let a = c.args in c.written_len-m.ensures ∙ ap (λ (l : List ℕ). length (written (take (a.name.len - 0) (drop 0 l)))) c.put_name.ensures.out_after ∙ ap (λ (l : List ℕ). length (written l)) (raw)) in
    omega (arith, size, c.requires.name_in_bounds)

pub sanitize_ident-requires : goal.sanitize_ident-requires
sanitize_ident-requires c =
    let raw = (let a = c.args in over-front (replicate 64 0) (name_in a.text.now a.name) a.name.len (name_length a.text.now a.name c.requires.named)) in
    let size = (let a = c.args in c.written_len-m.ensures ∙ ap (λ (l : List ℕ). length (written (take (a.name.len - 0) (drop 0 l)))) c.put_name.ensures.out_after ∙ ap (λ (l : List ℕ). length (written l)) (raw)) in
    let a = c.args in
    let m = c.written_len-m.result in
    let k : a.at + m - a.at ≡ m = omega arith in
    let e = ap (λ (l : List ℕ). take (a.name.len - 0) (drop 0 l)) c.put_name.ensures.out_after ∙ raw in record {
      s_value = ap is_text e ∙ c.requires.named.good;
      out_len = mid_len a.at (a.at + m) a.out.now (omega (arith, size, c.requires.name_in_bounds)) ∙ k ∙ size ∙ sym (ap (λ (l : List ℕ). length (written l)) e);
    }

pub slice_bounds-clear-end : goal.slice_bounds-clear-end
slice_bounds-clear-end c =
    let raw = (let a = c.args in over-front (replicate 64 0) (name_in a.text.now a.name) a.name.len (name_length a.text.now a.name c.requires.named)) in
    let size = (let a = c.args in c.written_len-m.ensures ∙ ap (λ (l : List ℕ). length (written (take (a.name.len - 0) (drop 0 l)))) c.put_name.ensures.out_after ∙ ap (λ (l : List ℕ). length (written l)) (raw)) in
    omega (arith, size, c.requires.name_in_bounds)

pub returns : goal.returns
returns c =
    let raw = (let a = c.args in over-front (replicate 64 0) (name_in a.text.now a.name) a.name.len (name_length a.text.now a.name c.requires.named)) in
    let size = (let a = c.args in c.written_len-m.ensures ∙ ap (λ (l : List ℕ). length (written (take (a.name.len - 0) (drop 0 l)))) c.put_name.ensures.out_after ∙ ap (λ (l : List ℕ). length (written l)) (raw)) in
    let a = c.args in
    let n = written (name_in a.text.now a.name) in
    let m = c.written_len-m.result in
    let e = ap (λ (l : List ℕ). written (take (a.name.len - 0) (drop 0 l))) c.put_name.ensures.out_after ∙ ap written (raw) in
    let f = (let a = c.args in over-part a.out.now a.at (a.at + c.written_len-m.result) _ (written (name_in a.text.now a.name)) (ap (λ (m : ℕ). a.at + m) (sym (size))) (c.sanitize_ident.ensures ∙ e)) in
    let long = ap length f ∙ over-length a.out.now a.at n (omega (arith, c.requires.name_in_bounds)) in
    let one : a.at + m + 1 - (a.at + m) ≡ 1 = omega arith in
    let zero = c.clear.ensures ∙ ap zeros (mid_len (a.at + m) (a.at + m + 1) _ (omega (arith, long, size, c.requires.name_in_bounds)) ∙ one) in record {
      out_after = over_two a.out.now a.at n (0 ∷ []) _ _ (a.at + m) (omega (arith, c.requires.name_in_bounds)) f (ap (λ (k : ℕ). a.at + k) (size))
          (over-part _ (a.at + m) (a.at + m + 1) _ (0 ∷ []) refl zero);
      value = omega (arith, size, length-append n (0 ∷ []));
    }
