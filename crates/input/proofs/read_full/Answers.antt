-- One turn of `read_full`: what the reader gave stands behind what was read before.
use Rattle.std.proofs.Common.{◌≡◌, ℕ, ◌+◌, ◌-◌, ◌≤◌, List, ◌++◌, rules, length, take, sym, ap, ◌∙◌, subst, length-take-le}
use Rattle.std.proofs.lemmas.List.{take-append-le}
use Rattle.std.proofs.Math.Seq.{take-append-add}
use Rattle.std.specs.Io.KnownBytes.{Consumes}
use Rattle.std.proofs.KnownBytes.{Consumes-trans}
use borrow.Rule.Slice.PartMut.{put_mid, post_of}
use Rattle.input.proofs.read_full.Goals as goal

-- of a part that holds `l`, its first `n` bytes stand behind what was before it
front_and_part : (d l : List ℕ) (at k n : ℕ) → at ≤ length d → n ≤ length l → take (at + n) (put_mid at k d l) ≡ take at d ++ take n l
front_and_part d l at k n within fits =
    let joined = take-append-add (take at d) (l ++ post_of at k d) n ∙ ap (λ r. take at d ++ r) (take-append-le n l (post_of at k d) fits) in
    subst (λ (m : ℕ). take (m + n) (put_mid at k d l) ≡ take at d ++ take n l) (length-take-le at d within) joined

pub loop-done-preserved : goal.loop-done-preserved
loop-done-preserved g c =
    let loop = c.loop-done in
    let read = c.in_ok-n.ensures in
    let now = front_and_part loop.buf c.read.new.buf loop.done (length loop.buf - loop.done) c.in_ok-n.n loop.invariant.in_bounds read.bound.0 in
    record {
      same_length = search rules;
      in_bounds = search rules;
      next_bytes = subst (Consumes _ _) (sym now) (Consumes-trans _ _ _ _ _ loop.invariant.next_bytes read.bytes.0);
    }
