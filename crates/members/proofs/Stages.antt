-- Pieces that a builder puts one after the other: for writers of several types. A stage says which bytes are still to come, and that so
-- many more bytes of strings and so many more ids fit.
use mathlib.Core.Path.{◌≡◌}
use mathlib.Core.List.{List, [], ◌++◌}
use Prim.Native.Nat.{ℕ, ◌+◌, ◌^◌, ◌≤◌, ◌<◌}
use native.Mathlib.Omega.{arith}
use lib.ListN.{length}
use Rattle.octets.specs.Over.{over}
use Rattle.octets.proofs.Going.{Going, go_start, go_as, go_room, go_on, go_done}
use Rattle.btf.specs.declared.BtfBuilder.{BtfBuilder}
use Rattle.btf.specs.Builder.{moved, Within}

-- `d` with `whole` written over it from `start` on: so far it is `out`, the builder is `b`, and `rest` is still to come
pub record Stage (d : List ℕ) (start : ℕ) (whole out : List ℕ) (b : BtfBuilder) (rest : List ℕ) (s k : ℕ) : Type 0 where
  pub going : Going d start whole out b.at rest
  pub strings : b.strings + s < 2 ^ 32
  pub next : b.next_type_id + k < 2 ^ 32

pub stage_start : (d whole : List ℕ) (b : BtfBuilder) (s k : ℕ) → Within (moved b (length whole) s k) (length d) → Stage d b.at whole d b whole s k
stage_start d whole b s k w = record { going = go_start d b.at whole w.at; strings = w.strings; next = w.next }

pub stage_as : {d whole out rest : List ℕ} {start s k : ℕ} {b : BtfBuilder} (other : List ℕ) → rest ≡ other → Stage d start whole out b rest s k
    → Stage d start whole out b other s k
stage_as other e g = record { going = go_as other e g.going; strings = g.strings; next = g.next }

-- the next piece fits
pub stage_within : {d whole out : List ℕ} {start s k : ℕ} {b : BtfBuilder} (t more : List ℕ) (s' k' : ℕ) → Stage d start whole out b (t ++ more) s k
    → s' ≤ s → k' ≤ k → Within (moved b (length t) s' k') (length out)
stage_within t more s' k' g p q =
    record { at = go_room t more g.going; strings = omega (arith, g.strings); next = omega (arith, g.next) }

-- one piece more
pub stage_on : {d whole out : List ℕ} {start s k : ℕ} {b : BtfBuilder} (t more out' : List ℕ) (b' : BtfBuilder) (s' k' : ℕ)
    → Stage d start whole out b (t ++ more) s k → out' ≡ over out b.at t → b'.at ≡ b.at + length t → b'.strings + s' ≤ b.strings + s
    → b'.next_type_id + k' ≤ b.next_type_id + k → Stage d start whole out' b' more s' k'
stage_on t more out' b' s' k' g e n p q =
    record { going = go_on t more out' b'.at g.going e n; strings = omega (arith, g.strings); next = omega (arith, g.next) }

pub stage_done : {d whole out : List ℕ} {start s k : ℕ} {b : BtfBuilder} → Stage d start whole out b [] s k → out ≡ over d start whole
stage_done g = (go_done g.going).0
