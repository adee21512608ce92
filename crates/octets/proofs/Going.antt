-- A row of pieces written over some place of lent memory: the invariant of a loop that writes there.
use mathlib.Core.Path.{◌≡◌, refl, sym, ◌∙◌, ap}
use mathlib.Core.List.{List, [], ◌++◌}
use Prim.Native.Nat.{ℕ, ◌+◌, ◌≤◌}
use native.Mathlib.Omega.{arith}
use lib.ListN.{length, length-append, take-append-drop}
use Rattle.octets.specs.Over.{over}
use Rattle.octets.proofs.Laws.{over-length, over-over}

pub over_nothing : (d : List ℕ) (at : ℕ) → over d at [] ≡ d
unfolding over
over_nothing d at = let e : at + 0 ≡ at = omega arith in rw e (take-append-drop at d)

-- `d` with `whole` written over it from `start` on is `out` with `rest` written over it from `at` on
pub record Going (d : List ℕ) (start : ℕ) (whole out : List ℕ) (at : ℕ) (rest : List ℕ) : Type 0 where
  pub is : over out at rest ≡ over d start whole
  pub same : length out ≡ length d
  pub left : at + length rest ≡ start + length whole
  pub room : start + length whole ≤ length d

pub go_start : (d : List ℕ) (start : ℕ) (whole : List ℕ) → start + length whole ≤ length d → Going d start whole d start whole
go_start d start whole h = record { is = refl; same = refl; left = refl; room = h }

pub go_as : {d whole out rest : List ℕ} {start at : ℕ} (other : List ℕ) → rest ≡ other → Going d start whole out at rest → Going d start whole out at other
go_as {d} {whole} {out} {rest} {start} {at} other e g =
    record { is = ap (λ (r : List ℕ). over out at r) (sym e) ∙ g.is; same = g.same; left = ap (λ (r : List ℕ). at + length r) (sym e) ∙ g.left; room = g.room }

pub go_room : {d whole out : List ℕ} {start at : ℕ} (t more : List ℕ) → Going d start whole out at (t ++ more) → at + length t ≤ length out
go_room t more g = omega (arith, g.same, g.left, g.room, length-append t more)

pub go_on : {d whole out : List ℕ} {start at : ℕ} (t more out' : List ℕ) (at' : ℕ) → Going d start whole out at (t ++ more) → out' ≡ over out at t → at' ≡ at + length t
    → Going d start whole out' at' more
go_on {d} {whole} {out} {start} {at} t more out' at' g e n =
    let room = go_room t more g in
    record {
      is = rw (e, n) (over-over out at t more (omega arith)) ∙ g.is;
      same = ap length e ∙ over-length out at t room ∙ g.same;
      left = omega (arith, g.left, length-append t more);
      room = g.room;
    }

pub go_done : {d whole out : List ℕ} {start at : ℕ} → Going d start whole out at [] → (out ≡ over d start whole) × (at ≡ start + length whole)
go_done {d} {whole} {out} {start} {at} g = (sym (over_nothing out at) ∙ g.is, omega (arith, g.left))
