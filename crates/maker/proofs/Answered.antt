-- The answer of the definitions, by what is known of the job and of the room.
use mathlib.Core.Path.{◌≡◌}
use mathlib.Core.List.{List}
use Prim.Native.Nat.{ℕ, ◌-◌, ◌≤◌, ◌<◌}
use native.Mathlib.Omega.{arith}
use lib.ListN.{length}
use borrow.Author.Tests.{le-leb, lt-leb}
use borrow.Rule.Slice.PartMut.{put_mid}
use Rattle.ast.specs.Job.{Job}
use Rattle.object.specs.Object as whole
use Rattle.refusals.specs.Checked.{checked, accepted, faulty}
use Rattle.job.specs.Answer.{refused, fitted, answer, output_after}
use Rattle.maker.specs.Made.{object, refusal, outcome}

-- an output that is too short is refused 8, and left as it is
pub too_short : (out bytes : List ℕ) (n : ℕ) → n ≡ length bytes → length out < n
    → (refusal 8 0 n ≡ outcome (fitted (length out) bytes)) × (out ≡ output_after (fitted (length out) bytes) out)
too_short out bytes n e h = let t = lt-leb (length bytes) (length out) (omega (arith, e)) in (rw (t, e), rw t)

-- one with room has the object at its front, and after it what was there
pub fits : (out bytes l : List ℕ) (n : ℕ) → n ≡ length bytes → n ≤ length out → l ≡ bytes
    → (object n ≡ outcome (fitted (length out) bytes)) × (put_mid 0 (n - 0) out l ≡ output_after (fitted (length out) bytes) out)
fits out bytes l n e h q =
    let t = le-leb (length bytes) (length out) (omega (arith, e)) in
    let k : n - 0 ≡ length bytes = omega (arith, e) in
    (rw (t, e), rw (t, q, k))

-- by what checking the job gave
pub answer_accepted : (text : List ℕ) (room : ℕ) (j : Job) → checked text ≡ accepted j → answer text room ≡ fitted room (whole.object j)
answer_accepted text room j e = rw (e, answer)

pub answer_faulty : (text : List ℕ) (room n l : ℕ) → checked text ≡ faulty n l → answer text room ≡ refused n l 0
answer_faulty text room n l e = rw (e, answer)
