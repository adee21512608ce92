-- Demand 3 of the bytes that `make` wrote, straight from what `make` promises: whatever job and output it is given, if it answers an object
-- of `n` bytes, a loader reads from the first `n` bytes of the output what the job declares, and every relocation has the number of the
-- last map declared under its raw name.
use mathlib.Core.Path.{◌≡◌, sym, ap, subst}
use mathlib.Core.List.{List}
use Prim.Native.Nat.{ℕ}
use lib.ListN.{take}
use contract.Lifetimes.{Lfts}
use borrow.Fn.Kinds.{Dens, res_t, ended_of}
use denote.Triple.Clauses.{AtExit}
use Rattle.std.specs.Prelude.{Ok}
use Rattle.ast.specs.Job.{Job}
use Rattle.refusals.specs.Checked.{checked, accepted}
use Rattle.maker.specs.Made.{Outcome, object, outcome_of}
use Rattle.maker.proofs.make.Kinds as make_kinds
use Rattle.maker.proofs.make.Reads as make
use Rattle.maker.proofs.Demands.{Met, accepted_writes}
use Rattle.maker.proofs.Single.{make_met}
use Rattle.seen.specs.Seen.{Loads}
use Rattle.seen.proofs.Accepted.{reads_accepted}

pub reads_written : (text out after : List ℕ) (n : ℕ) → Met text out (object n) after → (j : Job) × (checked text ≡ accepted j) × Loads (take n after) j
reads_written text out after n m =
    let (j, w) = accepted_writes text out after n m in
    (j, w.job, subst (λ (b : List ℕ). Loads b j) (sym w.object) (reads_accepted text j w.job))

-- `a.0` is the job, `e.1.0` the output afterwards, and `make.Post` the promise at `make` in the source
pub make_loads : (κs : Lfts 2) (a : Dens κs make_kinds.ps) (z : (res_t make_kinds.r κs).Denot) (e : AtExit (ended_of 2 make_kinds.ps make_kinds.r) κs) (n : ℕ)
    → make.Post κs a z e → z ≡ Ok n → (j : Job) × (checked a.0.now ≡ accepted j) × Loads (take n e.1.0.now) j
make_loads κs a z e n p i =
    reads_written a.0.now a.1.0.now e.1.0.now n
    (subst (λ (o : Outcome). Met a.0.now a.1.0.now o e.1.0.now) (ap outcome_of i) (make_met κs a z e p))
