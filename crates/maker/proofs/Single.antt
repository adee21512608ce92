-- Single outcome: two outcomes that meet the promise of `make` are equal, in the answer and in every byte of the output. And what the
-- promise says of one outcome is `Met`, which the demands are about.
use mathlib.Core.Path.{◌≡◌, sym, ◌∙◌, ap}
use Prim.Native.Nat.{ℕ}
use contract.Lifetimes.{Lfts}
use borrow.Fn.Kinds.{Dens, res_t, ended_of}
use denote.Triple.Clauses.{AtExit}
use Rattle.std.specs.Prelude.{Result, Ok, Err}
use Rattle.octets.proofs.Single.{OneResult, OneExit}
use Rattle.refusals.specs.Refusal.{number_of, line_of, needed_of}
use Rattle.refusals.specs.declared.Refusal.{Refusal}
use Rattle.refusals.proofs.Told.{told_once}
use Rattle.maker.specs.Made.{outcome_of}
use Rattle.maker.proofs.Demands.{Met}
use Rattle.maker.proofs.make.Kinds as make_kinds
use Rattle.maker.proofs.make.Reads as make

make_bytes : OneExit make_kinds.ps make_kinds.r make.Post (λ κs e. e.1.0.now)
make_bytes κs a z z' e e' p p' = p.1 ∙ sym p'.1

-- an answer is told by its outcome
answer_once : (r s : Result ℕ Refusal) → outcome_of r ≡ outcome_of s → r ≡ s
answer_once (Ok n) (Ok m) e = cc
answer_once (Ok n) (Err s) e = cc
answer_once (Err r) (Ok m) e = cc
answer_once (Err r) (Err s) e =
    let n : number_of r ≡ number_of s = cc in
    let l : line_of r ≡ line_of s = cc in
    let k : needed_of r ≡ needed_of s = cc in
    ap Err (told_once r s n l k)

make_single : OneResult make_kinds.ps make_kinds.r make.Post
make_single κs a z z' e e' p p' = answer_once z z' (p.0 ∙ sym p'.0)

pub make_met : (κs : Lfts 2) (a : Dens κs make_kinds.ps) (z : (res_t make_kinds.r κs).Denot) (e : AtExit (ended_of 2 make_kinds.ps make_kinds.r) κs)
    → make.Post κs a z e → Met a.0.now a.1.0.now (outcome_of z) e.1.0.now
make_met κs a z e p = record { answered = p.0; written = p.1 }
