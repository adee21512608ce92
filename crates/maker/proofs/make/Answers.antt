-- `maker::make` meets its contract. Assumes nothing.
use mathlib.Core.Path.{◌≡◌, sym, ◌∙◌, ap, subst}
use lib.ListN.{length}
use Rattle.std.specs.Prelude.{Result}
use Rattle.refusals.specs.Checked.{checked, faulty}
use Rattle.refusals.specs.Refusal.{number_of, line_of}
use Rattle.refusals.specs.declared.Refusal.{Refusal}
use Rattle.job.specs.Answer.{Answer, output_after}
use Rattle.job.specs.Walked.{parsing_in}
use Rattle.maker.specs.Made.{refusal, outcome}
use Rattle.maker.proofs.Answered.{answer_faulty}
use Rattle.maker.proofs.Numbers.{LowChecked, checked_low, nothing_needed}
use Rattle.maker.proofs.make.Goals as goal

-- a job that is refused: nothing is written
pub returns : goal.returns
returns c =
    let a = c.args in
    let r = c.in-Err.refusal in
    let e : checked a.job.now ≡ faulty (number_of r) (line_of r) =
    sym (subst (λ (x : Result (Unit {0}) Refusal). parsing_in a.job.now x c.parse-parsed.result.object ≡ checked a.job.now) c.in-Err.is c.parse-parsed.ensures.result_value) in
    let f = answer_faulty a.job.now (length a.out.now) (number_of r) (line_of r) e in
    let z = nothing_needed r (subst LowChecked e (checked_low a.job.now)) in
    record {
      result_value = ap (refusal (number_of r) (line_of r)) z ∙ ap outcome (sym f);
      out_after = ap (λ (x : Answer). output_after x a.out.now) (sym f);
    }
