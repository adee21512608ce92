-- What `make` answers, in the words of the definitions: the object itself is in the output, and the answer has its length.
use Rattle.std.specs.Prelude.{ℕ, length, Result, Ok, Err}
use Rattle.refusals.specs.Refusal.{number_of, line_of, needed_of}
use Rattle.job.specs.Answer.{Answer, made, refused}
use Rattle.refusals.specs.declared.Refusal.{Refusal}

-- an object of so many bytes, or a refusal's number, line and length needed
pub data Outcome : Type 0 where
  object : ℕ → Outcome
  refusal : ℕ → ℕ → ℕ → Outcome

abbrev pub outcome : Answer → Outcome
outcome (made bytes) = object (length bytes)
outcome (refused number line needed) = refusal number line needed

abbrev pub outcome_of : Result ℕ Refusal → Outcome
outcome_of (Ok n) = object n
outcome_of (Err r) = refusal (number_of r) (line_of r) (needed_of r)
