-- Single outcomes: two outcomes that meet the promise of a public function of this crate are equal.
use mathlib.Core.Path.{◌≡◌, refl, sym, ◌∙◌}
use Rattle.std.specs.Prelude.{Result, Ok, Err}
use Rattle.octets.proofs.Single.{OneResult}
use Rattle.flaws.specs.Flaws.{flaw_told, limit_told}
use Rattle.flaws.specs.declared.NotText.{NotText}
use Rattle.flaws.specs.declared.OverLimit.{OverLimit}
use Rattle.flaws.proofs.name_flaw.Kinds as name_flaw_kinds
use Rattle.flaws.proofs.name_flaw.Reads as name_flaw
use Rattle.flaws.proofs.string_flaw.Kinds as string_flaw_kinds
use Rattle.flaws.proofs.string_flaw.Reads as string_flaw
use Rattle.flaws.proofs.program_flaw.Kinds as program_flaw_kinds
use Rattle.flaws.proofs.program_flaw.Reads as program_flaw
use Rattle.flaws.proofs.name_limit.Kinds as name_limit_kinds
use Rattle.flaws.proofs.name_limit.Reads as name_limit
use Rattle.flaws.proofs.program_limit.Kinds as program_limit_kinds
use Rattle.flaws.proofs.program_limit.Reads as program_limit

-- an answer is told by what it says
flaw_one : (a b : Result (Unit {0}) NotText) → flaw_told a ≡ flaw_told b → a ≡ b
flaw_one (Ok u) (Ok v) e = refl
flaw_one (Ok u) (Err d) e = cc
flaw_one (Err d) (Ok v) e = cc
flaw_one (Err d) (Err f) e = refl

limit_one : (a b : Result (Unit {0}) OverLimit) → limit_told a ≡ limit_told b → a ≡ b
limit_one (Ok u) (Ok v) e = refl
limit_one (Ok u) (Err d) e = cc
limit_one (Err d) (Ok v) e = cc
limit_one (Err d) (Err f) e = refl

name_flaw_single : OneResult name_flaw_kinds.ps name_flaw_kinds.r name_flaw.Post
name_flaw_single κs a z z' e e' p p' = flaw_one z z' (p ∙ sym p')

string_flaw_single : OneResult string_flaw_kinds.ps string_flaw_kinds.r string_flaw.Post
string_flaw_single κs a z z' e e' p p' = flaw_one z z' (p ∙ sym p')

program_flaw_single : OneResult program_flaw_kinds.ps program_flaw_kinds.r program_flaw.Post
program_flaw_single κs a z z' e e' p p' = flaw_one z z' (p ∙ sym p')

name_limit_single : OneResult name_limit_kinds.ps name_limit_kinds.r name_limit.Post
name_limit_single κs a z z' e e' p p' = limit_one z z' (p ∙ sym p')

program_limit_single : OneResult program_limit_kinds.ps program_limit_kinds.r program_limit.Post
program_limit_single κs a z z' e e' p p' = limit_one z z' (p ∙ sym p')
