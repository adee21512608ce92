-- Single outcomes: two answers of `parse` that meet its promise are the same when read. The slots of a table past its count, and the tables
-- beside a refusal, may differ: nobody reads them.
use mathlib.Core.Path.{◌≡◌, sym, ◌∙◌}
use contract.Lifetimes.{Lfts}
use borrow.Fn.Kinds.{Dens, res_t, ended_of}
use denote.Triple.Clauses.{AtExit}
use Rattle.job.specs.Walked.{parsed_in}
use Rattle.job.proofs.parse.Kinds as parse_kinds
use Rattle.job.proofs.parse.Reads as parse

parse_read : (κs : Lfts 1) (a : Dens κs parse_kinds.ps) (z z' : (res_t parse_kinds.r κs).Denot) (e e' : AtExit (ended_of 1 parse_kinds.ps parse_kinds.r) κs)
    → parse.Post κs a z e → parse.Post κs a z' e' → parsed_in a.0.now z ≡ parsed_in a.0.now z'
parse_read κs a z z' e e' p p' = p.0 ∙ sym p'.0
