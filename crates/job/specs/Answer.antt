-- What a job is answered: its object, or the one refusal that document 01's table gives.
use Rattle.std.specs.Prelude.{cond, List, ◌++◌, ℕ, length, drop, leb}
use Rattle.object.specs.Object.{object}
use Rattle.refusals.specs.Checked.{checked, accepted, faulty}
use Rattle.refusals.specs.Refusal.{number_of, line_of, needed_of}
use Rattle.refusals.specs.declared.Refusal.{Refusal}

-- `refused number line needed`: the length needed is 0 in every refusal but 8
pub data Answer : Type 0 where
  made : List ℕ → Answer
  refused : ℕ → ℕ → ℕ → Answer

-- 8 comes last: the object is longer than the lent output, and the length needed is its length
abbrev pub fitted : ℕ → List ℕ → Answer
fitted room bytes = cond (leb (length bytes) room) (made bytes) (refused 8 0 (length bytes))

-- the answer to a text for which an output of `room` bytes is lent
abbrev pub answer : List ℕ → ℕ → Answer
answer text room = elim (checked text) [ accepted j ↦ fitted room (object j) | faulty n l ↦ refused n l 0 ]

-- what is in the lent output afterwards: the object and then the bytes that were there, or, if refused, all bytes as they were
abbrev pub output_after : Answer → List ℕ → List ℕ
output_after (made bytes) out = bytes ++ drop (length bytes) out
output_after (refused number line needed) out = out

-- a refusal as an answer
abbrev pub refusal_of : Refusal → Answer
refusal_of r = refused (number_of r) (line_of r) (needed_of r)
