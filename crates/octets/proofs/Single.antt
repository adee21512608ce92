-- Single outcomes: what a promise says leaves one result, and one string of bytes in lent memory. The theorems are over `Post`, the promise
-- at the function in the source, so a weaker promise breaks them. Every other crate states its own with the first two definitions here.
use mathlib.Core.Path.{◌≡◌, sym, ◌∙◌}
use mathlib.Core.List.{List}
use Prim.Native.Nat.{ℕ}
use contract.Lifetimes.{Lfts}
use borrow.Fn.Kinds.{Out, ParamKind, ResultKind, Dens, res_t, ended_of}
use denote.Triple.Clauses.{AtExit}
use Rattle.octets.proofs.put_le.Kinds as put_le_kinds
use Rattle.octets.proofs.put_le.Reads as put-le
use Rattle.octets.proofs.get_le.Kinds as get_le_kinds
use Rattle.octets.proofs.get_le.Reads as get_le
use Rattle.octets.proofs.get_at.Kinds as get_at_kinds
use Rattle.octets.proofs.get_at.Reads as get_at
use Rattle.octets.proofs.copy.Kinds as copy_kinds
use Rattle.octets.proofs.copy.Reads as copy
use Rattle.octets.proofs.clear.Kinds as clear_kinds
use Rattle.octets.proofs.clear.Reads as clear
use Rattle.octets.proofs.same.Kinds as same_kinds
use Rattle.octets.proofs.same.Reads as same
use Rattle.octets.proofs.put_at.Kinds as put_at_kinds
use Rattle.octets.proofs.put_at.Reads as put_at
use Rattle.octets.proofs.put_fields.Kinds as put_fields_kinds
use Rattle.octets.proofs.put_fields.Reads as put-fields

module _ {n : ℕ} (ps : List (ParamKind n)) (r : ResultKind n) (Post : Out n ps r) where
  -- two results that meet the promise for the same arguments are equal
  abbrev pub OneResult : Type 0
  OneResult =
      (κs : Lfts n) (a : Dens κs ps) (z z' : (res_t r κs).Denot) (e e' : AtExit (ended_of n ps r) κs) → Post κs a z e → Post κs a z' e' → z ≡ z'

  -- and two outcomes leave the same in the part of lent memory that `at` picks
  abbrev pub OneExit : ((κs : Lfts n) → AtExit (ended_of n ps r) κs → List ℕ) → Type 0
  OneExit at =
      (κs : Lfts n) (a : Dens κs ps) (z z' : (res_t r κs).Denot) (e e' : AtExit (ended_of n ps r) κs) → Post κs a z e → Post κs a z' e' → at κs e ≡ at κs e'

put_le_single : OneExit put_le_kinds.ps put_le_kinds.r put-le.Post (λ κs e. e.0.now)
put_le_single κs a z z' e e' p p' = p ∙ sym p'

get_le_single : OneResult get_le_kinds.ps get_le_kinds.r get_le.Post
get_le_single κs a z z' e e' p p' = p.0 ∙ sym p'.0

get_at_single : OneResult get_at_kinds.ps get_at_kinds.r get_at.Post
get_at_single κs a z z' e e' p p' = p.0 ∙ sym p'.0

copy_single : OneExit copy_kinds.ps copy_kinds.r copy.Post (λ κs e. e.0.now)
copy_single κs a z z' e e' p p' = p ∙ sym p'

clear_single : OneExit clear_kinds.ps clear_kinds.r clear.Post (λ κs e. e.0.now)
clear_single κs a z z' e e' p p' = p ∙ sym p'

same_single : OneResult same_kinds.ps same_kinds.r same.Post
same_single κs a z z' e e' p p' = p ∙ sym p'

put_at_single : OneExit put_at_kinds.ps put_at_kinds.r put_at.Post (λ κs e. e.0.now)
put_at_single κs a z z' e e' p p' = p ∙ sym p'

put_fields_single : OneExit put_fields_kinds.ps put_fields_kinds.r put-fields.Post (λ κs e. e.0.now)
put_fields_single κs a z z' e e' p p' = p ∙ sym p'
