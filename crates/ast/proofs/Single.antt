-- Single outcomes: two outcomes that meet the promise of a public function of this crate are equal.
use mathlib.Core.Path.{◌≡◌, refl, sym, ◌∙◌}
use Prim.Native.Nat.{ℕ}
use native.Mathlib.Omega.{arith}
use Rattle.std.specs.Prelude.{Result, Ok, Err}
use Rattle.octets.specs.Told.{Told, gives, refuses}
use Rattle.octets.proofs.Single.{OneResult}
use Rattle.ast.specs.declared.Unlisted.{Unlisted}
use Rattle.ast.specs.Listed.{listed_told}
use Rattle.ast.proofs.TypeTryFromU8.try_from.Kinds as type_kinds
use Rattle.ast.proofs.TypeTryFromU8.try_from.Reads as type_reads
use Rattle.ast.proofs.MapTypeTryFromU8.try_from.Kinds as map_type_kinds
use Rattle.ast.proofs.MapTypeTryFromU8.try_from.Reads as map_type_reads

-- an answer is told by what it says
listed_one : {A : Type 0} (a b : Result A Unlisted) → listed_told a ≡ listed_told b → a ≡ b
listed_one (Ok x) (Ok y) e = let i : x ≡ y = cc in rw i
listed_one (Ok x) (Err y) e = let i : ◌≡◌ {A = ℕ} 0 1 = cc in absurd (omega arith)
listed_one (Err x) (Ok y) e = let i : ◌≡◌ {A = ℕ} 0 1 = cc in absurd (omega arith)
listed_one (Err x) (Err y) e = refl

type_try_from_single : OneResult type_kinds.ps type_kinds.r type_reads.Post
type_try_from_single κs a z z' e e' p p' = listed_one z z' (p ∙ sym p')

map_type_try_from_single : OneResult map_type_kinds.ps map_type_kinds.r map_type_reads.Post
map_type_try_from_single κs a z z' e e' p p' = listed_one z z' (p ∙ sym p')
