-- A string at a place of a string table is what a loader reads there.
use mathlib.Core.Path.{◌≡◌, refl}
use mathlib.Core.Option.{some}
use mathlib.Core.List.{List, [], ◌∷◌, ◌++◌}
use Prim.Native.Nat.{ℕ}
use lib.Dec.{eqb}
use Rattle.octets.proofs.Tests.{or_false_both}
use Rattle.utf8.specs.Utf8.{has_zero}
use Rattle.written.proofs.Names.{Clean}
use Rattle.elf.proofs.Strings.{Stands}
use Rattle.reading.specs.Steps.{to_zero, text_at}

to_zero_lem : (s r : List ℕ) → Clean s → to_zero (s ++ (0 ∷ r)) ≡ some s
to_zero_lem [] r h = refl
to_zero_lem (b ∷ bs) r h =
    let p = or_false_both (eqb b 0) (has_zero bs) h in
    rw (p.0, to_zero_lem bs r p.1)

pub stands_read : {t s : List ℕ} {p : ℕ} → Stands t p s → Clean s → text_at t p ≡ some s
stands_read {t} {s} {p} h c = rw h.from (to_zero_lem s h.rest c)
