-- What the readers of a map's attributes answer: an attribute with the rest of the frame after it, or refusal 3.
use Rattle.std.specs.Prelude as code
use Rattle.std.specs.Prelude.{List, ℕ, ◌≤◌, drop, length}
use Rattle.octets.specs.Told.{Told, gives, refuses}
use Rattle.ast.specs.declared.Attr.{Attr}
use Rattle.frames.specs.Frames as model
use Rattle.frames.specs.declared.Read.{Read}

-- an attribute; the rest of the frame `bs` begins at byte `next`
abbrev pub attr_is : {A : Type 0} → List ℕ → ℕ → code.Option (Attr A) → Told (model.Read A)
attr_is bs next (code.Some a) = gives (record { attr = a; rest = drop next bs })
attr_is bs next code.None = refuses 3

abbrev pub attr_told : {A : Type 0} → List ℕ → Read A → Told (model.Read A)
attr_told bs r = attr_is bs r.next r.answer

-- the next byte is not before `at`, and within the frame
abbrev pub Onward : ℕ → ℕ → List ℕ → Type 0
Onward at next bs = (at ≤ next) × (next ≤ length bs)
