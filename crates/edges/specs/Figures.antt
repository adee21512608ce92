-- Figures that document 01 gives for an object, and whether bytes have them. Sections are found by rules L1 and L2, symbols by L4.
use Rattle.std.specs.Prelude.{Bool, true, false, ◌&&◌, List, [], ◌∷◌, ℕ, ◌+◌, length, take, eqb}
use Rattle.std.proofs.Math.Option.{Option, none, some}
use Prim.Native.String.{String}
use Rattle.std.proofs.Math.ListN.{get_elem?}
use Rattle.octets.specs.Octets.{ascii, equal}
use Rattle.reading.specs.Steps.{◌>>=◌, field, keep, only, numbered}
use Rattle.reading.specs.Sections.{Header, Named, read_sections, read_names, contents}
use Rattle.reading.specs.Programs.{read_symbols}
use Rattle.lines.specs.Lines.{unhex}

pub data Figure : Type 0 where
  -- the object's length, the section table's place, the number of section headers
  size : ℕ → Figure
  table : ℕ → Figure
  sections : ℕ → Figure
  -- where the section of a name begins; where it begins and ends; how many bytes it has
  begins : String → ℕ → Figure
  spans : String → ℕ → ℕ → Figure
  has : String → ℕ → Figure
  -- the lengths of the types and the strings of `.BTF`
  types : ℕ → Figure
  strings : ℕ → Figure
  -- the bytes of the section of a name, all of them or the first ones, in hexadecimal
  holds : String → String → Figure
  starts : String → String → Figure
  -- the name of the symbol of a number
  symbol : ℕ → String → Figure

-- the header of the only section of a name
abbrev pub header_named : List ℕ → List ℕ → Option Header
header_named o name =
    read_sections o >>= λ ss.
    read_names o ss >>= λ ns.
    only (keep (λ (s : Named). equal s.name name) ns) >>= λ s.
    numbered ss.headers s.number

abbrev pub symbol_named : List ℕ → ℕ → Option (List ℕ)
symbol_named o i =
    read_sections o >>= λ ss.
    read_names o ss >>= λ ns.
    read_symbols ns >>= λ ys.
    get_elem? ys i >>= λ y.
    some y.name

abbrev pub of_header : List ℕ → String → (Header → Bool) → Bool
of_header o name p = elim (header_named o (ascii name)) [ none ↦ false | some h ↦ p h ]

abbrev pub same : Option (List ℕ) → List ℕ → Bool
same none bs = false
same (some as') bs = equal as' bs

abbrev pub front : Option (List ℕ) → List ℕ → Bool
front none bs = false
front (some as') bs = equal as' (take (length as') bs)

abbrev pub figure_of : List ℕ → Figure → Bool
figure_of o (size n) = eqb (length o) n
figure_of o (table n) = eqb (field 8 o 40) n
figure_of o (sections n) = eqb (field 2 o 60) n
figure_of o (begins name n) = of_header o name (λ h. eqb h.at n)
figure_of o (spans name a e) = of_header o name (λ h. eqb h.at a && eqb (h.at + h.size) e)
figure_of o (has name n) = of_header o name (λ h. eqb h.size n)
figure_of o (types n) = of_header o ".BTF" (λ h. eqb (field 4 (contents o h) 12) n)
figure_of o (strings n) = of_header o ".BTF" (λ h. eqb (field 4 (contents o h) 20) n)
figure_of o (holds name hex) = of_header o name (λ h. same (unhex (ascii hex)) (contents o h))
figure_of o (starts name hex) = of_header o name (λ h. front (unhex (ascii hex)) (contents o h))
figure_of o (symbol i name) = same (symbol_named o i) (ascii name)

abbrev pub figures_of : List ℕ → List Figure → Bool
figures_of o [] = true
figures_of o (f ∷ fs) = figure_of o f && figures_of o fs
