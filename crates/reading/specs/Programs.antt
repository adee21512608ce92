-- Rules L3 to L5: the licence, the symbols, and the programs' code. Nothing here names the writer or its layout.
use Rattle.std.specs.Prelude.{Bool, ◌&&◌, List, [], ◌∷◌, ℕ, zero, suc, ◌/◌, ◌%◌, length, drop, leb, eqb}
use Rattle.std.proofs.Math.Option.{Option, none, some}
use Rattle.octets.specs.Octets.{ascii}
use Rattle.reading.specs.Steps.{◌>>=◌, ◌guards◌, field, first_of, keep, numbered, only, string_at}
use Rattle.reading.specs.Sections.{Named, is_plain}

-- ---- L3: the licence

abbrev pub less_zero : List ℕ → Option (List ℕ)
less_zero [] = none
less_zero (b ∷ []) = eqb b 0 guards some []
less_zero (b ∷ c ∷ bs) = less_zero (c ∷ bs) >>= λ s. some (b ∷ s)

abbrev pub read_licence : List Named → Option (List ℕ)
read_licence ss =
    first_of (keep (is_plain 3 (ascii "license")) ss) >>= λ s.
    less_zero s.bytes >>= λ l.
    leb (length l) 64 guards some l

-- ---- L4: the symbols

pub record Symbol : Type 0 where
  pub name : List ℕ
  pub kind : ℕ
  pub section : ℕ
  pub at : ℕ

abbrev pub symbols_of : List ℕ → ℕ → List ℕ → Option (List Symbol)
symbols_of t zero d = some []
symbols_of t (suc n) d =
    string_at 64 t (field 4 d 0) >>= λ s.
    symbols_of t n (drop 24 d) >>= λ ss.
    some (record { name = s; kind = field 1 d 4 % 16; section = field 2 d 6; at = field 8 d 8 } ∷ ss)

abbrev pub is_kind : ℕ → Named → Bool
is_kind k s = eqb s.kind k

abbrev pub strings : List Named → ℕ → Option (List ℕ)
strings ss i = numbered ss i >>= λ s. eqb s.kind 3 guards some s.bytes

abbrev pub read_symbols : List Named → Option (List Symbol)
read_symbols ss =
    only (keep (is_kind 2) ss) >>= λ s.
    strings ss s.link >>= λ t.
    eqb (s.size % 24) 0 guards symbols_of t (s.size / 24) s.bytes

-- ---- L5: the programs

pub record Code : Type 0 where
  pub section : List ℕ
  pub symbol : List ℕ
  pub number : ℕ
  pub bytes : List ℕ

abbrev pub is_code : Named → Bool
is_code s = eqb s.kind 1 && eqb s.flags 6

abbrev pub is_function : ℕ → Symbol → Bool
is_function i s = eqb s.kind 2 && eqb s.section i

abbrev pub codes_of : List Symbol → List Named → Option (List Code)
codes_of syms [] = some []
codes_of syms (s ∷ ss) =
    only (keep (is_function s.number) syms) >>= λ y.
    codes_of syms ss >>= λ cs.
    some (record { section = s.name; symbol = y.name; number = s.number; bytes = s.bytes } ∷ cs)

abbrev pub read_codes : List Symbol → List Named → Option (List Code)
read_codes syms ss =
    let cs = keep is_code ss in
    leb (length cs) 32 guards codes_of syms cs
