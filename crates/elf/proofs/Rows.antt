-- Rows of section headers and of symbols: their records, how long a row is, and which numbers fit their fields.
use mathlib.Core.Path.{◌≡◌, refl, ap}
use mathlib.Core.List.{List, [], ◌∷◌, ◌++◌}
use Prim.Native.Nat.{ℕ, suc, ◌*◌, ◌^◌, ◌<◌}
use native.Mathlib.Omega.{arith}
use lib.ListN.{length}
use Rattle.elf.specs.Elf.{Section, place, after, Header, header_bytes, header_for, section_headers, Symbol, symbols_bytes}

-- ---- section headers

pub record FitHeader (h : Header) : Type 0 where
  pub name : h.name < 2 ^ 32
  pub kind : h.kind < 2 ^ 32
  pub flags : h.flags < 2 ^ 64
  pub at : h.at < 2 ^ 64
  pub size : h.size < 2 ^ 64
  pub link : h.link < 2 ^ 32
  pub info : h.info < 2 ^ 32

-- what a section itself gives to its header
pub record FitSection (s : Section) : Type 0 where
  pub kind : s.kind < 2 ^ 32
  pub flags : s.flags < 2 ^ 64
  pub link : s.link < 2 ^ 32
  pub info : s.info < 2 ^ 32

-- the headers of sections that begin at `n`, whose names are at `ps`, as records
abbrev pub headers_for : List ℕ → ℕ → List Section → List Header
headers_for [] n [] = []
headers_for [] n (s ∷ ss) = []
headers_for (p ∷ ps) n [] = []
headers_for (p ∷ ps) n (s ∷ ss) = header_for p (place n s) s ∷ headers_for ps (after n s) ss

abbrev pub header_row : List Header → List ℕ
header_row [] = []
header_row (h ∷ hs) = header_bytes h ++ header_row hs

pub headers_row : (ps : List ℕ) (n : ℕ) (ss : List Section) → section_headers ps n ss ≡ header_row (headers_for ps n ss)
headers_row [] n [] = refl
headers_row [] n (s ∷ ss) = refl
headers_row (p ∷ ps) n [] = refl
headers_row (p ∷ ps) n (s ∷ ss) = ap (λ (r : List ℕ). header_bytes (header_for p (place n s) s) ++ r) (headers_row ps (after n s) ss)

pub count_headers : (ps : List ℕ) (n : ℕ) (ss : List Section) → length ps ≡ length ss → length (headers_for ps n ss) ≡ length ss
count_headers [] n [] e = refl
count_headers [] n (s ∷ ss) e = absurd (omega arith)
count_headers (p ∷ ps) n [] e = absurd (omega arith)
count_headers (p ∷ ps) n (s ∷ ss) e = ap suc (count_headers ps (after n s) ss (omega arith))

pub length_row : (hs : List Header) → length (header_row hs) ≡ 64 * length hs
length_row [] = refl
length_row (h ∷ hs) = omega (arith, length_row hs)

-- ---- symbols

pub length_symbols : (ps : List ℕ) (ss : List Symbol) → length ps ≡ length ss → length (symbols_bytes ps ss) ≡ 24 * length ss
length_symbols [] [] e = refl
length_symbols [] (s ∷ ss) e = absurd (omega arith)
length_symbols (p ∷ ps) [] e = absurd (omega arith)
length_symbols (p ∷ ps) (s ∷ ss) e = omega (arith, length_symbols ps ss (omega arith))
