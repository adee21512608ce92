-- L4: a row of symbols is read back, each with its name from the string table.
use mathlib.Core.Path.{◌≡◌, refl}
use mathlib.Core.Option.{some}
use mathlib.Core.List.{List, [], ◌∷◌, map}
use Prim.Native.Nat.{ℕ, ◌%◌, ◌^◌, ◌≤◌, ◌<◌}
use native.Mathlib.Omega.{arith}
use lib.ListN.{length}
use Rattle.octets.proofs.Numbers.{value-le}
use Rattle.octets.specs.All.{All}
use Rattle.written.proofs.Names.{Clean}
use Rattle.elf.specs.Elf.{Symbol, symbols_bytes}
use Rattle.elf.proofs.Strings.{AllStand, stands_inside}
use Rattle.reading.specs.Programs.{symbols_of}
use Rattle.reading.specs.Programs as reading
use Rattle.reading.proofs.Rules.{string_at_lem}
use Rattle.seen.proofs.Strings.{stands_read}

-- a symbol that L4 takes: its numbers fit their fields, and its name is short and has no zero byte
pub record FitSymbol (s : Symbol) : Type 0 where
  pub info : s.info < 2 ^ 8
  pub section : s.section < 2 ^ 16
  pub at : s.at < 2 ^ 64
  pub short : length s.name ≤ 64
  pub clean : Clean s.name

-- a symbol as a loader sees it
abbrev pub seen_symbol : Symbol → reading.Symbol
seen_symbol s = record { name = s.name; kind = s.info % 16; section = s.section; at = s.at }

pub symbols_read : (t ps : List ℕ) (ss : List Symbol) → length t ≤ 2 ^ 32 → AllStand t ps (map (λ s. s.name) ss) → All FitSymbol ss
    → symbols_of t (length ss) (symbols_bytes ps ss) ≡ some (map seen_symbol ss)
symbols_read t [] [] l a f = refl
symbols_read t [] (s ∷ ss) l a f = absurd a
symbols_read t (p ∷ ps) [] l a f = absurd a
symbols_read t (p ∷ ps) (s ∷ ss) l a f =
    let inside = stands_inside a.0 in
    rw (
      value-le 4 p (omega arith),
      string_at_lem 64 t p s.name (stands_read a.0 f.0.clean) f.0.short,
      symbols_read t ps ss l a.1 f.1,
      value-le 1 s.info f.0.info,
      value-le 2 s.section f.0.section,
      value-le 8 s.at f.0.at,
    )
