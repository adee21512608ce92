-- The sections, symbols, relocations and BTF of a job within limits fit their fields, as the laws of reading ask.
use mathlib.Core.Path.{◌≡◌, refl}
use mathlib.Core.Bool.{Bool, true, false, cond}
use mathlib.Core.Option.{some}
use mathlib.Core.List.{List, [], ◌∷◌, ◌++◌, map}
use Prim.Native.Nat.{ℕ, suc, ◌+◌, ◌*◌, ◌^◌, ◌≤◌, ◌<◌}
use native.Mathlib.Omega.{arith}
use lib.Dec.{eqb}
use lib.ListN.{length, length-append, length-replicate}
use Rattle.octets.specs.Octets.{ascii}
use Rattle.octets.specs.All.{All}
use Rattle.octets.proofs.Lists.{all_append, all_weaken}
use Rattle.written.proofs.Names.{Clean, written-short, written_clean}
use Rattle.ast.specs.Job.{Map, Relocation, Program, Job}
use Rattle.elf.specs.Elf.{Section, Symbol, after, end_of}
use Rattle.elf.specs.Row.{size_of}
use Rattle.elf.proofs.Rows.{length_symbols}
use Rattle.elf.proofs.Places.{align_near}
use Rattle.btf.specs.Btf.{btf_bytes}
use Rattle.btf.specs.Maps.{map_size, map_types, btf_types}
use Rattle.btf.proofs.MapTypes.{FitMap, map_size_lem, maps_fit, btf_fits, btf_weighs, btf_short}
use Rattle.object.specs.Object.{plain, map_sections, rel_sections, past, program_sections, past_all, map_symbols, program_symbols, first_program, symbols, declared_sections, table_section, symbol_section}
use Rattle.object.proofs.Counts.{last_below, past_near, past_all_near, first_near, symtab_number, count_symbols, length_relocations}
use Rattle.refusals.proofs.Within.{MapWithin, RelocationWithin, ProgramWithin, Within, relocations_in, code_in}
use Rattle.reading.specs.Maps.{read_btf}
use Rattle.seen.proofs.Sections.{Sound}
use Rattle.seen.proofs.Symbols.{FitSymbol}
use Rattle.seen.proofs.Types.{seen_type, btf_read}
use Rattle.seen.proofs.Maps.{ShortName}
use Rattle.seen.proofs.Programs.{FitRelocation}

-- ---- relocations

relocation_fits : (ms : List Map) (r : Relocation) → RelocationWithin ms r → FitRelocation (length ms) r
relocation_fits ms r w = record { offset = w.offset; below = omega (arith, last_below 0 r.map ms r.number w.last) }

pub relocations_fit : (j : Job) → Within j → All (λ (p : Program). All (FitRelocation (length j.maps)) p.relocations) j.programs
relocations_fit j w =
    all_weaken (ProgramWithin j.maps) _
    (λ p h. all_weaken (RelocationWithin j.maps) (FitRelocation (length j.maps)) (relocation_fits j.maps) p.relocations h.relocations)
    j.programs w.programs

-- ---- maps

maps_within : (j : Job) → Within j → All FitMap j.maps
maps_within j w = all_weaken MapWithin FitMap (λ m h. record { name = h.name.short; entries = h.entries }) j.maps w.maps

pub short_names : (j : Job) → Within j → All ShortName j.maps
short_names j w = all_weaken MapWithin ShortName (λ m h. written-short 64 m.name (omega arith) h.name.short) j.maps w.maps

pub btf_there : (j : Job) → Within j → read_btf (btf_bytes (btf_types j.maps)) ≡ some (map seen_type (btf_types j.maps))
btf_there j w =
    let f = maps_within j w in
    btf_read (btf_types j.maps) (btf_fits j.maps f w.map_count) (omega (arith, btf_weighs j.maps f w.map_count))

-- ---- sections

-- a section that L1 and L2 take, near the one before it and short
pub record Good (s : Section) : Type 0 where
  pub sound : Sound s
  pub near : s.align ≤ 8
  pub contents : length s.contents < 2 ^ 32

at_most : (b : Bool) → cond b 68 64 ≤ 68
at_most true = omega arith
at_most false = omega arith

pub good_names : (ss : List Section) → All Good ss → size_of (map (λ s. s.name) ss) ≤ 69 * length ss
good_names [] g = omega arith
good_names (s ∷ ss) g = omega (arith, g.0.sound.short, at_most (eqb s.kind 9), good_names ss g.1)

pub good_end : (n : ℕ) (ss : List Section) → All Good ss → end_of n ss ≤ n + (2 ^ 32 + 8) * length ss
good_end n [] g = omega arith
good_end n (s ∷ ss) g =
    omega (arith, good_end (after n s) ss g.1, align_near s.align n g.0.sound.aligned, g.0.near, g.0.contents)

plain_good : (name : List ℕ) (flags align : ℕ) (bytes : List ℕ) → flags < 2 ^ 64 → 0 < align → align ≤ 8 → length bytes < 2 ^ 32 → length name ≤ 64
    → Clean name
    → Good (plain name flags align bytes)
plain_good name flags align bytes f a b l n c =
    record {
      sound = record { aligned = a; fit = record { kind = omega arith; flags = f; link = omega arith; info = omega arith }; short = n; clean = c };
      near = b;
      contents = l;
    }

rel_good : (symtab at : ℕ) (name : List ℕ) (rs : List Relocation) → symtab < 2 ^ 32 → at < 2 ^ 32 → length name ≤ 64 → Clean name
    → length rs ≤ 256
    → All Good (rel_sections symtab at name rs)
rel_good symtab at name [] l k n c b = tt
rel_good symtab at name (r ∷ rs) l k n c b = (
  record {
    sound =
        record { aligned = omega arith; fit = record { kind = omega arith; flags = omega arith; link = l; info = k }; short = omega arith; clean = c };
    near = omega arith;
    contents = omega (arith, length_relocations (r ∷ rs));
  },
  tt,
)

programs_good : (ms : List Map) (symtab at : ℕ) (ps : List Program) → symtab < 2 ^ 32 → at + 2 * length ps < 2 ^ 32 → All (ProgramWithin ms) ps
    → relocations_in ps ≤ 256 → code_in ps < 2 ^ 32
    → All Good (program_sections symtab at ps)
programs_good ms symtab at [] l k w c d = tt
programs_good ms symtab at (p ∷ ps) l k w c d =
    let near = past_near p.relocations at in (
      plain_good p.section 6 8 p.code (omega arith) (omega arith) (omega arith) (omega arith) w.0.section.short w.0.clean,
      all_append Good (rel_sections symtab at p.section p.relocations) (program_sections symtab (past p.relocations at) ps)
          (rel_good symtab at p.section p.relocations l (omega arith) w.0.section.short w.0.clean (omega arith))
          (programs_good ms symtab (past p.relocations at) ps l (omega arith) w.1 (omega arith) (omega arith)),
    )

maps_good : (ms : List Map) → All FitMap ms → length ms ≤ 64 → All Good (map_sections ms)
maps_good [] f l = tt
maps_good (m ∷ ms) f l = (
  plain_good (ascii ".maps") 3 8 _ (omega arith) (omega arith) (omega arith)
      (omega (arith, length-replicate {A = ℕ} (map_types 6 0 (m ∷ ms)).size 0, (maps_fit 6 0 (m ∷ ms) f (omega arith) (omega arith)).size)) (omega arith) refl,
  (plain_good (ascii ".BTF") 0 4 _ (omega arith) (omega arith) (omega arith) (omega (arith, btf_short (m ∷ ms) f l)) (omega arith) refl, tt),
)

pub declared_good : (j : Job) → Within j → All Good (declared_sections j)
declared_good j w =
    let first = first_program j.maps in
    let near = first_near j.maps in
    let all = past_all_near j.programs first in
    let count = w.program_count in
    let l = w.licence.short in
    let code = w.code in (
      plain_good (ascii "license") 3 1 (j.licence ++ (0 ∷ [])) (omega arith) (omega arith) (omega arith)
          (omega (arith, length-append j.licence (0 ∷ []))) (omega arith) refl,
      all_append Good (map_sections j.maps) (program_sections (past_all j.programs first) first j.programs)
          (maps_good j.maps (maps_within j w) w.map_count)
          (programs_good j.maps (past_all j.programs first) first j.programs (omega arith) (omega arith) w.programs w.relocations (omega arith)),
    )

pub declared_few : (j : Job) → Within j → length (declared_sections j) ≤ 67
declared_few j w =
    let first = first_program j.maps in
    omega (arith, symtab_number j, first_near j.maps, past_all_near j.programs first, w.program_count)

-- ---- the tables

-- the three tables: `names` are the places of the symbols' names in the strings `strs`
abbrev pub tables : Job → List ℕ → List ℕ → List ℕ → List Section
tables j names strs secs =
    symbol_section (suc (length (declared_sections j))) names (symbols j) ∷ table_section (ascii ".strtab") strs
    ∷ table_section (ascii ".shstrtab") secs ∷ []

table_good : (name contents : List ℕ) → length contents < 2 ^ 32 → length name ≤ 64 → Clean name → Good (table_section name contents)
table_good name contents l n c =
    record {
      sound =
          record {
            aligned = omega arith;
            fit = record { kind = omega arith; flags = omega arith; link = omega arith; info = omega arith };
            short = n;
            clean = c;
          };
      near = omega arith;
      contents = l;
    }

pub tables_good : (j : Job) (names strs secs : List ℕ) → Within j → length names ≡ length (symbols j) → length strs < 2 ^ 32 → length secs < 2 ^ 32
    → All Good (tables j names strs secs)
tables_good j names strs secs w same l k =
    let few = declared_few j w in (
      record {
        sound =
            record {
              aligned = omega arith;
              fit = record { kind = omega arith; flags = omega arith; link = omega arith; info = omega arith };
              short = omega arith;
              clean = refl;
            };
        near = omega arith;
        contents = omega (arith, count_symbols j, w.map_count, w.program_count, length_symbols names (symbols j) same);
      },
      (table_good (ascii ".strtab") strs l (omega arith) refl, (table_good (ascii ".shstrtab") secs k (omega arith) refl, tt)),
    )

-- ---- symbols

pub symbols_names : (ss : List Symbol) → All FitSymbol ss → size_of (map (λ s. s.name) ss) ≤ 65 * length ss
symbols_names [] g = omega arith
symbols_names (s ∷ ss) g = omega (arith, g.0.short, symbols_names ss g.1)

map_symbols_fit : (at : ℕ) (ms : List Map) → at + 32 * length ms < 2 ^ 32 → All MapWithin ms → All FitSymbol (map_symbols at ms)
map_symbols_fit at [] l f = tt
map_symbols_fit at (m ∷ ms) l f =
    let size = (map_size_lem m).1 in (
      record {
        info = omega arith;
        section = omega arith;
        at = omega arith;
        short = written-short 64 m.name (omega arith) f.0.name.short;
        clean = written_clean m.name;
      },
      map_symbols_fit (at + map_size m) ms (omega arith) f.1,
    )

program_symbols_fit : (ms : List Map) (at : ℕ) (ps : List Program) → at + 2 * length ps < 2 ^ 16 → All (ProgramWithin ms) ps
    → All FitSymbol (program_symbols at ps)
program_symbols_fit ms at [] l w = tt
program_symbols_fit ms at (p ∷ ps) l w =
    let near = past_near p.relocations at in (
      record {
        info = omega arith;
        section = omega arith;
        at = omega arith;
        short = written-short 64 p.symbol (omega arith) w.0.symbol.short;
        clean = written_clean p.symbol;
      },
      program_symbols_fit ms (past p.relocations at) ps (omega arith) w.1,
    )

pub symbols_fit : (j : Job) → Within j → All FitSymbol (symbols j)
symbols_fit j w =
    let near = first_near j.maps in
    let few = w.map_count in
    let count = w.program_count in (
      record { info = omega arith; section = omega arith; at = omega arith; short = omega arith; clean = refl },
      (
        record { info = omega arith; section = omega arith; at = omega arith; short = omega arith; clean = refl },
        all_append FitSymbol (map_symbols 0 j.maps) (program_symbols (first_program j.maps) j.programs)
            (map_symbols_fit 0 j.maps (omega arith) w.maps)
            (program_symbols_fit j.maps (first_program j.maps) j.programs (omega arith) w.programs),
      ),
    )
