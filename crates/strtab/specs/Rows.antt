-- Rows of symbols with their names one after the other, as `.symtab` and `.strtab` have them, and the symbols of the tables.
use Rattle.std.specs.Prelude.{cond, List, [], ◌∷◌, ◌++◌, map, ℕ, suc, ◌+◌, ◌≤◌, length, eqb}
use Rattle.written.specs.Written.{written}
use Rattle.ast.specs.Job.{Job}
use Rattle.ast.specs.declared.Name.{Name}
use Rattle.ast.specs.declared.NamedMap.{NamedMap}
use Rattle.elf.specs.Strings.{add_strings, empty_table}
use Rattle.elf.specs.Elf.{Symbol, symbol_info, symbol_bytes, symbols_bytes}
use Rattle.object.specs.declared.Program.{Program}
use Rattle.object.specs.Read.{name_in, maps_in}
use Rattle.object.specs.Kept.{AllKept}
use Rattle.object.specs.Object.{map_symbols, symbols}

-- the entries of symbols, the first of whose names is at `n`
abbrev pub row_at : ℕ → List Symbol → List ℕ
row_at n [] = []
row_at n (s ∷ ss) = symbol_bytes n s ++ row_at (n + suc (length s.name)) ss

-- the bytes that their names take, each with its zero byte
abbrev pub row_size : List Symbol → ℕ
row_size [] = 0
row_size (s ∷ ss) = suc (length s.name) + row_size ss

-- the symbols of maps of the tables
abbrev pub map_row : List ℕ → List NamedMap → List Symbol
map_row text ms = map_symbols 0 (maps_in text ms)

-- the number of the section after a program's, which has a REL section if it has relocations
abbrev pub behind : ℕ → ℕ → ℕ
behind relocs at = cond (eqb relocs 0) (suc at) (suc (suc at))

-- the section number of the first program of a job with `maps` maps
abbrev pub first_of : ℕ → ℕ
first_of maps = cond (eqb maps 0) 2 4

-- the symbols of programs of the tables, the first of which has section `at`
abbrev pub program_row : List ℕ → ℕ → List Program → List Symbol
program_row text at [] = []
program_row text at (p ∷ ps) =
    record { name = written (name_in text p.symbol); info = symbol_info 1 2; section = at; at = 0; size = p.code_len }
    ∷ program_row text (behind p.relocs at) ps

-- the written names of the symbols of a row of maps or of programs; `symbol` says which name of one that is
abbrev pub names_in : {T : Type 0} → (T → Name) → List ℕ → List T → List (List ℕ)
names_in symbol text [] = []
names_in symbol text (x ∷ xs) = written (name_in text (symbol x)) ∷ names_in symbol text xs

-- what `.symtab` and `.strtab` of a job hold
abbrev pub symtab_of : Job → List ℕ
symtab_of j = symbols_bytes (add_strings empty_table (map (λ s. s.name) (symbols j))).places (symbols j)

abbrev pub strtab_of : Job → List ℕ
strtab_of j = (add_strings empty_table (map (λ s. s.name) (symbols j))).table

-- what is known of the programs of an accepted job: there are at most 32, and each one's names, code and slots are there
pub record ProgramsThere (text : List ℕ) (ps : List Program) : Type 0 where
  pub few : length ps ≤ 32
  pub kept : AllKept text 256 ps
