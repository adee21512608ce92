-- The object of a job: which sections it has, in which order, and what each holds.
use Rattle.std.specs.Prelude.{List, [], ◌∷◌, ◌++◌, map, ℕ, suc, ◌+◌, length}
use Rattle.octets.specs.Octets.{zeros, ascii}
use Rattle.written.specs.Written.{written}
use Rattle.ast.specs.Job.{Map, Relocation, Program, Job}
use Rattle.elf.specs.Strings.{add_strings, empty_table}
use Rattle.elf.specs.Elf.{Section, Symbol, file, symbol_info, symbols_bytes, rel_bytes}
use Rattle.btf.specs.Btf.{btf_bytes}
use Rattle.btf.specs.Maps.{map_size, map_types, btf_types}

-- ---- sections

-- a PROGBITS section
abbrev pub plain : List ℕ → ℕ → ℕ → List ℕ → Section
plain name flags align contents =
    record { name = name; kind = 1; flags = flags; align = align; entry = 0; link = 0; info = 0; contents = contents }

abbrev pub license_section : List ℕ → Section
license_section text = plain (ascii "license") 3 1 (text ++ (0 ∷ []))

abbrev pub map_sections : List Map → List Section
map_sections [] = []
map_sections (m ∷ ms) =
    plain (ascii ".maps") 3 8 (zeros (map_types 6 0 (m ∷ ms)).size)
    ∷ plain (ascii ".BTF") 0 4 (btf_bytes (btf_types (m ∷ ms))) ∷ []

-- a relocation names its map's symbol; the maps' symbols follow the null symbol and LICENSE
abbrev pub relocation_bytes : List Relocation → List ℕ
relocation_bytes [] = []
relocation_bytes (r ∷ rs) = rel_bytes r.offset (2 + r.number) ++ relocation_bytes rs

-- a program's REL section, of the program's section `at`; a program with no relocation has none
abbrev pub rel_sections : ℕ → ℕ → List ℕ → List Relocation → List Section
rel_sections symtab at name [] = []
rel_sections symtab at name (r ∷ rs) =
    record {
      name = ascii ".rel" ++ name;
      kind = 9;
      flags = 0;
      align = 8;
      entry = 16;
      link = symtab;
      info = at;
      contents = relocation_bytes (r ∷ rs);
    } ∷ []

-- the number after a program's sections, which begin at `at`
abbrev pub past : List Relocation → ℕ → ℕ
past [] at = suc at
past (r ∷ rs) at = suc (suc at)

abbrev pub program_sections : ℕ → ℕ → List Program → List Section
program_sections symtab at [] = []
program_sections symtab at (p ∷ ps) =
    plain p.section 6 8 p.code ∷ rel_sections symtab at p.section p.relocations
    ++ program_sections symtab (past p.relocations at) ps

-- the number after all the programs' sections
abbrev pub past_all : List Program → ℕ → ℕ
past_all [] at = at
past_all (p ∷ ps) at = past_all ps (past p.relocations at)

-- ---- symbols

-- maps' symbols are global (bind 1) objects (type 1) of section `.maps`; `at` is the first one's place there
abbrev pub map_symbols : ℕ → List Map → List Symbol
map_symbols at [] = []
map_symbols at (m ∷ ms) =
    record { name = written m.name; info = symbol_info 1 1; section = 2; at = at; size = map_size m } ∷ map_symbols (at + map_size m) ms

-- programs' symbols are global functions (type 2); `at` is the number of the first program's section
abbrev pub program_symbols : ℕ → List Program → List Symbol
program_symbols at [] = []
program_symbols at (p ∷ ps) =
    record { name = written p.symbol; info = symbol_info 1 2; section = at; at = 0; size = length p.code }
    ∷ program_symbols (past p.relocations at) ps

-- the section number of the first program
abbrev pub first_program : List Map → ℕ
first_program [] = 2
first_program (m ∷ ms) = 4

-- null, `LICENSE`, maps, programs
abbrev pub symbols : Job → List Symbol
symbols j =
    record { name = []; info = 0; section = 0; at = 0; size = 0 }
    ∷ record { name = ascii "LICENSE"; info = symbol_info 1 1; section = 1; at = 0; size = length j.licence + 1 }
    ∷ map_symbols 0 j.maps ++ program_symbols (first_program j.maps) j.programs

-- ---- the object

-- the sections that the job asks for, before the tables
abbrev pub declared_sections : Job → List Section
declared_sections j =
    let first = first_program j.maps in
    license_section j.licence
    ∷ map_sections j.maps ++ program_sections (past_all j.programs first) first j.programs

abbrev pub table_section : List ℕ → List ℕ → Section
table_section name contents =
    record { name = name; kind = 3; flags = 0; align = 1; entry = 0; link = 0; info = 0; contents = contents }

-- `.symtab`, as section number `at`; its names' table is the next section
abbrev pub symbol_section : ℕ → List ℕ → List Symbol → Section
symbol_section at names syms =
    record {
      name = ascii ".symtab";
      kind = 2;
      flags = 0;
      align = 8;
      entry = 24;
      link = at + 1;
      info = 1;
      contents = symbols_bytes names syms;
    }

-- the sections of the job, then the three tables; each table of names has one string for each of its sections or symbols
abbrev pub object : Job → List ℕ
object j =
    let declared = declared_sections j in
    let syms = symbols j in
    let sym_names = add_strings empty_table (map (λ s. s.name) syms) in
    let sec_names =
    add_strings empty_table (map (λ s. s.name) declared ++ (ascii ".symtab" ∷ ascii ".strtab" ∷ ascii ".shstrtab" ∷ [])) in
    file sec_names.places
    (declared
    ++ (symbol_section (suc (length declared)) sym_names.places syms ∷ table_section (ascii ".strtab") sym_names.table
    ∷ table_section (ascii ".shstrtab") sec_names.table ∷ []))
