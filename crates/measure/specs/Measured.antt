-- What measuring finds, by the definitions of the object: each section's header, in order after header 0, how many there are, where they
-- are, and how long the object is.
use Rattle.std.specs.Prelude.{◌≡◌, cond, eqb, List, [], ◌∷◌, ◌++◌, map, ℕ, suc, ◌+◌, ◌*◌, ◌≤◌, length}
use Rattle.octets.specs.Octets.{ascii}
use Rattle.ast.specs.Job.{Job}
use Rattle.elf.specs.Strings.{add_strings, empty_table}
use Rattle.elf.specs.Elf.{Section, Header, align_to, place, after, end_of, header_for}
use Rattle.elf.specs.Entries.{null_section}
use Rattle.elf.specs.declared.Section as code
use Rattle.btf.specs.Btf.{btf_bytes}
use Rattle.btf.specs.Maps.{map_types, btf_types}
use Rattle.object.specs.declared.Program.{Program}
use Rattle.object.specs.Object.{declared_sections, symbols, symbol_section, table_section, object}
use Rattle.strtab.specs.Rows.{behind, strtab_of}
use Rattle.headers.specs.Names.{shstrtab_of}
use Rattle.measure.specs.declared.Measuring.{Measuring}
use Rattle.measure.specs.declared.Measured.{Measured}
use Rattle.measure.specs.declared.Sizes.{Sizes}

-- ---- steps of the code: the sections so far, and the rows of the header table

abbrev pub with_section : Measuring → code.Section → ℕ → Measuring
with_section m s name = record { count = m.count + 1; end = s.at + s.size; names = m.names + name + 1 }

abbrev pub plain_at : ℕ → ℕ → ℕ → ℕ → ℕ → ℕ → code.Section
plain_at name kind flags end align size =
    record { name = name; sh_type = kind; flags = flags; at = align_to align end; size = size; link = 0; info = 0; align = align; entsize = 0 }

abbrev pub rel_at : ℕ → ℕ → ℕ → ℕ → ℕ → code.Section
rel_at name end relocs symtab number =
    record { name = name; sh_type = 9; flags = 0; at = align_to 8 end; size = 16 * relocs; link = symtab; info = number; align = 8; entsize = 16 }

abbrev pub behind_all : List Program → ℕ → ℕ
behind_all [] at = at
behind_all (p ∷ ps) at = behind_all ps (behind p.relocs at)

-- header 0 alone: the sections begin after the file header, and the names after the table's first zero byte
abbrev pub begun : Measuring
begun = record { count = 1; end = 64; names = 1 }

-- a section without link, info and entry size, after those that are there
abbrev pub plain_on : Measuring → ℕ → ℕ → ℕ → ℕ → code.Section
plain_on m kind flags align size = plain_at m.names kind flags m.end align size

-- what is before the programs' sections: the licence, and `.maps` and `.BTF` if there are maps
abbrev pub licence_at : Sizes → code.Section
licence_at z = plain_on begun 1 3 1 (z.license + 1)

abbrev pub licensed : Sizes → Measuring
licensed z = with_section begun (licence_at z) 7

abbrev pub maps_at : Sizes → code.Section
maps_at z = plain_on (licensed z) 1 3 8 z.maps

abbrev pub roomed : Sizes → Measuring
roomed z = with_section (licensed z) (maps_at z) 5

abbrev pub btf_at : Sizes → code.Section
btf_at z = plain_on (roomed z) 1 0 4 z.btf

abbrev pub mapped : Sizes → Measuring
mapped z = with_section (roomed z) (btf_at z) 4

abbrev pub front : Sizes → ℕ → Measuring
front z maps = cond (eqb maps 0) (licensed z) (mapped z)

abbrev pub front_rows : Sizes → ℕ → List code.Section
front_rows z maps = null_section ∷ licence_at z ∷ cond (eqb maps 0) [] (maps_at z ∷ btf_at z ∷ [])

-- a program's section, and its REL section if it has relocations
abbrev pub code_at : Measuring → Program → code.Section
code_at m p = plain_on m 1 6 8 p.code_len

abbrev pub coded : Measuring → Program → Measuring
coded m p = with_section m (code_at m p) p.section.len

abbrev pub rel_of : Measuring → ℕ → Program → code.Section
rel_of m symtab p = rel_at (coded m p).names (coded m p).end p.relocs symtab m.count

abbrev pub programmed : Measuring → ℕ → Program → Measuring
programmed m symtab p = cond (eqb p.relocs 0) (coded m p) (with_section (coded m p) (rel_of m symtab p) (p.section.len + 4))

abbrev pub program_row : Measuring → ℕ → Program → List code.Section
program_row m symtab p = code_at m p ∷ cond (eqb p.relocs 0) [] (rel_of m symtab p ∷ [])

-- the programs' sections
abbrev pub after_programs : Measuring → ℕ → List Program → Measuring
after_programs m symtab [] = m
after_programs m symtab (p ∷ ps) = after_programs (programmed m symtab p) symtab ps

abbrev pub program_rows : Measuring → ℕ → List Program → List code.Section
program_rows m symtab [] = []
program_rows m symtab (p ∷ ps) = program_row m symtab p ++ program_rows (programmed m symtab p) symtab ps

-- the same: the first program's section has the number `first`, and the symbol table follows the last one's
abbrev pub after_declared : Measuring → ℕ → List Program → Measuring
after_declared m first ps = after_programs m (behind_all ps first) ps

abbrev pub declared_rows : Measuring → ℕ → List Program → List code.Section
declared_rows m first ps = program_rows m (behind_all ps first) ps

-- the three tables after the programs' sections
abbrev pub symtab_at : Measuring → ℕ → code.Section
symtab_at m symbols =
    record { name = m.names; sh_type = 2; flags = 0; at = align_to 8 m.end; size = 24 * symbols; link = m.count + 1; info = 1; align = 8; entsize = 24 }

abbrev pub with_symbols : Measuring → ℕ → Measuring
with_symbols m symbols = with_section m (symtab_at m symbols) 7

abbrev pub strtab_at : Measuring → ℕ → ℕ → code.Section
strtab_at m symbols strtab = plain_on (with_symbols m symbols) 3 0 1 strtab

abbrev pub with_strings : Measuring → ℕ → ℕ → Measuring
with_strings m symbols strtab = with_section (with_symbols m symbols) (strtab_at m symbols strtab) 7

abbrev pub shstrtab_at : Measuring → ℕ → ℕ → code.Section
shstrtab_at m symbols strtab = plain_on (with_strings m symbols strtab) 3 0 1 ((with_strings m symbols strtab).names + 10)

abbrev pub tabled : Measuring → ℕ → ℕ → Measuring
tabled m symbols strtab = with_section (with_strings m symbols strtab) (shstrtab_at m symbols strtab) 9

abbrev pub table_rows : Measuring → ℕ → ℕ → List code.Section
table_rows m symbols strtab = symtab_at m symbols ∷ strtab_at m symbols strtab ∷ shstrtab_at m symbols strtab ∷ []

-- ---- the headers by the definitions

-- a header as the code has it
abbrev pub section_of : Header → code.Section
section_of h =
    record {
      name = h.name;
      sh_type = h.kind;
      flags = h.flags;
      at = h.at;
      size = h.size;
      link = h.link;
      info = h.info;
      align = h.align;
      entsize = h.entry;
    }

-- the three tables after the sections that the job asks for
abbrev pub table_sections : Job → List Section
table_sections j =
    symbol_section (suc (length (declared_sections j))) (add_strings empty_table (map (λ s. s.name) (symbols j))).places (symbols j)
    ∷ table_section (ascii ".strtab") (strtab_of j) ∷ table_section (ascii ".shstrtab") (shstrtab_of j) ∷ []

-- the headers of sections that begin at `end`, the first of whose names is at `names`
abbrev pub rows_from : ℕ → ℕ → List Section → List code.Section
rows_from names end [] = []
rows_from names end (s ∷ ss) = section_of (header_for names (place end s) s) ∷ rows_from (names + suc (length s.name)) (after end s) ss

-- all sections, and their headers after header 0
abbrev pub sections_of : Job → List Section
sections_of j = declared_sections j ++ table_sections j

abbrev pub rows_of : Job → List code.Section
rows_of j = null_section ∷ rows_from 1 64 (sections_of j)

-- what measuring answers: how many headers there are, where they are in the file, how long the names of the sections are, and how long the
-- file is
abbrev pub measured_of : Job → Measured
measured_of j =
    record {
      count = suc (length (sections_of j));
      at = align_to 8 (end_of 64 (sections_of j));
      names = length (shstrtab_of j);
      len = length (object j);
    }

-- the sizes are those of the definitions, and small
pub record SizesOf (j : Job) (z : Sizes) : Type 0 where
  pub license : length j.licence ≡ z.license
  pub maps : (map_types 6 0 j.maps).size ≡ z.maps
  pub btf : length (btf_bytes (btf_types j.maps)) ≡ z.btf
  pub strtab : length (strtab_of j) ≡ z.strtab

pub record Small (z : Sizes) : Type 0 where
  pub license : z.license ≤ 64
  pub maps : z.maps ≤ 2048
  pub btf : z.btf ≤ 1000000
  pub strtab : z.strtab ≤ 10000

-- the programs' sections have names of at most 64 bytes
abbrev pub ShortNames : List Program → Type 0
ShortNames [] = Unit
ShortNames (p ∷ ps) = (p.section.len ≤ 64) × ShortNames ps

-- at most `n` sections so far, and numbers that are far below what their types hold
pub record Low (n : ℕ) (m : Measuring) : Type 0 where
  pub few : m.count ≤ n
  pub near : m.end ≤ 2097152 * m.count
  pub short : m.names ≤ 300 * m.count
