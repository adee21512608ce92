-- The names of an object's sections, which make up `.shstrtab`: by the definition of the object, and by the tables of the code.
use Rattle.std.specs.Prelude.{cond, List, [], ◌∷◌, ◌++◌, map, ℕ, eqb}
use Rattle.octets.specs.Octets.{ascii}
use Rattle.ast.specs.Job.{Job}
use Rattle.elf.specs.Strings.{add_strings, empty_table}
use Rattle.object.specs.declared.Program.{Program}
use Rattle.object.specs.Read.{name_in}
use Rattle.object.specs.Object.{declared_sections}

-- ---- by the definition of the object

abbrev pub section_names : Job → List (List ℕ)
section_names j = map (λ s. s.name) (declared_sections j) ++ (ascii ".symtab" ∷ ascii ".strtab" ∷ ascii ".shstrtab" ∷ [])

-- what `.shstrtab` of a job holds
abbrev pub shstrtab_of : Job → List ℕ
shstrtab_of j = (add_strings empty_table (section_names j)).table

-- ---- by the tables

-- the sections of `maps` maps
abbrev pub map_section_names : ℕ → List (List ℕ)
map_section_names maps = cond (eqb maps 0) [] (ascii ".maps" ∷ ascii ".BTF" ∷ [])

-- the REL section of a program with `relocs` relocations, by the name of its section
abbrev pub rel_name : ℕ → List ℕ → List (List ℕ)
rel_name relocs name = cond (eqb relocs 0) [] ((ascii ".rel" ++ name) ∷ [])

-- the sections of programs
abbrev pub program_section_names : List ℕ → List Program → List (List ℕ)
program_section_names text [] = []
program_section_names text (p ∷ ps) =
    name_in text p.section ∷ rel_name p.relocs (name_in text p.section) ++ program_section_names text ps

-- the tables after them
abbrev pub table_names : List (List ℕ)
table_names = ascii ".symtab" ∷ ascii ".strtab" ∷ ascii ".shstrtab" ∷ []
