-- Writers that look right and are not. Each is the right one but for one change. Demand 3 refuses each of them, as proofs/Wrong.antt
-- proves. One job tells them all from the right one.
use Rattle.std.specs.Prelude.{Bool, cond, List, [], ◌∷◌, ◌++◌, map, ℕ, suc, ◌+◌, ◌-◌, length, take, drop, eqb}
use Rattle.octets.specs.Octets.{ascii, equal, zeros}
use Rattle.written.specs.Written.{written}
use Rattle.ast.specs.Job.{Map, Relocation, Program, Job}
use Rattle.ast.specs.Numbers.{map_type_number}
use Rattle.ast.specs.declared.«Type».{«Type» as MemberType}
use Rattle.ast.specs.declared.«Type».TheVariants.{U32, U64, I32, I64}
use Rattle.ast.specs.declared.MapType.TheVariants.{Hash, Array, Ringbuf}
use Rattle.ast.specs.declared.Attr.{Attr}
use Rattle.ast.specs.declared.Attr.TheVariants.{Absent, Present}
use Rattle.elf.specs.Strings.{add_strings, empty_table}
use Rattle.elf.specs.Elf.{Section, Symbol, file}
use Rattle.object.specs.Object.{declared_sections, symbols, table_section, symbol_section, object}
use Rattle.reading.specs.Relocations as reading
use Rattle.reading.specs.Reading.{Read, reads, fails}

abbrev pub Writer : Type 0
Writer = Job → List ℕ

-- ---- the job

-- two maps of one name, two whose written names coincide, an attribute absent and one present with 0, and two programs with relocations
abbrev pub text : List ℕ
text =
    ascii "020101016d\n020204040000006d\n020100612d62\n021b0400000000615f62\n"
    ++ (ascii "03017870\n06180100000000000000\n0500000000000000006d\n"
    ++ ascii "0301792d71\n0400112233445566778899aabbccddeeff\n050800000000000000612d62\n0500000000000000006d\n")

abbrev pub job : Job
job =
    record {
      licence = ascii "GPL";
      maps =
          record { name = ascii "m"; kind = Hash; key = Present U32; value = Absent; entries = Absent }
          ∷ record { name = ascii "m"; kind = Array; key = Absent; value = Absent; entries = Present 4 }
          ∷ record { name = ascii "a-b"; kind = Hash; key = Absent; value = Absent; entries = Absent }
          ∷ record { name = ascii "a_b"; kind = Ringbuf; key = Absent; value = Absent; entries = Present 0 } ∷ [];
      programs =
          record {
            section = ascii "x";
            symbol = ascii "p";
            code = 0x18 ∷ 1 ∷ 0 ∷ 0 ∷ 0 ∷ 0 ∷ 0 ∷ 0 ∷ [];
            relocations = record { offset = 0; map = ascii "m"; number = 1 } ∷ [];
          }
          ∷ record {
            section = ascii "y";
            symbol = ascii "-q";
            code =
                0 ∷ 0x11 ∷ 0x22 ∷ 0x33 ∷ 0x44 ∷ 0x55 ∷ 0x66 ∷ 0x77 ∷ 0x88 ∷ 0x99 ∷ 0xaa ∷ 0xbb ∷ 0xcc ∷ 0xdd ∷ 0xee ∷ 0xff ∷ [];
            relocations = record { offset = 8; map = ascii "a-b"; number = 2 } ∷ record { offset = 0; map = ascii "m"; number = 1 } ∷ [];
          } ∷ [];
    }

-- ---- the writers

-- the right writer by its parts: the sections that the job asks for, and the symbols
abbrev pub object_of : List Section → List Symbol → List ℕ
object_of declared syms =
    let sym_names = add_strings empty_table (map (λ s. s.name) syms) in
    let sec_names =
    add_strings empty_table (map (λ s. s.name) declared ++ (ascii ".symtab" ∷ ascii ".strtab" ∷ ascii ".shstrtab" ∷ [])) in
    file sec_names.places
    (declared
    ++ (symbol_section (suc (length declared)) sym_names.places syms ∷ table_section (ascii ".strtab") sym_names.table
    ∷ table_section (ascii ".shstrtab") sec_names.table ∷ []))

-- relocations of later programs left zero
abbrev cleared : Section → Section
cleared s =
    cond (eqb s.kind 9)
    (record {
      name = s.name;
      kind = s.kind;
      flags = s.flags;
      align = s.align;
      entry = s.entry;
      link = s.link;
      info = s.info;
      contents = zeros (length s.contents);
    })
    s

abbrev clear_later : List Section → List Section
clear_later [] = []
clear_later (s ∷ ss) = s ∷ cond (eqb s.kind 9) (map cleared ss) (clear_later ss)

abbrev pub later_left_zero : Writer
later_left_zero j = object_of (clear_later (declared_sections j)) (symbols j)

-- the map of a relocation looked up in another way: a relocation is written with each number that is found for it
abbrev pub numbered : (Relocation → List ℕ) → List Relocation → List Relocation
numbered find [] = []
numbered find (r ∷ rs) =
    map (λ (k : ℕ). record { offset = r.offset; map = r.map; number = k }) (find r) ++ numbered find rs

abbrev pub renumbered : (Relocation → List ℕ) → Program → Program
renumbered find p =
    record {
      section = p.section;
      symbol = p.symbol;
      code = p.code;
      relocations = numbered find p.relocations;
    }

abbrev pub looked_up : (Relocation → List ℕ) → Writer
looked_up find j = object (record { licence = j.licence; maps = j.maps; programs = map (renumbered find) j.programs })

-- the numbers of the maps of which something holds, from number `i` on
abbrev numbers : (Map → Bool) → ℕ → List Map → List ℕ
numbers holds i [] = []
numbers holds i (m ∷ ms) = cond (holds m) (i ∷ []) [] ++ numbers holds (suc i) ms

abbrev first_of : List ℕ → List ℕ
first_of ks = take 1 ks

abbrev last_of : List ℕ → List ℕ
last_of ks = drop (length ks - 1) ks

-- the first of equal names
abbrev pub first_of_equal_names : Writer
first_of_equal_names j = looked_up (λ r. first_of (numbers (λ m. equal r.map m.name) 0 j.maps)) j

-- the last of equal written names
abbrev pub written_names : Writer
written_names j = looked_up (λ r. last_of (numbers (λ m. equal (written r.map) (written m.name)) 0 j.maps)) j

-- absent max_entries written as 0
abbrev zero_entries : Attr ℕ → Attr ℕ
zero_entries Absent = Present 0
zero_entries (Present n) = Present n

abbrev pub absent_as_zero : Writer
absent_as_zero j =
    object
    (record {
      licence = j.licence;
      maps =
          map (λ (m : Map). record { name = m.name; kind = m.kind; key = m.key; value = m.value; entries = zero_entries m.entries }) j.maps;
      programs = j.programs;
    })

-- a map's offset off by 8
abbrev shifted : Symbol → Symbol
shifted s =
    cond (eqb s.section 2) (record { name = s.name; info = s.info; section = s.section; at = s.at + 8; size = s.size }) s

abbrev pub offset_off : Writer
offset_off j = object_of (declared_sections j) (map shifted (symbols j))

-- two maps' order swapped
abbrev swapped : List Map → List Map
swapped [] = []
swapped (m ∷ []) = m ∷ []
swapped (m ∷ n ∷ ms) = n ∷ m ∷ ms

abbrev pub maps_swapped : Writer
maps_swapped j = object (record { licence = j.licence; maps = swapped j.maps; programs = j.programs })

-- the code of a program cut short
abbrev cut : Program → Program
cut p =
    record {
      section = p.section;
      symbol = p.symbol;
      code = take (length p.code - 1) p.code;
      relocations = p.relocations;
    }

abbrev pub code_cut : Writer
code_cut j = object (record { licence = j.licence; maps = j.maps; programs = map cut j.programs })

-- one object for every job
abbrev pub one_object : Writer
one_object j = object (record { licence = ascii "GPL"; maps = []; programs = [] })

-- ---- what was read, as numbers: two readings that are shown differently differ

abbrev framed : List ℕ → List ℕ
framed s = length s ∷ s

abbrev type_shown : MemberType → ℕ
type_shown U32 = 1
type_shown U64 = 2
type_shown I32 = 3
type_shown I64 = 4

abbrev attr_shown : Attr MemberType → ℕ
attr_shown Absent = 0
attr_shown (Present t) = type_shown t

abbrev count_shown : Attr ℕ → List ℕ
count_shown Absent = 0 ∷ []
count_shown (Present n) = 1 ∷ n ∷ []

abbrev maps_shown : List Map → List ℕ
maps_shown [] = []
maps_shown (m ∷ ms) =
    framed m.name ++ (map_type_number m.kind ∷ attr_shown m.key ∷ attr_shown m.value ∷ count_shown m.entries ++ maps_shown ms)

abbrev relocations_shown : List reading.Relocation → List ℕ
relocations_shown [] = []
relocations_shown (r ∷ rs) = r.offset ∷ r.map ∷ relocations_shown rs

abbrev programs_shown : List reading.Program → List ℕ
programs_shown [] = []
programs_shown (p ∷ ps) =
    framed p.section ++ (framed p.symbol ++ (framed p.code ++ (framed (relocations_shown p.relocations) ++ programs_shown ps)))

abbrev pub shown : Read → List ℕ
shown (reads r) = 0 ∷ framed r.licence ++ (length r.maps ∷ maps_shown r.maps ++ programs_shown r.programs)
shown (fails n) = n ∷ []
