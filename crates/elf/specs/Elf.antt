-- ELF64 as the System V gABI gives it, little-endian: the file header, sections in a row, the section header table, symbols and
-- relocations. Section header 0 has the alignment 1 that the Rust writes; the gABI asks for 0.
use Rattle.std.specs.Prelude.{List, [], ◌∷◌, ◌++◌, ℕ, suc, ◌+◌, ◌-◌, ◌*◌, ◌/◌, ◌^◌, length}
use Rattle.octets.specs.Octets.{le, cat, zeros}

-- ---- places

-- the next multiple of `a` at or after `n`
abbrev pub align_to : ℕ → ℕ → ℕ
align_to a n = (n + (a - 1)) / a * a

-- the zeros that lead there
abbrev pub padding : ℕ → ℕ → List ℕ
padding a n = zeros (align_to a n - n)

-- ---- sections

pub record Section : Type 0 where
  pub name : List ℕ
  pub kind : ℕ
  pub flags : ℕ
  pub align : ℕ
  pub entry : ℕ
  pub link : ℕ
  pub info : ℕ
  pub contents : List ℕ

-- where a section begins if those before it end at `n`, and where it ends
abbrev pub place : ℕ → Section → ℕ
place n s = align_to s.align n

abbrev pub after : ℕ → Section → ℕ
after n s = place n s + length s.contents

-- where sections end that begin at `n`
abbrev pub end_of : ℕ → List Section → ℕ
end_of n [] = n
end_of n (s ∷ ss) = end_of (after n s) ss

-- the bytes of sections that begin at `n`
abbrev pub laid : ℕ → List Section → List ℕ
laid n [] = []
laid n (s ∷ ss) = padding s.align n ++ (s.contents ++ laid (after n s) ss)

-- ---- section headers

-- a section header by its numbers; the address, which no relocatable file has, is 0
pub record Header : Type 0 where
  pub name : ℕ
  pub kind : ℕ
  pub flags : ℕ
  pub at : ℕ
  pub size : ℕ
  pub link : ℕ
  pub info : ℕ
  pub align : ℕ
  pub entry : ℕ

abbrev pub header_bytes : Header → List ℕ
header_bytes h =
    cat (le 4 h.name ∷ le 4 h.kind ∷ le 8 h.flags ∷ le 8 0 ∷ le 8 h.at ∷ le 8 h.size ∷ le 4 h.link
    ∷ le 4 h.info ∷ le 8 h.align ∷ le 8 h.entry ∷ [])

-- section header 0, as the Rust writes it
abbrev pub null_header : Header
null_header = record { name = 0; kind = 0; flags = 0; at = 0; size = 0; link = 0; info = 0; align = 1; entry = 0 }

-- the header of a section at `at`, whose name is at `name` of the names' table
abbrev pub header_for : ℕ → ℕ → Section → Header
header_for name at s =
    record {
      name = name;
      kind = s.kind;
      flags = s.flags;
      at = at;
      size = length s.contents;
      link = s.link;
      info = s.info;
      align = s.align;
      entry = s.entry;
    }

-- the headers of sections that begin at `n`, whose names are at `names`
abbrev pub section_headers : List ℕ → ℕ → List Section → List ℕ
section_headers [] n [] = []
section_headers [] n (s ∷ ss) = []
section_headers (p ∷ ps) n [] = []
section_headers (p ∷ ps) n (s ∷ ss) = header_bytes (header_for p (place n s) s) ++ section_headers ps (after n s) ss

-- ---- the file

-- the file header: a section table of `count` headers is at `table`, and the names' section has the number `names`
abbrev pub file_header : ℕ → ℕ → ℕ → List ℕ
file_header table count names =
    cat ((0x7f ∷ 0x45 ∷ 0x4c ∷ 0x46 ∷ 2 ∷ 1 ∷ 1 ∷ zeros 9) ∷ le 2 1 ∷ le 2 247 ∷ le 4 1 ∷ le 8 0 ∷ le 8 0 ∷ le 8 table
    ∷ le 4 0 ∷ le 2 64 ∷ le 2 0 ∷ le 2 0 ∷ le 2 64 ∷ le 2 count ∷ le 2 names ∷ [])

-- the whole file: `names` are the places of the sections' names in the names' table, which is the last section
abbrev pub file : List ℕ → List Section → List ℕ
file names ss =
    let end = end_of 64 ss in
    cat (file_header (align_to 8 end) (suc (length ss)) (length ss) ∷ laid 64 ss ∷ padding 8 end ∷ header_bytes null_header
    ∷ section_headers names 64 ss ∷ [])

-- ---- symbols and relocations

pub record Symbol : Type 0 where
  pub name : List ℕ
  pub info : ℕ
  pub section : ℕ
  pub at : ℕ
  pub size : ℕ

-- a symbol's info: its binding and its type
abbrev pub symbol_info : ℕ → ℕ → ℕ
symbol_info bind kind = bind * 16 + kind

-- a symbol's entry by its numbers
pub record Entry : Type 0 where
  pub name : ℕ
  pub info : ℕ
  pub section : ℕ
  pub at : ℕ
  pub size : ℕ

abbrev pub entry_bytes : Entry → List ℕ
entry_bytes e =
    cat (le 4 e.name ∷ le 1 e.info ∷ le 1 0 ∷ le 2 e.section ∷ le 8 e.at ∷ le 8 e.size ∷ [])

-- symbol 0, as the Rust writes it: its empty name is appended to the table too
abbrev pub null_entry : Entry
null_entry = record { name = 1; info = 0; section = 0; at = 0; size = 0 }

-- the entry of a symbol whose name is at `p` of the symbols' string table
abbrev pub entry_for : ℕ → Symbol → Entry
entry_for p s = record { name = p; info = s.info; section = s.section; at = s.at; size = s.size }

abbrev pub symbol_bytes : ℕ → Symbol → List ℕ
symbol_bytes p s = entry_bytes (entry_for p s)

abbrev pub symbols_bytes : List ℕ → List Symbol → List ℕ
symbols_bytes [] [] = []
symbols_bytes [] (s ∷ ss) = []
symbols_bytes (p ∷ ps) [] = []
symbols_bytes (p ∷ ps) (s ∷ ss) = symbol_bytes p s ++ symbols_bytes ps ss

-- a REL entry: the place, then symbol number × 2^32 + type 1
abbrev pub rel_bytes : ℕ → ℕ → List ℕ
rel_bytes offset symbol = le 8 offset ++ le 8 (symbol * 2 ^ 32 + 1)
