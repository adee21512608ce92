-- Rules L1 and L2: the file header, the section headers and the sections' names. Nothing here names the writer or its layout.
use Rattle.std.specs.Prelude.{Bool, true, cond, ◌&&◌, ◌||◌, List, [], ◌∷◌, ◌++◌, ℕ, zero, suc, ◌+◌, ◌-◌, ◌*◌, length, drop, ltb, leb, eqb}
use Rattle.std.proofs.Math.Option.{Option, some}
use Rattle.octets.specs.Octets.{zeros, equal, within}
use Rattle.reading.specs.Steps.{◌>>=◌, ◌guards◌, field, numbered, part, string_at}

-- ---- L1: the file header and the section headers

pub record Header : Type 0 where
  pub name : ℕ
  pub kind : ℕ
  pub flags : ℕ
  pub at : ℕ
  pub size : ℕ
  pub link : ℕ
  pub info : ℕ

abbrev pub header_of : List ℕ → Header
header_of d =
    record {
      name = field 4 d 0;
      kind = field 4 d 4;
      flags = field 8 d 8;
      at = field 8 d 24;
      size = field 8 d 32;
      link = field 4 d 40;
      info = field 4 d 44;
    }

abbrev pub headers_of : ℕ → List ℕ → List Header
headers_of zero d = []
headers_of (suc n) d = header_of d ∷ headers_of n (drop 64 d)

-- Section types by the gABI: a section of type NULL or NOBITS has no bytes in the file.
abbrev pub inside : List ℕ → Header → Bool
inside f h = eqb h.kind 0 || eqb h.kind 8 || leb (h.at + h.size) (length f)

abbrev pub all_inside : List ℕ → List Header → Bool
all_inside f [] = true
all_inside f (h ∷ hs) = inside f h && all_inside f hs

-- document 01's file header: all but the table's place, the count and the names' index is fixed
abbrev pub fixed : List ℕ → Bool
fixed f =
    equal (part f 0 40)
    ((0x7f ∷ 0x45 ∷ 0x4c ∷ 0x46 ∷ 2 ∷ 1 ∷ 1 ∷ zeros 9) ++ (1 ∷ 0 ∷ 247 ∷ 0 ∷ 1 ∷ zeros 19))
    && equal (part f 48 12) (0 ∷ 0 ∷ 0 ∷ 0 ∷ 64 ∷ 0 ∷ 0 ∷ 0 ∷ 0 ∷ 0 ∷ 64 ∷ 0 ∷ [])

-- the sections: every header but header 0, which is no section and is not examined
pub record Sections : Type 0 where
  pub headers : List Header
  pub names : ℕ

abbrev pub read_sections : List ℕ → Option Sections
read_sections f =
    let table = field 8 f 40 in
    let n = field 2 f 60 in
    let hs = headers_of (n - 1) (drop (table + 64) f) in
    (leb 64 (length f) && fixed f && ltb 0 table && within 1 71 n && leb (table + 64 * n) (length f) && all_inside f hs)
    guards some (record { headers = hs; names = field 2 f 62 })

abbrev pub contents : List ℕ → Header → List ℕ
contents f h = part f h.at h.size

-- a string table: a section of type STRTAB
abbrev pub table : List ℕ → List Header → ℕ → Option (List ℕ)
table f hs i = numbered hs i >>= λ h. eqb h.kind 3 guards some (contents f h)

-- ---- L2: the sections' names

-- a section by itself: the rules below look at no byte of the file but its contents
pub record Named : Type 0 where
  pub name : List ℕ
  pub number : ℕ
  pub kind : ℕ
  pub flags : ℕ
  pub size : ℕ
  pub link : ℕ
  pub info : ℕ
  pub bytes : List ℕ

abbrev pub named : List ℕ → List ℕ → ℕ → Header → Named
named f name i h =
    record {
      name = name;
      number = i;
      kind = h.kind;
      flags = h.flags;
      size = h.size;
      link = h.link;
      info = h.info;
      bytes = contents f h;
    }

abbrev pub name_all : List ℕ → List ℕ → ℕ → List Header → Option (List Named)
name_all f t i [] = some []
name_all f t i (h ∷ hs) =
    string_at (cond (eqb h.kind 9) 68 64) t h.name >>= λ s.
    name_all f t (suc i) hs >>= λ ns.
    some (named f s i h ∷ ns)

abbrev pub read_names : List ℕ → Sections → Option (List Named)
read_names f ss = table f ss.headers ss.names >>= λ t. name_all f t 1 ss.headers

-- a PROGBITS section by its flags and its name
abbrev pub is_plain : ℕ → List ℕ → Named → Bool
is_plain flags name s = eqb s.kind 1 && eqb s.flags flags && equal s.name name
