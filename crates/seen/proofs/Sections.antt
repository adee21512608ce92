-- L1 and L2: a row of section headers is read back, and in a file that `file` lays out a loader finds every section, by its name and with
-- its contents. The law holds for any sound sections; it knows nothing of a job.
use mathlib.Core.Path.{◌≡◌, refl, ap, ◌∙◌}
use mathlib.Core.Bool.{true, or-true, cond}
use mathlib.Core.Option.{some}
use mathlib.Core.List.{List, [], ◌∷◌, ◌++◌, map}
use Prim.Native.Nat.{ℕ, zero, suc, ◌+◌, ◌-◌, ◌^◌, ◌≤◌, ◌<◌}
use native.Mathlib.Omega.{arith}
use lib.Dec.{eqb}
use lib.ListN.{length, drop, get_elem?, length-map}
use borrow.Author.Tests.{le-leb}
use Rattle.octets.proofs.Numbers.{value-le}
use Rattle.octets.specs.All.{All}
use Rattle.octets.proofs.Lists.{all_weaken}
use Rattle.written.proofs.Names.{Clean}
use Rattle.elf.specs.Elf.{Section, place, after, end_of, header_bytes, file}
use Rattle.elf.specs.Elf as elf
use Rattle.elf.proofs.Strings.{AllStand, stand_length, stands_inside}
use Rattle.elf.proofs.Rows.{FitHeader, FitSection, headers_for, header_row, count_headers}
use Rattle.elf.proofs.Places.{Aligned, align_up, end_after, headers_fit, Held, table_at, length-file, headers_there, contents-there}
use Rattle.reading.specs.Sections.{Header, header_of, headers_of, all_inside, read_sections, Named, name_all, table, read_names}
use Rattle.reading.specs.Reading.{reading, loaded}
use Rattle.reading.proofs.Rules.{string_at_lem, sections_of_lem, reading_by}
use Rattle.seen.proofs.Strings.{stands_read}

-- ---- a row of section headers

-- a header as a loader sees it
abbrev pub seen_header : elf.Header → Header
seen_header h =
    record { name = h.name; kind = h.kind; flags = h.flags; at = h.at; size = h.size; link = h.link; info = h.info }

header_read : (h : elf.Header) (r : List ℕ) → FitHeader h → header_of (header_bytes h ++ r) ≡ seen_header h
header_read h r f =
    λ i. record {
      name = value-le 4 h.name f.name i;
      kind = value-le 4 h.kind f.kind i;
      flags = value-le 8 h.flags f.flags i;
      at = value-le 8 h.at f.at i;
      size = value-le 8 h.size f.size i;
      link = value-le 4 h.link f.link i;
      info = value-le 4 h.info f.info i;
    }

pub headers_read : (hs : List elf.Header) → All FitHeader hs → headers_of (length hs) (header_row hs) ≡ map seen_header hs
headers_read [] f = refl
headers_read (h ∷ hs) f = λ i. header_read h (header_row hs) f.0 i ∷ headers_read hs f.1 i

-- ---- L1

-- a section that L1 and L2 take: its numbers fit, and its name is short and has no zero byte
pub record Sound (s : Section) : Type 0 where
  pub aligned : Aligned s
  pub fit : FitSection s
  pub short : length s.name ≤ cond (eqb s.kind 9) 68 64
  pub clean : Clean s.name

abbrev seen_headers : List ℕ → ℕ → List Section → List Header
seen_headers ps n ss = map seen_header (headers_for ps n ss)

all_inside_lem : (f : List ℕ) (ps : List ℕ) (n : ℕ) (ss : List Section) → All Aligned ss → end_of n ss ≤ length f
    → all_inside f (seen_headers ps n ss) ≡ true
all_inside_lem f [] n [] a l = refl
all_inside_lem f [] n (s ∷ ss) a l = refl
all_inside_lem f (p ∷ ps) n [] a l = refl
all_inside_lem f (p ∷ ps) n (s ∷ ss) a l =
    let later = end_after (after n s) ss a.1 in
    rw (le-leb (place n s + length s.contents) (length f) (omega arith), or-true) (all_inside_lem f ps (after n s) ss a.1 l)

-- places of names and sections that make a file: its last section is `t`, the table of the names
pub record SoundFile (names : List ℕ) (ss : List Section) (t : Section) : Type 0 where
  pub sound : All Sound ss
  pub few : length ss ≤ 70
  pub early : table_at ss < 2 ^ 64
  pub last : ℕ
  pub count : length ss ≡ suc last
  pub there : get_elem? ss last ≡ some t
  pub kind : t.kind ≡ 3
  pub small : length t.contents ≤ 2 ^ 32
  pub stand : AllStand t.contents names (map (λ s. s.name) ss)

places_below : (n : ℕ) (t ps : List ℕ) (ss : List (List ℕ)) → length t ≤ n → AllStand t ps ss → All (λ (p : ℕ). p < n) ps
places_below n t [] ss l a = tt
places_below n t (p ∷ ps) [] l a = absurd a
places_below n t (p ∷ ps) (s ∷ ss) l a = (omega (arith, stands_inside a.0), places_below n t ps ss l a.1)

module _ (names : List ℕ) (ss : List Section) (t : Section) (ok : SoundFile names ss t) where
  aligned : All Aligned ss
  aligned = all_weaken Sound Aligned (λ s h. h.aligned) ss ok.sound

  same : length names ≡ length ss
  same = stand_length t.contents names (map (λ s. s.name) ss) ok.stand ∙ length-map ss (λ s. s.name)

  headers_of_file : headers_of (suc (length ss) - 1) (drop (table_at ss + 64) (file names ss)) ≡ seen_headers names 64 ss
  headers_of_file =
      let one : suc (length ss) - 1 ≡ length ss = omega arith in
      let up = align_up 8 (end_of 64 ss) (omega arith) in
      let fit = headers_fit names 64 ss (all_weaken Sound FitSection (λ s h. h.fit) ss ok.sound) aligned
      (places_below (2 ^ 32) t.contents names (map (λ s. s.name) ss) ok.small ok.stand) (omega (arith, ok.early)) in
      rw (one, headers_there names ss aligned, ← count_headers names 64 ss same) (headers_read (headers_for names 64 ss) fit)

  read_sections_lem : read_sections (file names ss) ≡ some (record { headers = seen_headers names 64 ss; names = length ss })
  read_sections_lem =
      let up = align_up 8 (end_of 64 ss) (omega arith) in
      let end = end_after 64 ss aligned in
      let long = length-file names ss aligned same in
      let few = ok.few in
      sections_of_lem (file names ss) (table_at ss) (suc (length ss)) (length ss) (seen_headers names 64 ss)
      (value-le 8 (table_at ss) ok.early) (value-le 2 (suc (length ss)) (omega arith)) (value-le 2 (length ss) (omega arith)) headers_of_file
      (omega arith) refl (omega arith) (omega arith) (omega arith) (omega arith) (all_inside_lem (file names ss) names 64 ss aligned (omega arith))

-- ---- L2

-- a section as the rules from L3 on see it
abbrev pub named_of : ℕ → Section → Named
named_of i s =
    record {
      name = s.name;
      number = i;
      kind = s.kind;
      flags = s.flags;
      size = length s.contents;
      link = s.link;
      info = s.info;
      bytes = s.contents;
    }

abbrev pub named_for : ℕ → List Section → List Named
named_for i [] = []
named_for i (s ∷ ss) = named_of i s ∷ named_for (suc i) ss

names_read : (f t : List ℕ) (i : ℕ) (ps : List ℕ) (n : ℕ) (ss : List Section) → AllStand t ps (map (λ s. s.name) ss) → All Sound ss → Held f n ss
    → name_all f t i (seen_headers ps n ss) ≡ some (named_for i ss)
names_read f t i [] n [] a b h = refl
names_read f t i [] n (s ∷ ss) a b h = absurd a
names_read f t i (p ∷ ps) n [] a b h = absurd a
names_read f t i (p ∷ ps) n (s ∷ ss) a b h =
    rw (
      string_at_lem (cond (eqb s.kind 9) 68 64) t p s.name (stands_read a.0 b.0.clean) b.0.short,
      names_read f t (suc i) ps (after n s) ss a.1 b.1 h.1,
      h.0,
    )

-- the string table that a section number gives
table_read : (f : List ℕ) (ps : List ℕ) (n : ℕ) (ss : List Section) (k : ℕ) (t : Section) → length ps ≡ length ss → Held f n ss
    → get_elem? ss k ≡ some t → t.kind ≡ 3
    → table f (seen_headers ps n ss) (suc k) ≡ some t.contents
table_read f [] n [] k t l h e q = cc
table_read f [] n (s ∷ ss) k t l h e q = absurd (omega arith)
table_read f (p ∷ ps) n [] k t l h e q = cc
table_read f (p ∷ ps) n (s ∷ ss) zero t l h e q =
    let here : s ≡ t = cc in
    let kind : s.kind ≡ 3 = ap (λ (x : Section). x.kind) here ∙ q in
    rw (kind, h.0) (ap (λ (x : Section). some x.contents) here)
table_read f (p ∷ ps) n (s ∷ ss) (suc k) t l h e q = table_read f ps (after n s) ss k t (omega arith) h.1 e q

-- for any bytes that hold the sections, so that `file` is not computed here
names_of : (f names : List ℕ) (ss : List Section) (k : ℕ) (t : Section) → length ss ≡ suc k → length names ≡ length ss → Held f 64 ss
    → get_elem? ss k ≡ some t → t.kind ≡ 3 → AllStand t.contents names (map (λ s. s.name) ss) → All Sound ss
    → read_names f (record { headers = seen_headers names 64 ss; names = length ss }) ≡ some (named_for 1 ss)
names_of f names ss k t count same h there kind a b =
    rw (count, table_read f names 64 ss k t same h there kind) (names_read f t.contents 1 names 64 ss a b h)

-- a file is read as its sections are
pub reading-file : (names : List ℕ) (ss : List Section) (t : Section) → SoundFile names ss t → reading (file names ss) ≡ loaded (named_for 1 ss)
reading-file names ss t ok =
    reading_by (file names ss) (record { headers = seen_headers names 64 ss; names = length ss }) (named_for 1 ss) (read_sections_lem names ss t ok)
    (names_of (file names ss) names ss ok.last t ok.count (same names ss t ok) (contents-there names ss (aligned names ss t ok)) ok.there ok.kind
    ok.stand ok.sound)
