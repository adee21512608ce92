-- The rules with their tests as hypotheses, on bytes and sections of which nothing else is known. A proof about a file gives the tests one
-- by one, so that the file itself need not compute.
use mathlib.Core.Path.{◌≡◌, refl}
use mathlib.Core.Bool.{true}
use mathlib.Core.Option.{Option, some}
use mathlib.Core.List.{List, [], ◌∷◌, ◌++◌}
use Prim.Native.Nat.{ℕ, suc, ◌+◌, ◌-◌, ◌*◌, ◌/◌, ◌%◌, ◌^◌, ◌≤◌, ◌<◌}
use native.Mathlib.Omega.{arith}
use lib.ListN.{length, drop, get_elem?}
use borrow.Author.Tests.{le-leb, lt-ltb, eq-eqb, ne_eqb}
use Rattle.octets.specs.Octets.{equal, zeros}
use Rattle.reading.specs.Steps.{field, part, keep, numbered, text_at, string_at}
use Rattle.reading.specs.Sections.{Header, Named, Sections, headers_of, all_inside, fixed, read_sections, read_names}
use Rattle.reading.specs.Programs.{Symbol, Code, less_zero, is_kind, is_code, strings, symbols_of, codes_of, read_licence, read_symbols, read_codes}
use Rattle.reading.specs.Maps.{BtfType, ptr, array, struct, var, Member, Var, Mapped, front_of, front, types_of, read_btf, number_of, map_of, var_of, vars_of, map_sections, maps_of, read_maps}
use Rattle.reading.specs.Relocations.{Relocation, Program, map_at, relocation_of, maps_section, relocations_of, rel_of, relocated, relocation_count, read_programs}
use Rattle.reading.specs.Reading.{reading, loaded, reads, maps_in}

-- a string at a place, short enough
pub string_at_lem : (most : ℕ) (t : List ℕ) (p : ℕ) (s : List ℕ) → text_at t p ≡ some s → length s ≤ most → string_at most t p ≡ some s
string_at_lem most t p s e h = rw (e, le-leb (length s) most h)

-- ---- L1 and L2

pub sections_of_lem : (f : List ℕ) (table n names : ℕ) (hs : List Header) → field 8 f 40 ≡ table → field 2 f 60 ≡ n → field 2 f 62 ≡ names
    → headers_of (n - 1) (drop (table + 64) f) ≡ hs → 64 ≤ length f → fixed f ≡ true → 0 < table → 1 ≤ n → n ≤ 71
    → table + 64 * n ≤ length f → all_inside f hs ≡ true
    → read_sections f ≡ some (record { headers = hs; names = names })
sections_of_lem f table n names hs e₁ e₂ e₃ e₄ l x t a z y i =
    rw (e₁, e₂, e₃, e₄, le-leb 64 (length f) l, x, lt-ltb 0 table t, le-leb 1 n a, le-leb n 71 z, le-leb (table + 64 * n) (length f) y, i)

pub reading_by : (f : List ℕ) (ss : Sections) (ns : List Named) → read_sections f ≡ some ss → read_names f ss ≡ some ns → reading f ≡ loaded ns
reading_by f ss ns d e = rw (d, e)

-- ---- L3 to L5

pub less_zero_lem : (s : List ℕ) → less_zero (s ++ (0 ∷ [])) ≡ some s
less_zero_lem [] = refl
less_zero_lem (a ∷ []) = refl
less_zero_lem (a ∷ b ∷ s) = rw (less_zero_lem (b ∷ s))

pub symbols_of_lem : (ns : List Named) (s : Named) (t : List ℕ) (n : ℕ) → keep (is_kind 2) ns ≡ s ∷ [] → strings ns s.link ≡ some t → s.size ≡ 24 * n
    → read_symbols ns ≡ symbols_of t n s.bytes
symbols_of_lem ns s t n e q l =
    let whole : 24 * n % 24 ≡ 0 = omega arith in
    let count : 24 * n / 24 ≡ n = omega arith in
    rw (e, q, l, whole, count)

pub codes_of_lem : (ns cs : List Named) (syms : List Symbol) → keep is_code ns ≡ cs → length cs ≤ 32 → read_codes syms ns ≡ codes_of syms cs
codes_of_lem ns cs syms e l = rw (e, le-leb (length cs) 32 l)

-- ---- L6

-- the type at the front of `d`
pub front_of_lem : (strs d : List ℕ) (kind n : ℕ) (this : BtfType) (size : ℕ) → field 4 d 4 / 2 ^ 24 ≡ kind → field 4 d 4 % 2 ^ 24 ≡ n
    → front_of strs kind n d ≡ some (record { this = this; size = size }) → 12 ≤ size → size ≤ length d
    → front strs d ≡ some (record { this = this; size = size })
front_of_lem strs d kind n this size e₁ e₂ e₃ l₁ l₂ =
    let l : 12 ≤ length d = omega arith in
    rw (e₁, e₂, e₃, le-leb 12 (length d) l, le-leb size (length d) l₂)

-- a section of `n` bytes of types and `m` bytes of strings
pub btf_of : (d : List ℕ) (n m : ℕ) → field 4 d 12 ≡ n → field 4 d 16 ≡ n → field 4 d 20 ≡ m
    → equal (part d 0 12) (0x9f ∷ 0xeb ∷ 1 ∷ 0 ∷ 24 ∷ zeros 7) ≡ true → 24 + n + m ≡ length d
    → read_btf d ≡ types_of (drop (24 + n) d) n (part d 24 n)
btf_of d n m e₁ e₂ e₃ x l =
    let long : 24 ≤ length d = omega arith in
    rw (e₁, e₂, e₃, x, le-leb 24 (length d) long, eq-eqb n n refl, eq-eqb (24 + n + m) (length d) l)

pub number_of_lem : (b : List BtfType) (i j n : ℕ) → numbered b i ≡ some (ptr j) → numbered b j ≡ some (array n) → number_of b i ≡ some n
number_of_lem b i j n e q = rw (e, q)

pub var_of_lem : (b : List BtfType) (i k at : ℕ) (name : Option (List ℕ)) (ms : List Member) → numbered b k ≡ some (var name i)
    → numbered b i ≡ some (struct ms)
    → var_of b (record { type_id = k; offset = at }) ≡ map_of b at name ms
var_of_lem b i k at name ms e q = rw (e, q)

pub maps_of_lem : (s : Named) (b : List BtfType) (vs : List Var) (found : List Mapped) → read_btf s.bytes ≡ some b → map_sections b ≡ vs ∷ []
    → length vs ≤ 64 → vars_of b vs ≡ some found
    → maps_of (s ∷ []) ≡ some found
maps_of_lem s b vs found e₁ e₂ l e₃ = rw (e₁, e₂, le-leb (length vs) 64 l, e₃)

-- ---- L7

-- an entry by its two numbers: the symbol `y` leads to map number `k`
pub relocation_of_lem : (syms : List Symbol) (ms : List Mapped) (maps : ℕ) (d : List ℕ) (offset symbol k : ℕ) (y : Symbol) → field 8 d 0 ≡ offset
    → field 8 d 8 ≡ symbol * 2 ^ 32 + 1 → get_elem? syms symbol ≡ some y → y.section ≡ maps → map_at 0 y.at ms ≡ some k
    → relocation_of syms ms maps d ≡ some (record { offset = offset; map = k })
relocation_of_lem syms ms maps d offset symbol k y e₁ e₂ e₃ e₄ e₅ =
    let kind : (symbol * 2 ^ 32 + 1) % 2 ^ 32 ≡ 1 = omega arith in
    let number : (symbol * 2 ^ 32 + 1) / 2 ^ 32 ≡ symbol = omega arith in
    rw (e₂, kind, number, e₃, eq-eqb y.section maps e₄, e₅, e₁)

-- a row of entries, by its first and the later ones
pub relocations_on : (syms : List Symbol) (ms : List Mapped) (maps n : ℕ) (d : List ℕ) (r : Relocation) (rs : List Relocation)
    → relocation_of syms ms maps d ≡ some r → relocations_of syms ms maps n (drop 16 d) ≡ some rs
    → relocations_of syms ms maps (suc n) d ≡ some (r ∷ rs)
relocations_on syms ms maps n d r rs e q = rw (e, q)

pub relocations_of_lem : (ns : List Named) (syms : List Symbol) (found : List Mapped) (s : Named) (maps n : ℕ) → s.size ≡ 16 * n → 0 < n
    → maps_section ns ≡ some maps
    → rel_of ns syms found (s ∷ []) ≡ relocations_of syms found maps n s.bytes
relocations_of_lem ns syms found s maps n e l m =
    let whole : 16 * n % 16 ≡ 0 = omega arith in
    let count : 16 * n / 16 ≡ n = omega arith in
    rw (e, whole, ne_eqb (16 * n) 0 (λ q. omega arith), m, count)

pub programs_of : (ns : List Named) (syms : List Symbol) (ms : List Mapped) (cs : List Code) (ps : List Program)
    → relocated ns syms ms cs ≡ some ps → relocation_count ps ≤ 256 → read_programs ns syms ms cs ≡ some ps
programs_of ns syms ms cs ps e l = rw (e, le-leb (relocation_count ps) 256 l)

-- ---- L3 to L7

pub loaded_by : (ns : List Named) (l : List ℕ) (syms : List Symbol) (cs : List Code) (ms : List Mapped) (ps : List Program)
    → read_licence ns ≡ some l → read_symbols ns ≡ some syms → read_codes syms ns ≡ some cs → read_maps ns ≡ some ms
    → read_programs ns syms ms cs ≡ some ps
    → loaded ns ≡ reads (record { licence = l; maps = maps_in ms; programs = ps })
loaded_by ns l syms cs ms ps e₁ e₂ e₃ e₄ e₅ = rw (e₁, e₂, e₃, e₄, e₅)
