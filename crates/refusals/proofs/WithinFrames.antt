-- What holds of the lines of a text and of their frames before any limit is tested: bytes are below 256, numbers fit their fields, and a
-- frame of code has at most half as many bytes as its line has characters.
use mathlib.Core.Path.{◌≡◌, refl}
use mathlib.Core.Bool.{Bool, true, false, cond}
use mathlib.Core.Option.{Option, none, some}
use mathlib.Core.List.{List, [], ◌∷◌}
use Prim.Native.Nat.{ℕ, suc, ◌+◌, ◌-◌, ◌*◌, ◌%◌, ◌^◌, ◌≤◌, ◌<◌}
use native.Mathlib.Omega.{arith}
use lib.Dec.{eqb, leb}
use lib.ListN.{length, take, drop}
use borrow.Author.Tests.{leb-true, eqb-true}
use Rattle.octets.specs.Octets.{le, value, cat, within}
use Rattle.octets.proofs.Lists.{all_take, all_drop}
use Rattle.octets.proofs.Bytes.{Byte, Bytes, le_bytes, cat_bytes, front_fits}
use Rattle.octets.proofs.Tests.{and_true_both}
use Rattle.ast.specs.Numbers.{map_type_numbered, member_type_numbered}
use Rattle.ast.specs.declared.«Type».{«Type» as MemberType}
use Rattle.ast.specs.declared.MapType.{MapType}
use Rattle.ast.specs.declared.Attr.{Attr}
use Rattle.ast.specs.declared.Attr.TheVariants.{Absent, Present}
use Rattle.lines.specs.Lines.{Line, before, lines, digit, pair, unhex, frame_bytes}
use Rattle.frames.specs.Frames.{Frame, licence, map_decl, program, code, relocation, Read, bit, take_type, take_count, attr_if, map_attrs, map_frame, program_frame, relocation_frame, instruction_frame, frame_of}

-- what holds of a result, if there is one
abbrev pub Holds {ℓ} : {A : Type ℓ} → (A → Type 0) → Option A → Type 0
Holds p none = Unit {0}
Holds p (some a) = p a

cond_holds {ℓ} : {A : Type ℓ} (p : A → Type 0) (b : Bool) (x y : Option A) → Holds p x → Holds p y → Holds p (cond b x y)
cond_holds p true x y h k = h
cond_holds p false x y h k = k

any {ℓ} : {A : Type ℓ} (o : Option A) → Holds (λ (a : A). Unit {0}) o
any none = tt
any (some a) = tt

-- and of a result that is made of another
then_holds {ℓ κ} : {A : Type ℓ} {B : Type κ} (p : A → Type 0) (q : B → Type 0) (o : Option A) (g : A → Option B) → Holds p o
    → ((a : A) → p a → Holds q (g a))
    → Holds q (elim o as (λ x. Option B) [ none ↦ none | some a ↦ g a ])
then_holds p q none g h f = tt
then_holds p q (some a) g h f = f a h

-- ---- the bytes of a line

abbrev Nibble : ℕ → Type 0
Nibble d = d ≤ 15

digit_low : (c : ℕ) → Holds Nibble (digit c)
digit_low c = go (within 48 57 c) (within 97 102 c) refl refl
  where
    go : (a b : Bool) → within 48 57 c ≡ a → within 97 102 c ≡ b → Holds Nibble (cond a (some (c - 48)) (cond b (some (c - 87)) none))
    go true b e q = let (l, h) = and_true_both (leb 48 c) (leb c 57) e in omega (arith, leb-true c 57 h)
    go false true e q = let (l, h) = and_true_both (leb 97 c) (leb c 102) q in omega (arith, leb-true c 102 h)
    go false false e q = tt

-- bytes of a line of `n` characters
pub record LineBytes (n : ℕ) (bs : List ℕ) : Type 0 where
  pub few : 2 * length bs ≤ n
  pub bytes : Bytes bs

pair_bytes : (n : ℕ) (h l : Option ℕ) (bs : Option (List ℕ)) → Holds Nibble h → Holds Nibble l → Holds (LineBytes n) bs
    → Holds (LineBytes (suc (suc n))) (pair h l bs)
pair_bytes n none l bs a b c = tt
pair_bytes n (some h) none bs a b c = tt
pair_bytes n (some h) (some l) none a b c = tt
pair_bytes n (some h) (some l) (some bs) a b c = record { few = omega (arith, c.few); bytes = (omega arith, c.bytes) }

unhex_bytes : (cs : List ℕ) → Holds (LineBytes (length cs)) (unhex cs)
unhex_bytes [] = record { few = omega arith; bytes = tt }
unhex_bytes (c ∷ []) = tt
unhex_bytes (c ∷ d ∷ cs) = pair_bytes (length cs) (digit c) (digit d) (unhex cs) (digit_low c) (digit_low d) (unhex_bytes cs)

pub line_bytes_lem : (l : Line) → Holds (LineBytes (length l.text)) (frame_bytes l)
line_bytes_lem l =
    let p = LineBytes (length l.text) in
    cond_holds p l.ended (cond (eqb (length l.text) 0) none (unhex l.text)) none
    (cond_holds p (eqb (length l.text) 0) none (unhex l.text) tt (unhex_bytes l.text)) tt

-- how many characters lines have
abbrev pub total : List Line → ℕ
total [] = 0
total (l ∷ ls) = length l.text + total ls

before-total : (c : ℕ) (ls : List Line) → total (before c ls) ≤ suc (total ls)
before-total c [] = omega arith
before-total c (l ∷ ls) = omega arith

pub lines-total : (text : List ℕ) → total (lines text) ≤ length text
lines-total [] = omega arith
lines-total (c ∷ cs) = go (eqb c 10) (lines-total cs)
  where
    go : (b : Bool) → total (lines cs) ≤ length cs
        → total (cond b (record { text = []; ended = true } ∷ lines cs) (before c (lines cs))) ≤ suc (length cs)
    go true h = omega arith
    go false h = omega (arith, before-total c (lines cs))

-- ---- frames

-- a count that is present fits its four bytes
abbrev FitCount : Attr ℕ → Type 0
FitCount e = (n : ℕ) → e ≡ Present n → n < 2 ^ 32

absent_fits : FitCount Absent
absent_fits n e = let z : ◌≡◌ {A = ℕ} 0 1 = cc in absurd (omega arith)

present_fits : (k : ℕ) → k < 2 ^ 32 → FitCount (Present k)
present_fits k h n e = let q : k ≡ n = cc in omega arith

-- a frame of a line of `n` characters
abbrev pub FitFrame : ℕ → Frame → Type 0
FitFrame n (licence text) = Bytes text
FitFrame n (map_decl kind key value entries name) = FitCount entries × Bytes name
FitFrame n (program section symbol) = Bytes section × Bytes symbol
FitFrame n (code bytes) = LineBytes n bytes
FitFrame n (relocation offset name) = (offset < 2 ^ 64) × Bytes name

abbrev TypeRest : Read MemberType → Type 0
TypeRest r = Bytes r.rest

type_rest : (b : Bool) (bs : List ℕ) → Bytes bs → Holds TypeRest (attr_if take_type b bs)
type_rest false bs a = a
type_rest true [] a = tt
type_rest true (b ∷ bs) a = then_holds (λ (t : MemberType). Unit {0}) TypeRest (member_type_numbered b) _ (any (member_type_numbered b)) (λ t h. a.1)

record FitCountRead (r : Read ℕ) : Type 0 where
  attr : FitCount r.attr
  rest : Bytes r.rest

count_rest : (b : Bool) (bs : List ℕ) → Bytes bs → Holds FitCountRead (attr_if take_count b bs)
count_rest false bs a = record { attr = absent_fits; rest = a }
count_rest true bs a =
    cond_holds FitCountRead (leb 4 (length bs)) (some (record { attr = Present (value (take 4 bs)); rest = drop 4 bs })) none
    (record { attr = present_fits (value (take 4 bs)) (front_fits 4 bs a); rest = all_drop Byte 4 bs a }) tt

attrs_fit : (n : ℕ) (t : MapType) (p : ℕ) (bs : List ℕ) → Bytes bs → Holds (FitFrame n) (map_attrs t p bs)
attrs_fit n t p bs a =
    then_holds TypeRest (FitFrame n) (attr_if take_type (bit 1 p) bs) _ (type_rest (bit 1 p) bs a) λ k h.
    then_holds TypeRest (FitFrame n) (attr_if take_type (bit 2 p) k.rest) _ (type_rest (bit 2 p) k.rest h) λ v h.
    then_holds FitCountRead (FitFrame n) (attr_if take_count (bit 4 p) v.rest) _ (count_rest (bit 4 p) v.rest h) λ c h. (h.attr, h.rest)

map_fit : (n : ℕ) (bs : List ℕ) → Bytes bs → Holds (FitFrame n) (map_frame bs)
map_fit n [] a = tt
map_fit n (t ∷ []) a = tt
map_fit n (t ∷ p ∷ bs) a =
    then_holds (λ (k : MapType). Unit {0}) (FitFrame n) (map_type_numbered t) _ (any (map_type_numbered t)) λ k h.
    cond_holds (FitFrame n) (leb p 7) (map_attrs k p bs) none (attrs_fit n k p bs a.1.1) tt

program_fit : (n : ℕ) (bs : List ℕ) → Bytes bs → Holds (FitFrame n) (program_frame bs)
program_fit n [] a = tt
program_fit n (k ∷ bs) a =
    cond_holds (FitFrame n) (leb k (length bs)) (some (program (take k bs) (drop k bs))) none
    (all_take Byte k bs a.1, all_drop Byte k bs a.1) tt

relocation_fit : (n : ℕ) (bs : List ℕ) → Bytes bs → Holds (FitFrame n) (relocation_frame bs)
relocation_fit n bs a =
    cond_holds (FitFrame n) (leb 8 (length bs)) (some (relocation (value (take 8 bs)) (drop 8 bs))) none
    (front_fits 8 bs a, all_drop Byte 8 bs a) tt

-- an instruction's bytes; `regs` is the byte of its registers
insn_bytes_lem : (c regs off imm : ℕ) → Bytes (cat (le 1 c ∷ le 1 regs ∷ le 2 off ∷ le 4 imm ∷ []))
insn_bytes_lem c regs off imm =
    cat_bytes (le 1 c ∷ le 1 regs ∷ le 2 off ∷ le 4 imm ∷ []) (le_bytes 1 c, (le_bytes 1 regs, (le_bytes 2 off, (le_bytes 4 imm, tt))))

-- they come from a line of twenty characters
instruction_fit : (n : ℕ) (bs : List ℕ) → 2 * length bs ≤ n → Holds (FitFrame n) (instruction_frame bs)
instruction_fit n [] l = tt
instruction_fit n (c ∷ []) l = tt
instruction_fit n (c ∷ d ∷ []) l = tt
instruction_fit n (c ∷ d ∷ s ∷ bs) l = go (eqb (length bs) 6) refl
  where
    regs : ℕ
    regs = d % 16 + 16 * (s % 16)

    bytes : List ℕ
    bytes = cat (le 1 c ∷ le 1 regs ∷ le 2 (value (take 2 bs)) ∷ le 4 (value (drop 2 bs)) ∷ [])

    go : (b : Bool) → eqb (length bs) 6 ≡ b → Holds (FitFrame n) (cond b (some (code bytes)) none)
    go true e = record { few = omega (arith, eqb-true (length bs) 6 e); bytes = insn_bytes_lem c regs (value (take 2 bs)) (value (drop 2 bs)) }
    go false e = tt

pub frame_fit : (n : ℕ) (bs : List ℕ) → LineBytes n bs → Holds (FitFrame n) (frame_of bs)
frame_fit n [] b = tt
frame_fit n (k ∷ bs) b =
    let few = b.few in
    let bytes = b.bytes.1 in
    let f = FitFrame n in
    cond_holds f (eqb k 1) (some (licence bs)) _ bytes
    (cond_holds f (eqb k 2) (map_frame bs) _ (map_fit n bs bytes)
    (cond_holds f (eqb k 3) (program_frame bs) _ (program_fit n bs bytes)
    (cond_holds f (eqb k 4) (some (code bs)) _ (record { few = omega arith; bytes = bytes })
    (cond_holds f (eqb k 5) (relocation_frame bs) _ (relocation_fit n bs bytes)
    (cond_holds f (eqb k 6) (instruction_frame bs) none (instruction_fit n bs (omega arith)) tt)))))
