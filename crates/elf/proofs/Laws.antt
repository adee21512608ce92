-- The mask of `align_to`, and `add_string`'s numbers as those of the string table.
use mathlib.Core.Path.{◌≡◌, refl, ◌∙◌}
use mathlib.Core.List.{List, [], ◌∷◌, ◌++◌}
use Prim.Native.Nat.{ℕ, ◌+◌, ◌-◌, ◌*◌, ◌/◌, ◌%◌, ◌^◌, ◌≤◌, ◌<◌}
use native.Mathlib.Nat.{mod-eq_of_lt, div-lt_iff_lt-mul}
use lib.Pow.{pow-add, pow_pos}
use native.Mathlib.Omega.{arith}
use lib.Dec.{lit<}
use lib.Bits.{bit_and, bit_or, and_high, or_shifted}
use lib.ListN.{length, length-append}
use Rattle.elf.specs.Strings.{add_string}
use Rattle.elf.specs.Elf.{align_to, null_header, null_entry}
use Rattle.elf.specs.Entries.{null_section, header_of, null_symbol, entry_of}
use Rattle.elf.specs.Added.{Alignment, one, four, eight, added}

-- a sum that is cut off below 2^k by a mask is the next multiple of 2^k
pub cut_off : (j k n : ℕ) → n < 2 ^ (j + k) → bit_and n (2 ^ (j + k) - 2 ^ k) ≡ n / 2 ^ k * 2 ^ k
cut_off j k n h =
    let q : n / 2 ^ k < 2 ^ j = (div-lt_iff_lt-mul (pow_pos k)).1 (rw (pow-add 2 j k) at h) in
    and_high n j k ∙ rw (mod-eq_of_lt q)

pub align_mask : (a n : ℕ) → Alignment a → n + a < 2 ^ 64 → bit_and (n + a - 1) (18446744073709551615 - (a - 1)) ≡ align_to a n
align_mask a n one h = cut_off 64 0 (n + 1 - 1) (omega arith) ∙ omega arith
align_mask a n four h = cut_off 62 2 (n + 4 - 1) (omega arith) ∙ omega arith
align_mask a n eight h = cut_off 61 3 (n + 8 - 1) (omega arith) ∙ omega arith

-- alignment 1 leaves a place as it is
pub align_one : (a n : ℕ) → Alignment a → a ≤ 1 → n ≡ align_to a n
align_one a n one h = omega arith
align_one a n four h = omega arith
align_one a n eight h = omega arith

-- a relocation's info: a shift and a mask put the symbol above the type
pub rel_info : (s : ℕ) → s < 2 ^ 32 → bit_or (s * 4294967296 % 18446744073709551616) 1 ≡ s * 2 ^ 32 + 1
rel_info s h =
    let fits : s * 4294967296 < 18446744073709551616 = omega arith in
    rw (mod-eq_of_lt fits) (or_shifted s 32 1 (lit< tt))

-- the place and the length that `add_string` answers are those of the table
pub added-place : (t s : List ℕ) → (add_string t s).place ≡ (added (length t) (length s)).place
added-place t s = refl

pub added_len : (t s : List ℕ) → length (add_string t s).table ≡ (added (length t) (length s)).len
added_len t s = rw (length-append t (s ++ (0 ∷ [])), length-append s (0 ∷ [])) (omega arith)

-- section 0 and symbol 0 are those of the definitions
pub null_section_lem : header_of null_section ≡ null_header
null_section_lem = refl

pub null_symbol_lem : entry_of null_symbol ≡ null_entry
null_symbol_lem = refl
