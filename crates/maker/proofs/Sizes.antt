-- The sizes that the code finds are those of the definitions. And how many sections an object has at most.
use mathlib.Core.Path.{◌≡◌, refl, sym, ◌∙◌, ap}
use mathlib.Core.List.{List, [], ◌++◌, map, map-append, append_assoc}
use Prim.Native.Nat.{ℕ, suc, ◌+◌, ◌-◌, ◌*◌, ◌≤◌}
use native.Mathlib.Omega.{arith}
use lib.ListN.{length, take, length-append, length-replicate}
use lib.Seq.{length-take-le}
use borrow.Rule.Slice.PartMut.{put_mid}
use Rattle.octets.specs.Octets.{zeros}
use Rattle.octets.specs.Over.{over}
use Rattle.octets.proofs.Filling.{Filling, fill_start, fill_as, fill_on, fill_done, over-part}
use Rattle.elf.specs.Strings.{add_strings, empty_table}
use Rattle.elf.specs.Elf.{align_to, end_of, padding, laid, file_header, header_bytes, null_header, section_headers}
use Rattle.elf.specs.Row.{places_at}
use Rattle.elf.proofs.Joined.{places_at_lem}
use Rattle.elf.proofs.Places.{align_up, length-laid}
use Rattle.btf.specs.Maps.{map_types}
use Rattle.object.specs.declared.BpfObject.{BpfObject}
use Rattle.object.specs.Read.{declared_maps, job_in}
use Rattle.object.specs.declared.License.{License}
use Rattle.object.specs.declared.License.TheVariants.{Gpl, Text}
use Rattle.object.specs.Kept.{Kept, LicenceNamed}
use Rattle.object.specs.Object.{declared_sections, first_program, object}
use Rattle.object.proofs.Counts.{symtab_number, past_all_near, first_near}
use Rattle.object.proofs.Programs.{programs_length}
use Rattle.contents.specs.Slots.{licence_len}
use Rattle.headers.specs.Names.{section_names}
use Rattle.elf.specs.Headers.{headers_bytes}
use Rattle.elf.proofs.Headers.{headers_length}
use Rattle.members.specs.Section.{rooms_of}
use Rattle.spans.proofs.Decls.{rooms_size}
use Rattle.measure.specs.declared.Measured.{Measured}
use Rattle.measure.specs.Measured.{sections_of, table_sections, rows_of, rows_from, measured_of}
use Rattle.measure.proofs.Whole.{aligned, object-length}
use Rattle.sections.specs.Pieces.{all_pieces}
use Rattle.sections.proofs.Alike.{alike_all, alike_laid, alike_aligned, rows_headers, rows_count}

module _ (text : List ℕ) (o : BpfObject) (k : Kept text o) where
  pub rooms : (room : ℕ) → room ≡ rooms_of (take o.map_count o.maps) → (map_types 6 0 (declared_maps text o)).size ≡ room
  rooms room e = omega (arith, rooms_size text 6 0 (take o.map_count o.maps), e)

  -- the licence has at most 64 bytes
  pub licence_short : licence_len o.license ≤ 64
  licence_short = go o.license k.licence
    where
      go : (l : License) → LicenceNamed text l → licence_len l ≤ 64
      go Gpl n = omega arith
      go (Text x) n = n.short

  -- an object has at most 71 headers
  pub few_sections : suc (length (sections_of (job_in text o))) ≤ 71
  few_sections =
      let j = job_in text o in
      let n : length j.programs ≡ o.program_count =
      programs_length text o.slots (take o.program_count o.programs) ∙ length-take-le o.program_count o.programs (omega (arith, k.sound)) in
      omega (arith, length-append (declared_sections j) (table_sections j), symtab_number j, past_all_near j.programs (first_program j.maps), first_near j.maps, k.sound)

  -- the object in its four pieces
  abbrev pub headers : List ℕ
  headers = headers_bytes (rows_of (job_in text o))

  abbrev pub header_table : ℕ
  header_table = align_to 8 (end_of 64 (all_pieces text o))

  pub object_is : object (job_in text o)
      ≡ file_header header_table (suc (length (sections_of (job_in text o)))) (length (sections_of (job_in text o)))
      ++ (laid 64 (all_pieces text o) ++ (padding 8 (end_of 64 (all_pieces text o)) ++ (headers ++ [])))
  object_is =
      let j = job_in text o in
      let ss = sections_of j in
      let n = length ss in
      let al = alike_laid 64 ss (all_pieces text o) (alike_all text o k) in
      let names : section_names j ≡ map (λ s. s.name) ss = sym (map-append (λ s. s.name) (declared_sections j) (table_sections j)) in
      let h : section_headers (add_strings empty_table (section_names j)).places 64 ss ≡ headers_bytes (rows_from 1 64 ss) =
      ap (λ (ps : List ℕ). section_headers ps 64 ss) (places_at_lem empty_table (section_names j) ∙ ap (places_at 1) names) ∙ rows_headers 1 64 ss in
      pieces (laid 64 ss) (laid 64 (all_pieces text o)) (end_of 64 ss) (end_of 64 (all_pieces text o)) (suc n) n (header_bytes null_header)
      (section_headers (add_strings empty_table (section_names j)).places 64 ss) (headers_bytes (rows_from 1 64 ss)) al.0 al.1 h
    where
      pieces : (l l' : List ℕ) (e e' c m : ℕ) (z h h' : List ℕ) → l ≡ l' → e ≡ e' → h ≡ h'
          → file_header (align_to 8 e) c m ++ (l ++ (padding 8 e ++ (z ++ (h ++ [])))) ≡ file_header (align_to 8 e') c m ++ (l' ++ (padding 8 e' ++ ((z ++ h') ++ [])))
      pieces l l' e e' c m z h h' p q r = rw (p, q, r, append_assoc z h' [])

  -- the object filled piece by piece, by the measured numbers
  module _ (m : Measured) (e : m ≡ measured_of (job_in text o)) where
    abbrev after₁ : List ℕ
    after₁ = laid 64 (all_pieces text o) ++ (padding 8 (end_of 64 (all_pieces text o)) ++ (headers ++ []))

    abbrev after₂ : List ℕ
    after₂ = padding 8 (end_of 64 (all_pieces text o)) ++ (headers ++ [])

    pub table_at : m.at ≡ header_table
    table_at = ap (λ (x : Measured). x.at) e ∙ ap (align_to 8) (alike_laid 64 (sections_of (job_in text o)) (all_pieces text o) (alike_all text o k)).1

    pub count_is_lem : m.count ≡ suc (length (sections_of (job_in text o)))
    count_is_lem = ap (λ (x : Measured). x.count) e

    -- how many headers the object has
    pub few_headers : (1 ≤ m.count) × (m.count ≤ 71)
    few_headers = (omega (arith, count_is_lem), omega (arith, count_is_lem, few_sections))

    pub ends_before : end_of 64 (all_pieces text o) ≤ m.at
    ends_before = omega (arith, table_at, align_up 8 (end_of 64 (all_pieces text o)) (omega arith))

    pub room_for : m.at + 64 * m.count ≡ length (object (job_in text o))
    room_for = ap (λ (x : Measured). x.at + 64 * x.count) e ∙ sym (object-length (job_in text o))

    pub file_filled : (out l : List ℕ) → length out ≡ length (object (job_in text o)) → l ≡ file_header m.at m.count (m.count - 1)
        → Filling (object (job_in text o)) (put_mid 0 (64 - 0) out l) 64 after₁
    file_filled out l long q =
        let n : m.count - 1 ≡ length (sections_of (job_in text o)) = omega (arith, count_is_lem) in
        let q' : l ≡ file_header header_table (suc (length (sections_of (job_in text o)))) (length (sections_of (job_in text o))) = q ∙ header_as m.at header_table m.count _ (m.count - 1) _ table_at count_is_lem n in
        fill_on (file_header header_table (suc (length (sections_of (job_in text o)))) (length (sections_of (job_in text o)))) after₁ (put_mid 0 (64 - 0) out l) 64
        (fill_as _ object_is (fill_start (object (job_in text o)) out long)) (over-part out 0 64 l _ refl q') refl
      where
        header_as : (a a' b b' c c' : ℕ) → a ≡ a' → b ≡ b' → c ≡ c' → file_header a b c ≡ file_header a' b' c'
        header_as a a' b b' c c' p q r = rw (p, q, r)

    pub sections_filled : (out out' : List ℕ) (end : ℕ) → Filling (object (job_in text o)) out 64 after₁ → out' ≡ over out 64 (laid 64 (all_pieces text o)) → end ≡ end_of 64 (all_pieces text o)
        → Filling (object (job_in text o)) out' end after₂
    sections_filled out out' end f q g =
        let all = alike_aligned (sections_of (job_in text o)) (all_pieces text o) (alike_all text o k) (aligned (job_in text o)) in
        fill_on (laid 64 (all_pieces text o)) after₂ out' end f q (g ∙ sym (length-laid 64 (all_pieces text o) all))

    pub padding_filled : (out l : List ℕ) (end : ℕ) → Filling (object (job_in text o)) out end after₂ → end ≡ end_of 64 (all_pieces text o) → l ≡ zeros (m.at - end)
        → Filling (object (job_in text o)) (put_mid end (m.at - end) out l) m.at (headers ++ [])
    padding_filled out l end f g q =
        let p : zeros (m.at - end) ≡ padding 8 (end_of 64 (all_pieces text o)) = rw (table_at, g) in
        let n : m.at ≡ end + length (padding 8 (end_of 64 (all_pieces text o))) =
        omega (arith, ap length (sym p), length-replicate {A = ℕ} (m.at - end) 0, ends_before, g) in
        fill_on (padding 8 (end_of 64 (all_pieces text o))) (headers ++ []) (put_mid end (m.at - end) out l) m.at f (over-part out end m.at l (padding 8 (end_of 64 (all_pieces text o))) (sym n) (q ∙ p)) n

    -- the headers that were measured
    pub headers_long : length headers ≡ 64 * m.count
    headers_long = headers_length (rows_of (job_in text o)) ∙ ap (λ (x : ℕ). 64 * x) (ap suc (rows_count 1 64 (sections_of (job_in text o))) ∙ sym count_is_lem)

    pub headers_filled : (out l : List ℕ) → Filling (object (job_in text o)) out m.at (headers ++ []) → l ≡ headers
        → put_mid m.at (m.at + 64 * m.count - m.at) out l ≡ object (job_in text o)
    headers_filled out l f q =
        fill_done (fill_on headers [] (put_mid m.at (m.at + 64 * m.count - m.at) out l) (m.at + 64 * m.count) f
        (over-part out m.at (m.at + 64 * m.count) l headers (ap (λ (x : ℕ). m.at + x) headers_long) q) (ap (λ (x : ℕ). m.at + x) (sym headers_long)))
