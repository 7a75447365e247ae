-- What was written is read as it was given. A sheet is its header, then its names, then its movements. The header's
-- numbers come back from their bytes, the names lie as they were given, and each movement comes back from its twelve
-- bytes, since its numbers fit them. Assumes nothing.
use Rattle.std.proofs.Common.{ℕ, ◌+◌, ◌*◌, ◌<◌, ◌≤◌, arith, ◌≡◌, refl, sym, ap, ◌∙◌, false, List, [], ◌++◌, append_assoc, le-ltb, length, get_or, take, drop, drop_at, drop-drop, get_or-drop}
use lib.Seq.{take-append-le}
use Rattle.refusal.specs.Numbers.{first}
use Rattle.refusal.proofs.Numbers.{passes}
use Rattle.fields.specs.Bytes.{value_in, bytes_of}
use Rattle.fields.specs.Layout.{name_size, most_movements, header_size, mark, mark_size, names_at, entries_at, length_at, entries_start, sheet_size, movements_off}
use Rattle.fields.specs.Names.{names_in}
use Rattle.fields.specs.Movements.{given_size, no_entry, given_in, entries_in, entries_given, entries_bytes, entry_checks, entries_checks}
use Rattle.book.specs.Head.{last_rule, most_vessels}
use Rattle.book.proofs.HeadLaws.{same_refl}
use Rattle.sheet.specs.Sheet.{entries_read, names_read, rule_of, vessels_of, movements_of, no_sheet, layout_off, header_checks, body_checks, read_number}
use Rattle.sheet.specs.Answers.{movement_answer, movement_at, movement_number, name_bytes, name_number}
use Rattle.writing.specs.Writing.{count_given, header_bytes, sheet_of, write_number}
use Rattle.fields.proofs.GroupLaws.{group_at, groups_append, length_groups}
use Rattle.sheet.proofs.AnswerLaws.{asked_inside, entry_of, name_of}
use Rattle.sheet.proofs.HeaderLaws.{laid_out, counts_pass, out_fields}
use Rattle.writing.proofs.SheetPut.{length_header}
use Rattle.writing.proofs.WriteLaws.{Counted, Content, write_counted, write_content, length_sheet}
use Rattle.fields.proofs.EntryLaws.{all_sound, ages_fit}
use Rattle.fields.proofs.BackLaws.{Below, back_number, back_entries, Fit}

-- The numbers of a header come back from its bytes.
pub record Header (rule vessels movements : ℕ) (s : List ℕ) : Type 0 where
  pub known : rule_of s ≡ rule
  pub held : vessels_of s ≡ vessels
  pub moved : movements_of s ≡ movements
  pub names : value_in 4 (drop names_at s) ≡ header_size
  pub start : value_in 4 (drop entries_at s) ≡ entries_start vessels
  pub size : value_in 4 (drop length_at s) ≡ sheet_size vessels movements

back_header : (rule vessels movements : ℕ) (rest : List ℕ) → rule ≤ last_rule → vessels ≤ most_vessels → movements ≤ most_movements
    → Header rule vessels movements (header_bytes rule vessels movements ++ rest)
unfolding bytes_of
back_header rule vessels movements rest hr hv hm =
    record {
      known = back_number 2 rule _ (omega arith);
      held = back_number 2 vessels _ (omega arith);
      moved = back_number 4 movements _ (omega arith);
      names = back_number 4 header_size _ (omega arith);
      start = back_number 4 (entries_start vessels) _ (omega arith);
      size = back_number 4 (sheet_size vessels movements) rest (omega arith);
    }

-- A sheet whose rule, counts, names and numbers the writer accepts; each number is one of 32 bits.
module _ (rule vessels room : ℕ) (names numbers : List ℕ) (accepted : write_number rule vessels names numbers room ≡ 0) (small : Below 4294967296 numbers) where
  abbrev count : ℕ
  count = count_given numbers

  abbrev s : List ℕ
  s = sheet_of rule vessels names numbers

  abbrev movements : List ℕ
  movements = entries_bytes (entries_given count numbers)

  counted : Counted rule vessels names numbers
  counted = write_counted rule vessels room _ names numbers refl accepted

  content : Content vessels count names numbers room
  content = write_content rule vessels room _ names numbers refl accepted

  split : s ≡ header_bytes rule vessels count ++ (names ++ movements)
  unfolding sheet_of
  split = append_assoc (header_bytes rule vessels count) names movements

  pub header : Header rule vessels count s
  header = rw split (back_header rule vessels count (names ++ movements) counted.opened.rule_known counted.opened.few_vessels counted.moved)

  behind_header : drop header_size s ≡ names ++ movements
  behind_header = rw split (drop_at (header_bytes rule vessels count) (names ++ movements) header_size (length_header rule vessels count))

  behind_names : drop (entries_start vessels) s ≡ movements
  behind_names = sym (drop-drop (name_size * vessels) header_size s) ∙ rw behind_header (drop_at names movements (name_size * vessels) counted.named)

  -- the movements come back, since each fits
  fit : (i : ℕ) → i < length (entries_given count numbers) → Fit (get_or (entries_given count numbers) i no_entry)
  fit i h =
      let inside : i < count = rw length_groups at h in
      let is : get_or (entries_given count numbers) i no_entry ≡ given_in (drop (given_size * i) numbers) = group_at given_size given_in count numbers i no_entry inside in
      let v = all_sound vessels (entries_given count numbers) content.moved i h in
      let few = counted.opened.few_vessels in
      record {
        source = omega arith;
        destination = omega arith;
        age = omega arith;
        minute = rw (is, get_or-drop) (small (given_size * i + 2));
        weight = rw (is, get_or-drop) (small (given_size * i + 3));
      }

  back : entries_in count (drop (entries_start vessels) s) ≡ entries_given count numbers
  back =
      rw behind_names
      (ap (λ (n : ℕ). entries_in n movements) (sym (length_groups given_size given_in count numbers)) ∙ back_entries (entries_given count numbers) fit)

  same_names : names_in vessels (drop header_size s) ≡ names_in vessels names
  same_names =
      rw behind_header
      (groups_append name_size (take name_size) (λ l r h. take-append-le name_size l r h) vessels names movements (omega (arith, counted.named)))

  -- no check of the reader applies
  long : length s ≡ sheet_size vessels count
  long = length_sheet rule vessels names numbers counted.named

  is_sheet : no_sheet s ≡ false
  unfolding no_sheet
  is_sheet =
      let h : header_size ≤ length s = omega (arith, long) in
      let m : take mark_size s ≡ mark = rw split in
      rw (le-ltb (length s) header_size h, m, same_refl mark)

  good_header : 0 ≡ first (header_checks s)
  good_header =
      out_fields s false rule vessels count 0 (sym is_sheet) refl (sym header.known) (sym header.held) (sym header.moved)
      (counts_pass rule vessels 15 16 (movements_off count) (layout_off vessels count s) counted.opens counted.inside (laid_out s vessels count header.names header.start header.size long))

  good_body : 0 ≡ first (body_checks (vessels_of s) (movements_of s) s)
  good_body =
      let es = entries_given count numbers in
      let read : first (entries_checks (entry_checks vessels) es) ≡ 0 = sym (ages_fit vessels es (λ i h. (all_sound vessels es content.moved i h).age)) ∙ content.moved in
      rw (header.held, header.moved, same_names, back, content.named) (sym read)

  pub accepts : read_number s ≡ 0
  unfolding read_number
  accepts = sym (passes (header_checks s) (body_checks (vessels_of s) (movements_of s) s) tt 0 0 good_header refl good_body)

  pub same_movement : (i : ℕ) → i < count → movement_at s i ≡ movement_answer 0 (given_in (drop (given_size * i) numbers))
  same_movement i h =
      let same : get_or (entries_read s) i no_entry ≡ get_or (entries_given count numbers) i no_entry = rw (header.held, header.moved, back) in
      ap (movement_answer 0) (entry_of s i (rw header.moved h) ∙ same ∙ group_at given_size given_in count numbers i no_entry h)

  pub same_name : (v : ℕ) → v < vessels → name_bytes s v ≡ take name_size (drop (name_size * v) names)
  same_name v h =
      let same : get_or (names_read s) v [] ≡ get_or (names_in vessels names) v [] = rw (header.held, same_names) in
      name_of s v (rw header.held h) ∙ same ∙ group_at name_size (take name_size) vessels names v [] h

  pub named : (v : ℕ) → v < vessels → name_number s v ≡ 0
  named v h = asked_inside s accepts 5 (vessels_of s) v (rw header.held h)

  pub moved : (i : ℕ) → i < count → movement_number s i ≡ 0
  moved i h = asked_inside s accepts 20 (movements_of s) i (rw header.moved h)
