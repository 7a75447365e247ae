-- What was read is written again byte for byte: each number of the header and of a movement is put into the bytes that
-- it was read from, and the names are copied. From the end to the front, each part and what lies behind it is the rest
-- of the sheet. Assumes nothing.
use mathlib.Core.List.{flat_map}
use Rattle.std.proofs.Common.{ℕ, ◌*◌, ◌%◌, ◌<◌, ◌≤◌, arith, ◌≡◌, refl, sym, ap, ◌∙◌, false, not, List, [], ◌∷◌, ◌++◌, append_assoc, le-ltb, eq-eqb, ltb, length, get_or, take, drop, take-append-drop, length-take, length-drop, drop-drop}
use Rattle.std.proofs.lemmas.Bool.{or_parts}
use borrow.Author.Tests.{not-false}
use lib.Seq.{take-append-le}
use Rattle.refusal.specs.Numbers.{first}
use Rattle.refusal.proofs.Numbers.{passes}
use Rattle.fields.specs.declared.entries.Entry.{Entry}
use Rattle.book.specs.Head.{same}
use Rattle.book.specs.Transfer.{most_age}
use Rattle.book.proofs.HeadLaws.{same_eq}
use Rattle.fields.specs.Layout.{name_size, header_size, mark, mark_size, rule_at, vessels_at, movements_at, names_at, entries_at, length_at, entries_start, sheet_size, movements_off}
use Rattle.fields.specs.Names.{names_in, names_off}
use Rattle.fields.specs.Movements.{given_size, entry_size, no_entry, given_in, entry_in, entries_given, entries_bytes, given_checks, entries_checks, numbers_in}
use Rattle.sheet.specs.Sheet.{names_of, entries_read, rule_of, vessels_of, movements_of, no_sheet, read_number}
use Rattle.sheet.specs.Answers.{movement_answer, movement_at}
use Rattle.writing.specs.Writing.{count_given, header_bytes, sheet_of, given_off, count_checks, content_checks, room_check, write_number}
use Rattle.writing.specs.Rewriting.{numbers_of}
use Rattle.fields.proofs.GroupLaws.{group_at, length_groups, groups_append}
use Rattle.sheet.proofs.HeaderLaws.{counts_pass}
use Rattle.sheet.proofs.ReadLaws.{Laid, good, good_names, good_entries}
use Rattle.sheet.proofs.AnswerLaws.{entry_of}
use Rattle.writing.proofs.WriteLaws.{named_movements}
use Rattle.fields.proofs.BackLaws.{Below, below_drop, ages_read, back_at, back_movements, back_given}
use Rattle.fields.proofs.EntryLaws.{ages_fit}

length_numbers : (es : List Entry) → length (numbers_in es) ≡ given_size * length es
unfolding flat_map
length_numbers [] = refl
length_numbers (e ∷ es) = let ih = length_numbers es in omega arith

-- the mark of a sheet, and the bytes behind it
back_mark : (s : List ℕ) → no_sheet s ≡ false → mark ++ drop mark_size s ≡ s
unfolding no_sheet
back_mark s e =
    let p = or_parts (ltb (length s) header_size) (not (same (take mark_size s) mark)) e in
    let m : take mark_size s ≡ mark = same_eq (take mark_size s) mark (not-false (same (take mark_size s) mark) p.1) in
    ap (λ (l : List ℕ). l ++ drop mark_size s) (sym m) ∙ take-append-drop mark_size s

-- A sheet of bytes that reads well.
module _ (s : List ℕ) (read : read_number s ≡ 0) (bytes : Below 256 s) where
  abbrev vessels : ℕ
  vessels = vessels_of s

  abbrev movements : ℕ
  movements = movements_of s

  abbrev es : List Entry
  es = entries_read s

  laid : Laid s
  laid = good s _ refl read

  count : length es ≡ movements
  count = length_groups entry_size entry_in movements (drop (entries_start vessels) s)

  pub numbers : length (numbers_of s) ≡ given_size * movements
  numbers = length_numbers es ∙ rw count

  pub same_count : count_given (numbers_of s) ≡ movements
  same_count = omega (arith, numbers)

  same_entries : entries_given movements (numbers_of s) ≡ es
  same_entries = ap (λ (n : ℕ). entries_given n (numbers_of s)) (sym count) ∙ back_given es

  ages : (i : ℕ) → i < length es → (get_or es i no_entry).age ≤ most_age
  ages i h = ages_read movements (drop (entries_start vessels) s) (below_drop 256 (entries_start vessels) s bytes) i (rw (← count) h)

  -- from the end to the front
  back_entries : entries_bytes es ≡ drop (entries_start vessels) s
  back_entries =
      back_movements movements (drop (entries_start vessels) s) (rw length-drop (omega (arith, laid.size))) (below_drop 256 (entries_start vessels) s bytes)

  back_names : names_of s ++ drop (entries_start vessels) s ≡ drop header_size s
  back_names = rw (← drop-drop (name_size * vessels) header_size s) (take-append-drop (name_size * vessels) (drop header_size s))

  back_header : header_bytes (rule_of s) vessels movements ++ drop header_size s ≡ s
  back_header =
      let long : header_size ≤ length s = omega (arith, laid.size) in
      simp append_assoc
      (rw (
        back_at s length_at 4 (sheet_size vessels movements) (sym laid.field) (omega arith) bytes,
        back_at s entries_at 4 (entries_start vessels) (sym laid.start) (omega arith) bytes,
        back_at s names_at 4 header_size (sym laid.names) (omega arith) bytes,
        back_at s movements_at 4 movements refl (omega arith) bytes,
        back_at s vessels_at 2 vessels refl (omega arith) bytes,
        back_at s rule_at 2 (rule_of s) refl (omega arith) bytes,
      )
      (back_mark s laid.marked))

  pub rewrites : sheet_of (rule_of s) vessels (names_of s) (numbers_of s) ≡ s
  unfolding sheet_of
  rewrites =
      let h = header_bytes (rule_of s) vessels movements in
      rw (same_count, same_entries, back_entries)
      (append_assoc h (names_of s) (drop (entries_start vessels) s) ∙ ap (λ (l : List ℕ). h ++ l) back_names ∙ back_header)

  -- the numbers are those that asking for each movement yields
  pub asked_numbers : (i : ℕ) → i < movements → movement_at s i ≡ movement_answer 0 (given_in (drop (given_size * i) (numbers_of s)))
  asked_numbers i h =
      let same : get_or es i no_entry ≡ get_or (entries_given movements (numbers_of s)) i no_entry = rw same_entries in
      ap (movement_answer 0) (entry_of s i h ∙ same ∙ group_at given_size given_in movements (numbers_of s) i no_entry h)

  -- no check of the writer applies
  sized_names : length (names_of s) ≡ name_size * vessels
  sized_names = rw (length-take, length-drop) (omega (arith, laid.size))

  given_good : given_off vessels (names_of s) (numbers_of s) ≡ false
  unfolding given_off
  given_good =
      rw (eq-eqb (length (names_of s)) (name_size * vessels) sized_names, eq-eqb (length (numbers_of s) % given_size) 0 (omega (arith, numbers)))

  counts_good : 0 ≡ first (count_checks (rule_of s) vessels (names_of s) (numbers_of s))
  counts_good =
      counts_pass (rule_of s) vessels 16 15 (given_off vessels (names_of s) (numbers_of s)) (movements_off (count_given (numbers_of s))) laid.opens given_good
      (rw same_count laid.inside)

  same_names : names_in vessels (drop header_size s) ≡ names_in vessels (names_of s)
  same_names =
      let d = drop header_size s in
      ap (names_in vessels) (sym (take-append-drop (name_size * vessels) d))
      ∙ groups_append name_size (take name_size) (λ l r h. take-append-le name_size l r h) vessels (names_of s) (drop (name_size * vessels) d) (omega (arith, sized_names))

  -- of what the writer checks, only the room is left
  pub asks_room : (room : ℕ) → write_number (rule_of s) vessels (names_of s) (numbers_of s) room ≡ first (room_check vessels movements room ∷ [])
  unfolding write_number
  asks_room room =
      let names : names_off (names_in vessels (names_of s)) ≡ false = rw (← same_names) (good_names s read) in
      let entries : 0 ≡ first (entries_checks (given_checks vessels) (entries_given movements (numbers_of s))) =
      rw same_entries (sym (ages_fit vessels es ages ∙ good_entries s read)) in
      let left = room_check vessels movements room ∷ [] in
      sym
      (passes (count_checks (rule_of s) vessels (names_of s) (numbers_of s)) (content_checks vessels (count_given (numbers_of s)) (names_of s) (numbers_of s) room)
      tt 0 (first left) counts_good refl
      (rw (same_count, names)
      (passes (entries_checks (given_checks vessels) (entries_given movements (numbers_of s))) left (named_movements vessels (entries_given movements (numbers_of s))) 0 (first left) entries refl refl)))

  pub accepts : (room : ℕ) → length s ≤ room → write_number (rule_of s) vessels (names_of s) (numbers_of s) room ≡ 0
  accepts room h = asks_room room ∙ rw (le-ltb room (sheet_size vessels movements) (omega (arith, laid.size)))
