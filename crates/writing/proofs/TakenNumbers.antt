-- Laws of the numbers of a sheet's movements, taken one by one into memory for those of any sheet. Assumes nothing.
use Rattle.std.proofs.Common.{ℕ, ◌+◌, ◌<◌, ◌≤◌, arith, ◌≡◌, refl, sym, ap, ◌∙◌, List, ◌++◌, length, length-set, map, set, take, drop, take_all, take-append-drop, drop-drop}
use Rattle.std.proofs.lemmas.List.{drop-set-lt, map_more, take_more_set}
use Rattle.fields.specs.Layout.{most_movements}
use Rattle.fields.specs.declared.entries.Entry.{Entry}
use Rattle.fields.specs.Movements.{entry_size, entry_in, no_entry, entry_numbers}
use Rattle.fields.proofs.GroupLaws.{length_groups}
use Rattle.sheet.specs.declared.answer.Header.{Header}
use Rattle.sheet.specs.Sheet.{movements_of, entries_read, read_number}
use Rattle.sheet.specs.Answers.{header_numbers, entry_at}
use Rattle.sheet.proofs.ReadLaws.{good}
use Rattle.sheet.proofs.AnswerLaws.{entry_of}

pub count : (s : List ℕ) → length (entries_read s) ≡ movements_of s
count s = length_groups entry_size entry_in (movements_of s) _

-- So many are taken, and the memory behind them is as it was.
abbrev pub Taken : List ℕ → ℕ → List (List ℕ) → List (List ℕ) → Type 0
Taken s i before taken = (length taken ≡ most_movements) × (take i taken ≡ map entry_numbers (take i (entries_read s))) × (drop i taken ≡ drop i before)

module _ (s : List ℕ) (before taken : List (List ℕ)) (i : ℕ) (inv : Taken s i before taken)
    (header : Header) (told : (header ≡ header_numbers s) × (read_number s ≡ 0)) where
  pub there : i < header.movements → i < most_movements
  there h = let l = good s _ refl told.1 in omega (arith, rw told.0 at h)

  pub numbers_turn : (e : Entry) (five : List ℕ) → i < header.movements → e ≡ entry_at s i → five ≡ entry_numbers e → Taken s (i + 1) before (set taken i five)
  numbers_turn e five h ee ef =
      let inside : i < movements_of s = rw told.0 at h in
      let same : five ≡ entry_numbers _ = ef ∙ ap entry_numbers (ee ∙ entry_of s i inside) in
      let known : i < length (entries_read s) = rw count inside in (
        length-set taken i five ∙ inv.0,
        take_more_set taken i five (rw inv.0 (there h)) ∙ rw (inv.1, same) (sym (map_more entry_numbers (entries_read s) i no_entry known)),
        drop-set-lt (i + 1) taken i five (omega arith) ∙ sym (drop-drop 1 i taken) ∙ ap (drop 1) inv.2 ∙ drop-drop 1 i before,
      )

  pub numbers_end : i ≡ header.movements → taken ≡ map entry_numbers (entries_read s) ++ drop (movements_of s) before
  numbers_end e =
      let end : i ≡ movements_of s = e ∙ rw told.0 in
      let known : length (entries_read s) ≤ i = rw count (omega (arith, end)) in
      sym (take-append-drop i taken) ∙ rw (inv.1, inv.2, take_all i (entries_read s) known, end)
