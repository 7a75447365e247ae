-- The ways out of `rewrite`: the sheet's own number; or what was read is written, where only the room may be short, and
-- what is written is the sheet.
-- Assumes nothing.
use Rattle.std.proofs.Common.{ℕ, ◌≤◌, ◌≡◌, refl, sym, ◌∙◌, List, [], ◌∷◌, ◌++◌, ltb, map, length, take, drop, take_at}
use Rattle.std.specs.Prelude.{Result}
use Rattle.std.specs.Result.{IsErrAnd}
use Rattle.refusal.specs.declared.Refusal.{Refusal}
use Rattle.refusal.specs.Refusals.{number_of, outcome_number}
use Rattle.refusal.specs.Numbers.{◌if◌, first}
use Rattle.refusal.proofs.Numbers.{not_zero}
use mathlib.Core.List.{flat_map}
use Rattle.std.specs.List as Flat
use Rattle.std.proofs.lemmas.List.{length-map}
use Rattle.std.proofs.lemmas.List.Folds.{flat_map-map}
use Rattle.fields.specs.Movements.{entry_numbers}
use Rattle.fields.specs.Layout.{sheet_size, most_movements}
use Rattle.fields.proofs.BackLaws.{Below}
use Rattle.refusal.proofs.Refusals.{some_number, passed_on}
use Rattle.sheet.specs.declared.answer.Header.{Header}
use Rattle.sheet.specs.Sheet.{names_of, entries_read, rule_of, vessels_of, movements_of, read_number}
use Rattle.sheet.specs.Answers.{header_numbers, asked_number}
use Rattle.sheet.proofs.ReadLaws.{Laid, good}
use Rattle.sheet.proofs.AnswerLaws.{asked_good}
use Rattle.writing.specs.Writing.{count_given, write_number, written}
use Rattle.writing.specs.Rewriting.{numbers_of, rewrite_number, rewritten}
use Rattle.writing.proofs.TakenNumbers.{count}
use Rattle.writing.proofs.ReadRewrites as again
use Rattle.writing.proofs.RoundTrip.{read_rewrites}

-- What `rewrite` gives back and leaves.
abbrev pub Again : List ℕ → List ℕ → ℕ → List ℕ → Type 0
Again s out n out' = (n ≡ rewrite_number s (length out)) × (out' ≡ rewritten s out)

pub again_refused : (s out : List ℕ) (r : Result Unit Refusal) (why : Refusal) → IsErrAnd r (λ (other : Refusal). other ≡ why)
    → number_of why ≡ read_number s → Again s out (outcome_number r) out
unfolding asked_number
again_refused s out r why is e =
    let h = some_number why in
    let n : number_of why ≡ rewrite_number s (length out) = rw (← e) (not_zero (number_of why) (first ((19 if ltb (length out) (length s)) ∷ [])) (number_of why) h) in
    (passed_on r why _ is n, rw (← n) (not_zero (number_of why) (s ++ drop (length s) out) out h))

-- the sheet that was read, and what its header told
module _ (s known : List ℕ) (k : (known ≡ s) × (read_number s ≡ 0)) (header : Header) (told : (header ≡ header_numbers known) × (read_number known ≡ 0)) where
  laid : Laid s
  laid = good s _ refl k.1

  is_header : header ≡ header_numbers s
  is_header = told.0 ∙ rw k.0

  pub few : (taken : List (List ℕ)) → length taken ≡ most_movements → header.movements ≤ length taken
  few taken e = rw (e, is_header) laid.movements

  module _ (taken memory : List (List ℕ)) (et : taken ≡ map entry_numbers (entries_read known) ++ drop (movements_of known) memory)
      (given : List ℕ) (eg : given ≡ Flat.flat_map (λ five. five) (take header.movements taken)) where
    numbers_part : given ≡ numbers_of s
    unfolding flat_map
    numbers_part =
        let es = entries_read s in
        let m : length (map entry_numbers es) ≡ header.movements = rw (is_header, length-map, count) in
        let all : take header.movements taken ≡ map entry_numbers es = rw (et, k.0) (take_at (map entry_numbers es) (drop (movements_of s) memory) header.movements m) in
        eg ∙ rw all (flat_map-map (λ five. five) entry_numbers es)

    module _ (bytes : Below 256 s) where
      same_size : sheet_size (vessels_of s) (count_given (numbers_of s)) ≡ length s
      same_size = rw (again.same_count s k.1 bytes) (sym laid.size)

      module _ (out : List ℕ) where
        -- where what was read is given, only the room is looked at
        number : write_number (rule_of s) (vessels_of s) (names_of s) (numbers_of s) (length out) ≡ rewrite_number s (length out)
        number = again.asks_room s k.1 bytes (length out) ∙ rw (asked_good s k.1, laid.size)

        pub again_good : (names : List ℕ) → names ≡ names_of known → (n : ℕ) (out' : List ℕ)
            → (n ≡ write_number header.rule header.vessels names given (length out)) × (out' ≡ written header.rule header.vessels names given out)
            → Again s out n out'
        again_good names en n out' p =
            let q : (n ≡ write_number (rule_of s) (vessels_of s) (names_of s) (numbers_of s) (length out))
            × (out' ≡ written (rule_of s) (vessels_of s) (names_of s) (numbers_of s) out) =
            rw (en, numbers_part, is_header, k.0) at p in
            (q.0 ∙ number, q.1 ∙ rw (number, (read_rewrites s k.1 bytes).bytes, same_size))
