-- A RUN IN PLAIN WORDS, of every sheet and every table. How it begins (`run_begins`): a sheet that is refused ends it
-- with its own number, whatever the table is; a sheet that reads well ends it with 1 where the table has no place; else
-- its movements are made on the book that opening gives. A run that did not begin gives zeros, and leaves the table as
-- it was.
-- And what it transfers (`transfers_asked`): as many transfers as the sheet has movements, at each index the one that
-- asking the sheet for that index yields, with its age.
-- Assumes nothing.
use Rattle.std.proofs.Common.{ℕ, zero, suc, ◌*◌, ◌≤◌, ◌<◌, arith, ◌≡◌, refl, sym, ap, ◌∙◌, List, length, get_or, drop-drop, replicate}
use Rattle.refusal.proofs.Numbers.{not_zero}
use Rattle.book.specs.declared.Head.{Head}
use Rattle.book.specs.declared.Transfer.{Transfer}
use Rattle.book.specs.Head.{empty_head, opening}
use Rattle.fields.specs.Movements.{entry_size}
use Rattle.fields.specs.Layout.{entries_start}
use Rattle.fields.proofs.GroupLaws.{length_groups, group_at}
use Rattle.sheet.specs.declared.answer.Movement.{Movement}
use Rattle.sheet.specs.Sheet.{rule_of, vessels_of, movements_of, read_number}
use Rattle.sheet.specs.Answers.{movement_at, movement_asked}
use Rattle.sheet.proofs.AnswerLaws.{asked_inside}
use Rattle.run.specs.Run.{Running, transfer_in, transfers_of, run_from, run_number, ended, running}
use Rattle.run.proofs.RunLaws.{no_place, can_begin}

-- refused by its sheet or by 1: a head of zeros
pub refused_run : (s t : List ℕ) (n : ℕ) → run_number s t ≡ suc n → running s t ≡ ended (suc n) 0 0 (empty_head 0 0) t
unfolding running
refused_run s t n e = rw e

-- A head of zeros.
abbrev pub zero_head : Head
zero_head = record {
  rule = 0;
  vessels = 0;
  pieces = 0;
  last = 0;
  accepted = 0;
  balances = replicate 64 0;
  scale = 0;
  rules = replicate 64 0;
}

-- A run that did not begin, with this number.
abbrev pub none_made : ℕ → List ℕ → Running
none_made number t = record { answer = record { number = number; index = 0; even = 0; head = zero_head }; table = t }

pub record RunBegins (s t : List ℕ) (r : Running) : Type 0 where
  pub sheet_first : (read_number s ≡ 0 → ⊥) → r ≡ none_made (read_number s) t
  pub then_table : read_number s ≡ 0 → length t < 4 → r ≡ none_made 1 t
  pub else_made : read_number s ≡ 0 → 4 ≤ length t
      → r ≡ run_from 0 0 (opening (rule_of s) (vessels_of s)).head t (transfers_of s)

module _ (s t : List ℕ) where
  refused : (n : ℕ) → run_number s t ≡ n → (n ≡ 0 → ⊥) → running s t ≡ none_made n t
  refused zero e some = absurd (some refl)
  refused (suc n) e some = refused_run s t n e

  -- a sheet that is refused has its number, and the table is not looked at
  own_number : (read_number s ≡ 0 → ⊥) → run_number s t ≡ read_number s
  unfolding run_number
  own_number some = sym (not_zero (read_number s) _ (read_number s) some)

  pub run_begins : RunBegins s t (running s t)
  unfolding running
  run_begins = record {
    sheet_first = λ some. refused (read_number s) (own_number some) some;
    then_table = λ reads short. refused 1 (sym (no_place s t reads short)) (λ z. omega arith);
    else_made = λ reads long. rw (can_begin s t reads long) refl;
  }

-- The transfer that a movement asks for.
abbrev pub transfer_by : Movement → Transfer
transfer_by m = record {
  source = m.source;
  destination = m.destination;
  minute = m.minute;
  weight = m.weight;
  age = m.age;
}

module _ (s : List ℕ) (z : read_number s ≡ 0) where
  transfer_there : (i : ℕ) (d : Transfer) → i < movements_of s
      → get_or (transfers_of s) i d ≡ transfer_by (movement_asked s i)
  transfer_there i d h =
      let asked : movement_asked s i ≡ movement_at s i = rw (asked_inside s z 20 (movements_of s) i h) refl in
      let there = drop-drop (entry_size * i) (entries_start (vessels_of s)) s in
      rw asked (group_at entry_size transfer_in (movements_of s) _ i d h ∙ ap transfer_in there)

  pub transfers_asked : (length (transfers_of s) ≡ movements_of s)
      × ((i : ℕ) (d : Transfer) → i < movements_of s → get_or (transfers_of s) i d ≡ transfer_by (movement_asked s i))
  transfers_asked = (length_groups entry_size transfer_in (movements_of s) _, transfer_there)
