-- A run makes one movement after the other. What `Going` says of it is said of the table as it would be, were the
-- pieces of its book written into it.
-- Assumes nothing.
use Rattle.std.proofs.Common.{◌≡◌, refl, List, ℕ, ◌+◌, ◌≤◌, ◌<◌}
use Rattle.std.specs.Prelude.{Result, Ok, Err}
use Rattle.refusal.specs.declared.Refusal.{Refusal}
use Rattle.refusal.specs.Numbers.{if_zero}
use Rattle.refusal.specs.Refusals.{number_of}
use Rattle.refusal.proofs.Refusals.{some_number}
use Rattle.taking.specs.declared.Applied.{Applied}
use Rattle.book.specs.declared.Head.{Head}
use Rattle.book.specs.declared.Transfer.{Transfer}
use Rattle.book.specs.Head.{empty_head}
use Rattle.book.specs.Calls.{post}
use Rattle.motions.specs.Posting.{refused_with, said, Posts}
use Rattle.lane_book.specs.declared.LaneBook.{LaneBook}
use Rattle.lane_book.specs.LaneBook.{written, Stands, Opened, Enters}
use Rattle.sheet.specs.declared.answer.Header.{Header}
use Rattle.sheet.specs.Answers.{header_numbers}
use Rattle.sheet.specs.Sheet.{rule_of, vessels_of}
use Rattle.run.specs.declared.Ran.{Ran}
use Rattle.run.specs.Run.{transfer_at, transfers_of, Gives, run_from}
use Rattle.run.proofs.RunLaws.{Going, going_stop, going_next}

-- Where it stands before movement i.
pub record Making (s : List ℕ) (h₀ : Head) (t₀ : List ℕ) (b : LaneBook) (t : List ℕ) (even i : ℕ) : Type 0 where
  pub going : Going s h₀ t₀ b.head (written b t) even i
  pub stands : Stands b t

-- It makes one movement after the other.
module _ (s : List ℕ) (h₀ : Head) (t₀ : List ℕ) (b : LaneBook) (t : List ℕ) (even i : ℕ) (g : Making s h₀ t₀ b t even i)
    (header : Header) (told : header ≡ header_numbers s) (q : i < header.movements) (x : Transfer) (ex : x ≡ transfer_at s i)
    (b' : LaneBook) (t' : List ℕ) (r : Result Applied Refusal) (enters : Enters x b b' t t' r) where
  posts_here : Posts b.head (post (transfer_at s i)) (written b t) (written b' t') (said b'.head r)
  posts_here = rw ex at enters.posts

  pub made_refused : (why : Refusal) → r ≡ Err why → (n : ℕ) → n ≡ number_of why
      → Gives (run_from 0 0 h₀ t₀ (transfers_of s)) (written b' t') (record { number = n; index = i; even = even; head = b'.head })
  made_refused why e n en =
      rw en (going_stop s h₀ t₀ b.head (written b t) even i g.going header told (refused_with b'.head (number_of why)) (written b' t') q (rw e at posts_here) (some_number why))

  pub made_on : (a : Applied) → r ≡ Ok a → (one : ℕ) → (one ≡ if_zero (a.split + a.born) 1 0) × (one ≤ 1)
      → Making s h₀ t₀ b' t' (even + one) (i + 1)
  made_on a e one eo =
      record { going = going_next s h₀ t₀ b.head (written b t) even i g.going header told (said b'.head (Ok a)) (written b' t') q (rw e at posts_here) refl one eo; stands = enters.stands }

-- a run on a fresh book
pub made_fresh : (s t t' : List ℕ) (header : Header) → header ≡ header_numbers s → (b b' : LaneBook)
    → Opened header.rule header.vessels b → (r : Ran)
    → Gives (run_from 0 0 b.head (written b t) (transfers_of s)) (written b' t') r
    → Gives (run_from 0 0 (empty_head (rule_of s) (vessels_of s)) t (transfers_of s)) (written b' t') r
made_fresh s t t' header told b b' o r g = let o' = rw told at o in rw (o'.bare t, o'.head) at g
