-- Posting: what transfer, lift and tip promise.
-- Definitions only. Assumes nothing.
use Rattle.std.specs.Prelude.{◌≡◌, List, ℕ, Result, Ok, Err}
use Rattle.refusal.specs.declared.Refusal.{Refusal}
use Rattle.refusal.specs.Numbers.{first}
use Rattle.refusal.specs.Refusals.{number_of}
use Rattle.taking.specs.declared.Applied.{Applied}
use Rattle.book.specs.declared.Head.{Head}
use Rattle.book.specs.declared.Transferred.{Transferred}
use Rattle.book.specs.declared.Tip.{Tip}
use Rattle.book.specs.declared.Reply.{Reply}
use Rattle.book.specs.declared.Motion.{Motion}
use Rattle.book.specs.Motion.{of_head, motion}
use Rattle.book.specs.Calls.{Posting, terms, Call, enter, tip}
use Rattle.book.specs.Memory.{call_on, Audited}
use Rattle.book.specs.Memory as Memory

-- a refusal: the head as given, and all other numbers 0
abbrev pub refused_with : Head → ℕ → Transferred
refused_with h n = record { number = n; head = h; whole = 0; split = 0; born = 0 }

-- what is said of a posting that left this head
abbrev pub said : Head → Result Applied Refusal → Transferred
said h (Ok a) = record { number = 0; head = h; whole = a.whole; split = a.split; born = a.born }
said h (Err why) = refused_with h (number_of why)

-- What a transfer or a lift promises, and what a tip does: answer and table are those of the call.
pub record Posts (h : Head) (c : Call) (t t' : List ℕ) (r : Transferred) : Type 0 where
  pub answer : r ≡ Memory.transferred (call_on h t c)
  pub table : t' ≡ (call_on h t c).table

pub record Tips (h : Head) (y : Tip) (t t' : List ℕ) (r : Reply) : Type 0 where
  pub answer : r ≡ Memory.replied (call_on h t (tip y))
  pub table : t' ≡ (call_on h t (tip y)).table

-- What posting to a book that is known to add up promises: answer and table are those of the call, and the book is
-- known again.
pub record PostsKnown (v : Posting) (h h' : Head) (t t' : List ℕ) (r : Result Applied Refusal) : Type 0 where
  pub posts : Posts h (enter v) t t' (said h' r)
  pub audited : Audited h' t'

-- Where no check of a posting applies, this holds of the motion that it is.
abbrev pub Passing : Posting → Head → (Motion → Type 0) → Type 0
Passing v h P = first ((terms v).checks (of_head h)) ≡ 0 → P (motion (terms v) (of_head h))
