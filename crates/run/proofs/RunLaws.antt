-- The run, by what is left: going on from here ends as going on from the start does.
-- Assumes nothing.
use Rattle.std.proofs.Common.{◌≡◌, refl, sym, ap, ◌∙◌, Bool, true, false, ltb, ltb-false, List, [], ◌∷◌, ℕ, zero, suc, ◌+◌, ◌*◌, ◌≤◌, ◌<◌, add-one, arith, length, drop, drop_of_length-le, drop-drop, lt-ltb, le-ltb}
use Rattle.refusal.specs.Numbers.{◌if◌, first, if_zero}
use Rattle.refusal.proofs.Numbers.{not_zero, first_zero}
use Rattle.book.specs.declared.Head.{Head}
use Rattle.book.specs.declared.Transfer.{Transfer}
use Rattle.book.specs.declared.Transferred.{Transferred}
use Rattle.book.specs.Head.{empty_head, open_checks, opening}
use Rattle.book.specs.Transfer.{transfer_of}
use Rattle.book.specs.Calls.{post, even_of, meaning}
use Rattle.book.specs.Memory.{Outcome, outcome, call_on}
use Rattle.book.specs.Memory as Memory
use Rattle.book.proofs.Memory.{refused_memory}
use Rattle.motions.specs.Posting.{Posts}
use Rattle.run.specs.declared.Ran.{Ran}
use Rattle.sheet.specs.Answers.{header_numbers}
use Rattle.fields.specs.Movements.{entry_size}
use Rattle.fields.specs.Layout.{entries_start}
use Rattle.sheet.specs.Sheet.{rule_of, vessels_of, movements_of, read_number}
use Rattle.refusal.specs.declared.Refusal.{Refusal}
use Rattle.refusal.specs.Refusals.{number_of}
use Rattle.refusal.proofs.Refusals.{some_number}
use Rattle.sheet.specs.declared.answer.Header.{Header}
use Rattle.run.specs.Run.{not_run, transfer_in, transfer_at, transfers_of, Running, Gives, ended, go_on, run_from, run_number, running, CanRun}
use Rattle.sheet.proofs.ReadLaws.{good}
use Rattle.fields.proofs.GroupLaws.{length_groups, group_at, next_group}

-- the transfer at index i, and those behind it
abbrev no_transfer : Transfer
no_transfer = transfer_of 0 0 0 0 0

pub next_transfer : (s : List ℕ) (i : ℕ) → i < movements_of s → drop i (transfers_of s) ≡ transfer_at s i ∷ drop (i + 1) (transfers_of s)
next_transfer s i h =
    let l : List ℕ = drop (entries_start (vessels_of s)) s in
    next_group entry_size transfer_in (movements_of s) l i no_transfer h
    ∙ ap (λ (x : Transfer). x ∷ drop (i + 1) (transfers_of s)) (group_at entry_size transfer_in (movements_of s) l i no_transfer h ∙ ap transfer_in (drop-drop (entry_size * i) (entries_start (vessels_of s)) s))

-- an accepted transfer is even as its answer says
even_said : (h : Head) (t : List ℕ) (x : Transfer) → (call_on h t (post x)).number ≡ 0 → (call_on h t (post x)).even ≡ even_of (call_on h t (post x)).answer
unfolding call_on
even_said h t x e = go (Memory.number_of h t (post x)) e
  where
    go : (n : ℕ) → (outcome h t (meaning (post x)) n).number ≡ 0 → (outcome h t (meaning (post x)) n).even ≡ even_of (outcome h t (meaning (post x)) n).answer
    go zero e = refl
    go (suc n) e = absurd (omega arith)

-- Where a run stands before movement i, with this table: so many were even, and going on ends as it should.
pub record Going (s : List ℕ) (h₀ : Head) (t₀ : List ℕ) (h : Head) (t : List ℕ) (even i : ℕ) : Type 0 where
  pub some_even : even ≤ i
  pub left : run_from i even h t (drop i (transfers_of s)) ≡ run_from 0 0 h₀ t₀ (transfers_of s)

module _ (s : List ℕ) (h₀ : Head) (t₀ : List ℕ) (h : Head) (t : List ℕ) (even i : ℕ) (g : Going s h₀ t₀ h t even i)
    (header : Header) (told : header ≡ header_numbers s) where
  abbrev all : Running
  all = run_from 0 0 h₀ t₀ (transfers_of s)

  abbrev o : Outcome
  o = call_on h t (post (transfer_at s i))

  here : i < header.movements → go_on (λ even' h' t'. run_from (suc i) even' h' t' (drop (i + 1) (transfers_of s))) i even h t (transfer_at s i) o o.number ≡ run_from 0 0 h₀ t₀ (transfers_of s)
  unfolding run_from
  here q = rw (next_transfer s i (rw told at q)) at g.left

  module _ (made : Transferred) (t' : List ℕ) (q : i < header.movements) (posts : Posts h (post (transfer_at s i)) t t' made) where
    same_number : made.number ≡ o.number
    same_number = ap (λ (z : Transferred). z.number) posts.answer

    -- a movement is refused, and ends the run
    pub going_stop : (made.number ≡ 0 → ⊥) → Gives all t' (record { number = made.number; index = i; even = even; head = made.head })
    going_stop nz = rw (← (here q)) (go o.number same_number (λ u. nz (same_number ∙ u)))
      where
        kept : (o.head ≡ h) × (o.table ≡ t)
        kept = refused_memory h t (post (transfer_at s i)) (λ v. nz (same_number ∙ v))

        same_head : made.head ≡ h
        same_head = ap (λ (z : Transferred). z.head) posts.answer ∙ kept.0

        go : (n : ℕ) → made.number ≡ n → (n ≡ 0 → ⊥)
            → Gives (go_on (λ even' h' t'. run_from (suc i) even' h' t' (drop (i + 1) (transfers_of s))) i even h t (transfer_at s i) o n) t' (record { number = made.number; index = i; even = even; head = made.head })
        go zero u nn = absurd (nn refl)
        go (suc n) u nn = record { answer_is = rw (u, same_head) refl; table_is = posts.table ∙ kept.1 }

    -- it is accepted, and the run goes on
    module _ (z : made.number ≡ 0) (one : ℕ) (eo : (one ≡ if_zero (made.split + made.born) 1 0) × (one ≤ 1)) where
      pub going_next : Going s h₀ t₀ made.head t' (even + one) (i + 1)
      going_next =
          let n : o.number ≡ 0 = sym same_number ∙ z in
          let es : one ≡ o.even = eo.0 ∙ ap (λ (z : Transferred). if_zero (z.split + z.born) 1 0) posts.answer ∙ sym (even_said h t (transfer_at s i) n) in
          record {
            some_even = omega (arith, g.some_even, eo.1);
            left = rw (add-one, es, posts.answer, posts.table) (rw (n, add-one) at (here q));
          }

  -- all are made
  pub going_end : i ≡ header.movements → Gives all t (record { number = 0; index = header.movements; even = even; head = h })
  unfolding run_from
  going_end q =
      let e : i ≡ movements_of s = q ∙ rw told in
      let f : ended 0 i even h t ≡ all = rw (drop_of_length-le (transfers_of s) {i = i} (rw length_groups (omega (arith, e)))) at g.left in
      rw (← q) (record { answer_is = ap (λ (r : Running). r.answer) f; table_is = ap (λ (r : Running). r.table) f })

-- an opening that is not refused gives the fresh head
pub fresh_opened : (rule size : ℕ) → first (open_checks rule size) ≡ 0 → (opening rule size).head ≡ empty_head rule size
unfolding opening
fresh_opened rule size e = rw e

-- a sheet that reads well opens a book
pub opens_well : (s : List ℕ) → read_number s ≡ 0 → first (open_checks (rule_of s) (vessels_of s)) ≡ 0
opens_well s e = (good s 0 (sym e) refl).opens

pub opened_well : (s : List ℕ) → read_number s ≡ 0 → (opening (rule_of s) (vessels_of s)).number ≡ 0
unfolding opening
opened_well s e = rw (opens_well s e)

-- the ways out of `check`
module _ (s t : List ℕ) where
  pub unread : (why : Refusal) → number_of why ≡ read_number s → number_of why ≡ run_number s t
  unfolding run_number
  unread why e = rw (← e) (not_zero (number_of why) (first (1 if ltb (length t) 4 ∷ [])) (number_of why) (some_number why))

  pub no_place : read_number s ≡ 0 → length t < 4 → 1 ≡ run_number s t
  unfolding run_number
  no_place z short = rw (z, lt-ltb (length t) 4 short)

  pub can_begin : read_number s ≡ 0 → 4 ≤ length t → run_number s t ≡ 0
  unfolding run_number
  can_begin z long = rw (z, le-ltb (length t) 4 long)

-- the ways out of `run`
module _ (s t : List ℕ) where
  pub run_refused : (why : Refusal) → number_of why ≡ run_number s t → Gives (running s t) t (not_run (number_of why))
  unfolding running
  run_refused why e = rw (← e) (go (number_of why) (some_number why))
    where
      go : (n : ℕ) → (n ≡ 0 → ⊥) → Gives (if_zero n (run_from 0 0 (opening (rule_of s) (vessels_of s)).head t (transfers_of s)) (ended n 0 0 (empty_head 0 0) t)) t (not_run n)
      go zero nz = absurd (nz refl)
      go (suc n) nz = record { answer_is = refl; table_is = refl }

  module _ (known : List ℕ) (e : (known ≡ s) × (run_number s t ≡ 0)) where
    reads : read_number s ≡ 0
    unfolding run_number
    reads = first_zero (read_number s) _ e.1

    long : 4 ≤ length t
    unfolding run_number
    long = go (ltb (length t) 4) refl (rw reads at e.1)
      where
        go : (b : Bool) → ltb (length t) 4 ≡ b → first (1 if b ∷ []) ≡ 0 → 4 ≤ length t
        go true q z = absurd (omega (arith, z))
        go false q z = ltb-false (length t) 4 q

    pub run_ready : CanRun known t
    run_ready = rw e.0 (record { opens = opens_well s reads; long = long })

    pub run_whole : (z : Ran) (t' : List ℕ) → Gives (run_from 0 0 (empty_head (rule_of known) (vessels_of known)) t (transfers_of known)) t' z → Gives (running s t) t' z
    unfolding running
    run_whole z t' p = rw (e.1, fresh_opened (rule_of s) (vessels_of s) (opens_well s reads)) (rw e.0 at p)
