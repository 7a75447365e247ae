-- Calls carried out in turn: the loop by what is left, a book of which every call is refused, and that what is left is
-- the journal of the calls, so that demand 3 holds of it.
-- Assumes nothing.
use Rattle.std.proofs.Common.{◌≡◌, refl, sym, ap, ◌∙◌, List, [], ◌∷◌, ◌++◌, append_assoc, append-nil, map, ℕ, ◌+◌, min, ◌≤◌, ◌<◌, add-one, arith, length, get_or, set, take, drop, replicate, length-set, length-take-le, take-append-drop, drop-drop, drop-cons, drop_of_length-le, take-suc-set, drop-set-lt, Result}
use Rattle.refusal.specs.declared.Refusal.{Refusal}
use Rattle.refusal.specs.Numbers.{first}
use Rattle.refusal.specs.Refusals.{number_of, outcome_number}
use Rattle.refusal.proofs.Refusals.{some_number}
use Rattle.book.specs.declared.Head.{Head}
use Rattle.book.specs.declared.Reply.{Reply}
use Rattle.book.specs.Head.{most_vessels, empty_head, not_opened, open_checks, opening}
use Rattle.book.specs.Calls as Calls
use Rattle.book.specs.Memory.{book_checks, call_on, Audited}
use Rattle.book.specs.Lists.{calls_on}
use Rattle.book.proofs.HeadLaws.{openable, open_accepted}
use Rattle.conservation.proofs.Lists.{demand_3}
use Rattle.book.proofs.Memory.{refused_on, off_number}
use Rattle.journal.specs.declared.Call.{Call}
use Rattle.journal.specs.declared.Call.TheVariants.{Transfer, Lift, Tip, Setting, Report}
use Rattle.journal.specs.Carried.{called, room_left, Makes, Carried, carried, lent, MakesAll, made, CarriesOut}

-- what is left of a list, behind the numbers of the calls before
abbrev behind : List ℕ → Carried → Carried
behind ns k = record { numbers = ns ++ k.numbers; head = k.head; table = k.table; room = k.room }

-- Where carrying out stands before call i: the book adds up, and the numbers so far and the calls that are left make
-- the whole.
pub record Going (l : List Call) (h₀ : Head) (t₀ a₀ r₀ : List ℕ) (h : Head) (t a r : List ℕ) (i : ℕ) : Type 0 where
  pub audited : Audited h t
  pub left : behind (take i a) (carried (drop i l) h t r) ≡ carried l h₀ t₀ r₀
  pub unwritten : drop i a ≡ drop i a₀
  pub answers_length : length a ≡ length a₀

module _ {l : List Call} {h₀ : Head} {t₀ a₀ r₀ : List ℕ} {h : Head} {t a r : List ℕ} {i : ℕ}
    (g : Going l h₀ t₀ a₀ r₀ h t a r i) where
  pub going_next : (d : Call) {h' : Head} {t' r' : List ℕ} {z : Result (Unit {0}) Refusal} → i < length l
      → length l ≤ length a₀
      → Makes (called (get_or l i d) r) h h' t t' r r' z → (n : ℕ) → n ≡ outcome_number z
      → Going l h₀ t₀ a₀ r₀ h' t' (set a i n) r' (i + 1)
  unfolding carried
  going_next d {z = z} q m p n en =
      let long : i < length a = rw g.answers_length (omega arith) in
      record {
        audited = p.audited;
        left =
            rw (add-one, take-suc-set a i n long, append_assoc, en, p.number, p.head, p.table, p.room) (rw (drop-cons l i d q) at g.left);
        unwritten =
            drop-set-lt (i + 1) a i n (omega arith) ∙ sym (drop-drop 1 i a) ∙ ap (drop 1) g.unwritten ∙ drop-drop 1 i a₀;
        answers_length = length-set a i n ∙ g.answers_length;
      }

  pub going_end : i ≡ length l → MakesAll l h₀ t₀ a₀ r₀ t a r h
  unfolding carried
  going_end e =
      let all : behind (take i a) (record { numbers = []; head = h; table = t; room = r }) ≡ carried l h₀ t₀ r₀ =
      rw (drop_of_length-le l {i = i} (omega (arith, e))) at g.left in
      record {
        head = ap (λ (k : Carried). k.head) all;
        table = ap (λ (k : Carried). k.table) all;
        answers = rw (← all, ← e, append-nil, ← g.unwritten) (sym (take-append-drop i a));
        room = ap (λ (k : Carried). k.room) all;
      }

-- On a book that is off every call is refused with the same number, and all is left as it was.
module _ (h : Head) (t : List ℕ) (why : Refusal) (e : number_of why ≡ first (book_checks h t)) where
  room_kept : (x : Call) (room : List ℕ) → room_left (called x room) (call_on h t (called x room)) room ≡ room
  room_kept (Transfer x) room = refl
  room_kept (Lift x) room = refl
  room_kept (Tip y) room = refl
  room_kept (Setting s) room = refl
  room_kept (Report q) room =
      let c = Calls.ask q room in
      rw (refused_on h t c _ (off_number h t c _ e (some_number why)) (some_number why)) refl

  off_all : (l : List Call) (room : List ℕ)
      → carried l h t room ≡ record { numbers = replicate (length l) (number_of why); head = h; table = t; room = room }
  unfolding carried
  off_all [] room = refl
  off_all (x ∷ xs) room =
      let c = called x room in
      rw (room_kept x room, refused_on h t c _ (off_number h t c _ e (some_number why)) (some_number why), off_all xs room) refl

  pub all_off : (l : List Call) (a room a' : List ℕ) → a' ≡ replicate (length l) (number_of why) ++ drop (length l) a
      → MakesAll l h t a room t a' room h
  all_off l a room a' ea =
      let o = off_all l room in
      record {
        head = ap (λ (k : Carried). k.head) (sym o);
        table = ap (λ (k : Carried). k.table) (sym o);
        answers = rw o ea;
        room = ap (λ (k : Carried). k.room) (sym o);
      }

-- what is left is the journal of the calls
pub record Journaled (l : List Call) (h : Head) (t r : List ℕ) : Type 0 where
  pub numbers : (carried l h t r).numbers ≡ map (λ e. e.number) (calls_on h t (lent l h t r)).log
  pub head : (carried l h t r).head ≡ (calls_on h t (lent l h t r)).head
  pub table : (carried l h t r).table ≡ (calls_on h t (lent l h t r)).table

journaled : (l : List Call) (h : Head) (t r : List ℕ) → Journaled l h t r
unfolding carried lent calls_on
journaled [] h t r = record { numbers = refl; head = refl; table = refl }
journaled (x ∷ xs) h t r =
    let c = called x r in
    let o = call_on h t c in
    let j = journaled xs o.head o.table (room_left c o r) in
    record { numbers = ap (λ (k : List ℕ). o.number ∷ k) j.numbers; head = j.head; table = j.table }

-- `carry_out`, at its returns
module _ (rule size : ℕ) where
  pub carry_refused : (l : List Call) (t a r : List ℕ) (z : Reply) (m : ℕ) (why : Refusal) → z ≡ not_opened m
      → m ≡ number_of why → number_of why ≡ first (open_checks rule size)
      → CarriesOut rule size l t a r z t a r
  carry_refused l t a r z m why ez em e =
      record {
        refused = λ u. (ez ∙ rw (em, e) refl, refl, refl, refl);
        done = λ u. absurd (some_number why (e ∙ u));
        demand = λ u. absurd (some_number why (e ∙ u));
      }

  module _ (e : 0 ≡ first (open_checks rule size)) where
    pub carry_few : size ≤ most_vessels
    carry_few = (openable rule size (sym e)).few_vessels

    pub carry_done : (l : List Call) (t a r t' a' r' : List ℕ) (h h' : Head) (n : ℕ) → n ≡ min (length l) (length a)
        → h ≡ empty_head rule size → MakesAll (take n l) h t a r t' a' r' h'
        → CarriesOut rule size l t a r (record { number = 0; head = h' }) t' a' r'
    carry_done l t a r t' a' r' h h' n en eh p =
        let o : record { number = 0; head = h } ≡ opening rule size =
        open_accepted rule size 0 (record { number = 0; head = h }) e refl h eh in
        let f : h ≡ (opening rule size).head = ap (λ (x : Reply). x.head) o in
        let q : MakesAll (made l a) (opening rule size).head t a r t' a' r' h' = rw (en, f) at p in
        let j = journaled (made l a) (opening rule size).head t r in
        let few : length (made l a) ≡ min (length l) (length a) =
        length-take-le (min (length l) (length a)) l (omega arith) in
        let answers = rw few at q.answers in
        record {
          refused = λ u. absurd (u (sym e));
          done = λ u. (ap (λ (x : Head). record { number = 0; head = x }) q.head, q.table, answers, q.room);
          demand = λ u. (
            ap (λ (x : Head). record { number = 0; head = x }) (q.head ∙ j.head),
            q.table ∙ j.table,
            answers ∙ rw j.numbers refl,
            demand_3 rule size (sym (ap (λ (x : Reply). x.number) o)) t _,
          );
        }
