-- A TRANSFER IS A LIFT AND A TIP IN SUCCESSION. Where nothing is on the scale, an accepted transfer leaves what its
-- lift and then its tip leave: the table, the head and the answer (`same_outcome`). It is refused where one of the two
-- would be, and with the number of its own list: where the lift is accepted, with that of the tip, or with 6 where it
-- goes back to its source (`tip_decides`, `same_vessel`); where the lift is refused, with that of the lift, if nothing
-- is amiss with the destination (`lift_decides`). SecondScale.antt shows it of a book and any scale; here that scale is
-- the book's own, so that lift and tip are calls on a head and a table. And `beside_the_load`: of an accepted transfer
-- on any head and table, whatever is on the scale, with a second scale.
-- Assumes nothing.
use Rattle.std.proofs.Common.{◌≡◌, refl, sym, ap, subst, ◌≢◌, List, [], ℕ, zero, suc, ◌+◌, ◌≤◌, ◌<◌, arith, length, ◌∙◌}
use Rattle.table.specs.Pieces.{held}
use Rattle.table.specs.Table.{places_in}
use Rattle.refusal.specs.Numbers.{TOP, first}
use Rattle.book.specs.declared.Head.{Head}
use Rattle.book.specs.declared.Transfer.{Transfer}
use Rattle.book.specs.Head.{Book, the_scale, balance_at, head_of, book_of}
use Rattle.book.specs.Scale.{lift_terms, tip_terms, lift_part, tip_part}
use Rattle.book.specs.Calls.{Call, post, lift, tip, posting_meaning, meaning}
use Rattle.book.specs.Memory.{Outcome, outcome, book_checks, call_on}
use Rattle.book.proofs.Sound.{own, number, SoundBook}
use Rattle.book.proofs.Memory.{On, InStep, call_number, accepted_on, off_number, passed_book, book_passed, number_same, back, in_step}
use Rattle.book.proofs.Known.{AddsUp, adds_up_told, adds_balance, adds_sound, adds_on}
use Rattle.wording.proofs.SecondScale.{Divides, lifted, second_scale}

-- What a transfer and its lift and tip in succession have in common, on the head h and the table t.
pub record Succession (h : Head) (t : List ℕ) (x : Transfer) (whole up down : Outcome) : Type 0 where
  -- an accepted transfer leaves what they leave, and says what the lift says
  pub same_outcome : whole.number ≡ 0
      → (up.number ≡ 0) × (down.number ≡ 0) × (down.head ≡ whole.head) × (down.table ≡ whole.table) × (up.answer ≡ whole.answer) × (up.even ≡ whole.even)
  -- where the lift is accepted, the transfer has the tip's number, or 6 where it goes back to its source
  pub tip_decides : up.number ≡ 0 → x.source ≢ x.destination → whole.number ≡ down.number
  pub same_vessel : up.number ≡ 0 → x.source ≡ x.destination → whole.number ≡ 6
  -- where the lift is refused, so is the transfer; and with the same number, if nothing is amiss with the destination
  pub lift_decides : (up.number ≡ 0 → ⊥) → whole.number ≡ 0 → ⊥
  pub lift_number : x.destination < h.vessels → x.source ≢ x.destination → balance_at h x.destination + x.weight ≤ TOP
      → whole.number ≡ up.number

module _ (h : Head) (t : List ℕ) (x : Transfer) where
  abbrev whole : Outcome
  whole = call_on h t (post x)

  abbrev up : Outcome
  up = call_on h t (lift (lift_part x))

  abbrev down : Outcome
  down = call_on up.head up.table (tip (tip_part x))

  -- On a book that is off, or a table that is too short, each is refused by that.
  off : (n : ℕ) → first (book_checks h t) ≡ suc n → Succession h t x whole up down
  off n e =
      let a : whole.number ≡ suc n =
      call_number h t (post x) ∙ off_number h t (post x) (suc n) (sym e) (λ z. omega arith) in
      let b : up.number ≡ suc n =
      call_number h t (lift (lift_part x)) ∙ off_number h t (lift (lift_part x)) (suc n) (sym e) (λ z. omega arith) in
      grind arith

  -- On a book that adds up.
  module _ (e : first (book_checks h t) ≡ 0) where
    abbrev len : ℕ
    len = length t

    abbrev b : Book
    b = book_of h t

    a : AddsUp h t
    a = adds_up_told h t (book_passed h t e).1

    sound : SoundBook len b
    sound = adds_sound h t a

    held_on : On len h t b
    held_on = adds_on h t a

    some : places_in len ≢ 0
    unfolding places_in
    some z = let k = (book_passed h t e).0 in omega arith

    -- a number is that of its own checks
    own_number : (h' : Head) (t' : List ℕ) (b' : Book) → On len h' t' b' → SoundBook len b' → (c : Call)
        → (call_on h' t' c).number ≡ own len b' (meaning c)
    unfolding number
    own_number h' t' b' on o c = call_number h' t' c ∙ number_same len h' t' b' on o c ∙ grind (arith, some)

    number_is : (c : Call) → (call_on h t c).number ≡ own len b (meaning c)
    number_is = own_number h t b held_on sound

    -- With nothing on the scale.
    module _ (bare : h.scale ≡ 0) where
      common : Divides the_scale len b x
      common = second_scale the_scale len b sound a.vessels_fit (sym a.scale_is ∙ bare) x

      -- the lift is accepted
      module _ (z : up.number ≡ 0) where
        step : InStep len h t b held_on sound (lift (lift_part x)) 0
        step =
            let n =
            sym (number_same len h t b held_on sound (lift (lift_part x))) ∙ sym (call_number h t (lift (lift_part x))) ∙ z in
            subst (λ (n : ℕ). InStep len h t b held_on sound (lift (lift_part x)) n) n (in_step len h t b held_on sound (lift (lift_part x)))

        down_number : down.number ≡ own len (lifted the_scale len b x) (posting_meaning (tip_terms the_scale (tip_part x)))
        down_number = own_number up.head up.table _ step.holds step.sound (tip (tip_part x))

        -- and the transfer too
        module _ (w : whole.number ≡ 0) where
          passed : own len b (meaning (post x)) ≡ 0
          passed = sym (number_is (post x)) ∙ w

          whole_is : whole ≡ outcome h t (meaning (post x)) 0
          whole_is = accepted_on h t (post x) (sym (call_number h t (post x)) ∙ w)

          up_is : up ≡ outcome h t (meaning (lift (lift_part x))) 0
          up_is = accepted_on h t (lift (lift_part x)) (sym (call_number h t (lift (lift_part x))) ∙ z)

          down_zero : down.number ≡ 0
          down_zero = down_number ∙ (common.both_pass passed).1

          down_is : down ≡ outcome up.head up.table (meaning (tip (tip_part x))) 0
          down_is =
              accepted_on up.head up.table (tip (tip_part x)) (sym (call_number up.head up.table (tip (tip_part x))) ∙ down_zero)

          book_is : book_of up.head up.table ≡ lifted the_scale len b x
          book_is = back len up.head up.table _ step.holds step.sound

          same_head : down.head ≡ whole.head
          same_head =
              ap (λ (o : Outcome). o.head) down_is
              ∙ ap (λ (k : Book). head_of ((meaning (tip (tip_part x))).next k)) book_is
              ∙ ap head_of (common.same_book passed)
              ∙ sym (ap (λ (o : Outcome). o.head) whole_is)

          same_table : down.table ≡ whole.table
          same_table =
              ap (λ (o : Outcome). o.table) down_is
              ∙ ap (λ (k : Book). (meaning (tip (tip_part x))).table k up.table) book_is
              ∙ ap (λ (o : Outcome). (meaning (tip (tip_part x))).table (lifted the_scale len b x) o.table) up_is
              ∙ common.same_table passed t
              ∙ sym (ap (λ (o : Outcome). o.table) whole_is)

          same_answer : (up.answer ≡ whole.answer) × (up.even ≡ whole.even)
          same_answer = rw (up_is, whole_is) common.same_answer

      lift_first : whole.number ≡ 0 → up.number ≡ 0
      lift_first w = number_is (lift (lift_part x)) ∙ (common.both_pass (sym (number_is (post x)) ∙ w)).0

      accepted : up.number ≡ 0 → own len b (posting_meaning (lift_terms the_scale (lift_part x))) ≡ 0
      accepted z = sym (number_is (lift (lift_part x))) ∙ z

      on : Succession h t x whole up down
      on = record {
        same_outcome =
            λ w.
            let z = lift_first w in
            let s = same_answer z w in (z, down_zero z w, same_head z w, same_table z w, s.0, s.1);
        tip_decides = λ z apart. number_is (post x) ∙ common.tip_decides (accepted z) apart ∙ sym (down_number z);
        same_vessel = λ z same. number_is (post x) ∙ common.same_vessel (accepted z) same;
        lift_decides = λ u w. u (lift_first w);
        lift_number = λ inside apart room.
            number_is (post x) ∙ common.lift_number inside apart (rw (adds_balance h t a x.destination) at room) ∙ sym (number_is (lift (lift_part x)));
      }

-- THE THEOREM, on every head with nothing on the scale and every table.
pub succession : (h : Head) (t : List ℕ) (x : Transfer) → h.scale ≡ 0
    → let up = call_on h t (lift (lift_part x)) in Succession h t x (call_on h t (post x)) up (call_on up.head up.table (tip (tip_part x)))
succession h t x bare = go (first (book_checks h t)) refl
  where
    go : (n : ℕ) → first (book_checks h t) ≡ n → Succession h t x (whole h t x) (up h t x) (down h t x)
    go zero e = on h t x e bare
    go (suc n) e = off h t x n e

-- BESIDE THE LOAD: "a transfer leaves what a lift onto a second, empty scale and its tip would leave", whatever lies on
-- the book's own. The second scale has any number that is no vessel's and holds nothing.
pub beside_the_load : (h : Head) (t : List ℕ) (x : Transfer) (scale : ℕ) → h.vessels ≤ scale
    → held scale (book_of h t).pieces ≡ 0 → (call_on h t (post x)).number ≡ 0
    → let now = book_of h t in
    let up = posting_meaning (lift_terms scale (lift_part x)) in
    let down = posting_meaning (tip_terms scale (tip_part x)) in
    call_on h t (post x)
    ≡ record { number = 0; answer = (up.told now).answer; head = head_of (down.next (up.next now)); table = down.table (up.next now) (up.table now t); room = []; even = up.even now; stirred = up.stirs now 0 }
beside_the_load h t x scale beyond empty w =
    let z = sym (call_number h t (post x)) ∙ w in
    let e = passed_book h t (post x) z in
    let c = second_scale scale (length t) (book_of h t) (sound h t x e) beyond empty x in
    let p = sym (number_is h t x e (post x)) ∙ w in
    accepted_on h t (post x) z
    ∙ sym (λ i. record { number = 0; answer = c.same_answer.0 i; head = head_of (c.same_book p i); table = c.same_table p t i; room = []; even = c.same_answer.1 i; stirred = (posting_meaning (lift_terms scale (lift_part x))).stirs (book_of h t) 0 })
