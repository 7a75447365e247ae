-- A TRANSFER DIVIDED. "A transfer leaves what a lift onto a second, empty scale and its tip would leave": on every
-- sound book, whatever lies on its own scale, and under any number for the second one that is no vessel's and holds
-- nothing. It is refused where one of the two would be, and with the number of its own list: where the lift is
-- accepted, with that of the tip, or with 6 where it goes back to its source; where the lift is refused, with that of
-- the lift, if nothing is amiss with the destination. The idea: the same pieces are picked, by the source's rule,
-- whoever they are handed to. What was lifted lies last, in picked order, and nothing else is on that scale, which has
-- no rule. So the tip sweeps just that, and hands it on as if it had been handed there at once.
-- Assumes nothing.
use Rattle.std.proofs.Common.{◌≡◌, refl, sym, ap, ◌≢◌, List, [], ◌∷◌, ◌++◌, ℕ, ◌+◌, ◌*◌, ◌≤◌, ◌<◌, add-zero, arith, T, leb, ltb, length, drop, drop_at, ◌∙◌}
use Rattle.std.proofs.lemmas.Bool.Decides.{nat_tests}
use Rattle.table.specs.declared.Piece.{Piece}
use Rattle.table.specs.Pieces.{held, All}
use Rattle.table.specs.Table.{flat, lay, places_in}
use Rattle.table.proofs.Pieces.{all_map}
use Rattle.table.proofs.Table.{length_flat, quad_is}
use Rattle.taking.specs.Taking.{taken, handed}
use Rattle.taking.proofs.Handed.{handed_all}
use Rattle.taking.proofs.Sweeping.{none_held, swept_whole, passed_on}
use Rattle.refusal.specs.Numbers.{TOP, Check, ◌if◌, first}
use Rattle.refusal.proofs.Numbers.{named, first_append}
use Rattle.book.specs.declared.Transfer.{Transfer}
use Rattle.book.specs.Head.{Book, as_they_lie, rule_at}
use Rattle.book.specs.Motion.{of_book, takes, pieces_after}
use Rattle.book.specs.Transfer.{transfer_checks, motion_of}
use Rattle.book.specs.Scale.{lift_terms, tip_terms, lift_part, tip_part, lift_checks, tip_checks, lift_motion}
use Rattle.book.specs.Calls.{post, motion_on, posting_meaning, Meaning, meaning}
use Rattle.book.proofs.RuleLaws.{rule_beyond}
use Rattle.book.proofs.Checks.{fit, LiftFit, lift_fit}
use Rattle.book.proofs.Sound.{own, SoundBook, takes_fair, after_length, held_after, all_taken}

-- pieces laid on a table where as many lay
lay_again : (ps qs : List Piece) (t : List ℕ) → length qs ≡ length ps → lay qs (lay ps t) ≡ lay qs t
lay_again ps qs t e =
    let k : length (flat ps) ≡ 4 * length qs = length_flat ps ∙ rw e (sym (quad_is (length ps))) in
    ap (λ (l : List ℕ). flat qs ++ l) (drop_at (flat ps) (drop (4 * length ps) t) (4 * length qs) k ∙ rw e)

accepted_own : (len n : ℕ) (cs : List Check) → T (named cs) → first (cs ++ (11 if ltb (places_in len) n ∷ [])) ≡ 0
    → (first cs ≡ 0) × (n ≤ places_in len)
accepted_own len n cs ok e = let a = first_append cs (11 if ltb (places_in len) n ∷ []) ok in grind (arith, nat_tests)

module _ (scale len : ℕ) (b : Book) (x : Transfer) where
  -- the transfer, its lift onto that scale, and its tip; and the book between these two
  abbrev pub whole : Meaning
  whole = meaning (post x)

  abbrev pub up : Meaning
  up = posting_meaning (lift_terms scale (lift_part x))

  abbrev pub down : Meaning
  down = posting_meaning (tip_terms scale (tip_part x))

  abbrev pub lifted : Book
  lifted = up.next b

  -- What they have in common.
  pub record Divides : Type 0 where
    -- an accepted transfer leaves what they leave, and says what the lift says
    pub both_pass : own len b whole ≡ 0 → (own len b up ≡ 0) × (own len lifted down ≡ 0)
    pub same_book : own len b whole ≡ 0 → down.next lifted ≡ whole.next b
    pub same_table : own len b whole ≡ 0 → (t : List ℕ) → down.table lifted (up.table b t) ≡ whole.table b t
    pub same_answer : ((up.told b).answer ≡ (whole.told b).answer) × (up.even b ≡ whole.even b)
    -- where the lift is accepted, the transfer has the tip's number, or 6 where it goes back to its source
    pub tip_decides : own len b up ≡ 0 → x.source ≢ x.destination → own len b whole ≡ own len lifted down
    pub same_vessel : own len b up ≡ 0 → x.source ≡ x.destination → own len b whole ≡ 6
    -- where the lift is refused, so is the transfer; and with the same number, if nothing is amiss with the destination
    pub lift_decides : own len b up ≢ 0 → own len b whole ≢ 0
    pub lift_number : x.destination < b.vessels → x.source ≢ x.destination
        → held x.destination b.pieces + x.weight ≤ TOP → own len b whole ≡ own len b up

  tip_length : (k : Book) → length (pieces_after k (motion_on (tip_terms scale (tip_part x)) k)) ≡ length k.pieces
  tip_length k =
      let m = motion_on (tip_terms scale (tip_part x)) k in omega (arith, after_length k m, all_taken k m refl)

  -- The same pieces are picked, whoever they are handed to.
  same_taken : takes b (lift_motion scale (lift_part x)) ≡ takes b (motion_of x)
  unfolding takes taken
  same_taken = refl

  same_length : length lifted.pieces ≡ length (pieces_after b (motion_of x))
  same_length = after_length b (lift_motion scale (lift_part x)) ∙ rw same_taken (sym (after_length b (motion_of x)))

  same_said : ((up.told b).answer ≡ (whole.told b).answer) × (up.even b ≡ whole.even b)
  same_said = rw same_taken (refl, refl)

  -- what a transfer and a lift pass where they are accepted
  post_passed : own len b whole ≡ 0
      → (first (transfer_checks (of_book b) x) ≡ 0) × (length (pieces_after b (motion_of x)) ≤ places_in len)
  unfolding transfer_checks
  post_passed e = accepted_own len (length (pieces_after b (motion_of x))) (transfer_checks (of_book b) x) tt e

  lift_passed : own len b up ≡ 0
      → (first (lift_checks scale (of_book b) (lift_part x)) ≡ 0) × (length lifted.pieces ≤ places_in len)
  unfolding lift_checks
  lift_passed e = accepted_own len (length lifted.pieces) (lift_checks scale (of_book b) (lift_part x)) tt e

  module _ (weighty : All (λ p. 1 ≤ p.weight) b.pieces) (beyond : b.vessels ≤ scale) (bare : held scale b.pieces ≡ 0) (ruleless : rule_at b.rules scale ≡ as_they_lie) where
    -- where the lift passes its checks
    module _ (clear : first (lift_checks scale (of_book b) (lift_part x)) ≡ 0) where
      fits : LiftFit scale (of_book b) (lift_part x)
      fits = lift_fit scale (of_book b) (lift_part x) clear

      -- all that was lifted is on the scale, and another vessel holds what it held
      on_scale : held scale lifted.pieces ≡ x.weight
      on_scale = grind (arith, nat_tests, held_after b (lift_motion scale (lift_part x)) scale, fits.source_in)

      in_others : x.source ≢ x.destination → x.destination < b.vessels
          → held x.destination lifted.pieces ≡ held x.destination b.pieces
      in_others apart inside = grind (arith, nat_tests, held_after b (lift_motion scale (lift_part x)) x.destination)

      same_pieces : pieces_after lifted (motion_on (tip_terms scale (tip_part x)) lifted) ≡ pieces_after b (motion_of x)
      unfolding takes taken
      same_pieces =
          let lift = lift_motion scale (lift_part x) in
          let tip = motion_on (tip_terms scale (tip_part x)) lifted in
          let fair = takes_fair b lift in
          let unmoved =
          handed_all lift.moves b.pieces _ fair (λ p. 1 ≤ p.weight) (λ p. 1 ≤ p.weight) (λ p w u q. u) (λ p q. q) (λ p e q. q) (λ u. u) weighty in
          let rest = (fair.keeps (λ p. p.holder ≢ scale) (λ p w u q. q) (none_held scale b.pieces weighty bare)).0 in
          ap (λ (rule : ℕ). handed tip.moves (taken rule tip.moves lifted.pieces)) ruleless ∙ ap (handed tip.moves) (swept_whole tip.moves lifted.pieces unmoved refl) ∙ passed_on lift.moves tip.moves (motion_of x).moves (takes b lift) rest refl refl refl refl

      next_is : down.next lifted ≡ whole.next b
      next_is =
          λ i. record { rule = b.rule; vessels = b.vessels; last = x.minute; accepted = add-zero (b.accepted + 1) i; rules = b.rules; pieces = same_pieces i }

      table_is : (t : List ℕ) → down.table lifted (up.table b t) ≡ whole.table b t
      table_is t =
          lay_again lifted.pieces (pieces_after lifted (motion_on (tip_terms scale (tip_part x)) lifted)) t (tip_length lifted)
          ∙ ap (λ (ps : List Piece). lay ps t) same_pieces

      -- the tip's number: what was lifted is there and no time has passed, so that the destination alone decides; and
      -- so it is with the transfer's
      tip_is : x.source ≢ x.destination
          → own len lifted down ≡ first (5 if leb b.vessels x.destination ∷ 9 if ltb TOP (held x.destination b.pieces + x.weight) ∷ [])
      unfolding tip_checks
      tip_is apart = grind (arith, nat_tests, on_scale, fits.weighty, in_others apart)

      post_is : length lifted.pieces ≤ places_in len → x.source ≢ x.destination
          → own len b whole ≡ first (5 if leb b.vessels x.destination ∷ 9 if ltb TOP (held x.destination b.pieces + x.weight) ∷ [])
      unfolding transfer_checks
      post_is room apart = grind (arith, nat_tests, fits, same_length)

      post_back : x.source ≡ x.destination → own len b whole ≡ 6
      unfolding transfer_checks
      post_back same = grind (arith, nat_tests, fits.source_in)

    -- where nothing is amiss with the destination, the lift's number is the transfer's
    lift_is : x.destination < b.vessels → x.source ≢ x.destination → held x.destination b.pieces + x.weight ≤ TOP
        → own len b whole ≡ own len b up
    unfolding transfer_checks lift_checks
    lift_is inside apart room = grind (arith, nat_tests, same_length)

    -- a transfer that is accepted has a lift that is
    lift_accepted : own len b whole ≡ 0 → own len b up ≡ 0
    lift_accepted e = grind (arith, fit (of_book b) x (post_passed e).0, lift_is)

    decides : own len b up ≡ 0 → x.source ≢ x.destination → own len b whole ≡ own len lifted down
    decides z apart = let p = lift_passed z in post_is p.0 p.1 apart ∙ sym (tip_is p.0 apart)

    divides : Divides
    divides = record {
      both_pass = λ w. let z = lift_accepted w in (z, sym (decides z (fit (of_book b) x (post_passed w).0).apart) ∙ w);
      same_book = λ w. next_is (lift_passed (lift_accepted w)).0;
      same_table = λ w. table_is (lift_passed (lift_accepted w)).0;
      same_answer = same_said;
      tip_decides = decides;
      same_vessel = λ z. post_back (lift_passed z).0;
      lift_decides = λ u w. u (lift_accepted w);
      lift_number = lift_is;
    }

-- THE THEOREM, on every sound book, loaded or not, and every number for the scale.
pub second_scale : (scale len : ℕ) (b : Book) → SoundBook len b → b.vessels ≤ scale → held scale b.pieces ≡ 0
    → (x : Transfer) → Divides scale len b x
second_scale scale len b o beyond bare x =
    divides scale len b x (all_map (λ p f. f.weighty) o.sound) beyond bare (rule_beyond b.vessels scale b.rules o.rules_known beyond)
