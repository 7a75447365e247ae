-- BESIDE A LOADED SCALE. "Transfers and reports are now allowed with weight on the scale; 22 is left for lift alone":
-- `loaded_refuses`, `lift_alone`. Whatever is called but tips, the load stays on the scale as it is, in its order
-- (`load_waits`): a transfer takes from its source and joins the end, a lift is refused, and a report and the setting
-- of a rule move nothing. "A tip brings them in behind all that d received meanwhile": `tip_comes_last`. "Pieces on it
-- are in no vessel, and no vessel's report includes them": `report_unloaded`. Nor does it play a part in a transfer:
-- `load_apart`.
-- Assumes nothing.
use Rattle.std.proofs.Common.{◌≡◌, refl, sym, ap, ◌≢◌, List, [], ◌∷◌, ◌++◌, map, ℕ, ◌+◌, ne_eqb, zero, suc, ◌<◌, arith, length, ◌∙◌}
use Rattle.std.proofs.lemmas.Bool.Decides.{nat_tests}
use Rattle.table.specs.declared.Piece.{Piece}
use Rattle.table.specs.Pieces.{in_vessel, hand_to}
use Rattle.table.specs.Table.{pieces_of, lay}
use Rattle.taking.specs.Sweeping.{held_by, elsewhere}
use Rattle.taking.proofs.HeldBy.{sum_elsewhere}
use Rattle.taking.proofs.Handed.{handed_others}
use Rattle.taking.proofs.Apart.{apart_taken, apart_handed}
use Rattle.refusal.specs.Numbers.{first}
use Rattle.refusal.proofs.Numbers.{first_zero}
use Rattle.book.specs.declared.Head.{Head}
use Rattle.book.specs.declared.Transfer.{Transfer}
use Rattle.book.specs.declared.Lift.{Lift}
use Rattle.book.specs.declared.Tip.{Tip}
use Rattle.book.specs.declared.Setting.{Setting}
use Rattle.book.specs.declared.Report.{Report}
use Rattle.book.specs.Head.{Book, the_scale, book_of, rule_at}
use Rattle.book.specs.Motion.{of_book, takes}
use Rattle.book.specs.Transfer.{transfer_checks, motion_of}
use Rattle.book.specs.Scale.{lift_checks, tip_checks}
use Rattle.book.specs.Setting.{setting_checks}
use Rattle.book.specs.Reports.{report_row, asked_checks, onto}
use Rattle.book.specs.Calls.{Posting, Call, enter, terms, motion_on, post, lift, tip, set_rule, ask, meaning}
use Rattle.book.specs.Memory.{Outcome, number_of, book_checks, call_on}
use Rattle.book.specs.Lists.{calls_on, tips_in, tips}
use Rattle.book.proofs.Sound.{takes_fair, held_after, proper, posted_own}
use Rattle.book.proofs.Memory.{call_number, accepted_on, refused_memory, on_number, number_split, number_same, book_passed, back, in_step}
use Rattle.book.proofs.Known.{adds_up_told, adds_sound, adds_on}
use Rattle.book.proofs.Accepted.{checks_passed, accepted_book, post_fit}
use Rattle.wording.proofs.InWords.{tip_in_words}
use Rattle.book.proofs.ReportLaws.{row_unloaded, all_pass}

-- what is on the scale, in the order it lies
abbrev pub load : Head → List ℕ → List Piece
load h t = held_by the_scale (book_of h t).pieces

module _ (h : Head) (t : List ℕ) where
  -- an accepted call leaves the book that it means
  left_book : (c : Call) → number_of h t c ≡ 0
      → book_of (call_on h t c).head (call_on h t c).table ≡ (meaning c).next (book_of h t)
  left_book c e =
      let a = accepted_book h t c e in
      let s = in_step (length t) h t (book_of h t) (adds_on h t a) (adds_sound h t a) c in
      let z = sym (number_same (length t) h t (book_of h t) (adds_on h t a) (adds_sound h t a) c) ∙ e in
      rw z at (back (length t) _ _ _ s.holds s.sound)

  -- "22 is left for lift alone"
  pub loaded_refuses : 0 < h.scale → first (book_checks h t) ≡ 0 → (x : Lift) → number_of h t (lift x) ≡ 22
  unfolding lift_checks
  loaded_refuses u e x =
      let a = adds_up_told h t (book_passed h t e).1 in
      grind (arith, nat_tests, a.scale_is, on_number h t (lift x) 0 (sym e) refl)

  pub lift_alone : (x : Transfer) (y : Tip) (s : Setting) (q : Report) (room : List ℕ)
      → (number_of h t (post x) ≢ 22) × (number_of h t (tip y) ≢ 22) × (number_of h t (set_rule s) ≢ 22) × (number_of h t (ask q room) ≢ 22)
  unfolding book_checks transfer_checks tip_checks setting_checks asked_checks
  lift_alone x y s q room =
      grind (arith, number_split h t (post x), number_split h t (tip y), number_split h t (set_rule s), number_split h t (ask q room))

  -- What is on the scale stays there, whatever is called but a tip.
  module _ (loaded : h.scale ≢ 0) where
    -- what counts is not from the scale, and not onto it
    outside : (v : Posting) → tips_in (enter v) ≡ 0 → number_of h t (enter v) ≡ 0
        → ((terms v).source ≢ the_scale) × ((terms v).destination ≢ the_scale)
    outside v u e =
        let p = terms v in
        let a = accepted_book h t (enter v) e in
        let own =
        first_zero _ _ (sym (posted_own p (proper v) (length t) (book_of h t)) ∙ checks_passed h t (enter v) e) in
        let f = (proper v).fits (of_book (book_of h t)) own in
        let i : p.source < h.vessels = f.from_vessel (omega arith) in
        let few = a.vessels_fit in
        let is = a.scale_is in
        (λ s. omega arith, λ s. grind (arith, f.into))

    pub load_stays : (c : Call) → tips_in c ≡ 0 → load (call_on h t c).head (call_on h t c).table ≡ load h t
    load_stays c untipped = go (number_of h t c) refl
      where
        accepted : (c : Call) → tips_in c ≡ 0 → number_of h t c ≡ 0
            → held_by the_scale ((meaning c).next (book_of h t)).pieces ≡ load h t
        accepted (enter v) u e =
            let m = motion_on (terms v) (book_of h t) in
            let o = outside v u e in
            handed_others m.moves _ _ (takes_fair (book_of h t) m) the_scale (λ s. o.0 (sym s)) (λ s. o.1 (sym s))
        accepted c u e = refl

        go : (n : ℕ) → number_of h t c ≡ n → load (call_on h t c).head (call_on h t c).table ≡ load h t
        go zero e = ap (λ (b : Book). held_by the_scale b.pieces) (left_book c e) ∙ accepted c untipped e
        go (suc n) e = let r = refused_memory h t c (λ z. omega (arith, call_number h t c)) in rw (r.0, r.1) refl

    scale_stays : (c : Call) → tips_in c ≡ 0 → (call_on h t c).head.scale ≡ h.scale
    unfolding call_on
    scale_stays (enter v) u =
        let m = motion_on (terms v) (book_of h t) in
        let after = held_after (book_of h t) m the_scale in
        let is = accepted_book h t (enter v) in
        grind (arith, nat_tests, outside v u, after, is)
    scale_stays c u = grind (arith, accepted_book h t c)

-- WAITING: while no tip is made, what is on the scale stays as it is, in its order.
pub load_waits : (cs : List Call) (h : Head) (t : List ℕ) → h.scale ≢ 0 → tips cs ≡ 0
    → load (calls_on h t cs).head (calls_on h t cs).table ≡ load h t
unfolding calls_on
load_waits [] h t loaded u = refl
load_waits (c ∷ cs) h t loaded u =
    let o = call_on h t c in
    let k = scale_stays h t loaded c (omega arith) in
    load_waits cs o.head o.table (λ z. loaded (sym k ∙ z)) (omega arith) ∙ load_stays h t loaded c (omega arith)

-- "A TIP BRINGS THEM IN BEHIND ALL THAT d RECEIVED MEANWHILE": whatever was called but tips since the scale was loaded,
-- what lay there then, in the order it lay, is behind all other pieces.
pub tip_comes_last : (cs : List Call) (h : Head) (t : List ℕ) (y : Tip) → h.scale ≢ 0 → tips cs ≡ 0
    → let r = calls_on h t cs in
    let o = call_on r.head r.table (tip y) in
    o.number ≡ 0
    → o.table ≡ lay (elsewhere the_scale (pieces_of r.head.pieces r.table) ++ map (hand_to y.destination) (load h t)) r.table
tip_comes_last cs h t y loaded u e =
    let r = calls_on h t cs in
    rw (← (load_waits cs h t loaded u)) (tip_in_words r.head r.table y e)

-- the book without the pieces on the scale
abbrev pub unloaded : Book → Book
unloaded b = record b { pieces = elsewhere the_scale b.pieces }

module _ (b : Book) (x : Transfer) (source : the_scale ≢ x.source) (destination : the_scale ≢ x.destination) where
  apart_next : (meaning (post x)).next (unloaded b) ≡ unloaded ((meaning (post x)).next b)
  unfolding takes
  apart_next =
      λ i. record { rule = b.rule; vessels = b.vessels; last = x.minute; accepted = b.accepted + 1; rules = b.rules; pieces = apart_handed the_scale (rule_at b.rules x.source) (motion_of x).moves b.pieces source destination i }

  apart_answer : ((meaning (post x)).told b).answer ≡ ((meaning (post x)).told (unloaded b)).answer
  unfolding takes
  apart_answer = rw (apart_taken the_scale (rule_at b.rules x.source) (motion_of x).moves b.pieces source) refl

  apart_checks : transfer_checks (of_book (unloaded b)) x ≡ transfer_checks (of_book b) x
  unfolding transfer_checks
  apart_checks =
      rw (sum_elsewhere the_scale (in_vessel x.destination) (λ o m. ne_eqb the_scale x.destination destination) b.pieces) refl

-- THE LOAD PLAYS NO PART in a transfer: what it leaves in the vessels is what it leaves on the book without the load,
-- it says the same, and its checks are the same. (But 11: the pieces on the scale take places.)
pub load_apart : (h : Head) (t : List ℕ) (x : Transfer) → (call_on h t (post x)).number ≡ 0
    → let now = book_of h t in
    let o = call_on h t (post x) in
    (unloaded (book_of o.head o.table) ≡ (meaning (post x)).next (unloaded now))
    × (o.answer ≡ ((meaning (post x)).told (unloaded now)).answer)
    × (transfer_checks (of_book now) x ≡ transfer_checks (of_book (unloaded now)) x)
load_apart h t x w =
    let z = sym (call_number h t (post x)) ∙ w in
    let f = post_fit h t x z in
    let few = (accepted_book h t (post x) z).vessels_fit in
    let source : the_scale ≢ x.source = λ e. omega (arith, f.source_in) in
    let destination : the_scale ≢ x.destination = λ e. omega (arith, f.destination_in) in
    let now = book_of h t in (
      ap unloaded (left_book h t (post x) z) ∙ sym (apart_next now x source destination),
      ap (λ (o : Outcome). o.answer) (accepted_on h t (post x) z) ∙ apart_answer now x source destination,
      sym (apart_checks now x source destination),
    )

-- REPORTS LEAVE THE LOAD OUT: a report's numbers are those of the book without the pieces on the scale.
pub report_unloaded : (h : Head) (t : List ℕ) (q : Report) (room : List ℕ) → (call_on h t (ask q room)).number ≡ 0
    → (call_on h t (ask q room)).room ≡ onto (report_row h.vessels (elsewhere the_scale (pieces_of h.pieces t)) q) room
report_unloaded h t q room z =
    let e = sym (call_number h t (ask q room)) ∙ z in
    let few = (accepted_book h t (ask q room) e).vessels_fit in
    let own = checks_passed h t (ask q room) e in
    ap (λ (o : Outcome). o.room) (accepted_on h t (ask q room) e) ∙ ap (λ (w : List ℕ). onto w room) (ap (λ (ps : List Piece). report_row h.vessels ps q) (all_pass (pieces_of h.pieces t)) ∙ sym (row_unloaded h.vessels few (pieces_of h.pieces t) (length room) q own))
