-- What keeps a book sound. A sound book is one that adds up; an accepted call leaves a sound book, the pieces after it
-- lie in the table that it leaves, and the count of accepted transfers goes on as document 01 says. What a motion of
-- pieces leaves is shown once, for transfer, lift and tip, over whatever rule their source has; each kind of call has
-- one clause of `keeps`. The count of pieces goes on as document 01 says where the pick is by one of the four first
-- rules, which give at most one piece more (`count_kept`).
-- Assumes nothing.
use Rattle.std.proofs.Common.{◌≡◌, ◌⊎◌, refl, ◌↔◌, ◌≢◌, true, false, List, ◌++◌, ℕ, zero, suc, ◌+◌, ◌-◌, ◌*◌, ◌≤◌, ◌<◌, min, arith, T, ltb, eqb, length, drop, length-append, length-drop, ◌∙◌}
use Rattle.std.proofs.lemmas.Bool.Decides.{nat_tests}
use borrow.Author.Tests.{eqb-false}
use Rattle.table.specs.declared.Piece.{Piece}
use Rattle.table.specs.Pieces.{only, held, All}
use Rattle.table.specs.Table.{flat, lay, places_in}
use Rattle.table.proofs.Table.{length_flat, quad_is, places_fit}
use Rattle.taking.specs.Stirring.{stirred_rule}
use Rattle.taking.proofs.Taking.{Fair, singly_law}
use Rattle.taking.proofs.Stirring.{taken_fair, taken_singly, none_split}
use Rattle.taking.proofs.Handed.{handed_length, handed_held, handed_all}
use Rattle.refusal.specs.Numbers.{TOP, ◌if◌, or_else, first, if_zero}
use Rattle.refusal.proofs.Numbers.{named, first_append}
use Rattle.book.specs.declared.Motion.{Motion}
use Rattle.book.specs.Head.{Book, the_scale, last_rule, most_vessels, is_holder, rule_at, rules_fit}
use Rattle.book.specs.Motion.{Standing, of_book, Terms, takes, pieces_after, book_after}
use Rattle.book.specs.Transfer.{transfer_checks}
use Rattle.book.specs.Scale.{lift_checks, tip_checks}
use Rattle.book.specs.Calls.{Posting, by_transfer, by_lift, by_tip, terms, Call, enter, set_rule, ask, answer_of, even_of, Meaning, place_checks, motion_on, posting_meaning, meaning}
use Rattle.book.proofs.RuleLaws.{set_fit}
use Rattle.book.proofs.Checks.{fit, lift_fit, tip_fit, setting_fit}

-- the number that a call's own checks give it on a book, and its number on a book that adds up
abbrev pub own : ℕ → Book → Meaning → ℕ
own len b m = first (m.checks len b)

unfoldable pub number : ℕ → Book → Call → ℕ
number len b c = or_else (1 if eqb (places_in len) 0) (own len b (meaning c))

-- A book that adds up; its balances are the sums.
pub record SoundPiece (size last : ℕ) (p : Piece) : Type 0 where
  pub holder_in : is_holder size p.holder ≡ true
  pub origin_in : p.origin < size
  pub past : p.birth ≤ last
  pub weighty : 1 ≤ p.weight

pub record SoundBook (len : ℕ) (b : Book) : Type 0 where
  pub known : b.rule ≤ last_rule
  pub some_vessel : 1 ≤ b.vessels
  pub vessels_fit : b.vessels ≤ most_vessels
  pub fits : length b.pieces ≤ places_in len
  pub rules_known : rules_fit b.vessels b.rules ≡ true
  pub sound : All (SoundPiece b.vessels b.last) b.pieces

-- Its numbers are ones of 32 bits, as those in memory are.
pub record SizedBook (b : Book) : Type 0 where
  pub light : (v : ℕ) → held v b.pieces ≤ TOP
  pub tally : b.accepted ≤ TOP

-- Pieces that lie in a table of so many numbers, and what lies behind them.
pub record Lies (len : ℕ) (ps : List Piece) (t : List ℕ) : Type 0 where
  pub tail : List ℕ
  pub table_is : t ≡ flat ps ++ tail
  pub long : length t ≡ len

-- What an accepted call of this meaning keeps.
pub record Keeps (len : ℕ) (b : Book) (x : Meaning) : Type 0 where
  pub sound : SoundBook len (x.next b)
  pub lies : (t : List ℕ) → Lies len b.pieces t → Lies len (x.next b).pieces (x.table b t)
  pub tally : (x.next b).accepted ≡ x.counts + b.accepted

-- pieces laid on a table that has places for them
laid : (len : ℕ) (ps qs : List Piece) (t : List ℕ) → length qs ≤ places_in len → Lies len ps t → Lies len qs (lay qs t)
laid len ps qs t h l =
    let f = places_fit t (length qs) (places_in len) (rw l.long refl) h in
    let same : length (lay qs t) ≡ length t = simp (length-append, length_flat, ← quad_is, length-drop) (omega arith) in
    record { tail = drop (4 * length qs) t; table_is = refl; long = same ∙ l.long }

-- What a motion takes from a book, whatever the rule of its source.
module _ (b : Book) (m : Motion) where
  pub takes_fair : Fair m.moves.source m.moves.weight b.pieces (takes b m)
  unfolding takes
  takes_fair = taken_fair _ m.moves b.pieces

  pub after_length : length (pieces_after b m) ≡ length b.pieces + ((takes b m).split + min 1 (takes b m).born)
  after_length = handed_length m.moves b.pieces _ takes_fair

  -- K8; and what a tip takes
  pub all_taken : m.moves.weight ≡ held m.moves.source b.pieces → (takes b m).split + (takes b m).born ≡ 0
  unfolding takes
  all_taken e = omega (arith, takes_fair.born_is, none_split (rule_at b.rules m.moves.source) m.moves b.pieces)

  -- Picked by one of the four first rules.
  module _ (first : rule_at b.rules m.moves.source ≢ stirred_rule) where
    one_more : (takes b m).split + min 1 (takes b m).born ≤ 1
    unfolding takes
    one_more = rw (taken_singly _ m.moves b.pieces first) (singly_law _ m.moves b.pieces).one_more

    pub after_count : length (pieces_after b m) + even_of (answer_of (takes b m)) ≡ suc (length b.pieces)
    after_count = grind (arith, after_length, one_more)

    -- row 11 of the table in its own words
    pub table_full : (places : ℕ) → length b.pieces ≤ places
        → (places < length (pieces_after b m)) ↔ ((1 ≤ (takes b m).split + (takes b m).born) × (length b.pieces ≡ places))
    table_full places h = grind (arith, after_length, one_more)

  pub held_after : (v : ℕ) → held v (pieces_after b m)
      ≡ (held v b.pieces - only (eqb m.moves.source v) (m.moves.weight - (m.moves.weight - held m.moves.source b.pieces))) + only (eqb m.moves.destination v) m.moves.weight
  held_after = handed_held m.moves b.pieces _ takes_fair

  -- What a motion asks of a book, so that it leaves a sound one.
  pub record Sane : Type 0 where
    pub destination_in : is_holder b.vessels m.moves.destination ≡ true
    pub origin_in : 1 ≤ (takes b m).born → m.moves.source < b.vessels
    pub forward : b.last ≤ m.minute
    pub past : m.moves.birth ≤ m.minute

  module _ (f : Sane) where
    pub pieces_sound : All (SoundPiece b.vessels b.last) b.pieces → All (SoundPiece b.vessels m.minute) (pieces_after b m)
    pieces_sound s =
        handed_all m.moves b.pieces _ takes_fair (SoundPiece b.vessels b.last) (SoundPiece b.vessels m.minute)
        (λ p w u q. grind arith) (λ p q. grind arith) (λ p u q. grind arith) (λ u. grind (arith, f.origin_in u)) s

    pub motion_sound : (len : ℕ) → SoundBook len b → length (pieces_after b m) ≤ places_in len → SoundBook len (book_after b m)
    motion_sound len o h = grind (arith, after_length, pieces_sound)

  -- its numbers stay of 32 bits where the destination has room
  pub motion_light : ((v : ℕ) → held v b.pieces ≤ TOP) → held m.moves.destination b.pieces + m.moves.weight ≤ TOP → (v : ℕ) → held v (pieces_after b m) ≤ TOP
  motion_light light room v = rw held_after (grind (arith, nat_tests, light v))

-- What a posting's checks tell of it where none applies.
pub record Fits (p : Terms) (g : Standing) : Type 0 where
  pub from_vessel : 1 ≤ p.counts → p.source < g.vessels
  -- into a vessel, or onto the scale while it is bare
  pub into : (p.destination < g.vessels) ⊎ ((p.destination ≡ the_scale) × (g.balance the_scale ≡ 0))
  pub forward : g.last ≤ p.minute
  pub past : p.birth ≤ p.minute

-- The law of each that can be posted.
pub record Proper (p : Terms) : Type 0 where
  -- no check has the number 0
  pub named : (g : Standing) → T (named (p.checks g))
  pub once : p.counts ≤ 1
  -- what does not count moves all that its source holds
  pub sweeps : p.counts ≡ 0 → (g : Standing) → p.weight g ≡ g.balance p.source
  pub fits : (g : Standing) → first (p.checks g) ≡ 0 → Fits p g

pub proper : (p : Posting) → Proper (terms p)
unfolding transfer_checks lift_checks tip_checks
proper (by_transfer x) = record { named = λ g. tt; once = omega arith; sweeps = λ z. absurd (omega arith); fits = λ g e. grind (arith, fit g x) }
proper (by_lift x) = record { named = λ g. tt; once = omega arith; sweeps = λ z. absurd (omega arith); fits = λ g e. grind (arith, lift_fit the_scale g x) }
proper (by_tip y) = record { named = λ g. tt; once = omega arith; sweeps = λ z g. refl; fits = λ g e. grind (arith, tip_fit the_scale g y) }

-- 11 of what counts
place_is : (n places : ℕ) (ps : List Piece) → first (place_checks n places ps) ≡ if_zero n 0 (or_else (11 if ltb places (length ps)) 0)
place_is zero places ps = refl
place_is (suc n) places ps = refl

-- What is posted: its number, and what it leaves.
module _ (p : Terms) (ok : Proper p) (len : ℕ) (b : Book) where
  abbrev m : Motion
  m = motion_on p b

  abbrev pub of_checks : ℕ
  of_checks = first (p.checks (of_book b))

  pub posted_own : own len b (posting_meaning p) ≡ if_zero of_checks (if_zero p.counts 0 (or_else (11 if ltb (places_in len) (length (pieces_after b m))) 0)) of_checks
  posted_own = rw (← (place_is p.counts (places_in len) (pieces_after b m))) (first_append (p.checks (of_book b)) _ (ok.named (of_book b)))

  -- what does not count splits nothing, and nothing is born
  pub whole : p.counts ≡ 0 → (takes b m).split + (takes b m).born ≡ 0
  whole z = all_taken b m (ok.sweeps z (of_book b))

  -- the count of pieces goes on as that of transfers does, but for the even ones, where the pick is by one of the four
  -- first rules
  pub posted_count : rule_at b.rules p.source ≢ stirred_rule
      → length (pieces_after b m) + if_zero p.counts 0 (even_of (answer_of (takes b m))) ≡ length b.pieces + p.counts
  posted_count first = let one = ok.once in grind (arith, after_length b m, one_more b m first, whole)

  pub posted_fits : SoundBook len b → own len b (posting_meaning p) ≡ 0 → (of_checks ≡ 0) × (length (pieces_after b m) ≤ places_in len)
  posted_fits o e = grind (arith, nat_tests, posted_own, after_length b m, whole, o.fits)

  posted_sane : of_checks ≡ 0 → Sane b m
  posted_sane e = let f = ok.fits (of_book b) e in let one = ok.once in grind (arith, nat_tests, whole, f.into)

  pub posted_keeps : SoundBook len b → own len b (posting_meaning p) ≡ 0 → Keeps len b (posting_meaning p)
  posted_keeps o e =
      let a = posted_fits o e in
      record {
        sound = motion_sound b m (posted_sane a.0) len o a.1;
        lies = λ t l. laid len b.pieces _ t a.1 l;
        tally = omega arith;
      }

-- a call that is accepted has passed its own checks
pub passed_own : (len : ℕ) (b : Book) (c : Call) → number len b c ≡ 0 → own len b (meaning c) ≡ 0
unfolding number
passed_own len b c e = grind arith

-- Each kind of call has one clause.
pub keeps : (len : ℕ) (b : Book) (c : Call) → SoundBook len b → number len b c ≡ 0 → Keeps len b (meaning c)
keeps len b (enter p) o e = posted_keeps (terms p) (proper p) len b o (passed_own len b (enter p) e)
keeps len b (ask q room) o e = record { sound = o; lies = λ t l. l; tally = omega arith }
keeps len b (set_rule s) o e =
    let f = setting_fit b.vessels s (passed_own len b (set_rule s) e) in
    record {
      sound = grind (arith, set_fit b.vessels s.vessel s.rule b.rules f.vessel_in f.rule_known o.rules_known);
      lies = λ t l. l;
      tally = omega arith;
    }

-- The count of pieces goes on as that of transfers does, but for the even ones, where the pick is by one of the four
-- first rules.
pub count_kept : (len : ℕ) (b : Book) (c : Call) → (meaning c).stirs b 0 ≡ false
    → length ((meaning c).next b).pieces + (meaning c).even b ≡ length b.pieces + (meaning c).counts
count_kept len b (enter p) u = posted_count (terms p) (proper p) len b (eqb-false _ _ (grind arith))
count_kept len b c u = omega arith
