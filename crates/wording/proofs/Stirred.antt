-- STIRRED VESSELS in document 02's words, of a call: where a transfer or a lift from a vessel with rule 4 is answered 0
-- (`stirred_in_words`, `lift_stirred_in_words`). "With q below the balance T" each piece gives a part of it, and what a
-- piece gives differs from the exact q × weight / T by less than 1 gram, and the gifts sum to q: what is left of each
-- stays in its order, and behind all that stays lies what each gives, in the order of receipt. "With q ≥ T all moves,
-- in order of receipt, and the rest is born."
-- Assumes nothing.
use Rattle.std.proofs.Common.{◌≡◌, refl, sym, ap, append-nil, List, ◌++◌, map, ℕ, ◌+◌, ◌-◌, ◌*◌, ◌≤◌, ◌<◌, arith, length, get_or, ◌∙◌}
use Rattle.sharing.specs.Sharing.{sum_of}
use Rattle.sharing.proofs.Shares.{Within}
use Rattle.table.specs.declared.Piece.{Piece}
use Rattle.table.specs.Pieces.{hand_to, if_any, held, All}
use Rattle.table.specs.Table.{pieces_of, lay}
use Rattle.table.proofs.Pieces.{all_map}
use Rattle.taking.specs.declared.Move.{Move}
use Rattle.taking.specs.Stirring.{stirred_rule, weights_in, gifts, stirred, left_of, given_by}
use Rattle.taking.specs.Taking.{newborn, handed, taken}
use Rattle.taking.specs.Sweeping.{held_by, elsewhere}
use Rattle.taking.proofs.Stirring.{taken_stirred, stirred_pieces, counts, gifts_near, gifts_sum}
use Rattle.taking.proofs.Sweeping.{stirred_out}
use Rattle.book.specs.declared.Head.{Head}
use Rattle.book.specs.declared.Transfer.{Transfer}
use Rattle.book.specs.declared.Lift.{Lift}
use Rattle.book.specs.Head.{the_scale, rule_at}
use Rattle.book.specs.Motion.{takes}
use Rattle.book.specs.Transfer.{motion_of}
use Rattle.book.specs.Scale.{lift_motion}
use Rattle.book.specs.Calls.{post, lift, answer_of, no_answer}
use Rattle.book.specs.Memory.{Outcome, call_on}
use Rattle.book.proofs.Memory.{call_number}
use Rattle.book.proofs.Accepted.{accepted_book}

-- What a call o leaves of the pieces ps and the table t, where it moves m out of a stirred vessel that has more.
pub record GivesFromAll (m : Move) (ps : List Piece) (t : List ℕ) (o : Outcome) : Type 0 where
  pub table : o.table ≡ lay (left_of (gifts m ps) ps ++ map (hand_to m.destination) (given_by (gifts m ps) ps)) t
  pub near : (i : ℕ) →
      let T = held m.source ps in
      Within T (get_or (gifts m ps) i 0 * T) (m.weight * get_or (weights_in m.source ps) i 0)
  pub gifts_are : sum_of (gifts m ps) ≡ m.weight
  -- "the answer's split mark becomes a count of splits": of a piece that is split there is one more
  pub split : o.answer.split + length ps ≡ length (left_of (gifts m ps) ps) + length (given_by (gifts m ps) ps)
  pub whole : o.answer.whole + o.answer.split ≡ length (given_by (gifts m ps) ps)
  pub born : o.answer.born ≡ 0

-- And where it has no more.
pub record GivesAll (m : Move) (ps : List Piece) (t : List ℕ) (o : Outcome) : Type 0 where
  pub table : let missing = m.weight - held m.source ps in
      o.table ≡ lay (elsewhere m.source ps ++ (map (hand_to m.destination) (held_by m.source ps) ++ if_any (newborn m missing))) t
  pub answer : o.answer ≡ record no_answer { whole = length (held_by m.source ps); split = 0; born = m.weight - held m.source ps }

pub record FromStirred (m : Move) (ps : List Piece) (t : List ℕ) (o : Outcome) : Type 0 where
  pub below : m.weight < held m.source ps → GivesFromAll m ps t o
  pub above : held m.source ps ≤ m.weight → GivesAll m ps t o

-- What is taken of a stirred vessel, handed over.
module _ (m : Move) (ps : List Piece) (t : List ℕ) (weighty : All (λ p. 1 ≤ p.weight) ps) (o : Outcome)
    (table : o.table ≡ lay (handed m (taken stirred_rule m ps)) t) (answer : o.answer ≡ answer_of (taken stirred_rule m ps)) where
  gives_from_all : m.weight < held m.source ps → GivesFromAll m ps t o
  gives_from_all more =
      let r = taken_stirred m ps more in
      let said : o.answer ≡ answer_of (stirred m ps) = answer ∙ ap answer_of r in
      let parts = stirred_pieces m ps weighty more in
      let c = rw (parts.0, parts.1) at (counts (gifts m ps) ps) in
      record {
        table = table ∙ rw (r, parts.0, parts.1, c.0) (simp append-nil);
        near = gifts_near m ps (omega arith);
        gifts_are = gifts_sum m ps (omega arith);
        split = rw said (omega (arith, c.2));
        whole = rw said (omega (arith, c.1));
        born = rw said c.0;
      }

  gives_all : held m.source ps ≤ m.weight → GivesAll m ps t o
  gives_all less =
      let r = stirred_out m ps weighty less in record { table = table ∙ rw r refl; answer = answer ∙ ap answer_of r }

  from_stirred : FromStirred m ps t o
  from_stirred = record { below = gives_from_all; above = gives_all }

-- A transfer, and a lift.
module _ (h : Head) (t : List ℕ) where
  abbrev ps : List Piece
  ps = pieces_of h.pieces t

  pub stirred_in_words : (x : Transfer) → (call_on h t (post x)).number ≡ 0 → rule_at h.rules x.source ≡ stirred_rule
      → FromStirred (motion_of x).moves ps t (call_on h t (post x))
  unfolding call_on takes
  stirred_in_words x z rule =
      let e = sym (call_number h t (post x)) ∙ z in
      let weighty = all_map (λ p f. f.weighty) (accepted_book h t (post x) e).sound in
      from_stirred (motion_of x).moves ps t weighty (call_on h t (post x)) (rw (e, rule) refl) (rw (e, rule) refl)

  pub lift_stirred_in_words : (x : Lift) → (call_on h t (lift x)).number ≡ 0 → rule_at h.rules x.source ≡ stirred_rule
      → FromStirred (lift_motion the_scale x).moves ps t (call_on h t (lift x))
  unfolding call_on takes
  lift_stirred_in_words x z rule =
      let e = sym (call_number h t (lift x)) ∙ z in
      let weighty = all_map (λ p f. f.weighty) (accepted_book h t (lift x) e).sound in
      from_stirred (lift_motion the_scale x).moves ps t weighty (call_on h t (lift x)) (rw (e, rule) refl) (rw (e, rule) refl)
