-- Each kind of call, as what any call promises on a book that adds up.
-- Assumes nothing.
use Rattle.std.proofs.Common.{◌≡◌, refl, sym, ap, ◌∙◌, List, ℕ, Result, Ok, Err}
use Rattle.refusal.specs.declared.Refusal.{Refusal}
use Rattle.refusal.specs.Refusals.{outcome_number}
use Rattle.taking.specs.declared.Applied.{Applied}
use Rattle.book.specs.declared.Head.{Head}
use Rattle.book.specs.declared.Report.{Report}
use Rattle.book.specs.declared.Setting.{Setting}
use Rattle.book.specs.declared.Transferred.{Transferred}
use Rattle.book.specs.Calls.{Posting, enter, set_rule, ask}
use Rattle.book.specs.Memory.{call_on, Audited}
use Rattle.book.proofs.Accepted.{set_writes_nothing}
use Rattle.ledger.specs.Setting.{Sets}
use Rattle.book.proofs.Audited.{audited_known, audited_after}
use Rattle.motions.specs.Posting.{said, PostsKnown}
use Rattle.reports.specs.Asking.{AsksKnown}
use Rattle.reports.proofs.Asked.{asked_nothing}
use Rattle.journal.specs.Carried.{Makes}

-- something is posted
module _ {v : Posting} {h h' : Head} {t t' : List ℕ} {a : Result Applied Refusal} (p : PostsKnown v h h' t t' a) where
  number_is : outcome_number a ≡ (call_on h t (enter v)).number
  number_is = go a refl ∙ ap (λ (z : Transferred). z.number) p.posts.answer
    where
      go : (x : Result Applied Refusal) → a ≡ x → outcome_number x ≡ (said h' x).number
      go (Ok y) e = refl
      go (Err why) e = refl

  pub posted : (r : Result (Unit {0}) Refusal) → outcome_number r ≡ outcome_number a → (room : List ℕ)
      → Makes (enter v) h h' t t' room room r
  posted r e room = record {
    number = e ∙ number_is;
    head = go a refl ∙ ap (λ (z : Transferred). z.head) p.posts.answer;
    table = p.posts.table;
    room = refl;
    audited = p.audited;
  }
    where
      go : (x : Result Applied Refusal) → a ≡ x → h' ≡ (said h' x).head
      go (Ok y) e = refl
      go (Err why) e = refl

-- a rule is set
pub set : {h h' : Head} {t r : List ℕ} {z : Result (Unit {0}) Refusal} {s : Setting} → Audited h t → Sets s h h' t z
    → Makes (set_rule s) h h' t t r r z
set {h = h} {t = t} {s = s} w p =
    let k = audited_known h t w in
    let after = audited_after h t w (set_rule s) (λ e. record { light = k.light.light; tally = k.light.tally }) in
    record {
      number = p.number;
      head = p.head;
      table = sym (set_writes_nothing h t s);
      room = refl;
      audited = rw p.head (rw (set_writes_nothing h t s) at after);
    }

-- a report is asked
pub asked : {h : Head} {t r r' : List ℕ} {z : Result (Unit {0}) Refusal} {q : Report} → Audited h t
    → AsksKnown h q t r r' z → Makes (ask q r) h h t t r r' z
asked {h = h} {t = t} {r = r} {q = q} w p =
    let same = asked_nothing h t q r in
    record { number = p.number; head = sym same.0; table = sym same.1; room = p.room; audited = w }
