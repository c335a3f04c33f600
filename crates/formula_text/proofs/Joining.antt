-- Phrases joined by & and | are read as the machine reads them. Assumes nothing.
use Rattle.std.proofs.Common.{◌≡◌, ℕ, ◌≤◌, Some, slice_get, refl, sym, ap, ◌∙◌, arith}
use Rattle.std.proofs.lemmas.Option.{slice_get-get_or}
use Rattle.hml.specs.Logic.{Formula}
use Rattle.hml.specs.Logic.Formula.{both, either}
use Rattle.grammar.specs.Grammar.{ands, ors}
use Rattle.grammar.specs.Machine.{Ctx, bar, amp, want, State, await, have, done}
use Rattle.grammar.proofs.Walking.{out_regrouped}
use Rattle.formula.specs.declared.entry.Entry.{Entry}
use Rattle.formula.specs.declared.entry.Entry.TheVariants.{And, Or}
use Rattle.formula_text.specs.Readers.{text, at, out, Spaced, Passed}
use Rattle.formula_text.specs.Phrases.{here, At, Put, Phrase, Stops, before_unary, before_ands, before_ors, after_ors, PastAnds}
use Rattle.formula_text.specs.declared.reader.Reader.{Reader}
use Rattle.formula_text.specs.declared.refusal.TextRefusal.{TextRefusal}
use Rattle.formula_text.specs.declared.refusal.TextRefusal.TheVariants.{TooMany}
use Rattle.formula_text.proofs.Passing.{crossing, out_same, too_many}

-- An entry that is put changes nothing of what comes of the text.
pub out_put : {a b : Reader} {e : Entry} {n : ℕ} (σ : State) → Put a b e n → out a σ ≡ out b σ
out_put {a} {b} σ put = out_same a b σ (at a) put.same.limit put.same.text put.place

-- After a phrase of and, and the spaces behind it.
and_spaced : {a b m : Reader} {d w : ℕ} → d ≤ 16 → (x : Phrase a b d w before_ands have) → Spaced b m → (k : Ctx ands) → At a d (before_ands k) → out a (before_ands k) ≡ out m (have x.formula k)
and_spaced {b} low x spaced k h = x.goes k h ∙ spaced.goes (have x.formula k) refl (tt, omega (arith, b.few, x.same.begun, h.1), omega (arith, h.2, low))

-- The & behind it leads to the phrase that it joins.
and_opens : {a b m p : Reader} {d w : ℕ} → d ≤ 16 → (x : Phrase a b d w before_ands have) → Spaced b m → here m ≡ Some 38 → Passed m p 1 → (k : Ctx ands) → At a d (before_ands k) → (At p d (before_unary (amp x.formula k))) × (out a (before_ands k) ≡ out p (before_unary (amp x.formula k)))
and_opens {m} {p} {d} low x spaced stands passed k h =
    let there : At p d (before_unary (amp x.formula k)) = (tt, omega (arith, passed.same.begun, spaced.same.begun, x.same.begun, h.1), h.2) in (
      there,
      and_spaced low x spaced k h
          ∙ crossing (have x.formula k) (await want (amp x.formula k)) 38 passed stands refl (tt, omega (arith, there.1, p.few, passed.same.limit), omega (arith, h.2, low)),
    )

pub and_many : {a b m : Reader} {d w : ℕ} → d ≤ 16 → Phrase a b d w before_ands have → Spaced b m → here m ≡ Some 38 → m.begun ≡ m.limit → Stops a d before_ands (TooMany (at m))
and_many {m} low x spaced stands full k h =
    and_spaced low x spaced k h
    ∙ too_many m (have x.formula k) (await want (amp x.formula k)) 38 stands refl tt (omega (arith, full, spaced.same.begun, x.same.begun, h.1))

pub and_stops : {a b m p : Reader} {d i w : ℕ} (e : TextRefusal) → d ≤ 16 → i ≡ d → Phrase a b d w before_ands have → Spaced b m → here m ≡ Some 38 → Passed m p 1 → Stops p i before_unary e → Stops a d before_ands e
and_stops e low same x spaced stands passed stops k h = let o = and_opens low x spaced stands passed k h in o.1 ∙ stops (amp x.formula k) (rw same o.0)

pub and_more : {a b m p q r : Reader} {d i w n e : ℕ} → d ≤ 16 → i ≡ d → Phrase a b d w before_ands have → Spaced b m → here m ≡ Some 38 → Passed m p 1 → Phrase p q i n before_unary done → Put q r (And w n) e → Phrase a r d e before_ands have
and_more low same x spaced stands passed y put = record {
  formula = both x.formula y.formula;
  same = record {
    text = put.same.text ∙ y.same.text ∙ passed.same.text ∙ spaced.same.text ∙ x.same.text;
    limit = put.same.limit ∙ y.same.limit ∙ passed.same.limit ∙ spaced.same.limit ∙ x.same.limit;
    begun = omega (arith, put.same.begun, y.same.begun, passed.same.begun, spaced.same.begun, x.same.begun);
  };
  entries = put.entries ∙ rw (y.number, x.number, y.entries, passed.entries, spaced.entries, x.entries);
  number = put.number;
  on = omega (arith, put.place, y.on, passed.on, spaced.on, x.on);
  goes = λ k h. let o = and_opens low x spaced stands passed k h in o.1 ∙ y.goes (amp x.formula k) (rw same o.0) ∙ out_put (have (both x.formula y.formula) k) put;
}

-- The | behind a phrase of or leads to the phrase that it joins.
or_opens : {a b p : Reader} {d w : ℕ} → d ≤ 16 → (x : Phrase a b d w before_ors after_ors) → here b ≡ Some 124 → Passed b p 1 → (k : Ctx ors) → At a d (before_ors k) → (At p d (before_ands (bar x.formula k))) × (out a (before_ors k) ≡ out p (before_ands (bar x.formula k)))
or_opens {p} {d} low x stands passed k h =
    let there : At p d (before_ands (bar x.formula k)) = (tt, omega (arith, passed.same.begun, x.same.begun, h.1), h.2) in (
      there,
      x.goes k h ∙ crossing (after_ors x.formula k) (before_ands (bar x.formula k)) 124 passed stands refl (tt, omega (arith, there.1, p.few, passed.same.limit), omega (arith, h.2, low)),
    )

pub or_many : {a b : Reader} {d w : ℕ} → Phrase a b d w before_ors after_ors → here b ≡ Some 124 → b.begun ≡ b.limit → Stops a d before_ors (TooMany (at b))
or_many {b} x stands full k h =
    x.goes k h ∙ too_many b (after_ors x.formula k) (before_ands (bar x.formula k)) 124 stands refl tt (omega (arith, full, x.same.begun, h.1))

pub or_stops : {a b p : Reader} {d i w : ℕ} (e : TextRefusal) → d ≤ 16 → i ≡ d → Phrase a b d w before_ors after_ors → here b ≡ Some 124 → Passed b p 1 → Stops p i before_ands e → Stops a d before_ors e
or_stops e low same x stands passed stops k h = let o = or_opens low x stands passed k h in o.1 ∙ stops (bar x.formula k) (rw same o.0)

-- Where neither a space nor & follows, the phrase of and is the end of one of or.
pub regroups : (r : Reader) (f g : Formula) (k : Ctx ors) → PastAnds r → out r (have g (bar f k)) ≡ out r (after_ors (either f g) k)
regroups r f g k past =
    out_regrouped r.limit (text r) g (bar f k) (at r)
    (λ l. ((λ is. past.0 (slice_get-get_or (text r) (at r) 0 l ∙ ap Some is)), (λ is. past.1 (slice_get-get_or (text r) (at r) 0 l ∙ ap Some is))))

-- An entry that is put changes nothing of which byte follows.
pub past_put : {q r : Reader} {e : Entry} {n : ℕ} → Put q r e n → PastAnds q → PastAnds r
past_put {q} {r} put past =
    let same : here r ≡ here q = ap (λ s. slice_get s (at r)) put.same.text ∙ ap (slice_get (text q)) put.place in
    ((λ is. past.0 (sym same ∙ is)), (λ is. past.1 (sym same ∙ is)))

pub or_more : {a b p q r : Reader} {d i w n e : ℕ} → d ≤ 16 → i ≡ d → Phrase a b d w before_ors after_ors → here b ≡ Some 124 → Passed b p 1 → Phrase p q i n before_ands have → PastAnds q → Put q r (Or w n) e → Phrase a r d e before_ors after_ors
or_more {q} low same x stands passed y past put = record {
  formula = either x.formula y.formula;
  same = record {
    text = put.same.text ∙ y.same.text ∙ passed.same.text ∙ x.same.text;
    limit = put.same.limit ∙ y.same.limit ∙ passed.same.limit ∙ x.same.limit;
    begun = omega (arith, put.same.begun, y.same.begun, passed.same.begun, x.same.begun);
  };
  entries = put.entries ∙ rw (y.number, x.number, y.entries, passed.entries, x.entries);
  number = put.number;
  on = omega (arith, put.place, y.on, passed.on, x.on);
  goes = λ k h.
      let o = or_opens low x stands passed k h in
      o.1 ∙ y.goes (bar x.formula k) (rw same o.0) ∙ regroups q x.formula y.formula k past ∙ out_put (after_ors (either x.formula y.formula) k) put;
}
