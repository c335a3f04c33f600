-- Calls that follow each other: those of a round, reopening after it, and those of a whole script.
use Rattle.std.proofs.Common.{◌≡◌, List, [], ◌∷◌, vec_items, ap, ◌∙◌, subst}
use Rattle.lts.specs.Lts.{Lts, Limits}
use Rattle.lts.specs.Joined.{joined}
use Rattle.law.specs.History.{Call, Phase, History, Lawful}
use Rattle.law.specs.History.Call.{settle, reopen}
use Rattle.law.specs.History.Phase.{Open, Settled}
use Rattle.law.proofs.Lawful.{every_history_is_lawful}
use Rattle.bench.specs.Bench.{Bench}
use Rattle.bench.specs.Keeping.{Kept, Settles, Reopens}
use Rattle.history.specs.Noting.{Asked, Entered, Gone, Back, InTurn, Ended, WrittenDown}
use Rattle.history.specs.Noting.Gone.{round}
use Rattle.history.specs.Noting.Back.{reopened}
use Rattle.history.specs.Running.{Took}
use Rattle.history.specs.declared.calls.Entering.{Entering}
use Rattle.history.specs.declared.calls.Question.{Question}
use Rattle.history.specs.declared.calls.Round.{Round}
use Rattle.history.specs.declared.calls.Script.{Script}

-- The same lists, by other names.
pub renamed : {Q : Type 0} (One : Q → Q → List Call → List Call → Type 0) {h h' : List Call} (xs xs' ys ys' : List Q) → xs ≡ ys → xs' ≡ ys' → InTurn One xs xs' h h' → InTurn One ys ys' h h'
renamed One {h} {h'} xs xs' ys ys' e e' x = subst (λ l. InTurn One ys l h h') e' (subst (λ l. InTurn One l xs' h h') e x)

module _ {L R : Type 0} (left : L → Lts) (right : R → Lts) where
  pub goes : (b b' s s' : Bench L R) (q q' : Round) (xs xs' : List Entering) (ys ys' : List Question)
      → xs ≡ vec_items q.lists → xs' ≡ vec_items q'.lists → ys ≡ vec_items q.questions → ys' ≡ vec_items q'.questions
      → Took left right Open b Open b' (InTurn Entered xs xs') → s ≡ b' → Settles left right b' s → Took left right Settled s Settled s' (InTurn Asked ys ys') → Took left right Open b Settled s' (Gone q q')
  goes b b' s s' q q' xs xs' ys ys' e e' f f' enters same settles asks = record {
    same_left = asks.same_left ∙ ap (λ c. c.left) same ∙ enters.same_left;
    same_right = asks.same_right ∙ ap (λ c. c.right) same ∙ enters.same_right;
    leads = λ h x.
        let one = enters.leads h x in
        let two = settles one.0 one.2 in
        let three = asks.leads (settle ∷ one.0) two.1 in (
          three.0,
          round q q' h one.0 three.0 (renamed Entered xs xs' (vec_items q.lists) (vec_items q'.lists) e e' one.1) (renamed Asked ys ys' (vec_items q.questions) (vec_items q'.questions) f f' three.1),
          three.2,
        );
  }

  pub goes_back : (b s b' : Bench L R) (q q' : Round) → Took left right Open b Settled s (Gone q q') → b' ≡ s → Reopens left right s b' → Took left right Open b Open b' (Back q q')
  goes_back b s b' q q' goes same reopens = record {
    same_left = ap (λ c. c.left) same ∙ goes.same_left;
    same_right = ap (λ c. c.right) same ∙ goes.same_right;
    leads = λ h x.
        let one = goes.leads h x in
        let two = reopens one.0 one.2 in
        (reopen ∷ one.0, reopened one.1, two.1);
  }

  -- The same calls, as they are written down.
  pub took_as : {φ φ' : Phase} {b b' : Bench L R} {Calls Noted : List Call → List Call → Type 0} → ((h h' : List Call) → Calls h h' → Noted h h')
      → Took left right φ b φ' b' Calls → Took left right φ b φ' b' Noted
  took_as same x = record { same_left = x.same_left; same_right = x.same_right; leads = λ h k. let y = x.leads h k in (y.0, same h y.0 y.1, y.2) }

  -- Rounds, and behind them the ending, are a script. Its history is one of the two systems, and keeps the law.
  pub scripted : ((x : L) → Limits (left x)) → ((x : R) → Limits (right x)) → {l : L} {r : R} {b b' b'' : Bench L R} {q q' : Script} {φ : Phase} → (b.left ≡ l) × (b.right ≡ r) → Kept left right Open b []
      → Took left right Open b Open b' (InTurn Back (vec_items q.rounds) (vec_items q'.rounds)) → Took left right Open b' φ b'' (λ h h'. Ended q.ending q'.ending h φ h')
      → (φ : Phase) × (h : List Call) × WrittenDown q q' φ h × History (joined (left l) (right r)) φ h × Lawful (joined (left l) (right r)) h
  scripted lim rim {l} {r} {b'' = b''} {φ = φ} over opened went ended =
      let one = went.leads [] opened in
      let two = ended.leads one.0 one.2 in
      let h = two.0 in
      let history = subst (λ (a : L). History (joined (left a) (right r)) φ h) (ended.same_left ∙ went.same_left ∙ over.0)
      (subst (λ (a : R). History (joined (left b''.left) (right a)) φ h) (ended.same_right ∙ went.same_right ∙ over.1) two.2.history) in
      (φ, h, record { before = one.0; rounds = one.1; ending = two.1 }, history, every_history_is_lawful (left l) (right r) (lim l) (rim r) φ h history)
