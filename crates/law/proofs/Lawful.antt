-- Every history of calls is lawful.
use Rattle.std.proofs.Common.{ℕ, ◌<◌, true, List, [], ◌∷◌, ◌++◌, length, take, Ok, Option, Result, ap, subst}
use Rattle.lts.specs.Lts.{Lts}
use Rattle.lts.specs.Joined.{joined}
use Rattle.hml.specs.Theorems.{Closed}
use Rattle.hml.specs.declared.step.Step.{Step}
use Rattle.hml.proofs.Characterised.{hennessy_milner, lines_distinguish}
use Rattle.formula.specs.Entries.{formula_at}
use Rattle.law.specs.History.{Call, Phase, entries_held, AsDefined, History, Stands, Lawful, EveryHistoryIsLawful}
use Rattle.law.specs.History.Call.{reach, alike, tell}
use Rattle.law.specs.History.Phase.{Open, Settled}
use Rattle.law.specs.History.History.{entered, settled, reopened, ruled, reached, compared, told}
use Rattle.law.specs.declared.refusals.ReachRefusal.{ReachRefusal}
use Rattle.law.proofs.Guarding.{MadeOf}
use Rattle.law.proofs.Reaching.{moves_of, Reaching, reaching_alike, reach_done, reached_answered, answers_agree}
use Rattle.law.proofs.Joining.{joined_closed}
use Rattle.law.proofs.Holding.{formula_kept}

module _ (m : Lts) where
  -- The newest call of a history is answered as defined, and those before it are a history.
  newest : {φ : Phase} {c : Call} {h : List Call} → History m φ (c ∷ h) → AsDefined m (entries_held h) c × ((ψ : Phase) × History m ψ h)
  newest (entered list r before x) = (x, (Open, before))
  newest (settled before) = (tt, (Open, before))
  newest (reopened before) = (tt, (Settled, before))
  newest (ruled f s r before x) = (x, (Settled, before))
  newest (reached f s p q r before x) = (x, (Settled, before))
  newest (compared s t r before x) = (x, (Settled, before))
  newest (told s t p q r before x) = (x, (Settled, before))

  defined : (later : List Call) {φ : Phase} (e : Call) (earlier : List Call) → History m φ (later ++ e ∷ earlier) → AsDefined m (entries_held earlier) e
  defined [] e earlier x = (newest x).0
  defined (c ∷ later) e earlier x = defined later e earlier (newest x).1.1

  module _ (closed : Closed m) (φ : Phase) (h : List Call) (history : History m φ h) where
    each_defined : (e : Call) (earlier : List Call) → Stands h e earlier → AsDefined m (entries_held earlier) e
    each_defined e earlier (later, is) = defined later e earlier (subst (History m φ) is history)

    -- What reach answers of a formula that is held is made of that formula, as the whole log has it.
    reach_made : (f s : ℕ) (before after : List Step) (r : Result (Option ℕ) ReachRefusal) (earlier : List Call)
        → Stands h (reach f s before after r) earlier → f < length (entries_held earlier) → s < m.states → MadeOf (Reaching m (formula_at (entries_held h) f) s) (reach_done before) (r, after)
    reach_made f s before after r earlier x l k =
        let e = reach f s before after r in
        rw (formula_kept f h e earlier x l) (reached_answered m (entries_held earlier) f s before after r l k (each_defined e earlier x))

    lawful : Lawful m h
    lawful = record {
      as_defined = each_defined;
      characterised = λ s t b earlier x.
          let answer = each_defined (alike s t (Ok b)) earlier x in
          let same = hennessy_milner m closed s t answer.0 answer.1 in
          (λ y. same.0 (answer.2.0 y), λ y. answer.2.1 (same.1 y));
      separating = λ s t n before after earlier x.
          let apart = lines_distinguish m s t (take n after) (each_defined (tell s t before after (Ok n)) earlier x).5 in
          (apart.0, apart.1);
      shallowest = λ s t n before after earlier x. (lines_distinguish m s t (take n after) (each_defined (tell s t before after (Ok n)) earlier x).5).2;
      uniform = λ s t f p q p' q' r r' e₀ e₁ e₂ x x₁ l₁ x₂ l₂.
          let answer = each_defined (alike s t (Ok true)) e₀ x in
          let y = reach_made f s p p' r e₁ x₁ l₁ answer.0 in
          let z = reach_made f t q q' r' e₂ x₂ l₂ answer.1 in
          let same = reaching_alike m (formula_at (entries_held h) f) s t y.0 z.0 (answer.2.0 tt) y.1 z.1 in
          rw (ap (λ w. w.0) y.2, ap (λ w. w.0) z.2, same) (answers_agree (length p) (length q) (moves_of z.0));
    }

pub every_history_is_lawful : EveryHistoryIsLawful
every_history_is_lawful l r left right φ h history = lawful (joined l r) (joined_closed l r left right) φ h history
