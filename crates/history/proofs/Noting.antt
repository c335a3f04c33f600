-- A call that the bench takes is noted.
use Rattle.std.proofs.Common.{◌≡◌, ℕ, Bool, List, ◌∷◌, Some, vec_items, Option, Result, sym, ap, subst}
use Rattle.lts.specs.Lts.{Lts}
use Rattle.hml.specs.declared.step.Step.{Step}
use Rattle.hml.specs.declared.line.Line.{Line}
use Rattle.formula.specs.declared.entry.Entry.{Entry}
use Rattle.law.specs.History.{Call}
use Rattle.law.specs.History.Call.{enter, rule, reach, alike, tell}
use Rattle.law.specs.History.Phase.{Open, Settled}
use Rattle.law.specs.declared.refusals.EnterRefusal.{EnterRefusal}
use Rattle.law.specs.declared.refusals.RuleRefusal.{RuleRefusal}
use Rattle.law.specs.declared.refusals.ReachRefusal.{ReachRefusal}
use Rattle.law.specs.declared.refusals.AlikeRefusal.{AlikeRefusal}
use Rattle.law.specs.declared.refusals.TellRefusal.{TellRefusal}
use Rattle.bench.specs.Bench.{Bench}
use Rattle.bench.specs.Keeping.{OpenTakes, SettledTakes}
use Rattle.history.specs.Noting.{Asked, Entered}
use Rattle.history.specs.Noting.Asked.{ruled, reached, compared, told}
use Rattle.history.specs.Noting.Entered.{entered}
use Rattle.history.specs.Running.{Took}
use Rattle.history.specs.declared.calls.Entering.{Entering}
use Rattle.history.specs.declared.calls.Ruling.{Ruling}
use Rattle.history.specs.declared.calls.Reaching.{Reaching}
use Rattle.history.specs.declared.calls.Comparing.{Comparing}
use Rattle.history.specs.declared.calls.Telling.{Telling}
use Rattle.history.specs.declared.calls.Question.{Question}
use Rattle.history.specs.declared.calls.Question.TheVariants.{Rule, Reach, Alike, Tell}

module _ {L R : Type 0} (left : L → Lts) (right : R → Lts) (b b' : Bench L R) where
  pub enter_noted : (q q' : Entering) (list : List Entry) (r : Result ℕ EnterRefusal) → list ≡ vec_items q.list → vec_items q'.list ≡ vec_items q.list → q'.answer ≡ Some r
      → b'.left ≡ b.left → b'.right ≡ b.right → OpenTakes left right b b' (enter list r) → Took left right Open b Open b' (Entered q q')
  enter_noted q q' list r is same answer l k takes = record {
    same_left = l;
    same_right = k;
    leads = λ h x. (enter list r ∷ h, subst (λ l. Entered q q' h (enter l r ∷ h)) (sym is) (entered q q' r same answer), (takes h x).1);
  }

  -- A question that leaves the bench as it was.
  module _ (stays : b' ≡ b) where
    noted : (x x' : Question) (e : Call) → ((h : List Call) → Asked x x' h (e ∷ h)) → SettledTakes left right b b' e → Took left right Settled b Settled b' (Asked x x')
    noted x x' e asked takes = record {
      same_left = ap (λ c. c.left) stays;
      same_right = ap (λ c. c.right) stays;
      leads = λ h k. (e ∷ h, asked h, (takes h k).1);
    }

    pub rule_noted : (x : Question) (q q' : Ruling) (r : Result Bool RuleRefusal) → x ≡ Rule q → q'.formula ≡ q.formula → q'.state ≡ q.state → q'.answer ≡ Some r
        → SettledTakes left right b b' (rule q.formula q.state r) → Took left right Settled b Settled b' (Asked x (Rule q'))
    rule_noted x q q' r is f s answer = noted x (Rule q') (rule q.formula q.state r) (λ h. rw is (ruled q q' r f s answer))

    pub reach_noted : (x : Question) (q q' : Reaching) (before after : List Step) (r : Result (Option ℕ) ReachRefusal)
        → x ≡ Reach q → before ≡ vec_items q.path → after ≡ vec_items q'.path → q'.formula ≡ q.formula → q'.state ≡ q.state → q'.answer ≡ Some r
        → SettledTakes left right b b' (reach q.formula q.state before after r) → Took left right Settled b Settled b' (Asked x (Reach q'))
    reach_noted x q q' before after r is was leaves f s answer = noted x (Reach q') (reach q.formula q.state before after r) (λ h. rw (is, was, leaves) (reached q q' r f s answer))

    pub alike_noted : (x : Question) (q q' : Comparing) (r : Result Bool AlikeRefusal) → x ≡ Alike q → q'.first ≡ q.first → q'.second ≡ q.second → q'.answer ≡ Some r
        → SettledTakes left right b b' (alike q.first q.second r) → Took left right Settled b Settled b' (Asked x (Alike q'))
    alike_noted x q q' r is s t answer = noted x (Alike q') (alike q.first q.second r) (λ h. rw is (compared q q' r s t answer))

    pub tell_noted : (x : Question) (q q' : Telling) (before after : List Line) (r : Result ℕ TellRefusal)
        → x ≡ Tell q → before ≡ vec_items q.lines → after ≡ vec_items q'.lines → q'.first ≡ q.first → q'.second ≡ q.second → q'.answer ≡ Some r
        → SettledTakes left right b b' (tell q.first q.second before after r) → Took left right Settled b Settled b' (Asked x (Tell q'))
    tell_noted x q q' before after r is was leaves s t answer = noted x (Tell q') (tell q.first q.second before after r) (λ h. rw (is, was, leaves) (told q q' r s t answer))
