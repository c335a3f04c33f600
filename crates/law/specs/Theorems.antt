-- What is proved of the answers of the calls. Assumes nothing.
use Rattle.std.specs.Prelude.{◌≡◌, ℕ, Bool, List, Option, Result}
use Rattle.lts.specs.Lts.{Lts}
use Rattle.hml.specs.declared.step.Step.{Step}
use Rattle.hml.specs.declared.line.Line.{Line}
use Rattle.formula.specs.declared.entry.Entry.{Entry}
use Rattle.law.specs.Answers.{Entered, Ruled, Reached, Compared, Told}
use Rattle.law.specs.declared.refusals.EnterRefusal.{EnterRefusal}
use Rattle.law.specs.declared.refusals.RuleRefusal.{RuleRefusal}
use Rattle.law.specs.declared.refusals.ReachRefusal.{ReachRefusal}
use Rattle.law.specs.declared.refusals.AlikeRefusal.{AlikeRefusal}
use Rattle.law.specs.declared.refusals.TellRefusal.{TellRefusal}

-- Each call has one answer only, and leaves one memory only: nothing is free in the definitions of the answers.
pub record AnswersAreOne : Type 0 where
  pub entered : (es list : List Entry) (r q : Result ℕ EnterRefusal) → Entered es list r → Entered es list q → r ≡ q
  pub ruled : (m : Lts) (es : List Entry) (f s : ℕ) (r q : Result Bool RuleRefusal) → Ruled m es f s r → Ruled m es f s q → r ≡ q
  pub reached : (m : Lts) (es : List Entry) (f s : ℕ) (before x y : List Step) (r q : Result (Option ℕ) ReachRefusal) → Reached m es f s before x r → Reached m es f s before y q → (r ≡ q) × (x ≡ y)
  pub compared : (m : Lts) (s t : ℕ) (r q : Result Bool AlikeRefusal) → Compared m s t r → Compared m s t q → r ≡ q
  pub told : (m : Lts) (s t : ℕ) (before x y : List Line) (r q : Result ℕ TellRefusal) → Told m s t before x r → Told m s t before y q → (r ≡ q) × (x ≡ y)
