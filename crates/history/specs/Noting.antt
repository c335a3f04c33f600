-- Calls as they are handed in and as they come back, and the calls of a history that they are. Assumes nothing.
use Rattle.std.specs.Prelude.{◌≡◌, ℕ, Bool, List, [], ◌∷◌, Some, vec_items, Option, Result, Vec}
use Rattle.std.specs.declared.alloc.Global.{Global}
use Rattle.law.specs.History.{Call, Phase}
use Rattle.law.specs.History.Phase.{Open as stillOpen, Settled as leftSettled}
use Rattle.law.specs.History.Call.{enter, settle, reopen, rule, reach, alike, tell}
use Rattle.law.specs.declared.refusals.EnterRefusal.{EnterRefusal}
use Rattle.law.specs.declared.refusals.RuleRefusal.{RuleRefusal}
use Rattle.law.specs.declared.refusals.ReachRefusal.{ReachRefusal}
use Rattle.law.specs.declared.refusals.AlikeRefusal.{AlikeRefusal}
use Rattle.law.specs.declared.refusals.TellRefusal.{TellRefusal}
use Rattle.history.specs.declared.calls.Entering.{Entering}
use Rattle.history.specs.declared.calls.Ruling.{Ruling}
use Rattle.history.specs.declared.calls.Reaching.{Reaching}
use Rattle.history.specs.declared.calls.Comparing.{Comparing}
use Rattle.history.specs.declared.calls.Telling.{Telling}
use Rattle.history.specs.declared.calls.Question.{Question}
use Rattle.history.specs.declared.calls.Question.TheVariants.{Rule, Reach, Alike, Tell}
use Rattle.history.specs.declared.calls.Round.{Round}
use Rattle.history.specs.declared.calls.Ending.{Ending}
use Rattle.history.specs.declared.calls.Ending.TheVariants.{Open, Settled}
use Rattle.history.specs.declared.calls.Script.{Script}

-- A question as it was handed in and as it came back: with its answer, and with its memory as the call left it. It takes
-- the history before it to the one with it, newest first.
pub data Asked : Question → Question → List Call → List Call → Type 0 where
  ruled : {h : List Call} (q q' : Ruling) (r : Result Bool RuleRefusal) → q'.formula ≡ q.formula → q'.state ≡ q.state → q'.answer ≡ Some r
      → Asked (Rule q) (Rule q') h (rule q.formula q.state r ∷ h)
  reached : {h : List Call} (q q' : Reaching) (r : Result (Option ℕ) ReachRefusal) → q'.formula ≡ q.formula → q'.state ≡ q.state → q'.answer ≡ Some r
      → Asked (Reach q) (Reach q') h (reach q.formula q.state (vec_items q.path) (vec_items q'.path) r ∷ h)
  compared : {h : List Call} (q q' : Comparing) (r : Result Bool AlikeRefusal) → q'.first ≡ q.first → q'.second ≡ q.second → q'.answer ≡ Some r
      → Asked (Alike q) (Alike q') h (alike q.first q.second r ∷ h)
  told : {h : List Call} (q q' : Telling) (r : Result ℕ TellRefusal) → q'.first ≡ q.first → q'.second ≡ q.second → q'.answer ≡ Some r
      → Asked (Tell q) (Tell q') h (tell q.first q.second (vec_items q.lines) (vec_items q'.lines) r ∷ h)

-- The same of a list that is entered.
pub data Entered : Entering → Entering → List Call → List Call → Type 0 where
  entered : {h : List Call} (q q' : Entering) (r : Result ℕ EnterRefusal) → vec_items q'.list ≡ vec_items q.list → q'.answer ≡ Some r
      → Entered q q' h (enter (vec_items q.list) r ∷ h)

-- The same of several in turn.
pub data InTurn {Q : Type 0} (One : Q → Q → List Call → List Call → Type 0) : List Q → List Q → List Call → List Call → Type 0 where
  none : {h : List Call} → InTurn One [] [] h h
  next : {q q' : Q} {qs qs' : List Q} {h h' h'' : List Call} → One q q' h h' → InTurn One qs qs' h' h'' → InTurn One (q ∷ qs) (q' ∷ qs') h h''

-- The same of a round: its lists are entered, the bench is settled, and its questions are asked.
pub data Gone : Round → Round → List Call → List Call → Type 0 where
  round : (q q' : Round) (h h' h'' : List Call) → InTurn Entered (vec_items q.lists) (vec_items q'.lists) h h'
      → InTurn Asked (vec_items q.questions) (vec_items q'.questions) (settle ∷ h') h'' → Gone q q' h h''

-- The same of a round after which the bench is reopened.
pub data Back : Round → Round → List Call → List Call → Type 0 where
  reopened : {q q' : Round} {h h' : List Call} → Gone q q' h h' → Back q q' h (reopen ∷ h')

-- The same of the ending, with the phase in which it leaves the bench.
pub data Ended : Ending → Ending → List Call → Phase → List Call → Type 0 where
  unsettled : (q q' : Vec Entering Global) (h h' : List Call) → InTurn Entered (vec_items q) (vec_items q') h h' → Ended (Open q) (Open q') h stillOpen h'
  settled : (q q' : Round) (h h' : List Call) → Gone q q' h h' → Ended (Settled q) (Settled q') h leftSettled h'

-- The script as it was handed in and as it came back is the history of these calls since the opening.
pub record WrittenDown (q q' : Script) (φ : Phase) (h : List Call) : Type 0 where
  pub before : List Call
  pub rounds : InTurn Back (vec_items q.rounds) (vec_items q'.rounds) [] before
  pub ending : Ended q.ending q'.ending before φ h
