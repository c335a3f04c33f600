-- Histories of a bench from its opening on, with every call written down, and what holds of all that was answered.
-- Assumes nothing.
use Rattle.std.specs.Prelude.{◌≡◌, ℕ, ◌<◌, ◌≤◌, Bool, true, T, ◌↔◌, List, [], ◌∷◌, ◌++◌, length, take, Some, None, Ok, Err, Option, Result}
use Rattle.lts.specs.Lts.{Lts, Limits}
use Rattle.lts.specs.Joined.{joined}
use Rattle.hml.specs.Logic.{Formula, Sat, Separates, steps}
use Rattle.formula.specs.Entries.{appended}
use Rattle.hml.specs.Distinguishing.{formula_of_lines}
use Rattle.law.specs.Answers.{Entered, Ruled, Reached, Compared, Told}
use Rattle.formula.specs.declared.entry.Entry.{Entry}
use Rattle.hml.specs.declared.step.Step.{Step}
use Rattle.hml.specs.declared.line.Line.{Line}
use Rattle.law.specs.declared.refusals.EnterRefusal.{EnterRefusal}
use Rattle.law.specs.declared.refusals.RuleRefusal.{RuleRefusal}
use Rattle.law.specs.declared.refusals.ReachRefusal.{ReachRefusal}
use Rattle.law.specs.declared.refusals.AlikeRefusal.{AlikeRefusal}
use Rattle.law.specs.declared.refusals.TellRefusal.{TellRefusal}

-- A call with what it was handed, what it answered, and what memory held before and after it.
pub data Call : Type 0 where
  enter : List Entry → Result ℕ EnterRefusal → Call
  settle : Call
  reopen : Call
  rule : ℕ → ℕ → Result Bool RuleRefusal → Call
  reach : ℕ → ℕ → List Step → List Step → Result (Option ℕ) ReachRefusal → Call
  alike : ℕ → ℕ → Result Bool AlikeRefusal → Call
  tell : ℕ → ℕ → List Line → List Line → Result ℕ TellRefusal → Call

-- A bench is open or settled.
pub data Phase : Type 0 where
  Open : Phase
  Settled : Phase

-- The entries held after the calls of a list, which has the newest first: an answered enter alone changes them.
abbrev pub entries_held : List Call → List Entry
entries_held [] = []
entries_held (enter list (Ok n) ∷ h) = appended (entries_held h) list
entries_held (enter list (Err e) ∷ h) = entries_held h
entries_held (settle ∷ h) = entries_held h
entries_held (reopen ∷ h) = entries_held h
entries_held (rule f s r ∷ h) = entries_held h
entries_held (reach f s before after r ∷ h) = entries_held h
entries_held (alike s t r ∷ h) = entries_held h
entries_held (tell s t before after r ∷ h) = entries_held h

-- What a call answers is what is defined, for the entries held at it.
abbrev pub AsDefined : Lts → List Entry → Call → Type 0
AsDefined m es (enter list r) = Entered es list r
AsDefined m es settle = Unit {0}
AsDefined m es reopen = Unit {0}
AsDefined m es (rule f s r) = Ruled m es f s r
AsDefined m es (reach f s before after r) = Reached m es f s before after r
AsDefined m es (alike s t r) = Compared m s t r
AsDefined m es (tell s t before after r) = Told m s t before after r

-- The histories that the bench's types let in, from the opening on: each call answered as defined. The phase is that to
-- which they lead.
pub data History (m : Lts) : Phase → List Call → Type 0 where
  opened : History m Open []
  entered : {h : List Call} (list : List Entry) (r : Result ℕ EnterRefusal) → History m Open h → AsDefined m (entries_held h) (enter list r) → History m Open (enter list r ∷ h)
  settled : {h : List Call} → History m Open h → History m Settled (settle ∷ h)
  reopened : {h : List Call} → History m Settled h → History m Open (reopen ∷ h)
  ruled : {h : List Call} (f s : ℕ) (r : Result Bool RuleRefusal) → History m Settled h → AsDefined m (entries_held h) (rule f s r) → History m Settled (rule f s r ∷ h)
  reached : {h : List Call} (f s : ℕ) (before after : List Step) (r : Result (Option ℕ) ReachRefusal) → History m Settled h → AsDefined m (entries_held h) (reach f s before after r) → History m Settled (reach f s before after r ∷ h)
  compared : {h : List Call} (s t : ℕ) (r : Result Bool AlikeRefusal) → History m Settled h → AsDefined m (entries_held h) (alike s t r) → History m Settled (alike s t r ∷ h)
  told : {h : List Call} (s t : ℕ) (before after : List Line) (r : Result ℕ TellRefusal) → History m Settled h → AsDefined m (entries_held h) (tell s t before after r) → History m Settled (tell s t before after r ∷ h)

-- Call e stands in the history h, and the calls before it are `earlier`.
abbrev pub Stands : List Call → Call → List Call → Type 0
Stands h e earlier = (later : List Call) × (h ≡ later ++ e ∷ earlier)

-- The law of the bench: what holds of all answers of a history.
pub record Lawful (m : Lts) (h : List Call) : Type 0 where
  -- each answer or refusal is the defined one for the entries held at its call
  pub as_defined : (e : Call) (earlier : List Call) → Stands h e earlier → AsDefined m (entries_held earlier) e
  -- alike says yes exactly when no formula, of whatever size, separates the two
  pub characterised : (s t : ℕ) (b : Bool) (earlier : List Call) → Stands h (alike s t (Ok b)) earlier → T b ↔ ((f : Formula) → ¬ Separates m f s t)
  -- the formula told holds of the first and fails of the second
  pub separating : (s t n : ℕ) (before after : List Line) (earlier : List Call) → Stands h (tell s t before after (Ok n)) earlier → Sat m s (formula_of_lines (take n after)) × ¬ Sat m t (formula_of_lines (take n after))
  -- and no formula that separates them has fewer nested steps
  pub shallowest : (s t n : ℕ) (before after : List Line) (earlier : List Call) → Stands h (tell s t before after (Ok n)) earlier → (f : Formula) → Separates m f s t → steps (formula_of_lines (take n after)) ≤ steps f
  -- where two states were found alike, a formula entered before both askings is reached from both alike
  pub uniform : (s t f : ℕ) (p q p' q' : List Step) (r r' : Result (Option ℕ) ReachRefusal) (e₀ e₁ e₂ : List Call) → Stands h (alike s t (Ok true)) e₀ → Stands h (reach f s p p' r) e₁ → f < length (entries_held e₁) → Stands h (reach f t q q' r') e₂ → f < length (entries_held e₂) → ((r ≡ Ok None) ↔ (r' ≡ Ok None)) × ((n n' : ℕ) → r ≡ Ok (Some n) → r' ≡ Ok (Some n') → n ≡ n') × (length p ≡ length q → r ≡ r')

-- Whatever two systems stand side by side, and whatever calls were taken since the opening.
abbrev pub EveryHistoryIsLawful : Type 0
EveryHistoryIsLawful = (l r : Lts) → Limits l → Limits r → (φ : Phase) (h : List Call) → History (joined l r) φ h → Lawful (joined l r) h
