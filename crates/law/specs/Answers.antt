-- What each call of the bench answers or refuses, and what memory then holds: by cases on the answer. Assumes nothing.
use Rattle.std.specs.Prelude.{◌≡◌, ℕ, suc, ◌+◌, ◌<◌, ◌≤◌, min, Bool, T, ◌⊎◌, ◌↔◌, List, length, take, drop, replicate, Some, None, Ok, Err, Option, Result, slice_index_or}
use Rattle.lts.specs.Lts.{Lts}
use Rattle.hml.specs.Logic.{Sat}
use Rattle.hml.specs.Bisimilarity.{Bisimilar}
use Rattle.formula.specs.Entries.{formula_at, Sound, SoundBelow, AllSound}
use Rattle.hml.specs.Runs.{Nearest, Never, Leads}
use Rattle.hml.specs.Distinguishing.{LinesFor}
use Rattle.formula.specs.declared.entry.Entry.{Entry}
use Rattle.formula.specs.declared.entry.Entry.TheVariants.{True}
use Rattle.hml.specs.declared.step.Step.{Step}
use Rattle.hml.specs.declared.line.Line.{Line}
use Rattle.hml.specs.declared.line.Modality.TheVariants.{Must}
use Rattle.law.specs.declared.refusals.EnterRefusal.{EnterRefusal}
use Rattle.law.specs.declared.refusals.EnterRefusal.TheVariants.{Empty, Unsound, Full}
use Rattle.law.specs.declared.refusals.RuleRefusal.{RuleRefusal}
use Rattle.law.specs.declared.refusals.RuleRefusal.TheVariants as rule'
use Rattle.law.specs.declared.refusals.ReachRefusal.{ReachRefusal}
use Rattle.law.specs.declared.refusals.ReachRefusal.TheVariants as reach'
use Rattle.law.specs.declared.refusals.AlikeRefusal.{AlikeRefusal}
use Rattle.law.specs.declared.refusals.AlikeRefusal.TheVariants as alike'
use Rattle.law.specs.declared.refusals.TellRefusal.{TellRefusal}
use Rattle.law.specs.declared.refusals.TellRefusal.TheVariants as tell'

-- Enter, where es are the entries held and list is handed in: the number of the last entry, or the first refusal that
-- applies.
abbrev pub Entered : List Entry → List Entry → Result ℕ EnterRefusal → Type 0
Entered es list (Ok n) = (1 ≤ length list) × AllSound list × (length es + length list ≤ 128) × (suc n ≡ length es + length list)
Entered es list (Err Empty) = length list ≡ 0
Entered es list (Err (Unsound i)) = (i < length list) × SoundBelow i list × (¬ Sound i (slice_index_or list i True))
Entered es list (Err Full) = (1 ≤ length list) × AllSound list × (128 < length es + length list)

-- Rule: whether formula f holds at state s.
abbrev pub Ruled : Lts → List Entry → ℕ → ℕ → Result Bool RuleRefusal → Type 0
Ruled m es f s (Ok b) = (f < length es) × (s < m.states) × (T b ↔ Sat m s (formula_at es f))
Ruled m es f s (Err rule'.NoFormula) = length es ≤ f
Ruled m es f s (Err rule'.NoState) = (f < length es) × (m.states ≤ s)

-- Reach: never, or the fewest moves from s to formula f, with the run in the path. Before and after are the path
-- memory at the call and at its return.
abbrev pub Reached : Lts → List Entry → ℕ → ℕ → List Step → List Step → Result (Option ℕ) ReachRefusal → Type 0
Reached m es f s before after (Ok None) = (f < length es) × (s < m.states) × Never m (formula_at es f) s × (after ≡ before)
Reached m es f s before after (Ok (Some n)) =
    (f < length es) × (s < m.states) × Nearest m (formula_at es f) s n × (n ≤ length before)
    × (length after ≡ length before) × Leads m (formula_at es f) s (take n after) × (drop n after ≡ drop n before)
Reached m es f s before after (Err reach'.NoFormula) = (length es ≤ f) × (after ≡ before)
Reached m es f s before after (Err reach'.NoState) = (f < length es) × (m.states ≤ s) × (after ≡ before)
Reached m es f s before after (Err reach'.PathShort) =
    (f < length es) × (s < m.states) × ((n : ℕ) × Nearest m (formula_at es f) s n × (length before < n)) × (after ≡ before)

-- Alike: whether s and t are bisimilar.
abbrev pub Compared : Lts → ℕ → ℕ → Result Bool AlikeRefusal → Type 0
Compared m s t (Ok b) = (s < m.states) × (t < m.states) × (T b ↔ Bisimilar m s t)
Compared m s t (Err alike'.NoState) = (m.states ≤ s) ⊎ (m.states ≤ t)

-- What every line becomes where the lines do not fit.
abbrev pub blank : Line
blank = record { modality = Must; action = 0; first = 0; count = 0 }

-- Tell: the number of lines of the distinguishing formula of s and t, which stand first in the memory. Before and after
-- are the line memory at the call and at its return.
abbrev pub Told : Lts → ℕ → ℕ → List Line → List Line → Result ℕ TellRefusal → Type 0
Told m s t before after (Ok n) =
    (s < m.states) × (t < m.states) × (n ≤ length before) × (n ≤ 4096)
    × (length after ≡ length before) × LinesFor m s t (take n after) × (drop n after ≡ drop n before)
Told m s t before after (Err tell'.NoState) = ((m.states ≤ s) ⊎ (m.states ≤ t)) × (after ≡ before)
Told m s t before after (Err tell'.Alike) = (s < m.states) × (t < m.states) × Bisimilar m s t × (after ≡ before)
Told m s t before after (Err tell'.TooLong) =
    (s < m.states) × (t < m.states) × ((ls : List Line) × LinesFor m s t ls × (min (length before) 4096 < length ls))
    × (after ≡ replicate (length before) blank)
