-- The number of each refusal, and its place where it is not 0. Assumes nothing.
use Rattle.std.specs.Prelude.{ℕ}
use Rattle.law.specs.declared.refusals.EnterRefusal.{EnterRefusal}
use Rattle.law.specs.declared.refusals.EnterRefusal.TheVariants.{Empty, Unsound, Full}
use Rattle.law.specs.declared.refusals.RuleRefusal.{RuleRefusal}
use Rattle.law.specs.declared.refusals.RuleRefusal.TheVariants as rule'
use Rattle.law.specs.declared.refusals.ReachRefusal.{ReachRefusal}
use Rattle.law.specs.declared.refusals.ReachRefusal.TheVariants as reach'
use Rattle.law.specs.declared.refusals.AlikeRefusal.{AlikeRefusal}
use Rattle.law.specs.declared.refusals.AlikeRefusal.TheVariants as alike'
use Rattle.law.specs.declared.refusals.TellRefusal.{TellRefusal}
use Rattle.law.specs.declared.refusals.TellRefusal.TheVariants as tell'

abbrev pub number_of_enter : EnterRefusal → ℕ
number_of_enter Empty = 1
number_of_enter (Unsound place) = 2
number_of_enter Full = 3

abbrev pub place_of_enter : EnterRefusal → ℕ
place_of_enter Empty = 0
place_of_enter (Unsound place) = place
place_of_enter Full = 0

abbrev pub number_of_rule : RuleRefusal → ℕ
number_of_rule rule'.NoFormula = 4
number_of_rule rule'.NoState = 5

abbrev pub number_of_reach : ReachRefusal → ℕ
number_of_reach reach'.NoFormula = 4
number_of_reach reach'.NoState = 5
number_of_reach reach'.PathShort = 6

abbrev pub number_of_alike : AlikeRefusal → ℕ
number_of_alike alike'.NoState = 5

abbrev pub number_of_tell : TellRefusal → ℕ
number_of_tell tell'.NoState = 5
number_of_tell tell'.Alike = 7
number_of_tell tell'.TooLong = 8

-- What is missing for reach as it is for rule, and for tell as it is for alike.
abbrev pub reach_for_rule : RuleRefusal → ReachRefusal
reach_for_rule rule'.NoFormula = reach'.NoFormula
reach_for_rule rule'.NoState = reach'.NoState

abbrev pub tell_for_alike : AlikeRefusal → TellRefusal
tell_for_alike alike'.NoState = tell'.NoState
