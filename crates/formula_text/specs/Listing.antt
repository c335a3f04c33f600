-- How a formula is written as entries. Assumes nothing.
use Rattle.std.specs.Prelude.{ℕ, ◌-◌, Bool, true, false, List, [], ◌∷◌, ◌++◌, length}
use Rattle.hml.specs.Logic.{Formula}
use Rattle.hml.specs.Logic.Formula.{tru, fls, both, either, may, must}
use Rattle.hml.specs.declared.line.Modality.{Modality}
use Rattle.hml.specs.declared.line.Modality.TheVariants.{May as MayBe, Must as MustBe}
use Rattle.formula.specs.declared.entry.Entry.{Entry}
use Rattle.formula.specs.declared.entry.Entry.TheVariants.{True, False, And, Or, May, Must}

-- The number of the last of some entries.
abbrev pub last_of : List Entry → ℕ
last_of es = length es - 1

-- The entries es, and behind them those of the formula: parts before wholes, left before right, so that its own is the last.
abbrev pub listed : List Entry → Formula → List Entry
listed es tru = es ++ True ∷ []
listed es fls = es ++ False ∷ []
listed es (both f g) = listed (listed es f) g ++ And (last_of (listed es f)) (last_of (listed (listed es f) g)) ∷ []
listed es (either f g) = listed (listed es f) g ++ Or (last_of (listed es f)) (last_of (listed (listed es f) g)) ∷ []
listed es (may a f) = listed es f ++ May a (last_of (listed es f)) ∷ []
listed es (must a f) = listed es f ++ Must a (last_of (listed es f)) ∷ []

-- The entry of a modality, an action and a part.
abbrev pub modal_entry : Modality → ℕ → ℕ → Entry
modal_entry MayBe a i = May a i
modal_entry MustBe a i = Must a i

-- The entry of a constant.
abbrev pub constant_entry : Bool → Entry
constant_entry true = True
constant_entry false = False
