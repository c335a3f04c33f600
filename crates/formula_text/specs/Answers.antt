-- What comes of reading a text into a list of entries. Assumes nothing.
use Rattle.std.specs.Prelude.{◌≡◌, ℕ, ◌-◌, List, [], ◌++◌, length, min, replicate, Result, MatchResult}
use Rattle.hml.specs.Logic.{Formula}
use Rattle.formula.specs.Entries.{formula_at, AllSound}
use Rattle.formula.specs.declared.entry.Entry.{Entry}
use Rattle.formula.specs.declared.entry.Entry.TheVariants.{True}
use Rattle.grammar.specs.Grammar.{size}
use Rattle.grammar.specs.Order.{good}
use Rattle.grammar.specs.Verdict.{Verdict}
use Rattle.formula_text.specs.Listing.{listed}
use Rattle.formula_text.specs.Refusals.{refused}
use Rattle.formula_text.specs.declared.refusal.TextRefusal.{TextRefusal}

-- How many entries a formula may have: 128, and no more than the list has places.
abbrev pub limit_of : List Entry → ℕ
limit_of list = min 128 (length list)

-- The text is a formula, whose n entries stand first in the list; the places behind them hold true.
pub record Accepted (text : List ℕ) (before after : List Entry) (n : ℕ) : Type 0 where
  pub formula : Formula
  pub verdict : Verdict (limit_of before) text (good formula)
  pub count : n ≡ size formula
  pub list : after ≡ listed [] formula ++ replicate (length before - n) True
  pub sound : AllSound after
  pub means : formula_at after (n - 1) ≡ formula

-- The text is refused, and every place of the list holds true.
pub record Refused (text : List ℕ) (before after : List Entry) (e : TextRefusal) : Type 0 where
  pub verdict : Verdict (limit_of before) text (refused e)
  pub list : after ≡ replicate (length before) True

abbrev pub Answered : List ℕ → List Entry → List Entry → Result ℕ TextRefusal → Type 0
Answered text before after r = MatchResult r (Accepted text before after) (Refused text before after)
