-- What a reader does with a whole text. Assumes nothing.
use Rattle.std.specs.Prelude.{◌≡◌, ℕ, List, [], min, Result, MatchResult}
use Rattle.hml.specs.Logic.{Formula}
use Rattle.grammar.specs.Order.{good}
use Rattle.grammar.specs.Verdict.{Verdict}
use Rattle.formula_text.specs.Listing.{listed}
use Rattle.formula_text.specs.Refusals.{refused}
use Rattle.formula_text.specs.Readers.{text, at, held}
use Rattle.formula_text.specs.declared.reader.Reader.{Reader}
use Rattle.formula_text.specs.declared.refusal.TextRefusal.{TextRefusal}

-- The reader has read nothing of the text, for a list of so many places.
pub record Unread (s : List ℕ) (places : ℕ) (r : Reader) : Type 0 where
  pub text : text r ≡ s
  pub place : at r ≡ 0
  pub entries : held r ≡ []
  pub begun : r.begun ≡ 0
  pub limit : r.limit ≡ min 128 places

-- The text is a formula, whose entries are held.
pub record Whole (s : List ℕ) (places : ℕ) (r : Reader) : Type 0 where
  pub formula : Formula
  pub verdict : Verdict (min 128 places) s (good formula)
  pub entries : held r ≡ listed [] formula

-- It is, or it is refused.
abbrev pub WholeRead : List ℕ → ℕ → Reader → Result (Unit {0}) TextRefusal → Type 0
WholeRead s places r result = MatchResult result (λ x. Whole s places r) (λ e. Verdict (min 128 places) s (refused e))
