-- Each action has a text of its own. Assumes nothing.
use Rattle.std.proofs.Common.{◌≡◌, ℕ, ◌+◌, ◌<◌, [], ◌∷◌, arith}
use Rattle.std.proofs.lemmas.Bool.Decides.{nat_tests}
use Rattle.actions.specs.Text.{action_text}

-- How actions are written, by their kinds.
pub text_received : (s : ℕ) → s < 26 → action_text (1 + s) ≡ (s + 97) ∷ []
text_received s h = grind (arith, nat_tests)

pub text_sent : (s : ℕ) → action_text (27 + s) ≡ 94 ∷ (s + 97) ∷ []
text_sent s = grind (arith, nat_tests)

pub text_once : (a b : ℕ) → action_text a ≡ action_text b → a ≡ b
text_once a b e = grind (arith, nat_tests)
