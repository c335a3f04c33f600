-- Actions by their numbers. Assumes nothing.
use Rattle.std.specs.Prelude.{◌≡◌, ℕ, ◌+◌, ◌<◌, ◌≤◌, ◌⊎◌, Result, MatchResult}
use Rattle.actions.specs.declared.action.Action.{Action}
use Rattle.actions.specs.declared.action.Action.TheVariants.{Silent, Receive, Send}
use Rattle.actions.specs.declared.action.NoAction.{NoAction}

-- 0 is silent, 1 to 26 receive the signals 0 to 25, and 27 to 52 send them.
abbrev pub number_of : Action → ℕ
number_of Silent = 0
number_of (Receive s) = 1 + s.number
number_of (Send s) = 27 + s.number

-- The result is the action with this number, or an error with a number that no action has.
abbrev pub Numbered : ℕ → Result Action NoAction → Type 0
Numbered n r = MatchResult r (λ a. number_of a ≡ n) (λ e. (e.0 ≡ n) × (52 < n))

-- a receives a signal, and b sends the same one.
abbrev pub Meets : ℕ → ℕ → Type 0
Meets a b = (1 ≤ a) × (a ≤ 26) × (b ≡ a + 26)

-- One receives and the other sends the same signal.
abbrev pub Partners : ℕ → ℕ → Type 0
Partners a b = Meets a b ⊎ Meets b a
