-- Strong bisimilarity, and agreement to a depth. Assumes nothing.
use Rattle.std.specs.Prelude.{ℕ, zero, suc, Bool, T}
use Rattle.lts.specs.Lts.{Lts, Move}

-- Each move of s is matched by a move of t, by the same action, to a target that R relates.
abbrev pub Matched : Lts → (ℕ → ℕ → Type 0) → ℕ → ℕ → Type 0
Matched m R s t = (a u : ℕ) → Move m s a u → (v : ℕ) × Move m t a v × R u v

-- A relation in which each move of either is matched by the other. It has its values in Bool, since a contract
-- states facts of small types only; the states of a system are finitely many, so no relation on them is lost.
abbrev pub Bisimulation : Lts → (ℕ → ℕ → Bool) → Type 0
Bisimulation m R = (s t : ℕ) → T (R s t) → Matched m (λ u v. T (R u v)) s t × Matched m (λ u v. T (R v u)) t s

-- Some bisimulation relates s and t.
abbrev pub Bisimilar : Lts → ℕ → ℕ → Type 0
Bisimilar m s t = (R : ℕ → ℕ → Bool) × T (R s t) × Bisimulation m R

-- s and t agree to depth r: any two do to depth 0, and to one depth more if each move of either is matched, by the
-- same action, to a target that agrees to the depth before.
abbrev pub Agree : Lts → ℕ → ℕ → ℕ → Type 0
Agree m zero s t = Unit {0}
Agree m (suc r) s t = Matched m (λ u v. Agree m r u v) s t × Matched m (λ u v. Agree m r v u) t s
