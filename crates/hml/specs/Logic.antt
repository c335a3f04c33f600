-- Hennessy-Milner logic without recursion. Assumes nothing.
use Rattle.std.specs.Prelude.{ℕ, suc, max, ◌⊎◌}
use Rattle.lts.specs.Lts.{Lts, Move}

pub data Formula : Type 0 where
  tru : Formula
  fls : Formula
  both : Formula → Formula → Formula
  either : Formula → Formula → Formula
  may : ℕ → Formula → Formula
  must : ℕ → Formula → Formula

-- State s satisfies the formula. May a f: some move by a leads to a state with f; must a f: every move by a does.
abbrev pub Sat : Lts → ℕ → Formula → Type 0
Sat m s tru = Unit {0}
Sat m s fls = ⊥
Sat m s (both f g) = Sat m s f × Sat m s g
Sat m s (either f g) = Sat m s f ⊎ Sat m s g
Sat m s (may a f) = (t : ℕ) × Move m s a t × Sat m t f
Sat m s (must a f) = (t : ℕ) → Move m s a t → Sat m t f

-- How deep the steps of a formula are nested.
abbrev pub steps : Formula → ℕ
steps tru = 0
steps fls = 0
steps (both f g) = max (steps f) (steps g)
steps (either f g) = max (steps f) (steps g)
steps (may a f) = suc (steps f)
steps (must a f) = suc (steps f)

-- The formula holds of just one of s and t.
abbrev pub Separates : Lts → Formula → ℕ → ℕ → Type 0
Separates m f s t = (Sat m s f × ¬ Sat m t f) ⊎ (¬ Sat m s f × Sat m t f)
