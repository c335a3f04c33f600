-- The distinguishing formula that is told of two states that are not bisimilar, line by line. Assumes nothing.
use Rattle.std.specs.Prelude.{◌≡◌, ℕ, suc, ◌+◌, ◌-◌, ◌<◌, cond, List, [], ◌∷◌, ◌++◌, map, length, take, drop, Some, None, ◌==◌, slice_index_or}
use Rattle.lts.specs.Lts.{Lts, Way, Move, way_at}
use Rattle.hml.specs.Logic.{Formula}
use Rattle.hml.specs.Logic.Formula.{tru, fls, both, either, may, must}
use Rattle.hml.specs.Bisimilarity.{Agree}
use Rattle.hml.specs.declared.line.Modality.{Modality}
use Rattle.hml.specs.declared.line.Modality.TheVariants.{May, Must}
use Rattle.hml.specs.declared.line.Line.{Line}

-- The targets of the moves by a among some ways, in their order.
abbrev pub targets : ℕ → List Way → List ℕ
targets a [] = []
targets a (None ∷ ws) = targets a ws
targets a (Some p ∷ ws) = cond (p.0 == a) (p.1 ∷ targets a ws) (targets a ws)

-- r is the least depth to which s and t do not agree.
abbrev pub FirstApart : Lts → ℕ → ℕ → ℕ → Type 0
FirstApart m r s t = (¬ Agree m r s t) × ((d : ℕ) → d < r → Agree m d s t)

-- Way k of s is a move by a to u that no move of t by a matches to depth d.
abbrev pub Unmatched : Lts → ℕ → ℕ → ℕ → ℕ → ℕ → ℕ → Type 0
Unmatched m d s t k a u = (way_at m s k ≡ Some (a, u)) × ((v : ℕ) → Move m t a v → ¬ Agree m d u v)

-- It is such a way, and no earlier one is.
abbrev pub FirstUnmatched : Lts → ℕ → ℕ → ℕ → ℕ → ℕ → ℕ → Type 0
FirstUnmatched m d s t k a u = Unmatched m d s t k a u × ((j b v : ℕ) → j < k → ¬ Unmatched m d s t j b v)

-- What the line of the pair (s, t) is: a modality, an action, and the pairs of its children in order. With d + 1 the
-- least depth to which the two do not agree: by the first way of s that t does not match to depth d, and where there
-- is none, by the first way of t that s does not match.
pub data Chosen (m : Lts) (s t : ℕ) : Modality → ℕ → List (ℕ × ℕ) → Type 0 where
  by_may : (d k a u : ℕ) → FirstApart m (suc d) s t → FirstUnmatched m d s t k a u → Chosen m s t May a (map (λ v. (u, v)) (targets a (m.ways t)))
  by_must : (d k a v : ℕ) → FirstApart m (suc d) s t → ((j b w : ℕ) → ¬ Unmatched m d s t j b w) → FirstUnmatched m d t s k a v → Chosen m s t Must a (map (λ u. (u, v)) (targets a (m.ways s)))

-- The line of a pair, where `given` lines are given out before its children: first is 0 where there are none.
abbrev pub line_of : Modality → ℕ → ℕ → ℕ → Line
line_of o a given count = record { modality = o; action = a; first = cond (count == 0) 0 given; count = count }

-- The lines of the pairs that wait, in line order, where `given` lines are given out already. The children of a pair
-- go behind all of these.
pub data Written (m : Lts) : ℕ → List (ℕ × ℕ) → List Line → Type 0 where
  none : {given : ℕ} → Written m given [] []
  line : {given s t a : ℕ} {waiting children : List (ℕ × ℕ)} {o : Modality} {ls : List Line} → Chosen m s t o a children → Written m (given + length children) (waiting ++ children) ls → Written m given ((s, t) ∷ waiting) (line_of o a given (length children) ∷ ls)

-- The lines that are told of (s, t).
abbrev pub LinesFor : Lts → ℕ → ℕ → List Line → Type 0
LinesFor m s t ls = Written m 1 ((s, t) ∷ []) ls

-- The first formula and the others joined by and, grouping left.
abbrev pub all_from : Formula → List Formula → Formula
all_from f [] = f
all_from f (g ∷ gs) = all_from (both f g) gs

-- All of the formulas; tru of none.
abbrev pub all : List Formula → Formula
all [] = tru
all (f ∷ fs) = all_from f fs

-- The first formula and the others joined by or, grouping left.
abbrev pub any_from : Formula → List Formula → Formula
any_from f [] = f
any_from f (g ∷ gs) = any_from (either f g) gs

-- Any of the formulas; fls of none.
abbrev pub any : List Formula → Formula
any [] = fls
any (f ∷ fs) = any_from f fs

-- May a is followed by all the lines counted, must a by any of them.
abbrev pub modal : Modality → ℕ → List Formula → Formula
modal May a fs = may a (all fs)
modal Must a fs = must a (any fs)

-- The formulas of lines of which the first stands at place `at`. Children stand behind their line.
abbrev pub lines_from : ℕ → List Line → List Formula
lines_from at [] = []
lines_from at (l ∷ ls) =
    let fs = lines_from (suc at) ls in
    modal l.modality l.action (take l.count (drop (l.first - suc at) fs)) ∷ fs

-- The formula that the lines stand for: that of line 0.
abbrev pub formula_of_lines : List Line → Formula
formula_of_lines ls = slice_index_or (lines_from 0 ls) 0 tru
