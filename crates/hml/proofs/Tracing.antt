-- The two machines of the examples: they can do the same sequences of actions, and they are not bisimilar.
use Rattle.std.proofs.Common.{◌≡◌, ℕ, zero, suc, ◌⊎◌, List, [], ◌∷◌, get_or, Some, None, refl, subst₂, inl, inr, ⊎_elim}
use Rattle.lts.specs.Lts.{Lts, Way, Move}
use Rattle.hml.specs.Traces.{Trace}
use Rattle.hml.specs.Traces.Trace.{stop, step}
use Rattle.hml.specs.Examples.{coffee_and_tea, TracesDoNotDecide}
use Rattle.hml.proofs.Deciding.{same_move, none_moves}
use Rattle.hml.proofs.Working.{worked_hold}

-- The property holds of the action and the target of each move among some ways.
abbrev AllMoves : (ℕ → ℕ → Type 0) → List Way → Type 0
AllMoves P [] = Unit {0}
AllMoves P (None ∷ ws) = AllMoves P ws
AllMoves P (Some p ∷ ws) = P p.0 p.1 × AllMoves P ws

move_has : (P : ℕ → ℕ → Type 0) (ws : List Way) → AllMoves P ws → (k a t : ℕ) → get_or ws k None ≡ Some (a, t) → P a t
move_has P [] h k a t e = absurd (none_moves a t e)
move_has P (None ∷ ws) h zero a t e = absurd (none_moves a t e)
move_has P (None ∷ ws) h (suc k) a t e = move_has P ws h k a t e
move_has P (Some p ∷ ws) h zero a t e = let same = same_move p.0 p.1 a t refl e in subst₂ P same.0 same.1 h.0
move_has P (Some p ∷ ws) h (suc k) a t e = move_has P ws h.1 k a t e

-- How a sequence that s can do begins.
abbrev Begun : Lts → ℕ → List ℕ → Type 0
Begun m s [] = Unit {0}
Begun m s (a ∷ word) = (t : ℕ) × Move m s a t × Trace m t word

begun : (m : Lts) {s : ℕ} {word : List ℕ} → Trace m s word → Begun m s word
begun m stop = tt
begun m (step {t = t} x rest) = (t, x, rest)

-- What each move of s gives for the rest of a sequence holds of the sequence.
by_moves : (m : Lts) (s : ℕ) (word : List ℕ) (Q : ℕ → Type 0) → AllMoves (λ a t. Trace m t word → Q a) (m.ways s) → (a : ℕ) → Trace m s (a ∷ word) → Q a
by_moves m s word Q h a x = let y = begun m x in move_has (λ a t. Trace m t word → Q a) (m.ways s) h y.1.0 a y.0 y.1.1 y.2

abbrev Can : ℕ → List ℕ → Type 0
Can s word = Trace coffee_and_tea s word

-- What the first machine can do the second can, and one of its two states behind the coin can.
to_second : (word : List ℕ) → (Can 0 word → Can 2 word) × (Can 1 word → Can 3 word ⊎ Can 4 word)
to_second [] = (λ x. stop, λ x. inl stop)
to_second (a ∷ word) =
    let h = to_second word in (
      by_moves coffee_and_tea 0 word (λ b. Can 2 (b ∷ word)) (λ x. ⊎_elim (λ (y : Can 3 word). step (0, refl) y) (λ (y : Can 4 word). step (1, refl) y) (h.1 x), tt) a,
      by_moves coffee_and_tea 1 word (λ b. Can 3 (b ∷ word) ⊎ Can 4 (b ∷ word)) (λ x. inl (step (0, refl) (h.0 x)), (λ x. inr (step (0, refl) (h.0 x)), tt)) a,
    )

-- What the second can do the first can.
to_first : (word : List ℕ) → (Can 2 word → Can 0 word) × (Can 3 word → Can 1 word) × (Can 4 word → Can 1 word)
to_first [] = (λ x. stop, λ x. stop, λ x. stop)
to_first (a ∷ word) =
    let h = to_first word in (
      by_moves coffee_and_tea 2 word (λ b. Can 0 (b ∷ word)) (λ x. step (0, refl) (h.1 x), (λ x. step (0, refl) (h.2 x), tt)) a,
      by_moves coffee_and_tea 3 word (λ b. Can 1 (b ∷ word)) (λ x. step (0, refl) (h.0 x), tt) a,
      by_moves coffee_and_tea 4 word (λ b. Can 1 (b ∷ word)) (λ x. step (1, refl) (h.0 x), tt) a,
    )

pub traces_do_not_decide : TracesDoNotDecide
traces_do_not_decide = (λ word. ((to_second word).0, (to_first word).0), worked_hold.0.1)
