-- The moves of the machine, and its runs. Assumes nothing.
use Rattle.std.proofs.Common.{◌≡◌, ℕ, ◌+◌, ◌-◌, ◌<◌, true, ◌&&◌, eqb, leb, List, [], ◌∷◌, drop, sym, refl, ap, ◌∙◌, subst, arith}
use Rattle.std.proofs.lemmas.Bool.{eqb-true, leb-true, le-leb, and_parts, and_from, cond-true, cond_both}
use Rattle.hml.specs.Logic.{Formula}
use Rattle.hml.specs.declared.line.Modality.{Modality}
use Rattle.grammar.specs.Grammar.{unary, modal_of}
use Rattle.grammar.specs.Machine.{Ctx, lone, amp, under, act, hat, shut, State, await, have, dead, Move, byte, small, moves, pick, next, run, done, Alive}

-- The property holds of each byte and state of some moves.
abbrev pub AllMoves : (ℕ → State → Type 0) → List Move → Type 0
AllMoves P [] = Unit {0}
AllMoves P (byte c σ ∷ ms) = P c σ × AllMoves P ms
AllMoves P (small h ∷ ms) = ((c : ℕ) → c < 26 → P (c + 97) (h c)) × AllMoves P ms

-- What holds of each move, and of every byte where there is none, holds of the state that a byte leads to.
pub by_moves : (P : ℕ → State → Type 0) → ((b : ℕ) → P b dead) → (ms : List Move) → AllMoves P ms → (b : ℕ) → P b (pick ms b)
by_moves P none [] h b = none b
by_moves P none (byte c σ ∷ ms) h b = cond_both (eqb b c) σ (pick ms b) (P b) (λ e. subst (λ i. P i σ) (sym (eqb-true b c e)) h.0) (λ e. by_moves P none ms h.1 b)
by_moves P none (small g ∷ ms) h b = cond_both (leb 97 b && leb b 122) (g (b - 97)) (pick ms b) (P b) letter (λ e. by_moves P none ms h.1 b)
  where
    letter : (leb 97 b && leb b 122) ≡ true → P b (g (b - 97))
    letter e =
        let parts = and_parts (leb 97 b) (leb b 122) e in
        let low = leb-true 97 b parts.0 in
        let high = leb-true b 122 parts.1 in
        let same : b - 97 + 97 ≡ b = omega arith in
        subst (λ i. P i (g (b - 97))) same (h.0 (b - 97) (omega arith))

-- What follows from what holds of each move holds of each.
all_weaker : (P Q : ℕ → State → Type 0) → ((b : ℕ) (σ : State) → P b σ → Q b σ) → (ms : List Move) → AllMoves P ms → AllMoves Q ms
all_weaker P Q f [] h = tt
all_weaker P Q f (byte c σ ∷ ms) h = (f c σ h.0, all_weaker P Q f ms h.1)
all_weaker P Q f (small g ∷ ms) h = (λ c l. f (c + 97) (g c) (h.0 c l), all_weaker P Q f ms h.1)

-- A byte that is no move's leads nowhere.
pub no_move : (σ : State) (b : ℕ) → AllMoves (λ c τ. ¬ (b ≡ c)) (moves σ) → next σ b ≡ dead
no_move σ b h = by_moves (λ c τ. b ≡ c → τ ≡ dead) (λ c e. refl) (moves σ) (all_weaker (λ c τ. ¬ (b ≡ c)) (λ c τ. b ≡ c → τ ≡ dead) (λ c τ n e. absurd (n e)) (moves σ) h) b refl

-- The move by a small letter.
pick_small : (h : ℕ → State) (ms : List Move) (c : ℕ) → c < 26 → pick (small h ∷ ms) (c + 97) ≡ h c
pick_small h ms c l =
    let low = le-leb 97 (c + 97) (omega arith) in
    let high = le-leb (c + 97) 122 (omega arith) in
    let same : c + 97 - 97 ≡ c = omega arith in
    cond-true (leb 97 (c + 97) && leb (c + 97) 122) (h (c + 97 - 97)) (pick ms (c + 97)) (and_from _ _ low high) ∙ ap h same

-- The letter of an action that receives.
pub next_receives : (m : Modality) (k : Ctx unary) (c : ℕ) → c < 26 → next (await (act m) k) (c + 97) ≡ await (shut m (c + 1)) k
next_receives m k = pick_small (λ c. await (shut m (c + 1)) k) (drop 1 (moves (await (act m) k)))

-- The letter of an action that sends.
pub next_sends : (m : Modality) (k : Ctx unary) (c : ℕ) → c < 26 → next (await (hat m) k) (c + 97) ≡ await (shut m (c + 27)) k
next_sends m k = pick_small (λ c. await (shut m (c + 27)) k) (drop 1 (moves (await (hat m) k)))

-- Once no text begins so, none ever does.
pub run_dead : (w : List ℕ) → run dead w ≡ dead
run_dead [] = refl
run_dead (b ∷ w) = run_dead w

-- A state from which a run leads to one that goes on goes on itself.
pub alive_before : (σ : State) (w : List ℕ) → Alive (run σ w) → Alive σ
alive_before (await g k) w h = tt
alive_before (have f k) w h = tt
alive_before dead w h = subst Alive (run_dead w) h

-- After a whole unary phrase the machine goes on.
pub done_alive : (f : Formula) (k : Ctx unary) → Alive (done f k)
done_alive f (lone k) = tt
done_alive f (amp g k) = tt
done_alive f (under m a k) = done_alive (modal_of m a f) k

-- Spaces may follow it.
pub done_space : (f : Formula) (k : Ctx unary) → next (done f k) 32 ≡ done f k
done_space f (lone k) = refl
done_space f (amp g k) = refl
done_space f (under m a k) = done_space (modal_of m a f) k
