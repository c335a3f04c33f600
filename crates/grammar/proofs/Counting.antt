-- The machine counts the entries that begin and the brackets that are open. Assumes nothing.
use Rattle.std.proofs.Common.{◌≡◌, ℕ, suc, ◌+◌, ◌<◌, ◌≤◌, true, false, eqb, List, [], ◌∷◌, codes, refl, arith}
use Rattle.std.proofs.lemmas.Bool.{ne_eqb}
use Rattle.hml.specs.Logic.{Formula}
use Rattle.hml.specs.Logic.Formula.{tru, fls}
use Rattle.hml.specs.declared.line.Modality.{Modality}
use Rattle.hml.specs.declared.line.Modality.TheVariants.{May, Must}
use Rattle.grammar.specs.Grammar.{unary, ands, ors, modal_of, size}
use Rattle.grammar.specs.Verdict.{Spot, outside, inside, second, beginning, entries, times, depth_of}
use Rattle.grammar.specs.Machine.{Ctx, top, within, first, bar, lone, amp, under, want, half, act, hat, shut, State, await, have, dead}
use Rattle.grammar.specs.Machine.{done, joined, outer, leave, moves, next, run, start, Alive, begun, begun_at, depth, depth_at, Within}
use Rattle.grammar.proofs.Moves.{AllMoves, by_moves, alive_before, done_alive}

-- Where the byte after a state stands.
abbrev spot : State → Spot
spot (await want k) = outside
spot (await (half c) k) = second
spot (await (act m) k) = inside
spot (await (hat m) k) = inside
spot (await (shut m a) k) = inside
spot (have f k) = outside
spot dead = outside

-- What is counted after a whole unary phrase.
size_modal : (m : Modality) (a : ℕ) (f : Formula) → size (modal_of m a f) ≡ suc (size f)
size_modal May a f = refl
size_modal Must a f = refl

pub counts_done : (f : Formula) (k : Ctx unary) → (spot (done f k) ≡ outside) × (begun (done f k) ≡ size f + begun_at k) × (depth (done f k) ≡ depth_at k)
counts_done f (lone k) = (refl, refl, refl)
counts_done f (amp g k) = (refl, omega arith, refl)
counts_done f (under m a k) = let x = counts_done (modal_of m a f) k in (x.0, omega (arith, size_modal m a f, x.1), x.2)

-- It is within the limits where the phrase's entries and those around it are.
pub within_done : (limit : ℕ) (f : Formula) (k : Ctx unary) → size f + begun_at k ≤ limit → depth_at k ≤ 16 → Within limit (done f k)
within_done limit f k few flat = let x = counts_done f k in (done_alive f k, omega (arith, x.1), omega (arith, x.2))

-- What is counted around the or-phrase that an and-phrase ends.
pub counts_joined : (f : Formula) (k : Ctx ands) → (size (joined f k) + begun_at (outer k) ≡ size f + begun_at k) × (depth_at (outer k) ≡ depth_at k)
counts_joined f (first k) = (refl, refl)
counts_joined f (bar g k) = (omega arith, refl)

-- What is counted after the ) behind an or-phrase.
counts_leave : (f : Formula) (k : Ctx ors) → Alive (leave f k) → (spot (leave f k) ≡ outside) × (begun (leave f k) ≡ size f + begun_at k) × (suc (depth (leave f k)) ≡ depth_at k)
counts_leave f top h = absurd h
counts_leave f (within k) h = let x = counts_done f k in (x.0, x.1, omega (arith, x.2))

-- A small letter in an action counts for nothing.
counts_letter : (c : ℕ) → c < 26 → (v : List ℕ)
    → (beginning inside ((c + 97) ∷ v) ≡ beginning inside v) × (times (codes "(") ((c + 97) ∷ v) ≡ times (codes "(") v) × (times (codes ")") ((c + 97) ∷ v) ≡ times (codes ")") v)
counts_letter c l v = (rw (other 62 (omega arith), other 93 (omega arith)), rw (other 40 (omega arith)), rw (other 41 (omega arith)))
  where
    other : (b : ℕ) → b < 97 → eqb (c + 97) b ≡ false
    other b h = ne_eqb (c + 97) b (λ e. omega arith)

-- By the byte, the machine comes from a state to another, and counts as many entries and brackets as the bytes have.
abbrev Counts : State → ℕ → State → Type 0
Counts σ b τ =
    Alive τ → (v : List ℕ)
    → (beginning (spot σ) (b ∷ v) + begun σ ≡ beginning (spot τ) v + begun τ)
    × (times (codes "(") (b ∷ v) + depth σ + times (codes ")") v ≡ times (codes "(") v + depth τ + times (codes ")") (b ∷ v))

counts_moves : (σ : State) → AllMoves (Counts σ) (moves σ)
counts_moves (await want k) = omega arith
counts_moves (await (half true) k) = (λ h v. let x = counts_done tru k in rw x.0 (omega (arith, x.1, x.2)), tt)
counts_moves (await (half false) k) = (λ h v. let x = counts_done fls k in rw x.0 (omega (arith, x.1, x.2)), tt)
counts_moves (await (act m) k) = (λ c l h v. omega (arith, counts_letter c l v), omega arith)
counts_moves (await (hat m) k) = (λ c l h v. omega (arith, counts_letter c l v), omega arith)
counts_moves (await (shut May a) k) = omega arith
counts_moves (await (shut Must a) k) = omega arith
counts_moves (have f k) =
    let x = counts_joined f k in
    (omega arith, (omega arith, (omega (arith, x), (λ h v. let y = counts_leave (joined f k) (outer k) h in rw y.0 (omega (arith, x, y.1, y.2)), tt))))
counts_moves dead = tt

-- What the machine has counted after some bytes.
pub counts_run : (v : List ℕ) (σ : State) → Alive (run σ v) → (beginning (spot σ) v + begun σ ≡ begun (run σ v)) × (times (codes "(") v + depth σ ≡ times (codes ")") v + depth (run σ v))
counts_run [] σ h = (omega arith, omega arith)
counts_run (b ∷ v) σ h =
    let one = by_moves (Counts σ) (λ b h v. absurd h) (moves σ) (counts_moves σ) b (alive_before (next σ b) v h) v in
    let rest = counts_run v (next σ b) h in
    (omega (arith, one, rest), omega (arith, one, rest))

-- The entries that begin in some bytes, and the brackets that are open after them.
pub entries_begun : (w : List ℕ) → Alive (run start w) → entries w ≡ begun (run start w)
entries_begun w h = omega (arith, counts_run w start h)

pub depth_open : (w : List ℕ) → Alive (run start w) → depth_of w ≡ depth (run start w)
depth_open w h = omega (arith, counts_run w start h)
