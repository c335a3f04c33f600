-- A machine that reads formula text byte by byte: a state has what is pending, and each byte that may follow is a move. Assumes nothing.
use Rattle.std.specs.Prelude.{ℕ, suc, ◌+◌, ◌-◌, ◌≤◌, Bool, true, false, cond, ◌&&◌, List, [], ◌∷◌, drop, ◌==◌, nat_le, nat_lt}
use Rattle.hml.specs.Logic.{Formula}
use Rattle.hml.specs.Logic.Formula.{tru, fls, both, either}
use Rattle.hml.specs.declared.line.Modality.{Modality}
use Rattle.hml.specs.declared.line.Modality.TheVariants.{May, Must}
use Rattle.grammar.specs.Grammar.{Level, unary, ands, ors, modal_of, size}
use Rattle.grammar.specs.Order
use Rattle.grammar.specs.Order.{good, bad}
use Rattle.grammar.specs.Verdict.{Out}

-- What is pending around a phrase of a level that is being read.
pub data Ctx : Level → Type 0 where
  top : Ctx ors
  within : Ctx unary → Ctx ors  -- after (
  first : Ctx ors → Ctx ands
  bar : Formula → Ctx ors → Ctx ands  -- after f |
  lone : Ctx ands → Ctx unary
  amp : Formula → Ctx ands → Ctx unary  -- after f &
  under : Modality → ℕ → Ctx unary → Ctx unary  -- after <a> or [a]

-- What has to come next inside a unary phrase.
pub data Stage : Type 0 where
  want : Stage  -- its first byte
  half : Bool → Stage  -- the second letter of tt or ff
  act : Modality → Stage  -- an action, after < or [
  hat : Modality → Stage  -- a letter, after ^
  shut : Modality → ℕ → Stage  -- > or ]

-- A state: a stage of a unary phrase is awaited, an and-phrase has been read and may go on, or no text begins so.
pub data State : Type 0 where
  await : Stage → Ctx unary → State
  have : Formula → Ctx ands → State
  dead : State

-- The mark before an action: < of may, [ of must.
abbrev pub opener : Modality → ℕ
opener May = 60
opener Must = 91

-- The mark after an action: > of may, ] of must.
abbrev pub closer : Modality → ℕ
closer May = 62
closer Must = 93

-- The letter of a constant: t of true, f of false.
abbrev pub initial : Bool → ℕ
initial true = 116
initial false = 102

-- The formula of a constant.
abbrev pub named : Bool → Formula
named true = tru
named false = fls

-- The state after a whole unary phrase.
abbrev pub done : Formula → Ctx unary → State
done f (lone k) = have f k
done f (amp g k) = have (both g f) k
done f (under m a k) = done (modal_of m a f) k

-- The formula of the whole or-phrase that an and-phrase ends.
abbrev pub joined : Formula → Ctx ands → Formula
joined f (first k) = f
joined f (bar g k) = either g f

-- What is pending around that or-phrase.
abbrev pub outer : Ctx ands → Ctx ors
outer (first k) = k
outer (bar g k) = k

-- The state after a ) that follows a whole or-phrase.
abbrev pub leave : Formula → Ctx ors → State
leave f top = dead
leave f (within k) = done f k

-- A move: by one byte, or by any small letter by its number.
pub data Move : Type 0 where
  byte : ℕ → State → Move
  small : (ℕ → State) → Move

-- The moves of a state.
abbrev pub moves : State → List Move
moves (await want k) =
    byte 32 (await want k) ∷ byte 116 (await (half true) k) ∷ byte 102 (await (half false) k)
    ∷ byte 60 (await (act May) k) ∷ byte 91 (await (act Must) k) ∷ byte 40 (await want (lone (first (within k)))) ∷ []
moves (await (half w) k) = byte (initial w) (done (named w) k) ∷ []
moves (await (act m) k) =
    small (λ c. await (shut m (c + 1)) k) ∷ byte 32 (await (act m) k) ∷ byte 42 (await (shut m 0) k) ∷ byte 94 (await (hat m) k) ∷ []
moves (await (hat m) k) = small (λ c. await (shut m (c + 27)) k) ∷ byte 32 (await (hat m) k) ∷ []
moves (await (shut m a) k) = byte 32 (await (shut m a) k) ∷ byte (closer m) (await want (under m a k)) ∷ []
moves (have f k) =
    byte 32 (have f k) ∷ byte 38 (await want (amp f k)) ∷ byte 124 (await want (lone (bar (joined f k) (outer k))))
    ∷ byte 41 (leave (joined f k) (outer k)) ∷ []
moves dead = []

-- The state that a byte leads to by the first move that takes it.
abbrev pub pick : List Move → ℕ → State
pick [] b = dead
pick (byte c σ ∷ ms) b = cond (b == c) σ (pick ms b)
pick (small h ∷ ms) b = cond (nat_le 97 b && nat_le b 122) (h (b - 97)) (pick ms b)

-- The state that a byte leads to.
abbrev pub next : State → ℕ → State
next σ b = pick (moves σ) b

-- The state that some bytes lead to.
abbrev pub run : State → List ℕ → State
run σ w = Order.run next σ w

-- The state before any byte.
abbrev pub start : State
start = await want (lone (first top))

-- The state is not dead.
abbrev pub Alive : State → Type 0
Alive (await g k) = Unit {0}
Alive (have f k) = Unit {0}
Alive dead = ⊥

-- How many entries have begun around a phrase.
abbrev pub begun_at : {l : Level} → Ctx l → ℕ
begun_at top = 0
begun_at (within k) = begun_at k
begun_at (first k) = begun_at k
begun_at (bar f k) = suc (size f + begun_at k)
begun_at (lone k) = begun_at k
begun_at (amp f k) = suc (size f + begun_at k)
begun_at (under m a k) = suc (begun_at k)

-- How many round brackets are open around a phrase.
abbrev pub depth_at : {l : Level} → Ctx l → ℕ
depth_at top = 0
depth_at (within k) = suc (depth_at k)
depth_at (first k) = depth_at k
depth_at (bar f k) = depth_at k
depth_at (lone k) = depth_at k
depth_at (amp f k) = depth_at k
depth_at (under m a k) = depth_at k

-- How many entries have begun.
abbrev pub begun : State → ℕ
begun (await want k) = begun_at k
begun (await (half w) k) = suc (begun_at k)
begun (await (act m) k) = suc (begun_at k)
begun (await (hat m) k) = suc (begun_at k)
begun (await (shut m a) k) = suc (begun_at k)
begun (have f k) = size f + begun_at k
begun dead = 0

-- How many round brackets are open.
abbrev pub depth : State → ℕ
depth (await g k) = depth_at k
depth (have f k) = depth_at k
depth dead = 0

-- What comes of the end of the text at place p after a whole or-phrase.
abbrev pub whole : Formula → Ctx ors → ℕ → Out
whole f top p = good f
whole f (within k) p = bad 31 p

-- What comes of the end of the text at place p.
abbrev pub ending : State → ℕ → Out
ending (await g k) p = bad 31 p
ending (have f k) p = whole (joined f k) (outer k) p
ending dead p = bad 31 p

-- The refusal by a limit at the byte that led to a state, or what comes of the bytes after it.
abbrev pub limited : ℕ → State → ℕ → Out → Out
limited limit σ p o = cond (nat_lt limit (begun σ)) (bad 32 p) (cond (nat_lt 16 (depth σ)) (bad 33 p) o)

-- The refusal at the byte that led to a state, or what comes of the bytes after it.
abbrev pub checked : ℕ → State → ℕ → Out → Out
checked limit (await g k) p o = limited limit (await g k) p o
checked limit (have f k) p o = limited limit (have f k) p o
checked limit dead p o = bad 31 p

-- The machine of formula text.
abbrev pub machine : ℕ → Order.Machine Formula
machine limit = record { State = State; start = start; next = next; ending = ending; checked = checked limit }

-- What comes of the bytes from place p on.
abbrev pub walk : ℕ → State → ℕ → List ℕ → Out
walk limit σ p bs = Order.walk (machine limit) σ p bs

-- What comes of a text.
abbrev pub read : ℕ → List ℕ → Out
read limit s = Order.read (machine limit) s

-- What comes of the bytes of text s from place p on, in a state.
unfoldable pub out_at : ℕ → List ℕ → State → ℕ → Out
out_at limit s σ p = walk limit σ p (drop p s)

-- The state is not dead, and no limit is exceeded in it.
abbrev pub Within : ℕ → State → Type 0
Within limit σ = Alive σ × (begun σ ≤ limit) × (depth σ ≤ 16)
