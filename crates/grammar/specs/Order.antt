-- Refusals in byte order, for any grammar: an ordered list of tests on what a text begins with. Assumes nothing.
use Rattle.std.specs.Prelude.{◌≡◌, ℕ, suc, ◌<◌, ◌≤◌, ◌⊎◌, List, [], ◌∷◌, length, take}

-- What comes of reading: what was read, or a refusal by its number and its place.
pub data Out (F : Type 0) : Type 0 where
  good : F → Out F
  bad : ℕ → ℕ → Out F

-- A test: the number of its refusal, the place of its refusal by the byte's place, and what has to hold of a beginning.
pub record Test : Type 1 where
  pub number : ℕ
  pub place : ℕ → ℕ
  pub Keeps : List ℕ → Type 0

-- The beginning keeps every test.
abbrev pub Passes : List Test → List ℕ → Type 0
Passes [] w = Unit {0}
Passes (t ∷ ts) w = t.Keeps w × Passes ts w

-- The refusal is that of the first test that the beginning does not keep, where p is the place of its last byte.
abbrev pub First : {F : Type 0} → List Test → List ℕ → ℕ → Out F → Type 0
First [] w p o = ⊥
First (t ∷ ts) w p o = ((¬ t.Keeps w) × (o ≡ bad t.number (t.place p))) ⊎ (t.Keeps w × First ts w p o)

-- The beginnings of at most p bytes keep every test.
abbrev pub Passed : List Test → List ℕ → ℕ → Type 0
Passed ts s p = (q : ℕ) → q ≤ p → Passes ts (take q s)

-- What a text is read as: what it is, or `early` at its length where it is nothing, or the refusal of its shortest beginning that fails a test.
pub data Verdict {F : Type 0} (Is : List ℕ → F → Type 0) (early : ℕ) (ts : List Test) (s : List ℕ) : Out F → Type 0 where
  reads : {f : F} → Passed ts s (length s) → Is s f → Verdict Is early ts s (good f)
  ends : Passed ts s (length s) → ((f : F) → ¬ Is s f) → Verdict Is early ts s (bad early (length s))
  refused : {o : Out F} {p : ℕ} → p < length s → Passed ts s p → First ts (take (suc p) s) p o → Verdict Is early ts s o

-- The state after some bytes, by the state that each leads to.
abbrev pub run : {S : Type 0} → (S → ℕ → S) → S → List ℕ → S
run next σ [] = σ
run next σ (b ∷ w) = run next (next σ b) w

-- A reader that goes byte by byte: at a place, `checked` refuses the byte that led to a state or gives what comes after it, and `ending` ends the text.
pub record Machine (F : Type 0) : Type 1 where
  pub State : Type 0
  pub start : State
  pub next : State → ℕ → State
  pub ending : State → ℕ → Out F
  pub checked : State → ℕ → Out F → Out F

module _ {F : Type 0} (m : Machine F) where
  -- The state after the first bytes of a text.
  abbrev pub after : List ℕ → m.State
  after w = run m.next m.start w

  -- What comes of the bytes from place p on.
  abbrev pub walk : m.State → ℕ → List ℕ → Out F
  walk σ p [] = m.ending σ p
  walk σ p (b ∷ bs) = m.checked (m.next σ b) p (walk (m.next σ b) (suc p) bs)

  -- What comes of a text.
  abbrev pub read : List ℕ → Out F
  read s = walk m.start 0 s

-- The check of the last byte of w, at place p, is the tests': it passes where w passes them all, and else refuses by the first that fails.
abbrev pub Tested : {F : Type 0} → List Test → List ℕ → ℕ → (Out F → Out F) → Type 0
Tested {F} ts w p check = (Passes ts w × ((o : Out F) → check o ≡ o)) ⊎ ((x : Out F) × First ts w p x × ((o : Out F) → check o ≡ x))

-- What a machine has to show: it refuses as the tests do, and it ends a text as the grammar does.
pub record Fits {F : Type 0} (Is : List ℕ → F → Type 0) (early : ℕ) (ts : List Test) (m : Machine F) : Type 1 where
  pub empty : Passes ts []
  pub tested : (w : List ℕ) (p : ℕ) → Tested ts w p (m.checked (after m w) p)
  pub sound : (s : List ℕ) (f : F) (p : ℕ) → m.ending (after m s) p ≡ good f → Is s f
  pub complete : (s : List ℕ) (f : F) (p : ℕ) → Is s f → m.ending (after m s) p ≡ good f
  pub ended : (s : List ℕ) (p : ℕ) → ((f : F) × (m.ending (after m s) p ≡ good f)) ⊎ (m.ending (after m s) p ≡ bad early p)

-- What a machine that fits reads a text as is its verdict, and the verdict is what it reads.
abbrev pub Ordered : Type 1
Ordered =
    (F : Type 0) (Is : List ℕ → F → Type 0) (early : ℕ) (ts : List Test) (m : Machine F) → Fits Is early ts m
    → (s : List ℕ) (o : Out F) → (Verdict Is early ts s o → read m s ≡ o) × (read m s ≡ o → Verdict Is early ts s o)
