-- What formula text is read as, in the grammar's terms alone: nothing here is about a reader. Assumes nothing.
use Rattle.std.specs.Prelude.{ℕ, suc, ◌-◌, ◌≤◌, Bool, false, cond, ◌||◌, List, [], ◌∷◌, ◌++◌, codes, ◌==◌}
use Rattle.hml.specs.Logic.{Formula}
use Rattle.grammar.specs.Order
use Rattle.grammar.specs.Order.{Test}
use Rattle.grammar.specs.Grammar.{ors, Text}

-- The text is the formula.
abbrev pub Is : List ℕ → Formula → Type 0
Is s f = Text ors s f

-- Some text begins with these bytes.
abbrev pub Viable : List ℕ → Type 0
Viable w = (v : List ℕ) × (f : Formula) × Is (w ++ v) f

-- The byte is one of these.
abbrev pub among : List ℕ → ℕ → Bool
among [] b = false
among (c ∷ cs) b = b == c || among cs b

-- Where a byte stands: outside of an action, inside one (between < and >, or [ and ]), or second in tt or ff.
pub data Spot : Type 0 where
  outside inside second : Spot

-- How many entries begin in bytes of which the first stands at the spot: each at the first byte of its tt, ff, <, [, & or |.
abbrev pub beginning : Spot → List ℕ → ℕ
beginning q [] = 0
beginning outside (b ∷ w) =
    cond (among (codes "tf") b) (suc (beginning second w))
    (cond (among (codes "<[") b) (suc (beginning inside w))
    (cond (among (codes "&|") b) (suc (beginning outside w))
    (beginning outside w)))
beginning inside (b ∷ w) = cond (among (codes ">]") b) (beginning outside w) (beginning inside w)
beginning second (b ∷ w) = beginning outside w

-- How many entries begin in these bytes.
abbrev pub entries : List ℕ → ℕ
entries w = beginning outside w

-- How many of the bytes are among cs.
abbrev pub times : List ℕ → List ℕ → ℕ
times cs [] = 0
times cs (b ∷ w) = cond (among cs b) (suc (times cs w)) (times cs w)

-- How many round brackets are open after these bytes.
abbrev pub depth_of : List ℕ → ℕ
depth_of w = times (codes "(") w - times (codes ")") w

-- What has to hold of each beginning, in order: 31, some text begins so; 32, no more entries begin in it than the limit; 33, at most 16 round brackets are open.
abbrev pub tests : ℕ → List Test
tests limit =
    record { number = 31; place = λ p. p; Keeps = Viable }
    ∷ record { number = 32; place = λ p. p; Keeps = λ w. entries w ≤ limit }
    ∷ record { number = 33; place = λ p. p; Keeps = λ w. depth_of w ≤ 16 }
    ∷ []

-- A formula, or a refusal.
abbrev pub Out : Type 0
Out = Order.Out Formula

-- The formula, or the first refusal in byte order; 31 at the length where the text ends too soon.
abbrev pub Verdict : ℕ → List ℕ → Out → Type 0
Verdict limit s o = Order.Verdict Is 31 (tests limit) s o
