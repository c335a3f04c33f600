-- The grammar of formula text: which bytes are which formula. Assumes nothing.
use Rattle.std.specs.Prelude.{ℕ, suc, ◌+◌, ◌<◌, List, [], ◌∷◌, ◌++◌, codes}
use Rattle.hml.specs.Logic.{Formula}
use Rattle.hml.specs.Logic.Formula.{tru, fls, both, either, may, must}
use Rattle.hml.specs.declared.line.Modality.{Modality}
use Rattle.hml.specs.declared.line.Modality.TheVariants.{May, Must}

-- The formula of a modality, an action and the formula under them.
abbrev pub modal_of : Modality → ℕ → Formula → Formula
modal_of May a f = may a f
modal_of Must a f = must a f

-- The number of the entries of a formula: one for each of its constructors.
abbrev pub size : Formula → ℕ
size tru = 1
size fls = 1
size (both f g) = suc (size f + size g)
size (either f g) = suc (size f + size g)
size (may a f) = suc (size f)
size (must a f) = suc (size f)

-- The bytes are a small letter by its number, 0 to 25, with any spaces before it.
pub data Letter : List ℕ → ℕ → Type 0 where
  letter : {c : ℕ} → c < 26 → Letter ((c + 97) ∷ []) c
  gap : {x : List ℕ} {c : ℕ} → Letter x c → Letter (codes " " ++ x) c

-- The bytes are an action by its number: * is 0, a to z are 1 to 26, ^a to ^z are 27 to 52.
pub data Act : List ℕ → ℕ → Type 0 where
  silent : Act (codes "*") 0
  receives : {x : List ℕ} {c : ℕ} → Letter x c → Act x (c + 1)
  sends : {x : List ℕ} {c : ℕ} → Letter x c → Act (codes "^" ++ x) (c + 27)
  before : {x : List ℕ} {a : ℕ} → Act x a → Act (codes " " ++ x) a
  after : {x : List ℕ} {a : ℕ} → Act x a → Act (x ++ codes " ") a

-- How tightly a phrase binds, the tightest first.
pub data Level : Type 0 where
  unary ands ors : Level

-- The bytes are a phrase of the level; spaces may stand before and after any phrase and any action, so anywhere but inside tt and ff.
pub data Text : Level → List ℕ → Formula → Type 0 where
  truth : Text unary (codes "tt") tru
  falsity : Text unary (codes "ff") fls
  diamond : {x u : List ℕ} {a : ℕ} {f : Formula} → Act x a → Text unary u f → Text unary (codes "<" ++ (x ++ (codes ">" ++ u))) (may a f)
  box : {x u : List ℕ} {a : ℕ} {f : Formula} → Act x a → Text unary u f → Text unary (codes "[" ++ (x ++ (codes "]" ++ u))) (must a f)
  bracketed : {u : List ℕ} {f : Formula} → Text ors u f → Text unary (codes "(" ++ (u ++ codes ")")) f
  single : {u : List ℕ} {f : Formula} → Text unary u f → Text ands u f
  conjunction : {u v : List ℕ} {f g : Formula} → Text ands u f → Text unary v g → Text ands (u ++ (codes "&" ++ v)) (both f g)
  conjunctions : {u : List ℕ} {f : Formula} → Text ands u f → Text ors u f
  disjunction : {u v : List ℕ} {f g : Formula} → Text ors u f → Text ands v g → Text ors (u ++ (codes "|" ++ v)) (either f g)
  led : {l : Level} {u : List ℕ} {f : Formula} → Text l u f → Text l (codes " " ++ u) f
  trailed : {l : Level} {u : List ℕ} {f : Formula} → Text l u f → Text l (u ++ codes " ") f
