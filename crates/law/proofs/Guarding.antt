-- Answers that are refused where their arguments are too large, and else made of the one thing that is the case.
use Rattle.std.proofs.Common.{◌≡◌, ℕ, ◌<◌, ◌≤◌, true, false, T, ◌⊎◌, ◌↔◌, List, ◌++◌, length, take, drop, sym, refl, ap, ◌∙◌, inl, inr, arith}
use Rattle.std.proofs.lemmas.List.{length-take-le, take-append-drop}
use Rattle.lts.specs.Lts.{Lts}
use Rattle.formula.specs.declared.entry.Entry.{Entry}

-- At most one value has the property.
abbrev pub AtMostOne : {X : Type 0} → (X → Type 0) → Type 0
AtMostOne {X} P = (x y : X) → P x → P y → x ≡ y

pub truth_is_one : (A : Type 0) → AtMostOne (λ b. T b ↔ A)
truth_is_one A true true h g = refl
truth_is_one A true false h g = absurd (g.1 (h.0 tt))
truth_is_one A false true h g = absurd (h.1 (g.0 tt))
truth_is_one A false false h g = refl

pub parts_are_one : {X Y : Type 0} {p q : X × Y} → p ≡ q → (p.0 ≡ q.0) × (p.1 ≡ q.1)
parts_are_one e = (ap (λ x. x.0) e, ap (λ x. x.1) e)

-- Memory of which the first n places are written, and the others left.
pub written : {X : Type 0} (n : ℕ) (before after : List X) → n ≤ length before → length after ≡ length before → drop n after ≡ drop n before
    → (length (take n after) ≡ n) × (after ≡ take n after ++ drop n before)
written n before after l same left = (length-take-le n after (omega arith), sym (take-append-drop n after) ∙ ap (λ xs. take n after ++ xs) left)

-- Where Bad holds, x is the refusal, and where Good does, it is among the answers.
abbrev pub Guarded : {X : Type 0} → Type 0 → Type 0 → X → (X → Type 0) → X → Type 0
Guarded Bad Good refusal Answers x = (Bad × (x ≡ refusal)) ⊎ (Good × Answers x)

pub guarded_is_one : {X : Type 0} (Bad Good : Type 0) (refusal : X) (Answers : X → Type 0) → (Bad → Good → ⊥) → AtMostOne Answers → AtMostOne (Guarded Bad Good refusal Answers)
guarded_is_one Bad Good refusal Answers apart one x y (inl h) (inl g) = h.1 ∙ sym g.1
guarded_is_one Bad Good refusal Answers apart one x y (inl h) (inr g) = absurd (apart h.0 g.0)
guarded_is_one Bad Good refusal Answers apart one x y (inr h) (inl g) = absurd (apart g.0 h.0)
guarded_is_one Bad Good refusal Answers apart one x y (inr h) (inr g) = one x y h.1 g.1

-- x is what is made of something that has the property.
abbrev pub MadeOf : {O X : Type 0} → (O → Type 0) → (O → X) → X → Type 0
MadeOf {O} P make x = (o : O) × P o × (x ≡ make o)

pub made_is_one : {O X : Type 0} (P : O → Type 0) (make : O → X) → AtMostOne P → AtMostOne (MadeOf P make)
made_is_one P make one x y h g = h.2 ∙ ap make (one h.0 g.0 h.1 g.1) ∙ sym g.2

-- What is answered of formula f at state s.
abbrev pub Asked : {O X : Type 0} → Lts → List Entry → ℕ → ℕ → X → X → (O → Type 0) → (O → X) → X → Type 0
Asked m es f s noFormula noState P make = Guarded (length es ≤ f) (f < length es) noFormula (Guarded (m.states ≤ s) (s < m.states) noState (MadeOf P make))

module _ {O X : Type 0} (m : Lts) (es : List Entry) (f s : ℕ) (noFormula noState : X) (P : O → Type 0) (make : O → X) where
  pub asked_is_one : AtMostOne P → AtMostOne (Asked m es f s noFormula noState P make)
  asked_is_one one = guarded_is_one _ _ noFormula _ (λ x y. omega arith) (guarded_is_one _ _ noState _ (λ x y. omega arith) (made_is_one P make one))

  -- Where there is such a formula and such a state, nothing is refused.
  pub asked_answered : (x : X) → f < length es → s < m.states → Asked m es f s noFormula noState P make x → MadeOf P make x
  asked_answered x l k (inl h) = absurd (omega arith)
  asked_answered x l k (inr (g, inl h)) = absurd (omega arith)
  asked_answered x l k (inr (g, inr h)) = h.1

-- What is answered of two states.
abbrev pub Paired : {O X : Type 0} → Lts → ℕ → ℕ → X → (O → Type 0) → (O → X) → X → Type 0
Paired m s t noState P make = Guarded ((m.states ≤ s) ⊎ (m.states ≤ t)) ((s < m.states) × (t < m.states)) noState (MadeOf P make)

pub paired_is_one : {O X : Type 0} (m : Lts) (s t : ℕ) (noState : X) (P : O → Type 0) (make : O → X) → AtMostOne P → AtMostOne (Paired m s t noState P make)
paired_is_one m s t noState P make one = guarded_is_one _ _ noState _ (λ x y. omega arith) (made_is_one P make one)
