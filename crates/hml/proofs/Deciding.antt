-- What can be decided: the first way with a property, the least number with one, and whether a formula holds.
use Rattle.std.proofs.Common.{◌≡◌, ℕ, zero, suc, ◌<◌, ◌≤◌, Bool, true, false, T, ◌⊎◌, List, [], ◌∷◌, get_or, Some, None, refl, ap, subst, inl, inr, ⊎_elim, arith}
use native.Mathlib.Decide.{ℕ_discrete}
use Rattle.std.proofs.lemmas.Bool.{cases_lt}
use Rattle.lts.specs.Lts.{Lts, Way, Move}
use Rattle.hml.specs.Logic.{Formula, Sat}
use Rattle.hml.specs.Logic.Formula.{tru, fls, both, either, may, must}

-- The first way of a list whose action and target have a property.
pub record First (P : ℕ → ℕ → Type 0) (ws : List Way) : Type 0 where
  pub place : ℕ
  pub action : ℕ
  pub target : ℕ
  pub way : get_or ws place None ≡ Some (action, target)
  pub has : P action target
  pub before : (j b v : ℕ) → j < place → get_or ws j None ≡ Some (b, v) → ¬ P b v

-- No way of the list has the property.
abbrev pub NoWay : (ℕ → ℕ → Type 0) → List Way → Type 0
NoWay P ws = (j b v : ℕ) → get_or ws j None ≡ Some (b, v) → ¬ P b v

-- The answer of a search through the list.
abbrev pub Searched : (ℕ → ℕ → Type 0) → List Way → Type 0
Searched P ws = First P ws ⊎ NoWay P ws

-- Two moves that are one way are one move.
pub same_move : {o : Way} (a t b v : ℕ) → o ≡ Some (a, t) → o ≡ Some (b, v) → (a ≡ b) × (t ≡ v)
same_move a t b v x y =
    let e : ◌≡◌ {A = ℕ × ℕ} (a, t) (b, v) = cc in
    (ap (λ p. p.0) e, ap (λ p. p.1) e)

-- A shut way is no move.
pub none_moves : (b v : ℕ) → ◌≡◌ {A = Way} None (Some (b, v)) → ⊥
none_moves b v e = let z : ◌≡◌ {A = ℕ} 0 1 = cc in omega arith

module _ (P : ℕ → ℕ → Type 0) where
  -- One way more in front, which lacks the property.
  unfoldable pub behind : (w : Way) (ws : List Way) → ((b v : ℕ) → w ≡ Some (b, v) → ¬ P b v) → Searched P ws → Searched P (w ∷ ws)
  behind w ws lacks (inl f) =
      inl (record {
        place = suc f.place;
        action = f.action;
        target = f.target;
        way = f.way;
        has = f.has;
        before = elim [ zero ↦ λ b v l e. lacks b v e | suc j ↦ λ b v l e. f.before j b v (omega arith) e ];
      })
  behind w ws lacks (inr none) = inr (elim [ zero ↦ λ b v e. lacks b v e | suc j ↦ λ b v e. none j b v e ])

  -- One move more in front, of which it is decided.
  unfoldable pub in_front : (a t : ℕ) (ws : List Way) → Dec (P a t) → Searched P ws → Searched P (Some (a, t) ∷ ws)
  unfolding behind
  in_front a t ws (yes p) rest = inl (record { place = 0; action = a; target = t; way = refl; has = p; before = λ j b v l e. absurd (omega arith) })
  in_front a t ws (no lacks) rest =
      behind (Some (a, t)) ws (λ b v e p. let s = same_move a t b v refl e in lacks (rw (s.0, s.1) p)) rest

  -- The first way with a decided property, or that there is none.
  unfoldable pub first_way : ((a t : ℕ) → Dec (P a t)) → (ws : List Way) → Searched P ws
  unfolding behind in_front
  first_way P? [] = inr (λ j b v e p. none_moves b v e)
  first_way P? (None ∷ ws) = behind None ws (λ b v e p. none_moves b v e) (first_way P? ws)
  first_way P? (Some p ∷ ws) = in_front p.0 p.1 ws (P? p.0 p.1) (first_way P? ws)

-- Two numbers are in one order or the other.
pub by_order : {C : Type 0} (i n : ℕ) → (i < n → C) → (n ≤ i → C) → C
by_order i n below above = ⊎_elim below above (cases_lt i n)

-- The first way with a property is one only.
pub first_is_one : (P : ℕ → ℕ → Type 0) (ws : List Way) (f g : First P ws) → (f.action ≡ g.action) × (f.target ≡ g.target)
first_is_one P ws f g = same_move f.action f.target g.action g.target f.way (subst (λ i. get_or ws i None ≡ Some (g.action, g.target)) same g.way)
  where
    not_before : (x y : First P ws) → x.place ≤ y.place
    not_before x y = by_order y.place x.place (λ l. absurd (x.before y.place y.action y.target l y.way y.has)) (λ l. l)

    same : g.place ≡ f.place
    same = omega (arith, not_before f g, not_before g f)

-- Decisions joined.
unfoldable pub not? : {A : Type 0} → Dec A → Dec (¬ A)
not? (yes a) = no (λ n. n a)
not? (no n) = yes n

unfoldable pub both? : {A B : Type 0} → Dec A → Dec B → Dec (A × B)
both? (yes a) (yes b) = yes (a, b)
both? (yes a) (no n) = no (λ p. n p.1)
both? (no n) d = no (λ p. n p.0)

unfoldable pub either? : {A B : Type 0} → Dec A → Dec B → Dec (A ⊎ B)
either? (yes a) d = yes (inl a)
either? (no n) (yes b) = yes (inr b)
either? (no n) (no k) = no (λ s. ⊎_elim n k s)

unfoldable pub implies? : {A B : Type 0} → Dec A → Dec B → Dec (A → B)
implies? (yes a) (yes b) = yes (λ x. b)
implies? (yes a) (no n) = no (λ f. n (f a))
implies? (no n) d = yes (λ a. absurd (n a))

-- The answer of a decision as a test.
unfoldable pub answer : {A : Type 0} → Dec A → Bool
answer (yes a) = true
answer (no n) = false

pub answer_holds : {A : Type 0} (d : Dec A) → T (answer d) → A
unfolding answer
answer_holds (yes a) h = a
answer_holds (no n) h = absurd h

pub answer_passes : {A : Type 0} (d : Dec A) → A → T (answer d)
unfolding answer
answer_passes (yes a) h = tt
answer_passes (no n) h = n h

-- What is decided and does not fail holds.
pub not_fails : {A : Type 0} → Dec A → ¬ ¬ A → A
not_fails (yes a) h = a
not_fails (no n) h = absurd (h n)

-- Whether some move of s by a, or every one, leads to a state with a decided property.
module _ (m : Lts) (s a : ℕ) (Q : ℕ → Type 0) (Q? : (t : ℕ) → Dec (Q t)) where
  unfoldable pub some_move? : Dec ((t : ℕ) × Move m s a t × Q t)
  unfolding both? first_way
  some_move? = go (first_way P (λ b v. both? (ℕ_discrete b a) (Q? v)) (m.ways s))
    where
      P : ℕ → ℕ → Type 0
      P b v = (b ≡ a) × Q v

      go : Searched P (m.ways s) → Dec ((t : ℕ) × Move m s a t × Q t)
      go (inl f) = yes (f.target, (f.place, subst (λ b. get_or (m.ways s) f.place None ≡ Some (b, f.target)) f.has.0 f.way), f.has.1)
      go (inr none) = no (λ h. none h.1.0 a h.0 h.1.1 (refl, h.2))

unfoldable pub every_move? : (m : Lts) (s a : ℕ) (Q : ℕ → Type 0) → ((t : ℕ) → Dec (Q t)) → Dec ((t : ℕ) → Move m s a t → Q t)
unfolding some_move? not?
every_move? m s a Q Q? = go (some_move? m s a (λ t. ¬ Q t) (λ t. not? (Q? t)))
  where
    go : Dec ((t : ℕ) × Move m s a t × ¬ Q t) → Dec ((t : ℕ) → Move m s a t → Q t)
    go (yes h) = no (λ every. h.2 (every h.0 h.1))
    go (no none) = yes (λ t x. not_fails (Q? t) (λ n. none (t, x, n)))

-- Whether a formula holds of a state.
unfoldable pub sat? : (m : Lts) (s : ℕ) (f : Formula) → Dec (Sat m s f)
unfolding both? either? some_move? every_move?
sat? m s tru = yes tt
sat? m s fls = no (λ h. h)
sat? m s (both f g) = both? (sat? m s f) (sat? m s g)
sat? m s (either f g) = either? (sat? m s f) (sat? m s g)
sat? m s (may a f) = some_move? m s a (λ t. Sat m t f) (λ t. sat? m t f)
sat? m s (must a f) = every_move? m s a (λ t. Sat m t f) (λ t. sat? m t f)

-- One number more below which each has the property.
pub below_suc : (P : ℕ → Type 0) (n : ℕ) → ((i : ℕ) → i < n → P i) → P n → (i : ℕ) → i < suc n → P i
below_suc P n h p i l = by_order i n (h i) (λ g. let e : n ≡ i = omega arith in subst P e p)

-- n is the least number with the property.
abbrev pub Least : (ℕ → Type 0) → ℕ → Type 0
Least P n = P n × ((k : ℕ) → P k → n ≤ k)

pub least_is_one : (P : ℕ → Type 0) (n k : ℕ) → Least P n → Least P k → n ≡ k
least_is_one P n k x y = omega (arith, x.1 k y.0, y.1 n x.0)

-- The least number with the property, if one below r has it.
abbrev pub LeastBelow : (ℕ → Type 0) → ℕ → Type 0
LeastBelow P r = ((n : ℕ) × (n < r) × Least P n) ⊎ ((k : ℕ) → k < r → ¬ P k)

module _ (P : ℕ → Type 0) (P? : (n : ℕ) → Dec (P n)) where
  unfoldable pub least_below : (r : ℕ) → LeastBelow P r
  least_below zero = inr (λ k l. absurd (omega arith))
  least_below (suc r) = go (least_below r) (P? r)
    where
      go : LeastBelow P r → Dec (P r) → LeastBelow P (suc r)
      go (inl h) d = inl (h.0, omega (arith, h.1), h.2)
      go (inr none) (yes p) = inl (r, omega arith, (p, λ k q. by_order k r (λ l. absurd (none k l q)) (λ l. l)))
      go (inr none) (no lacks) = inr (below_suc (λ k. ¬ P k) r none lacks)

  unfoldable pub least : (r : ℕ) → P r → (n : ℕ) × Least P n
  unfolding least_below
  least r p = go (least_below (suc r))
    where
      go : LeastBelow P (suc r) → (n : ℕ) × Least P n
      go (inl h) = (h.0, h.2)
      go (inr none) = absurd (none r (omega arith) p)

-- Whether each number below n has the property.
unfoldable pub all_below? : (P : ℕ → Type 0) → ((i : ℕ) → Dec (P i)) → (n : ℕ) → Dec ((i : ℕ) → i < n → P i)
unfolding least_below not?
all_below? P P? n = go (least_below (λ i. ¬ P i) (λ i. not? (P? i)) n)
  where
    go : LeastBelow (λ i. ¬ P i) n → Dec ((i : ℕ) → i < n → P i)
    go (inl x) = no (λ h. x.2.0 (h x.0 x.1))
    go (inr none) = yes (λ i l. not_fails (P? i) (none i l))
