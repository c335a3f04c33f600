-- Names of classes: a state has one name to each depth, states with one name agree, and a name stays one.
use Rattle.std.proofs.Common.{◌≡◌, ℕ, zero, suc, ◌<◌, ◌≤◌, List, get_or, replicate, sym, refl, subst, arith}
use Rattle.std.proofs.Math.Logic.{∥∥₁_elim}
use mathlib.Core.HLevel.{⊥_prop}
use Rattle.lts.specs.Lts.{Lts}
use Rattle.hml.specs.Bisimilarity.{Agree}
use Rattle.hml.proofs.Agreement.{agree_refl, agree_sym, agree_trans, agree_below, agree?}
use Rattle.hml.proofs.Deciding.{by_order, not_fails}
use Rattle.refine.specs.Classes.{Names, Classed}

module _ (m : Lts) (r : ℕ) where
  -- A name is no higher than its state.
  pub name_low : (s u : ℕ) → Names m r s u → u ≤ s
  name_low s u h = by_order s u (λ l. absurd (h.lowest s l (agree_refl m r s))) (λ l. l)

  -- A state that agrees with s has the name of s.
  pub name_moves : (s t u : ℕ) → Names m r s u → Agree m r s t → Names m r t u
  name_moves s t u h x = record {
    agrees = agree_trans m r t s u (agree_sym m r s t x) h.agrees;
    lowest = λ v l y. h.lowest v l (agree_trans m r s t v x y);
  }

  pub name_is_one : (s u v : ℕ) → Names m r s u → Names m r s v → u ≡ v
  name_is_one s u v h k = omega (arith, not_below u v k h.agrees, not_below v u h k.agrees)
    where
      not_below : (u v : ℕ) → Names m r s v → Agree m r s u → v ≤ u
      not_below u v h x = by_order u v (λ l. absurd (h.lowest u l x)) (λ l. l)

  -- A name names itself.
  pub name_names : (s u : ℕ) → Names m r s u → Names m r u u
  name_names s u h = name_moves s u u h h.agrees

  -- What names itself and agrees with s names s.
  pub names_agreeing : (s u : ℕ) → Names m r u u → Agree m r s u → Names m r s u
  names_agreeing s u h x = name_moves u s u h (agree_sym m r s u x)

  -- No state below a name agrees with it.
  pub lower_apart : (u v : ℕ) → Names m r u u → v < u → ¬ Agree m r u v
  lower_apart u v h = h.lowest v

  module _ (names : List ℕ) (classed : Classed m r names) where
    abbrev at : ℕ → ℕ
    at s = get_or names s 0

    pub same_agree : (s t : ℕ) → s < m.states → t < m.states → get_or names s 0 ≡ get_or names t 0 → Agree m r s t
    same_agree s t ls lt e =
        agree_trans m r s (at s) t (classed s ls).agrees
        (subst (λ u. Agree m r u t) (sym e) (agree_sym m r t (at t) (classed t lt).agrees))

    pub agree_same : (s t : ℕ) → s < m.states → t < m.states → Agree m r s t → get_or names s 0 ≡ get_or names t 0
    agree_same s t ls lt x = name_is_one t (at s) (at t) (name_moves s t (at s) (classed s ls) x) (classed t lt)

    pub names_itself : (u : ℕ) → u < m.states → Names m r u u → get_or names u 0 ≡ u
    names_itself u l h = name_is_one u (at u) u (classed u l) h

    pub itself_names : (u : ℕ) → u < m.states → get_or names u 0 ≡ u → Names m r u u
    itself_names u l e = subst (Names m r u) e (classed u l)

    pub class_low : (s : ℕ) → s < m.states → get_or names s 0 ≤ s
    class_low s l = name_low s (at s) (classed s l)

-- A state that names itself does so to every larger depth.
pub names_deeper : (m : Lts) (d r u : ℕ) → d ≤ r → Names m d u u → Names m r u u
names_deeper m d r u l h = record { agrees = agree_refl m r u; lowest = λ v k x. h.lowest v k (agree_below m d r u v l x) }

-- To depth 0 the name of every state is 0.
pub first_names : (m : Lts) (s : ℕ) → Names m 0 s 0
first_names m s = record { agrees = tt; lowest = λ v l. absurd (omega arith) }

pub zeros : (n i : ℕ) → ◌≡◌ {A = ℕ} (get_or (replicate n 0) i 0) 0
zeros zero i = refl
zeros (suc n) zero = refl
zeros (suc n) (suc i) = zeros n i

pub first_classed : (m : Lts) → Classed m 0 (replicate 2048 0)
first_classed m s l = subst (Names m 0 s) (sym (zeros 2048 s)) (first_names m s)

-- Agreement is decided, so what is only known to be a list of names is one.
pub classed_of : (m : Lts) (r : ℕ) (names : List ℕ) → ∥ Classed m r names ∥₁ → Classed m r names
classed_of m r names h s l = record {
  agrees = not_fails (agree? m r s (get_or names s 0)) (λ n. ∥∥₁_elim h ⊥_prop (λ k. n (k s l).agrees));
  lowest = λ v k x. ∥∥₁_elim h ⊥_prop (λ c. (c s l).lowest v k x);
}
