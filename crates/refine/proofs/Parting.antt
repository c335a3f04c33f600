-- Refined classes are those of bisimilarity, and the depth at which two states part says at which depths they agree.
use Rattle.std.proofs.Common.{◌≡◌, ℕ, zero, suc, ◌<◌, ◌↔◌, get_or, Some, None, Option, sym, refl, ap, arith}
use Rattle.lts.specs.Lts.{Lts}
use Rattle.hml.specs.Bisimilarity.{Agree, Bisimilar}
use Rattle.hml.specs.Distinguishing.{FirstApart}
use Rattle.hml.proofs.Agreement.{agree_sym, agree_trans, agree_below}
use Rattle.hml.proofs.Choosing.{first_apart_is_one}
use Rattle.hml.proofs.Deciding.{by_order}
use Rattle.hml.proofs.Resting.{AgreeRests, rests_bisimilar, bisimilar_agrees, bisimilar_sym}
use Rattle.pair.specs.Wide.{Wide}
use Rattle.pair.specs.Joining.{wide_closed}
use Rattle.refine.specs.Classes.{Refined}
use Rattle.refine.specs.Apart.{PartsAt}
use Rattle.refine.specs.declared.classes.Classes.{Classes}
use Rattle.refine.proofs.Naming.{same_agree, agree_same, class_low, name_names, names_itself}

module _ (m : Lts) (c : Classes) (h : Refined m c) where
  -- Agreement rests at the depth of the classes.
  pub refined_rests : AgreeRests m h.depth
  refined_rests s t ls lt x = same_agree m (suc h.depth) c.names h.rests s t ls lt (agree_same m h.depth c.names h.classed s t ls lt x)

  -- Bisimilar states are those with one name.
  pub one_name_bisimilar : Wide m → (s t : ℕ) → s < m.states → t < m.states → get_or c.names s 0 ≡ get_or c.names t 0 → Bisimilar m s t
  one_name_bisimilar wide s t ls lt e =
      rests_bisimilar m (wide_closed m wide) h.depth refined_rests s t ls lt (same_agree m h.depth c.names h.classed s t ls lt e)

  pub bisimilar_one_name : (s t : ℕ) → s < m.states → t < m.states → Bisimilar m s t → get_or c.names s 0 ≡ get_or c.names t 0
  bisimilar_one_name s t ls lt x = agree_same m h.depth c.names h.classed s t ls lt (bisimilar_agrees m s t x h.depth)

  -- The name of a state is a state that names itself, and is bisimilar to it.
  pub name_state : (s : ℕ) → s < m.states → get_or c.names s 0 < m.states
  name_state s l = omega (arith, class_low m h.depth c.names h.classed s l)

  pub name_own : (s : ℕ) → s < m.states → get_or c.names (get_or c.names s 0) 0 ≡ get_or c.names s 0
  name_own s l = names_itself m h.depth c.names h.classed (get_or c.names s 0) (name_state s l) (name_names m h.depth s (get_or c.names s 0) (h.classed s l))

  pub name_bisimilar : Wide m → (s : ℕ) → s < m.states → Bisimilar m s (get_or c.names s 0)
  name_bisimilar wide s l = one_name_bisimilar wide s (get_or c.names s 0) l (name_state s l) (sym (name_own s l))

-- The depth lies before the one at which two states part.
abbrev pub Before : ℕ → Option ℕ → Type 0
Before d None = Unit {0}
Before d (Some r) = d < r

module _ (m : Lts) where
  -- Two states agree to the depths before the one at which they part, and to no other.
  pub parts_agree : (s t : ℕ) (o : Option ℕ) → PartsAt m s t o → (d : ℕ) → Agree m d s t ↔ Before d o
  parts_agree s t None x d = (λ y. tt, λ y. bisimilar_agrees m s t x d)
  parts_agree s t (Some r) x d = (λ y. by_order d r (λ l. l) (λ l. absurd (x.0 (agree_below m r d s t l y))), x.1 d)

  -- They part at one depth only.
  pub parts_is_one : (s t : ℕ) (o p : Option ℕ) → PartsAt m s t o → PartsAt m s t p → o ≡ p
  parts_is_one s t None None x y = refl
  parts_is_one s t None (Some q) x y = absurd (y.0 (bisimilar_agrees m s t x q))
  parts_is_one s t (Some r) None x y = absurd (x.0 (bisimilar_agrees m s t y r))
  parts_is_one s t (Some r) (Some q) x y = ap Some (first_apart_is_one m r q s t x y)

  pub parts_sym : (s t : ℕ) (o : Option ℕ) → PartsAt m s t o → PartsAt m t s o
  parts_sym s t None x = bisimilar_sym m s t x
  parts_sym s t (Some r) x = (λ y. x.0 (agree_sym m r t s y), λ d l. agree_sym m d s t (x.1 d l))

  -- States that part are not bisimilar, and those that are not bisimilar part at a depth above 0.
  pub parts_unlike : (s t r : ℕ) → PartsAt m s t (Some r) → ¬ Bisimilar m s t
  parts_unlike s t r x y = x.0 (bisimilar_agrees m s t y r)

  pub parts_some : (s t r : ℕ) → PartsAt m s t (Some r) → (d : ℕ) × (r ≡ suc d) × FirstApart m (suc d) s t
  parts_some s t zero x = absurd (x.0 tt)
  parts_some s t (suc d) x = (d, refl, x)

  -- Bisimilar states part from others at the same depth.
  pub parts_moves : (s t u v r : ℕ) → Bisimilar m s u → Bisimilar m t v → FirstApart m r u v → FirstApart m r s t
  parts_moves s t u v r x y h = (
    λ z. h.0 (agree_trans m r u s v (agree_sym m r s u (bisimilar_agrees m s u x r)) (agree_trans m r s t v z (bisimilar_agrees m t v y r))),
    λ d l. agree_trans m d s u t (bisimilar_agrees m s u x d) (agree_trans m d u v t (h.1 d l) (agree_sym m d t v (bisimilar_agrees m t v y d))),
  )
