-- Climbing the tree of the separations from two names to a common one.
use Rattle.std.proofs.Common.{◌≡◌, ℕ, ◌<◌, ◌≤◌, min, max, sym, refl, ap, ◌∙◌, subst, arith}
use Rattle.lts.specs.Lts.{Lts}
use Rattle.hml.specs.Bisimilarity.{Agree}
use Rattle.hml.specs.Distinguishing.{FirstApart}
use Rattle.hml.proofs.Agreement.{agree_refl, agree_sym, agree_trans, agree_below}
use Rattle.hml.proofs.Deciding.{by_order}
use Rattle.refine.specs.Classes.{Refined, parting_at}
use Rattle.refine.specs.Climbs.{IsName}
use Rattle.refine.specs.declared.classes.Classes.{Classes}
use Rattle.refine.proofs.Naming.{name_names, names_deeper, names_itself}

-- From the names s and t two names are reached, of which `high` is no lower. They agree where s and t do, below the
-- least depth so far, and at that one s and t disagree.
pub record Climbed (m : Lts) (c : Classes) (s t high low least : ℕ) : Type 0 where
  pub order : low ≤ high
  pub upper : IsName m c high
  pub lower : IsName m c low
  pub apart : ¬ Agree m least s t
  pub forth : (d : ℕ) → d < least → Agree m d s t → Agree m d high low
  pub back : (d : ℕ) → d < least → Agree m d high low → Agree m d s t

module _ (m : Lts) (c : Classes) (h : Refined m c) where
  -- A name that is not the lower of two has parted from the other at its depth or before.
  pub branch_apart : (high low : ℕ) → IsName m c high → low < high → ¬ Agree m (parting_at c.partings high).depth high low
  branch_apart high low n l =
      let b = h.parted high (omega arith) n.0 n.1 in
      subst (λ d. ¬ Agree m d high low) (sym b.1) (b.3.apart.lowest low l)

  pub branch_lower : (high low : ℕ) → IsName m c high → low < high → (parting_at c.partings high).parent < high
  branch_lower high low n l = (h.parted high (omega arith) n.0 n.1).3.lower

  -- Its parent is a name, with which it agrees below its depth.
  pub branch_name : (high low : ℕ) → IsName m c high → low < high → IsName m c (parting_at c.partings high).parent
  branch_name high low n l =
      let b = h.parted high (omega arith) n.0 n.1 in
      let p = (parting_at c.partings high).parent in
      let lp : p < m.states = omega (arith, b.3.lower, n.0) in
      (lp, names_itself m h.depth c.names h.classed p lp (names_deeper m b.0 h.depth p (omega (arith, b.2)) (name_names m b.0 high p b.3.together)))

  pub branch_agrees : (high low d : ℕ) → IsName m c high → low < high → d < (parting_at c.partings high).depth → Agree m d high (parting_at c.partings high).parent
  branch_agrees high low d n l ld =
      let b = h.parted high (omega arith) n.0 n.1 in
      agree_below m d b.0 high (parting_at c.partings high).parent (omega (arith, ld, b.1)) b.3.together.agrees

  -- Two names, the higher one first or second.
  first_higher : (s t : ℕ) → IsName m c s → IsName m c t → t < s → Climbed m c s t s t (parting_at c.partings s).depth
  first_higher s t ns nt l = record {
    order = omega arith;
    upper = ns;
    lower = nt;
    apart = branch_apart s t ns l;
    forth = λ d ld x. x;
    back = λ d ld x. x;
  }

  second_higher : (s t : ℕ) → IsName m c s → IsName m c t → s < t → Climbed m c s t t s (parting_at c.partings t).depth
  second_higher s t ns nt l = record {
    order = omega arith;
    upper = nt;
    lower = ns;
    apart = λ x. branch_apart t s nt l (agree_sym m (parting_at c.partings t).depth s t x);
    forth = λ d ld x. agree_sym m d s t x;
    back = λ d ld x. agree_sym m d t s x;
  }

  module _ (s t : ℕ) where
    moved : (high low least high' low' least' : ℕ) → high ≡ high' → low ≡ low' → least ≡ least' → Climbed m c s t high low least → Climbed m c s t high' low' least'
    moved high low least high' low' least' e f g x =
        subst (λ k. Climbed m c s t k low' least') e (subst (λ k. Climbed m c s t high k least') f (subst (Climbed m c s t high low) g x))

    pub climbed_none : IsName m c s → IsName m c t → (s ≡ t → ⊥) → (high low least : ℕ) → high ≡ max s t → low ≡ min s t → least ≡ (parting_at c.partings high).depth → Climbed m c s t high low least
    climbed_none ns nt ne high low least e f g =
        by_order s t
        (λ l. let q : t ≡ high = omega arith in moved t s (parting_at c.partings t).depth high low least q (omega arith) (ap (λ k. (parting_at c.partings k).depth) q ∙ sym g) (second_higher s t ns nt l))
        (λ l. let q : s ≡ high = omega arith in moved s t (parting_at c.partings s).depth high low least q (omega arith) (ap (λ k. (parting_at c.partings k).depth) q ∙ sym g) (first_higher s t ns nt (omega (arith, ne))))

    -- One step: the higher name is left for its parent.
    module _ (high low least : ℕ) (x : Climbed m c s t high low least) (l : low < high) where
      p : ℕ
      p = (parting_at c.partings high).parent

      depth : ℕ
      depth = (parting_at c.partings high).depth

      step_forth : (d : ℕ) → d < least → d < depth → Agree m d s t → Agree m d p low
      unfolding p depth
      step_forth d ld lh y = agree_trans m d p high low (agree_sym m d high p (branch_agrees high low d x.upper l lh)) (x.forth d ld y)

      step_back : (d : ℕ) → d < least → d < depth → Agree m d p low → Agree m d s t
      unfolding p depth
      step_back d ld lh y = x.back d ld (agree_trans m d high p low (branch_agrees high low d x.upper l lh) y)

      step_apart : (least' : ℕ) → least' ≡ min least depth → ¬ Agree m least' s t
      unfolding depth
      step_apart least' e =
          by_order depth least
          (λ k. let q : depth ≡ least' = omega arith in subst (λ d. ¬ Agree m d s t) q (λ y. branch_apart high low x.upper l (x.forth depth k y)))
          (λ k. let q : least ≡ least' = omega arith in subst (λ d. ¬ Agree m d s t) q x.apart)

      pub climbed_more : (high' low' least' : ℕ) → high' ≡ max (parting_at c.partings high).parent low → low' ≡ min (parting_at c.partings high).parent low → least' ≡ min least (parting_at c.partings high).depth → Climbed m c s t high' low' least'
      unfolding p depth
      climbed_more high' low' least' e f g =
          by_order p low
          (λ k. moved low p least' high' low' least' (omega arith) (omega arith) refl (record {
            order = omega arith;
            upper = x.lower;
            lower = branch_name high low x.upper l;
            apart = step_apart least' g;
            forth = λ d ld y. agree_sym m d p low (step_forth d (omega arith) (omega arith) y);
            back = λ d ld y. step_back d (omega arith) (omega arith) (agree_sym m d low p y);
          }))
          (λ k. moved p low least' high' low' least' (omega arith) (omega arith) refl (record {
            order = k;
            upper = branch_name high low x.upper l;
            lower = x.lower;
            apart = step_apart least' g;
            forth = λ d ld y. step_forth d (omega arith) (omega arith) y;
            back = λ d ld y. step_back d (omega arith) (omega arith) y;
          }))

    -- Where the two meet, the least depth is the one at which s and t part.
    pub climbed_all : (high low least : ℕ) → Climbed m c s t high low least → high ≤ low → FirstApart m least s t
    climbed_all high low least x l =
        let q : high ≡ low = omega (arith, x.order) in
        (x.apart, λ d ld. x.back d ld (subst (Agree m d high) q (agree_refl m d high)))
