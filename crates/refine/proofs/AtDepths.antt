-- The names of classes to any depth, from refined classes and the tree of their separations.
use Rattle.std.proofs.Common.{◌≡◌, ℕ, suc, ◌<◌, ◌≤◌, List, get_or, sym, ap, ◌∙◌, subst, arith}
use Rattle.lts.specs.Lts.{Lts}
use Rattle.hml.proofs.Agreement.{agree_refl, agree_sym}
use Rattle.hml.proofs.Deciding.{by_order}
use Rattle.hml.proofs.Resting.{bisimilar_agrees}
use Rattle.pair.specs.Wide.{Wide}
use Rattle.refine.specs.Classes.{Names, Refined, parting_at}
use Rattle.refine.specs.Climbs.{IsName}
use Rattle.refine.specs.declared.classes.Classes.{Classes}
use Rattle.refine.proofs.Naming.{class_low, name_moves, names_deeper}
use Rattle.refine.proofs.Climbing.{branch_lower, branch_agrees}
use Rattle.refine.proofs.Parting.{name_bisimilar}

module _ (m : Lts) (wide : Wide m) (c : Classes) (refined : Refined m c) where
  -- To any depth, a state has the name of its name.
  named_by : (r s x : ℕ) → s < m.states → Names m r (get_or c.names s 0) x → Names m r s x
  named_by r s x l h =
      let u = get_or c.names s 0 in
      name_moves m r u s x h (agree_sym m r s u (bisimilar_agrees m s u (name_bisimilar m c refined wide s l) r))

  -- A state that its own list does not place lower is a name.
  is_name : (s : ℕ) → s < m.states → s ≤ get_or c.names s 0 → IsName m c s
  is_name s l h = (l, omega (arith, class_low m refined.depth c.names refined.classed s l))

  -- From the depth at which a name parted, it names itself.
  named_itself : (r u : ℕ) → 0 < u → IsName m c u → (parting_at c.partings u).depth ≤ r → Names m r u u
  named_itself r u z n h =
      let p = refined.parted u z n.0 n.1 in
      names_deeper m (suc p.0) r u (omega (arith, p.1)) p.3.apart

  -- Before that depth it has the name of its parent.
  named_by_parent : (r u x : ℕ) → 0 < u → IsName m c u → r < (parting_at c.partings u).depth → Names m r (parting_at c.partings u).parent x → Names m r u x
  named_by_parent r u x z n h k =
      let w = (parting_at c.partings u).parent in
      name_moves m r w u x k (agree_sym m r u w (branch_agrees m c refined u 0 r n z h))

  zero_names : (r : ℕ) → Names m r 0 0
  zero_names r = record { agrees = agree_refl m r 0; lowest = λ v l. absurd (omega arith) }

  -- The name of state s, from the names of the lower states: by its leader v, x is what is written for it.
  pub next_name :
      (r s v x : ℕ) (names : List ℕ)
      → (get_or c.names s 0 < s → v ≡ get_or c.names s 0)
      → (s ≤ get_or c.names s 0 → (parting_at c.partings s).depth ≤ r → v ≡ s)
      → (s ≤ get_or c.names s 0 → r < (parting_at c.partings s).depth → v ≡ (parting_at c.partings s).parent)
      → (v < s → x ≡ get_or names v 0)
      → (s ≤ v → x ≡ s)
      → ((k : ℕ) → k < s → k < m.states → Names m r k (get_or names k 0))
      → s < m.states → Names m r s x
  next_name r s v x names named itself parent lower same below l = by_cases
    where
      -- where the leader is lower, s has its name
      from_lower : (w : ℕ) → v ≡ w → w < s → (Names m r w x → Names m r s x) → Names m r s x
      from_lower w e k carry =
          let n : x ≡ get_or names w 0 = lower (omega arith) ∙ ap (λ i. get_or names i 0) e in
          carry (subst (λ y. Names m r w y) (sym n) (below w k (omega arith)))

      from_itself : s ≤ v → Names m r s s → Names m r s x
      from_itself k h = subst (λ y. Names m r s y) (sym (same k)) h

      is_zero : s ≡ 0 → Names m r s x
      is_zero e =
          let z : s ≤ v = omega arith in
          from_itself z (subst (λ i. Names m r i i) (sym e) (zero_names r))

      above_zero : 0 < s → s ≤ get_or c.names s 0 → Names m r s x
      above_zero z k =
          let n = is_name s l k in
          by_order r (parting_at c.partings s).depth
          (λ d. from_lower (parting_at c.partings s).parent (parent k d) (branch_lower m c refined s 0 n z) (named_by_parent r s x z n d))
          (λ d. from_itself (omega (arith, itself k d)) (named_itself r s z n d))

      by_cases : Names m r s x
      by_cases =
          by_order (get_or c.names s 0) s (λ k. from_lower (get_or c.names s 0) (named k) k (named_by r s x l))
          (λ k. by_order 0 s (λ z. above_zero z k) (λ z. is_zero (omega arith)))
