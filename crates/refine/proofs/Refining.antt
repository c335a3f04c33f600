-- Refinement: each round that changes something adds a name, and where none changes the classes are refined.
use Rattle.std.proofs.Common.{◌≡◌, ℕ, suc, ◌+◌, ◌<◌, ◌≤◌, false, eqb, ◌⊎◌, List, get_or, replicate, sym, refl, ap, ◌∙◌, subst, subst₂, inl, inr, ⊎_elim, add-one, arith}
use Rattle.std.proofs.lemmas.Bool.{cases_eq, eqb-true, eq-eqb, ne_eqb, false≢true}
use Rattle.arrayvec.specs.ArrayVec.{array_vec_len}
use Rattle.lts.specs.Lts.{Lts}
use Rattle.hml.proofs.Agreement.{agree_less}
use Rattle.pair.specs.Wide.{Wide}
use Rattle.refine.specs.Classes.{Names, Classed, Parted, parting_at}
use Rattle.refine.specs.Signatures.{weighed}
use Rattle.refine.specs.Rounds.{Placed}
use Rattle.refine.specs.declared.classes.Parting.{Parting}
use Rattle.refine.specs.declared.round.Round.{Round}
use Rattle.refine.proofs.Naming.{zeros, name_low, name_names, names_itself, itself_names, names_deeper, agree_same, class_low}
use Rattle.refine.proofs.Weighing.{weighed_most, weighed_less}

-- The number of names among the states.
abbrev pub names_in : Lts → List ℕ → ℕ
names_in m names = weighed (λ u. 1) (λ u. eqb (get_or names u 0) u) m.states

-- State u has parted so, at a depth below r.
abbrev pub Branch : Lts → ℕ → ℕ → Parting → Type 0
Branch m r u p = (d : ℕ) × (p.depth ≡ suc d) × (d < r) × Parted m u p.parent d

-- The state of refinement before the round to depth r + 1: every name but 0 has parted, and each round added a name.
pub record Refining (m : Lts) (r : ℕ) (names : List ℕ) (partings : List Parting) : Type 0 where
  pub treed : (u : ℕ) → 0 < u → u < m.states → get_or names u 0 ≡ u → Branch m r u (parting_at partings u)
  pub enough : r < names_in m names

module _ (m : Lts) (wide : Wide m) where
  -- There are no more names than states.
  pub names_few : (names : List ℕ) → names_in m names ≤ 2048
  names_few names = omega (arith, weighed_most (λ u. 1) 1 (λ i. omega arith) (λ u. eqb (get_or names u 0) u) m.states, wide.most)

  pub shallow : {r : ℕ} {names : List ℕ} {partings : List Parting} → Refining m r names partings → r < 2048
  shallow {names = names} h = omega (arith, h.enough, names_few names)

  pub begins : (r : ℕ) (names : List ℕ) (partings : List Parting) → r ≡ 0 → names ≡ replicate 2048 0 → Refining m r names partings
  begins r names partings e f = record {
    treed = λ u some l h. absurd (omega (arith, some, zeros 2048 u, ap (λ ns. get_or ns u 0) f, h));
    enough = subst₂ (λ k ns. k < names_in m ns) (sym e) (sym f) (omega (arith, first));
  }
    where
      first : weighed (λ u. 1) (λ u. false) m.states < weighed (λ u. 1) (λ u. eqb (get_or (replicate 2048 0) u 0) u) m.states
      first =
          weighed_less (λ u. 1) (λ u. false) (λ u. eqb (get_or (replicate 2048 0) u 0) u) (λ i. omega arith) 0 m.states (λ i l e. absurd (false≢true e)) (omega (arith, wide.some)) refl
          (eq-eqb (get_or (replicate 2048 0) 0 0) 0 (zeros 2048 0))

  module _ (r : ℕ) (names : List ℕ) (w : Round) (classed : Classed m r names) (placed : Placed m r names m.states w) where
    -- A state that names itself to the next depth, and did not before, is listed.
    new_listed : (u s : ℕ) → s < m.states → Names m (suc r) s u → (get_or names u 0 ≡ u) ⊎ ((j : ℕ) × (j < array_vec_len w.fresh) × (get_or w.fresh.items j 0 ≡ u))
    new_listed u s l h =
        let lu : u < m.states = omega (arith, l, name_low m (suc r) s u h) in
        let e = names_itself m (suc r) w.next placed.named u lu (name_names m (suc r) s u h) in
        ⊎_elim inl (λ n. inr (placed.listed u (record { below = lu; new = n; naming = e }))) (cases_eq (get_or names u 0) u)

    -- Where no name is new, the classes stay.
    module _ (none : array_vec_len w.fresh ≡ 0) where
      pub rests : Classed m (suc r) names
      rests s l =
          let u = get_or w.next s 0 in
          let h = placed.named s l in
          let lu : u < m.states = omega (arith, l, name_low m (suc r) s u h) in
          ⊎_elim
          (λ e. subst (Names m (suc r) s) (sym (agree_same m r names classed s u l lu (agree_less m r s u h.agrees) ∙ e)) h)
          (λ x. absurd (omega (arith, x.1, none)))
          (new_listed u s l h)

    -- Old names stay names.
    kept_names : (u : ℕ) → u < m.states → get_or names u 0 ≡ u → get_or w.next u 0 ≡ u
    kept_names u l e =
        names_itself m (suc r) w.next placed.named u l (names_deeper m r (suc r) u (omega arith) (itself_names m r names classed u l e))

    -- A new name makes more names.
    grows : 0 < array_vec_len w.fresh → names_in m names < names_in m w.next
    grows some =
        let u = get_or w.fresh.items 0 0 in
        weighed_less (λ u. 1) (λ u. eqb (get_or names u 0) u) (λ u. eqb (get_or w.next u 0) u) (λ i. omega arith) u m.states
        (λ i l e. eq-eqb (get_or w.next i 0) i (kept_names i l (eqb-true (get_or names i 0) i e)))
        (placed.fresh 0 some).below
        (ne_eqb (get_or names u 0) u (placed.fresh 0 some).new)
        (eq-eqb (get_or w.next u 0) u (placed.fresh 0 some).naming)

    -- One round more.
    module _ (partings partings' : List Parting) (h : Refining m r names partings)
        (by_fresh : (j : ℕ) → j < array_vec_len w.fresh → parting_at partings' (get_or w.fresh.items j 0) ≡ record { parent = get_or names (get_or w.fresh.items j 0) 0; depth = r + 1 })
        (others : (u : ℕ) → ((j : ℕ) → j < array_vec_len w.fresh → ¬ (get_or w.fresh.items j 0 ≡ u)) → parting_at partings' u ≡ parting_at partings u) where
      treed_more : (u : ℕ) → 0 < u → u < m.states → get_or w.next u 0 ≡ u → Branch m (suc r) u (parting_at partings' u)
      treed_more u some l e = ⊎_elim old new (new_listed u u l named)
        where
          named : Names m (suc r) u u
          named = itself_names m (suc r) w.next placed.named u l e

          old : get_or names u 0 ≡ u → Branch m (suc r) u (parting_at partings' u)
          old q =
              let x = h.treed u some l q in
              let same = others u (λ j lj f. (placed.fresh j lj).new (subst (λ t. get_or names t 0 ≡ t) (sym f) q)) in
              subst (Branch m (suc r) u) (sym same) (x.0, x.1, omega (arith, x.2), x.3)

          new : (j : ℕ) × (j < array_vec_len w.fresh) × (get_or w.fresh.items j 0 ≡ u) → Branch m (suc r) u (parting_at partings' u)
          new (j, lj, f) =
              let p : parting_at partings' u ≡ record { parent = get_or names u 0; depth = r + 1 } = subst (λ t. parting_at partings' t ≡ record { parent = get_or names t 0; depth = r + 1 }) f (by_fresh j lj) in
              let fresh : get_or names u 0 ≡ u → ⊥ = subst (λ t. get_or names t 0 ≡ t → ⊥) f (placed.fresh j lj).new in
              subst (Branch m (suc r) u) (sym p)
              (r, add-one r, omega arith, record { lower = omega (arith, fresh, class_low m r names classed u l); together = classed u l; apart = named })

      pub refining_more : 0 < array_vec_len w.fresh → Refining m (r + 1) w.next partings'
      refining_more some = record {
        treed = subst (λ k. (u : ℕ) → 0 < u → u < m.states → get_or w.next u 0 ≡ u → Branch m k u (parting_at partings' u)) (sym (add-one r)) treed_more;
        enough = omega (arith, h.enough, grows some);
      }
