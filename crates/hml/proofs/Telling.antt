-- The formula of the lines of two states: it holds of the first, fails of the second, and has fewest nested steps.
use Rattle.std.proofs.Common.{◌≡◌, ℕ, suc, ◌+◌, ◌-◌, ◌≤◌, max, cond, eqb, ◌⊎◌, ◌↔◌, List, [], ◌∷◌, ◌++◌, map, length, get_or, take, drop, refl, ap, subst, inl, inr, ⊎_elim, arith, length-append}
use lib.Dec.{eqb-suc-zero}
use Rattle.std.specs.List.{AllByRecursion as All}
use Rattle.std.proofs.ByRecursion.{All-weaker}
use Rattle.lts.specs.Lts.{Lts}
use Rattle.hml.specs.Logic.{Formula, Sat, steps, Separates}
use Rattle.hml.specs.Logic.Formula.{tru, both, either}
use Rattle.hml.specs.Bisimilarity.{Agree}
use Rattle.hml.specs.Distinguishing.{targets, Chosen, Written, LinesFor, all_from, all, any_from, any, modal, lines_from, formula_of_lines}
use Rattle.hml.specs.Distinguishing.Chosen.{by_may, by_must}
use Rattle.hml.specs.Distinguishing.Written.{none, line}
use Rattle.hml.specs.declared.line.Modality.{Modality}
use Rattle.hml.specs.declared.line.Line.{Line}
use Rattle.hml.proofs.Agreement.{agree_not_separates}
use Rattle.hml.proofs.Choosing.{target_has, least_apart, children_apart}

module _ (m : Lts) where
  -- The formula holds of the first of the pair, fails of the second, and has no more nested steps than any depth to
  -- which the two do not agree.
  abbrev pub Good : ℕ × ℕ → Formula → Type 0
  Good p f = Sat m p.0 f × (¬ Sat m p.1 f) × ((d : ℕ) → ¬ Agree m d p.0 p.1 → steps f ≤ d)

  -- The formulas begin with one that is good for each of the pairs, in their order.
  abbrev pub Begin : List (ℕ × ℕ) → List Formula → Type 0
  Begin [] fs = Unit {0}
  Begin (p ∷ ps) [] = ⊥
  Begin (p ∷ ps) (f ∷ fs) = Good p f × Begin ps fs

  -- They are just these.
  abbrev pub Goods : List (ℕ × ℕ) → List Formula → Type 0
  Goods [] [] = Unit {0}
  Goods [] (f ∷ fs) = ⊥
  Goods (p ∷ ps) [] = ⊥
  Goods (p ∷ ps) (f ∷ fs) = Good p f × Goods ps fs

  goods_begin : (ps : List (ℕ × ℕ)) (fs : List Formula) → Begin ps fs → Goods ps (take (length ps) fs)
  goods_begin [] fs h = tt
  goods_begin (p ∷ ps) [] h = h
  goods_begin (p ∷ ps) (f ∷ fs) h = (h.0, goods_begin ps fs h.1)

  begin_left : (ps qs : List (ℕ × ℕ)) (fs : List Formula) → Begin (ps ++ qs) fs → Begin ps fs
  begin_left [] qs fs h = tt
  begin_left (p ∷ ps) qs [] h = h
  begin_left (p ∷ ps) qs (f ∷ fs) h = (h.0, begin_left ps qs fs h.1)

  begin_right : (ps qs : List (ℕ × ℕ)) (fs : List Formula) → Begin (ps ++ qs) fs → Begin qs (drop (length ps) fs)
  begin_right [] qs fs h = h
  begin_right (p ∷ ps) qs [] h = absurd h
  begin_right (p ∷ ps) qs (f ∷ fs) h = begin_right ps qs fs h.1

  -- Joined formulas hold where the first and the others do, or one of them does, and have the steps of the deepest.
  all_from_lem : (s : ℕ) (f : Formula) (fs : List Formula) → Sat m s (all_from f fs) ↔ (Sat m s f × Sat m s (all fs))
  all_from_lem s f [] = (λ x. (x, tt), λ x. x.0)
  all_from_lem s f (g ∷ gs) =
      let rest = all_from_lem s (both f g) gs in
      let behind = all_from_lem s g gs in
      (λ x. ((rest.0 x).0.0, behind.1 ((rest.0 x).0.1, (rest.0 x).1)), λ x. rest.1 ((x.0, (behind.0 x.1).0), (behind.0 x.1).1))

  any_from_lem : (s : ℕ) (f : Formula) (fs : List Formula) → Sat m s (any_from f fs) ↔ (Sat m s f ⊎ Sat m s (any fs))
  any_from_lem s f [] = (inl, ⊎_elim (λ x. x) (λ x. absurd x))
  any_from_lem s f (g ∷ gs) =
      let rest = any_from_lem s (either f g) gs in
      let behind = any_from_lem s g gs in (
        λ x. ⊎_elim (⊎_elim inl (λ y. inr (behind.1 (inl y)))) (λ y. inr (behind.1 (inr y))) (rest.0 x),
        ⊎_elim (λ y. rest.1 (inl (inl y))) (λ y. ⊎_elim (λ z. rest.1 (inl (inr z))) (λ z. rest.1 (inr z)) (behind.0 y)),
      )

  steps_from : (f : Formula) (fs : List Formula) → (steps (all_from f fs) ≡ max (steps f) (steps (all fs))) × (steps (any_from f fs) ≡ max (steps f) (steps (any fs)))
  steps_from f [] = (omega arith, omega arith)
  steps_from f (g ∷ gs) =
      let behind = steps_from g gs in
      (omega (arith, behind.0, (steps_from (both f g) gs).0), omega (arith, behind.1, (steps_from (either f g) gs).1))

  -- Formulas that are good for pairs with the same first state all hold of it, and fail together of each second.
  all_holds : (u : ℕ) (vs : List ℕ) (fs : List Formula) → Goods (map (λ v. (u, v)) vs) fs → Sat m u (all fs) × All (λ v. ¬ Sat m v (all fs)) vs
  all_holds u [] [] h = (tt, tt)
  all_holds u [] (f ∷ fs) h = absurd h
  all_holds u (v ∷ vs) [] h = absurd h
  all_holds u (v ∷ vs) (f ∷ fs) h =
      let rest = all_holds u vs fs h.1 in (
        (all_from_lem u f fs).1 (h.0.0, rest.0),
        (λ x. h.0.1 ((all_from_lem v f fs).0 x).0, All-weaker (λ w. ¬ Sat m w (all fs)) (λ w. ¬ Sat m w (all_from f fs)) (λ w n x. n ((all_from_lem w f fs).0 x).1) vs rest.1),
      )

  -- Of those with the same second state one holds of each first, and none of the second.
  any_holds : (v : ℕ) (us : List ℕ) (fs : List Formula) → Goods (map (λ u. (u, v)) us) fs → (¬ Sat m v (any fs)) × All (λ u. Sat m u (any fs)) us
  any_holds v [] [] h = (λ x. x, tt)
  any_holds v [] (f ∷ fs) h = absurd h
  any_holds v (u ∷ us) [] h = absurd h
  any_holds v (u ∷ us) (f ∷ fs) h =
      let rest = any_holds v us fs h.1 in (
        λ x. ⊎_elim h.0.1 rest.0 ((any_from_lem v f fs).0 x),
        ((any_from_lem u f fs).1 (inl h.0.0), All-weaker (λ w. Sat m w (any fs)) (λ w. Sat m w (any_from f fs)) (λ w y. (any_from_lem w f fs).1 (inr y)) us rest.1),
      )

  -- No more nested steps than a depth to which none of the pairs agrees.
  few_steps : (d : ℕ) (ps : List (ℕ × ℕ)) (fs : List Formula) → All (λ p. ¬ Agree m d p.0 p.1) ps → Goods ps fs → (steps (all fs) ≤ d) × (steps (any fs) ≤ d)
  few_steps d [] [] n h = (omega arith, omega arith)
  few_steps d [] (f ∷ fs) n h = absurd h
  few_steps d (p ∷ ps) [] n h = absurd h
  few_steps d (p ∷ ps) (f ∷ fs) n h =
      let rest = few_steps d ps fs n.1 h.1 in
      let one = h.0.2 d n.0 in
      (omega (arith, (steps_from f fs).0, rest.0), omega (arith, (steps_from f fs).1, rest.1))

  -- From good formulas for the children, one for the pair.
  modal_good : (s t a : ℕ) (o : Modality) (cs : List (ℕ × ℕ)) (fs : List Formula) → Chosen m s t o a cs → Goods cs fs → Good (s, t) (modal o a fs)
  modal_good s t a o cs fs (by_may d k _ u apart x) h =
      let held = all_holds u (targets a (m.ways t)) fs h in
      let few = few_steps d cs fs (children_apart m s t a d o cs (by_may d k a u apart x) apart.0) h in (
        (u, (k, x.0.0), held.0),
        λ y. target_has a (λ v. ¬ Sat m v (all fs)) (m.ways t) held.1 y.1.0 y.0 y.1.1 y.2,
        λ e n. omega (arith, few.0, (least_apart m (suc d) s t apart).1 e n),
      )
  modal_good s t a o cs fs (by_must d k _ v apart none' x) h =
      let held = any_holds v (targets a (m.ways s)) fs h in
      let few = few_steps d cs fs (children_apart m s t a d o cs (by_must d k a v apart none' x) apart.0) h in (
        λ u y. target_has a (λ u. Sat m u (any fs)) (m.ways s) held.1 y.0 u y.1,
        λ y. held.0 (y v (k, x.0.0)),
        λ e n. omega (arith, few.1, (least_apart m (suc d) s t apart).1 e n),
      )

  -- The children's formulas are where their line says.
  under : (at given w : ℕ) (cs : List (ℕ × ℕ)) (fs : List Formula) → given ≡ at + suc w → take (length cs) (drop w fs) ≡ take (length cs) (drop (cond (eqb (length cs) 0) 0 given - suc at) fs)
  under at given w [] fs e = refl
  under at given w (c ∷ cs) fs e =
      let first : w ≡ cond (eqb (suc (length cs)) 0) 0 given - suc at = rw (eqb-suc-zero (length cs)) (omega arith) in
      ap (λ i. take (suc (length cs)) (drop i fs)) first

  -- The formulas of lines begin with good ones for the pairs that wait.
  lines_begin : {given : ℕ} {ps : List (ℕ × ℕ)} {ls : List Line} (at : ℕ) → given ≡ at + length ps → Written m given ps ls → Begin ps (lines_from at ls)
  lines_begin at e none = tt
  lines_begin at e (line {given} {s} {t} {a} {waiting} {children} {o} {ls} c w) =
      let fs = lines_from (suc at) ls in
      let rest = lines_begin (suc at) (omega (arith, length-append waiting children)) w in
      let goods = goods_begin children (drop (length waiting) fs) (begin_right waiting children fs rest) in
      (modal_good s t a o children _ c (subst (Goods children) (under at given (length waiting) children fs e) goods), begin_left waiting children fs rest)

  pub lines_good : (s t : ℕ) (ls : List Line) → LinesFor m s t ls → Good (s, t) (formula_of_lines ls)
  lines_good s t ls w = go (lines_from 0 ls) (lines_begin 0 refl w)
    where
      go : (fs : List Formula) → Begin ((s, t) ∷ []) fs → Good (s, t) (get_or fs 0 tru)
      go [] h = absurd h
      go (f ∷ fs) h = h.0

  -- States that a formula separates do not agree to the depth of its nested steps.
  pub separates_apart : (f : Formula) (s t : ℕ) → Separates m f s t → ¬ Agree m (steps f) s t
  separates_apart f s t x h = agree_not_separates m f (steps f) s t (omega arith) h x
