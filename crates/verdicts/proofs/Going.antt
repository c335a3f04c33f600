-- Whether ways go by an action to a property, as facts about moves.
use Rattle.std.proofs.Common.{◌≡◌, ℕ, zero, suc, Bool, true, not, ◌||◌, eqb, List, [], ◌∷◌, get_or, Some, None, sym, refl, ap, ◌∙◌, ⊎_elim}
use Rattle.std.specs.List.{list_any, list_all}
use Rattle.std.proofs.lemmas.Bool.{false≢true, and_parts, and_from, or_left, or_right, eqb-true, eq-eqb, cases_Bool}
use Rattle.std.proofs.lemmas.List.{get_or_default}
use Rattle.std.proofs.lemmas.List.Folds.{Any-from_list_any}
use Rattle.lts.specs.Lts.{Way}
use Rattle.hml.proofs.Deciding.{none_moves}
use Rattle.verdicts.specs.Values.{goes, stays}

module _ (a : ℕ) (P : ℕ → Bool) where
  goes_move : (w : Way) → goes a P w ≡ true → (t : ℕ) × (w ≡ Some (a, t)) × (P t ≡ true)
  goes_move None e = absurd (false≢true e)
  goes_move (Some p) e =
      let x = and_parts (eqb p.0 a) (P p.1) e in
      (p.1, ap (λ b. Some (b, p.1)) (eqb-true p.0 a x.0), x.1)

  -- Some way of the list goes exactly where one is a move by the action to a state with P.
  pub some_going : (ws : List Way) → list_any (goes a P) ws ≡ true → (t : ℕ) × (k : ℕ) × (get_or ws k None ≡ Some (a, t)) × (P t ≡ true)
  some_going ws e =
      let x = Any-from_list_any (goes a P) ws e in
      let y = goes_move x.1 x.4 in
      (y.0, x.0, get_or_default ws x.0 None x.1 x.2 ∙ x.3 ∙ y.1, y.2)

  pub going_some : (ws : List Way) (k t : ℕ) → get_or ws k None ≡ Some (a, t) → P t ≡ true → list_any (goes a P) ws ≡ true
  going_some [] k t e p = absurd (none_moves a t e)
  going_some (w ∷ ws) zero t e p = or_left _ _ (ap (goes a P) e ∙ and_from (eqb a a) (P t) (eq-eqb a a refl) p)
  going_some (w ∷ ws) (suc k) t e p = or_right (goes a P w) _ (going_some ws k t e p)

  -- Every way of the list stays exactly where each that is a move by the action leads to a state with P.
  pub staying : (ws : List Way) → list_all (stays a P) ws ≡ true → (k t : ℕ) → get_or ws k None ≡ Some (a, t) → P t ≡ true
  staying [] e k t is = absurd (none_moves a t is)
  staying (w ∷ ws) e zero t is =
      let here : stays a P (Some (a, t)) ≡ true = ap (stays a P) (sym is) ∙ (and_parts _ _ e).0 in
      ap (λ b. not b || P t) (sym (eq-eqb a a refl)) ∙ here
  staying (w ∷ ws) e (suc k) t is = staying ws (and_parts (stays a P w) _ e).1 k t is

  stays_so : (w : Way) → ((t : ℕ) → w ≡ Some (a, t) → P t ≡ true) → stays a P w ≡ true
  stays_so None h = refl
  stays_so (Some p) h =
      ⊎_elim (λ e. or_right (not (eqb p.0 a)) (P p.1) (h p.1 (ap (λ b. Some (b, p.1)) (eqb-true p.0 a e)))) (λ e. ap (λ b. not b || P p.1) e) (cases_Bool (eqb p.0 a))

  pub all_staying : (ws : List Way) → ((k t : ℕ) → get_or ws k None ≡ Some (a, t) → P t ≡ true) → list_all (stays a P) ws ≡ true
  all_staying [] h = refl
  all_staying (w ∷ ws) h = and_from _ _ (stays_so w (λ t. h 0 t)) (all_staying ws (λ k t. h (suc k) t))
