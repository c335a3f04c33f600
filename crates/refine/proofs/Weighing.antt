-- Sums of the weights of the numbers that pass a test.
use Rattle.std.proofs.Common.{◌≡◌, ℕ, zero, suc, ◌+◌, ◌*◌, ◌<◌, ◌≤◌, Bool, true, false, cond, sym, refl, ap, ◌∙◌, subst, ap₂, ⊎_elim, suc-mul, arith}
use Rattle.std.proofs.lemmas.Bool.{cases_eq, both_ways}
use Rattle.refine.specs.Signatures.{weighed}

module _ (w : ℕ → ℕ) where
  -- Tests that agree give one sum.
  pub weighed_same : (F G : ℕ → Bool) (n : ℕ) → ((i : ℕ) → i < n → F i ≡ G i) → weighed w F n ≡ weighed w G n
  unfolding weighed
  weighed_same F G zero h = refl
  weighed_same F G (suc n) h = ap₂ ◌+◌ (weighed_same F G n (λ i l. h i (omega arith))) (ap (λ b. cond b (w n) 0) (h n (omega arith)))

  pub weighed_none : (F : ℕ → Bool) (n : ℕ) → ((i : ℕ) → i < n → F i ≡ false) → weighed w F n ≡ 0
  unfolding weighed
  weighed_none F zero h = refl
  weighed_none F (suc n) h = ap₂ ◌+◌ (weighed_none F n (λ i l. h i (omega arith))) (ap (λ b. cond b (w n) 0) (h n (omega arith)))

  -- It is no more than the largest weight for each number.
  pub weighed_most : (most : ℕ) → ((i : ℕ) → w i ≤ most) → (F : ℕ → Bool) (n : ℕ) → weighed w F n ≤ n * most
  unfolding weighed
  weighed_most most h F zero = omega arith
  weighed_most most h F (suc n) = omega (arith, weighed_most most h F n, one (F n), suc-mul n most)
    where
      one : (b : Bool) → cond b (w n) 0 ≤ most
      one true = h n
      one false = omega arith

  -- One number more that passes.
  pub weighed_more : (F G : ℕ → Bool) (p n : ℕ) → p < n → ((i : ℕ) → (i ≡ p → ⊥) → F i ≡ G i) → G p ≡ true → weighed w F n + cond (F p) 0 (w p) ≡ weighed w G n
  unfolding weighed
  weighed_more F G p zero l other here = absurd (omega arith)
  weighed_more F G p (suc n) l other here = ⊎_elim at_end (λ ne. before ne (weighed_more F G p n (omega arith) other here)) (cases_eq p n)
    where
      both : (b : Bool) (a x : ℕ) → (a + cond b x 0) + cond b 0 x ≡ a + x
      both true a x = omega arith
      both false a x = omega arith

      at_end : p ≡ n → weighed w F (suc n) + cond (F p) 0 (w p) ≡ weighed w G (suc n)
      at_end e =
          let same = weighed_same F G n (λ i k. other i (λ q. omega arith)) in
          subst (λ q. G q ≡ true → weighed w F (suc n) + cond (F q) 0 (w q) ≡ weighed w G (suc n)) (sym e)
          (λ t. both (F n) (weighed w F n) (w n) ∙ ap₂ ◌+◌ same (ap (λ b. cond b (w n) 0) (sym t)))
          here

      before : (p ≡ n → ⊥) → weighed w F n + cond (F p) 0 (w p) ≡ weighed w G n → weighed w F (suc n) + cond (F p) 0 (w p) ≡ weighed w G (suc n)
      before ne rest =
          let last : cond (F n) (w n) 0 ≡ cond (G n) (w n) 0 = ap (λ b. cond b (w n) 0) (other n (λ q. ne (sym q))) in
          omega (arith, rest, last)

  -- Where each number that passes F passes G, and some number passes G alone, the sum of G is larger.
  module _ (F G : ℕ → Bool) where
    one : (x : ℕ) (b c : Bool) → (b ≡ true → c ≡ true) → cond b x 0 ≤ cond c x 0
    one x true true h = omega arith
    one x true false h = absurd (both_ways false refl (h refl))
    one x false c h = omega arith

    pub weighed_le : (n : ℕ) → ((i : ℕ) → i < n → F i ≡ true → G i ≡ true) → weighed w F n ≤ weighed w G n
    unfolding weighed
    weighed_le zero part = omega arith
    weighed_le (suc n) part = omega (arith, weighed_le n (λ i l. part i (omega arith)), one (w n) (F n) (G n) (part n (omega arith)))

    pub weighed_less : ((i : ℕ) → 0 < w i) → (p n : ℕ) → ((i : ℕ) → i < n → F i ≡ true → G i ≡ true) → p < n → F p ≡ false → G p ≡ true → weighed w F n < weighed w G n
    unfolding weighed
    weighed_less some p zero part l out here = absurd (omega arith)
    weighed_less some p (suc n) part l out here =
        ⊎_elim at_end (λ ne. before (weighed_less some p n (λ i l. part i (omega arith)) (omega arith) out here)) (cases_eq p n)
      where
        at_end : p ≡ n → weighed w F (suc n) < weighed w G (suc n)
        at_end e =
            let x : cond (F n) (w n) 0 ≡ 0 = ap (λ b. cond b (w n) 0) (subst (λ q. F q ≡ false) e out) in
            let y : cond (G n) (w n) 0 ≡ w n = ap (λ b. cond b (w n) 0) (subst (λ q. G q ≡ true) e here) in
            omega (arith, x, y, some n, weighed_le n (λ i l. part i (omega arith)))

        before : weighed w F n < weighed w G n → weighed w F (suc n) < weighed w G (suc n)
        before rest = omega (arith, rest, one (w n) (F n) (G n) (part n (omega arith)))
