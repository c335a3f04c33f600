-- States with the same signature are those that agree to one depth more, and the weights of signatures tell them apart.
use Rattle.std.proofs.Common.{◌≡◌, ℕ, suc, ◌+◌, ◌*◌, ◌%◌, ◌<◌, ◌≤◌, Bool, true, false, cond, ◌||◌, eqb, ◌⊎◌, List, [], ◌∷◌, ◌++◌, get_or, Some, min, sym, refl, ap, ap₂, ◌∙◌, subst, inl, inr, arith}
use Rattle.std.proofs.lemmas.Nat.{mod_below}
use Rattle.std.specs.Bool.{Decides}
use Rattle.std.specs.List.{list_all}
use Rattle.std.proofs.Math.Bool.{or-false}
use Rattle.std.proofs.lemmas.Bool.{cases_Bool, and_from, ne_eqb, eqb-true, eq-eqb, or_right}
use Rattle.std.proofs.lemmas.List.Folds.{list_any-append}
use Rattle.lts.specs.Lts.{Lts, Move, way_at}
use Rattle.hml.specs.Bisimilarity.{Agree, Matched}
use Rattle.hml.proofs.Agreement.{agree_sym, matched_wider}
use Rattle.pair.specs.Wide.{Wide}
use Rattle.refine.specs.Classes.{Classed}
use Rattle.refine.specs.Codes.{code_of, coded, moves}
use Rattle.refine.specs.Marks.{marked}
use Rattle.refine.specs.Signatures.{signed, Alike, weighed, weight_of, Weighs, Signed, passes}
use Rattle.refine.specs.declared.marks.Marks.{Marks}
use Rattle.refine.proofs.Coding.{code_low, move_coded, coded_by, same_code, both, all_coded, coded_all}
use Rattle.refine.proofs.Naming.{same_agree, agree_same, class_low}
use Rattle.refine.proofs.Weighing.{weighed_same, weighed_more, weighed_most, weighed_less}

-- Weights are from 1 to 2 ^ 32.
pub weight_some : (i : ℕ) → 0 < weight_of i
unfolding weight_of
weight_some i = omega arith

pub weight_most : (i : ℕ) → weight_of i ≤ 4294967296
unfolding weight_of
weight_most i = let x = (i * 2654435761 + 40503) % 4294967291 in omega (arith, mod_below (x * x) 4294967291 (omega arith))

agreeing : (a b : Bool) → (a ≡ true → b ≡ true) → (b ≡ true → a ≡ true) → a ≡ b
agreeing true b f g = sym (f refl)
agreeing false true f g = g refl
agreeing false false f g = refl

module _ (m : Lts) (names : List ℕ) where
  signed_low : (s i : ℕ) → signed m names s i ≡ true → i < 108545
  signed_low s i h = let x = coded_by names (m.ways s) i h in subst (λ i. i < 108545) x.code (code_low names (x.action, x.target))

  -- Signatures of one weight, of which one has each code of the other, are the same.
  pub weights_tell : (s t p q : ℕ) → Weighs m names s p → Weighs m names t q → q ≡ p → ((i : ℕ) → signed m names t i ≡ true → signed m names s i ≡ true) → Alike m names s t
  weights_tell s t p q x y e back i = agreeing (signed m names s i) (signed m names t i) (λ h. found h (cases_Bool (signed m names t i))) (back i)
    where
      found : signed m names s i ≡ true → (signed m names t i ≡ true) ⊎ (signed m names t i ≡ false) → signed m names t i ≡ true
      found h (inl yes') = yes'
      found h (inr out) =
          absurd (omega (arith, weighed_less weight_of (signed m names t) (signed m names s) weight_some i 108545 (λ j l. back j) (signed_low s i h) out h, x, y))

  -- Same signatures have one weight.
  pub alike_weights : (s t p q : ℕ) → Weighs m names s p → Weighs m names t q → Alike m names s t → q ≡ p
  alike_weights s t p q x y h = y ∙ weighed_same weight_of (signed m names t) (signed m names s) 108545 (λ i l. sym (h i)) ∙ sym x

  module _ (wide : Wide m) (r : ℕ) (classed : Classed m r names) where
    -- The names of classes are below 2,048.
    pub name_small : (s : ℕ) → s < m.states → get_or names s 0 < 2048
    name_small s l = omega (arith, class_low m r names classed s l, wide.most)

    -- A move of s whose code t has is matched by t, and t has the code of a move of s that it matches.
    pub coded_matched : (s t k a u : ℕ) → way_at m s k ≡ Some (a, u) → signed m names t (code_of names (a, u)) ≡ true → (v : ℕ) × Move m t a v × Agree m r u v
    coded_matched s t k a u e h =
        let x = coded_by names (m.ways t) (code_of names (a, u)) h in
        let v = x.target in
        let lu = wide.target s k a u e in
        let lv = wide.target t x.place x.action v x.way in
        let y = same_code names a u x.action v (wide.action s k a u e) (wide.action t x.place x.action v x.way) (name_small u lu) (name_small v lv) x.code in
        (v, (x.place, rw y.0 at x.way), same_agree m r names classed u v lu lv (sym y.1))

    pub matched_coded : (s t k a u v : ℕ) → way_at m s k ≡ Some (a, u) → Move m t a v → Agree m r u v → signed m names t (code_of names (a, u)) ≡ true
    matched_coded s t k a u v e (j, f) h =
        let same : get_or names u 0 ≡ get_or names v 0 = agree_same m r names classed u v (wide.target s k a u e) (wide.target t j a v f) h in
        subst (λ n. signed m names t (min (a * 2048 + n) 108544) ≡ true) (sym same) (move_coded names (m.ways t) j a v f)

    -- Where t has the signature of s, each move of s is matched.
    covers_matched : (s t : ℕ) → ((i : ℕ) → signed m names s i ≡ true → signed m names t i ≡ true) → Matched m (Agree m r) s t
    covers_matched s t h a u (k, e) = coded_matched s t k a u e (h (code_of names (a, u)) (move_coded names (m.ways s) k a u e))

    matched_covers : (s t : ℕ) → Matched m (Agree m r) s t → (i : ℕ) → signed m names s i ≡ true → signed m names t i ≡ true
    matched_covers s t h i e =
        let x = coded_by names (m.ways s) i e in
        let y = h x.action x.target (x.place, x.way) in
        subst (λ c. signed m names t c ≡ true) x.code (matched_coded s t x.place x.action x.target y.0 x.way y.1 y.2)

    pub alike_agree : (s t : ℕ) → Alike m names s t → Agree m (suc r) s t
    alike_agree s t h = (
      covers_matched s t (λ i e. sym (h i) ∙ e),
      matched_wider m (Agree m r) (λ u v. Agree m r v u) (agree_sym m r) t s (covers_matched t s (λ i e. h i ∙ e)),
    )

    pub agree_alike : (s t : ℕ) → Agree m (suc r) s t → Alike m names s t
    agree_alike s t h i =
        agreeing (signed m names s i) (signed m names t i) (matched_covers s t h.0 i)
        (matched_covers t s (matched_wider m (λ u v. Agree m r v u) (Agree m r) (λ u v. agree_sym m r v u) t s h.1) i)

-- What is marked and weighed stays small, and may have one move more: `before` is whether its code n was marked.
module _ {names : List ℕ} {ps : List (ℕ × ℕ)} {old : Marks} {print : ℕ} (h : Signed names ps old print) where
  pub signed_fits : (n : ℕ) → print + weight_of n ≤ 466201520111617
  signed_fits n = omega (arith, h.weighs, weighed_most weight_of 4294967296 weight_most (coded names ps) 108545, weight_most n)

  pub signed_more :
      (p : ℕ × ℕ) (n : ℕ) (new : Marks) (before : Bool) → n ≡ code_of names p → before ≡ marked old n
      → ((i : ℕ) → marked new i ≡ (marked old i || eqb n i)) → (b : Bool) → before ≡ b → Signed names (ps ++ p ∷ []) new (print + cond b 0 (weight_of n))
  signed_more p n new before e was more b q = record {
    codes = λ i. more i ∙ ap₂ (λ b c. b || eqb c i) (h.codes i) e ∙ sym (code_more i);
    weighs = ap₂ ◌+◌ h.weighs (ap₂ (λ b k. cond b 0 (weight_of k)) (sym q ∙ was ∙ h.codes n ∙ ap (coded names ps) e) e) ∙ total_more;
  }
    where
      code_more : (i : ℕ) → coded names (ps ++ p ∷ []) i ≡ (coded names ps i || eqb (code_of names p) i)
      code_more i = list_any-append (λ q. eqb (code_of names q) i) ps (p ∷ []) ∙ ap (λ b. coded names ps i || b) (or-false (eqb (code_of names p) i))

      total_more : weighed weight_of (coded names ps) 108545 + cond (coded names ps (code_of names p)) 0 (weight_of (code_of names p)) ≡ weighed weight_of (coded names (ps ++ p ∷ [])) 108545
      total_more =
          weighed_more weight_of (coded names ps) (coded names (ps ++ p ∷ [])) (code_of names p) 108545 (code_low names p)
          (λ i ne. sym (code_more i ∙ ap (λ b. coded names ps i || b) (ne_eqb (code_of names p) i (λ e. ne (sym e))) ∙ or-false (coded names ps i)))
          (code_more (code_of names p) ∙ or_right (coded names ps (code_of names p)) (eqb (code_of names p) (code_of names p)) (eq-eqb (code_of names p) (code_of names p) refl))

-- Where the signature of s is marked and weighed, t passes just where the two are alike.
pub tells :
    (m : Lts) (names : List ℕ) (s t p q : ℕ) (marks : Marks) → Signed names (moves (m.ways s)) marks p → Weighs m names t q
    → Decides (passes m names marks p t q) (Alike m names s t)
tells m names s t p q marks h y = (
  λ e.
      let b = both (eqb q p) (list_all (λ x. marked marks (code_of names x)) (moves (m.ways t))) e in
      weights_tell m names s t p q h.weighs y (eqb-true q p b.0) (λ i k. sym (h.codes i) ∙ all_coded names (marked marks) (moves (m.ways t)) b.1 i k),
  λ like.
      and_from (eqb q p) (list_all (λ x. marked marks (code_of names x)) (moves (m.ways t))) (eq-eqb q p (alike_weights m names s t p q h.weighs y like))
      (coded_all names (marked marks) (moves (m.ways t)) (λ i k. h.codes i ∙ like i ∙ k)),
)
