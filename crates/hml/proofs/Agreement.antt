-- Agreement to a depth: it is an equivalence, it falls with the depth, it is decided, and formulas keep to it.
use Rattle.std.proofs.Common.{ℕ, zero, suc, ◌≤◌, ◌⊎◌, inl, inr, ⊎_elim, arith}
use native.Mathlib.Decide.{le_ind}
use Rattle.lts.specs.Lts.{Lts, Move}
use Rattle.hml.specs.Logic.{Formula, Sat, steps, Separates}
use Rattle.hml.specs.Logic.Formula.{tru, fls, both, either, may, must}
use Rattle.hml.specs.Bisimilarity.{Matched, Agree}
use Rattle.hml.proofs.Deciding.{First, Searched, first_way, not_fails, some_move?, every_move?, both?, not?}

-- What is matched in a relation is matched in each wider one.
pub matched_wider : (m : Lts) (R S : ℕ → ℕ → Type 0) → ((u v : ℕ) → R u v → S u v) → (s t : ℕ) → Matched m R s t → Matched m S s t
matched_wider m R S wider s t h a u x = let y = h a u x in (y.0, y.1, wider u y.0 y.2)

pub agree_refl : (m : Lts) (r s : ℕ) → Agree m r s s
agree_refl m zero s = tt
agree_refl m (suc r) s = (λ a u x. (u, x, agree_refl m r u), λ a u x. (u, x, agree_refl m r u))

pub agree_sym : (m : Lts) (r s t : ℕ) → Agree m r s t → Agree m r t s
agree_sym m zero s t h = tt
agree_sym m (suc r) s t h =
    (matched_wider m (λ u v. Agree m r v u) (Agree m r) (λ u v. agree_sym m r v u) t s h.1, matched_wider m (Agree m r) (λ u v. Agree m r v u) (agree_sym m r) s t h.0)

pub agree_trans : (m : Lts) (r s t w : ℕ) → Agree m r s t → Agree m r t w → Agree m r s w
agree_trans m zero s t w h k = tt
agree_trans m (suc r) s t w h k = (
  λ a u x. let y = h.0 a u x in let z = k.0 a y.0 y.1 in (z.0, z.1, agree_trans m r u y.0 z.0 y.2 z.2),
  λ a u x. let y = k.1 a u x in let z = h.1 a y.0 y.1 in (z.0, z.1, agree_trans m r z.0 y.0 u z.2 y.2),
)

-- Agreement to a depth gives agreement to each smaller one.
pub agree_less : (m : Lts) (r s t : ℕ) → Agree m (suc r) s t → Agree m r s t
agree_less m zero s t h = tt
agree_less m (suc r) s t h = (
  matched_wider m (Agree m (suc r)) (Agree m r) (agree_less m r) s t h.0,
  matched_wider m (λ u v. Agree m (suc r) v u) (λ u v. Agree m r v u) (λ u v. agree_less m r v u) t s h.1,
)

pub agree_below : (m : Lts) (d r s t : ℕ) → d ≤ r → Agree m r s t → Agree m d s t
agree_below m d r s t l = le_ind {n = d} (λ k. Agree m k s t → Agree m d s t) (λ h. h) (λ k g below h. below (agree_less m k s t h)) r l

-- A move by a to u has no match among the moves of t.
abbrev pub NoMatch : Lts → (ℕ → ℕ → Type 0) → ℕ → ℕ → ℕ → Type 0
NoMatch m R t a u = (v : ℕ) → Move m t a v → ¬ R u v

-- Each move of s is matched by one of t, or there is a first move of s that none of t matches.
module _ (m : Lts) (R : ℕ → ℕ → Type 0) (R? : (u v : ℕ) → Dec (R u v)) (s t : ℕ) where
  unfoldable pub matched_or_first : Matched m R s t ⊎ First (NoMatch m R t) (m.ways s)
  unfolding first_way every_move? not?
  matched_or_first = go (first_way (NoMatch m R t) (λ a u. every_move? m t a (λ v. ¬ R u v) (λ v. not? (R? u v))) (m.ways s))
    where
      go : Searched (NoMatch m R t) (m.ways s) → Matched m R s t ⊎ First (NoMatch m R t) (m.ways s)
      go (inl f) = inr f
      go (inr none) = inl (λ a u x. not_fails (some_move? m t a (R u) (R? u)) (λ fails. none x.0 a u x.1 (λ v y r. fails (v, y, r))))

  unfoldable pub matched? : Dec (Matched m R s t)
  unfolding matched_or_first
  matched? = go matched_or_first
    where
      go : Matched m R s t ⊎ First (NoMatch m R t) (m.ways s) → Dec (Matched m R s t)
      go (inl h) = yes h
      go (inr f) = no (λ h. let y = h f.action f.target (f.place, f.way) in f.has y.0 y.1 y.2)

-- Whether two states agree to a depth.
unfoldable pub agree? : (m : Lts) (r s t : ℕ) → Dec (Agree m r s t)
unfolding both? matched?
agree? m zero s t = yes tt
agree? m (suc r) s t = both? (matched? m (Agree m r) (agree? m r) s t) (matched? m (λ u v. Agree m r v u) (λ u v. agree? m r v u) t s)

-- A formula of at most r nested steps holds of each state that agrees to depth r with one of which it holds.
pub sat_kept : (m : Lts) (f : Formula) (r s t : ℕ) → steps f ≤ r → Agree m r s t → Sat m s f → Sat m t f
sat_kept m tru r s t l h x = tt
sat_kept m fls r s t l h x = x
sat_kept m (both f g) r s t l h x = (sat_kept m f r s t (omega arith) h x.0, sat_kept m g r s t (omega arith) h x.1)
sat_kept m (either f g) r s t l h x =
    ⊎_elim (λ y. inl (sat_kept m f r s t (omega arith) h y)) (λ y. inr (sat_kept m g r s t (omega arith) h y)) x
sat_kept m (may a f) zero s t l h x = absurd (omega arith)
sat_kept m (may a f) (suc r) s t l h x =
    let y = h.0 a x.0 x.1 in (y.0, y.1, sat_kept m f r x.0 y.0 (omega arith) y.2 x.2)
sat_kept m (must a f) zero s t l h x = absurd (omega arith)
sat_kept m (must a f) (suc r) s t l h x = λ v z.
    let y = h.1 a v z in sat_kept m f r y.0 v (omega arith) y.2 (x y.0 y.1)

-- So none of at most r nested steps separates states that agree to depth r.
pub agree_not_separates : (m : Lts) (f : Formula) (r s t : ℕ) → steps f ≤ r → Agree m r s t → ¬ Separates m f s t
agree_not_separates m f r s t l h (inl x) = x.1 (sat_kept m f r s t l h x.0)
agree_not_separates m f r s t l h (inr x) = x.0 (sat_kept m f r t s l (agree_sym m r s t h) x.1)
