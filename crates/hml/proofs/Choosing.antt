-- The line of a pair of states that do not agree: it exists, it is the only one, and its children do not agree either.
use Rattle.std.proofs.Common.{◌≡◌, ℕ, zero, suc, ◌≤◌, Bool, true, false, cond, eqb, ◌⊎◌, List, [], ◌∷◌, map, get_or, Some, None, refl, ap, subst, ap₂, inl, inr, arith}
use Rattle.std.specs.List.{AllByRecursion as All}
use Rattle.std.proofs.ByRecursion.{All-map}
use Rattle.std.proofs.lemmas.Bool.{eqb-true, eq-eqb, cond_both}
use Rattle.lts.specs.Lts.{Lts, Way}
use Rattle.hml.specs.Bisimilarity.{Matched, Agree}
use Rattle.hml.specs.Distinguishing.{targets, FirstApart, Unmatched, FirstUnmatched, Chosen}
use Rattle.hml.specs.Distinguishing.Chosen.{by_may, by_must}
use Rattle.hml.specs.declared.line.Modality.{Modality}
use Rattle.hml.specs.declared.line.Modality.TheVariants.{May, Must}
use Rattle.hml.proofs.Deciding.{First, first_is_one, by_order, Least, least, least_is_one, not?, not_fails, same_move, none_moves}
use Rattle.hml.proofs.Agreement.{agree?, agree_sym, agree_below, NoMatch, matched_or_first, matched_wider}

-- What holds of each target of a move by a is what holds of each of the targets.
pub all_targets : (a : ℕ) (P : ℕ → Type 0) (ws : List Way) → ((k v : ℕ) → get_or ws k None ≡ Some (a, v) → P v) → All P (targets a ws)
all_targets a P [] h = tt
all_targets a P (None ∷ ws) h = all_targets a P ws (λ k. h (suc k))
all_targets a P (Some p ∷ ws) h =
    let rest = all_targets a P ws (λ k. h (suc k)) in
    cond_both (eqb p.0 a) (p.1 ∷ targets a ws) (targets a ws) (All P) (λ e. (h 0 p.1 (ap (λ b. Some (b, p.1)) (eqb-true p.0 a e)), rest)) (λ e. rest)

pub target_has : (a : ℕ) (P : ℕ → Type 0) (ws : List Way) → All P (targets a ws) → (k v : ℕ) → get_or ws k None ≡ Some (a, v) → P v
target_has a P [] h k v e = absurd (none_moves a v e)
target_has a P (None ∷ ws) h zero v e = absurd (none_moves a v e)
target_has a P (None ∷ ws) h (suc k) v e = target_has a P ws h k v e
target_has a P (Some p ∷ ws) h zero v e =
    let same = same_move p.0 p.1 a v refl e in
    subst P same.1 (subst (λ b. All P (cond b (p.1 ∷ targets a ws) (targets a ws))) (eq-eqb p.0 a same.0) h).0
target_has a P (Some p ∷ ws) h (suc k) v e = target_has a P ws (go (eqb p.0 a) h) k v e
  where
    go : (b : Bool) → All P (cond b (p.1 ∷ targets a ws) (targets a ws)) → All P (targets a ws)
    go true x = x.1
    go false x = x

module _ (m : Lts) where
  -- States that do not agree to some depth have a least such depth, and it is not 0.
  unfoldable pub first_apart : (r s t : ℕ) → ¬ Agree m r s t → (d : ℕ) × FirstApart m (suc d) s t
  unfolding least
  first_apart r s t h = go (least (λ d. ¬ Agree m d s t) (λ d. not? (agree? m d s t)) r h)
    where
      go : (n : ℕ) × Least (λ d. ¬ Agree m d s t) n → (d : ℕ) × FirstApart m (suc d) s t
      go (zero, x) = absurd (x.0 tt)
      go (suc d, x) = (d, (x.0, λ k l. not_fails (agree? m k s t) (λ n. omega (arith, x.1 k n))))

  pub least_apart : (r s t : ℕ) → FirstApart m r s t → Least (λ d. ¬ Agree m d s t) r
  least_apart r s t h = (h.0, λ k n. by_order k r (λ l. absurd (n (h.1 k l))) (λ l. l))

  pub first_apart_is_one : (d e s t : ℕ) → FirstApart m d s t → FirstApart m e s t → d ≡ e
  first_apart_is_one d e s t h k = least_is_one (λ d. ¬ Agree m d s t) d e (least_apart d s t h) (least_apart e s t k)

  -- The first way of s that t does not match, in the words of the statement.
  pub first_unmatched : (d s t : ℕ) (f : First (NoMatch m (Agree m d) t) (m.ways s)) → FirstUnmatched m d s t f.place f.action f.target
  first_unmatched d s t f = ((f.way, f.has), λ j b v l x. f.before j b v l x.0 x.1)

  -- And back.
  as_first : (d s t k a u : ℕ) → FirstUnmatched m d s t k a u → First (NoMatch m (Agree m d) t) (m.ways s)
  as_first d s t k a u x = record { place = k; action = a; target = u; way = x.0.0; has = x.0.1; before = λ j b v l e n. x.1 j b v l (e, n) }

  -- The line of a pair.
  abbrev pub Choice : ℕ → ℕ → Type 0
  Choice s t = (o : Modality) × (a : ℕ) × (children : List (ℕ × ℕ)) × Chosen m s t o a children

  unfoldable pub chosen : (r s t : ℕ) → ¬ Agree m r s t → Choice s t
  unfolding first_apart matched_or_first
  chosen r s t h = start (first_apart r s t h)
    where
      by_second : (d : ℕ) → FirstApart m (suc d) s t → Matched m (Agree m d) s t → Matched m (Agree m d) t s ⊎ First (NoMatch m (Agree m d) s) (m.ways t) → Choice s t
      by_second d apart x (inl y) = absurd (apart.0 (x, matched_wider m (Agree m d) (λ u v. Agree m d v u) (agree_sym m d) t s y))
      by_second d apart x (inr f) =
          let none : (j b w : ℕ) → ¬ Unmatched m d s t j b w = λ j b w n. let y = x b w (j, n.0) in n.1 y.0 y.1 y.2 in
          (Must, f.action, map (λ u. (u, f.target)) (targets f.action (m.ways s)), by_must d f.place f.action f.target apart none (first_unmatched d t s f))

      by_first : (d : ℕ) → FirstApart m (suc d) s t → Matched m (Agree m d) s t ⊎ First (NoMatch m (Agree m d) t) (m.ways s) → Choice s t
      by_first d apart (inl x) = by_second d apart x (matched_or_first m (Agree m d) (agree? m d) t s)
      by_first d apart (inr f) =
          (May, f.action, map (λ v. (f.target, v)) (targets f.action (m.ways t)), by_may d f.place f.action f.target apart (first_unmatched d s t f))

      start : (d : ℕ) × FirstApart m (suc d) s t → Choice s t
      start (d, apart) = by_first d apart (matched_or_first m (Agree m d) (agree? m d) s t)

  -- First unmatched ways of the same pair, each at the depth before the least at which the pair does not agree.
  one_way : (d e s t j k a b u v p q : ℕ) → FirstApart m (suc d) p q → FirstApart m (suc e) p q → FirstUnmatched m d s t j a u → FirstUnmatched m e s t k b v → (a ≡ b) × (u ≡ v)
  unfolding as_first
  one_way d e s t j k a b u v p q apart apart' x y =
      let same : e ≡ d = omega (arith, first_apart_is_one (suc d) (suc e) p q apart apart') in
      first_is_one (NoMatch m (Agree m d) t) (m.ways s) (as_first d s t j a u x) (as_first d s t k b v (subst (λ i. FirstUnmatched m i s t k b v) same y))

  -- Where some way of s is unmatched, not every one is matched.
  not_both : (d e s t k a u : ℕ) → FirstApart m (suc d) s t → FirstApart m (suc e) s t → FirstUnmatched m d s t k a u → ((j b w : ℕ) → ¬ Unmatched m e s t j b w) → ⊥
  not_both d e s t k a u apart apart' x none =
      let same : d ≡ e = omega (arith, first_apart_is_one (suc d) (suc e) s t apart apart') in
      none k a u (subst (λ i. Unmatched m i s t k a u) same x.0)

  -- A pair has one line only.
  pub chosen_is_one : (s t a b : ℕ) (o p : Modality) (cs ds : List (ℕ × ℕ)) → Chosen m s t o a cs → Chosen m s t p b ds → (o ≡ p) × (a ≡ b) × (cs ≡ ds)
  chosen_is_one s t a b o p cs ds (by_may d j _ u apart x) (by_may e k _ v apart' y) =
      let q = one_way d e s t j k a b u v s t apart apart' x y in
      (refl, q.0, ap₂ (λ c w. map (λ z. (w, z)) (targets c (m.ways t))) q.0 q.1)
  chosen_is_one s t a b o p cs ds (by_may d j _ u apart x) (by_must e k _ v apart' none y) = absurd (not_both d e s t j a u apart apart' x none)
  chosen_is_one s t a b o p cs ds (by_must d j _ u apart none x) (by_may e k _ v apart' y) = absurd (not_both e d s t k b v apart' apart y none)
  chosen_is_one s t a b o p cs ds (by_must d j _ u apart none x) (by_must e k _ v apart' none' y) =
      let q = one_way d e t s j k a b u v s t apart apart' x y in
      (refl, q.0, ap₂ (λ c w. map (λ z. (z, w)) (targets c (m.ways s))) q.0 q.1)

  -- The states of each child do not agree to the depth before.
  pub children_apart : (s t a d : ℕ) (o : Modality) (cs : List (ℕ × ℕ)) → Chosen m s t o a cs → ¬ Agree m (suc d) s t → All (λ p. ¬ Agree m d p.0 p.1) cs
  children_apart s t a d o cs (by_may e k _ u apart x) n =
      let l : e ≤ d = omega (arith, (least_apart (suc e) s t apart).1 (suc d) n) in
      All-map (λ p. ¬ Agree m d p.0 p.1) (λ v. (u, v)) (targets a (m.ways t))
      (all_targets a (λ v. ¬ Agree m d u v) (m.ways t) (λ i v y h. x.0.1 v (i, y) (agree_below m e d u v l h)))
  children_apart s t a d o cs (by_must e k _ v apart none x) n =
      let l : e ≤ d = omega (arith, (least_apart (suc e) s t apart).1 (suc d) n) in
      All-map (λ p. ¬ Agree m d p.0 p.1) (λ u. (u, v)) (targets a (m.ways s))
      (all_targets a (λ u. ¬ Agree m d u v) (m.ways s) (λ i u y h. x.0.1 u (i, y) (agree_sym m e u v (agree_below m e d u v l h))))
