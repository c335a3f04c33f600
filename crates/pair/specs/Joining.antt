-- Two systems side by side: the ways of each state, and the limits that the two keep to together.
use Rattle.std.specs.Prelude.{◌≡◌, ℕ, ◌+◌, ◌-◌, ◌<◌, ◌≤◌, [], map, length, Some, None, nat_lt, slice_index_or, refl}
use Rattle.std.proofs.Common.{sym, ap, subst, ◌∙◌, arith}
use Rattle.std.proofs.lemmas.List.{length-map}
use Rattle.std.proofs.Math.ListN.{get_or-map}
use Rattle.std.proofs.lemmas.Bool.{cond-true, cond-false, lt-ltb, le-ltb}
use Rattle.lts.specs.Lts.{Lts, Way, Limits, way_at}
use Rattle.lts.specs.Joined.{shifted, joined}
use Rattle.hml.specs.Theorems.{Closed}
use Rattle.hml.proofs.Deciding.{by_order, same_move, none_moves}
use Rattle.pair.specs.Wide.{Wide}

-- Every move of a pair leads to a state.
pub wide_closed : (m : Lts) → Wide m → Closed m
wide_closed m w s a t x = w.target s x.0 a t x.1

-- A way whose shifted form is a move is that move before the shift.
pub unshifted : (n : ℕ) (o : Way) (a t : ℕ) → shifted n o ≡ Some (a, t) → (v : ℕ) × (o ≡ Some (a, v)) × (n + v ≡ t)
unshifted n None a t e = absurd (none_moves a t e)
unshifted n (Some p) a t e =
    let same = same_move p.0 (n + p.1) a t refl e in
    (p.1, ap (λ b. Some (b, p.1)) same.0, same.1)

module _ (l r : Lts) where
  abbrev N : ℕ
  N = l.states

  pub ways_left : (s : ℕ) → s < l.states → (joined l r).ways s ≡ l.ways s
  ways_left s h = cond-true (nat_lt s N) (l.ways s) (map (shifted N) (r.ways (s - N))) (lt-ltb s N h)

  pub ways_right : (s : ℕ) → l.states ≤ s → (joined l r).ways s ≡ map (shifted l.states) (r.ways (s - l.states))
  ways_right s h = cond-false (nat_lt s N) (l.ways s) (map (shifted N) (r.ways (s - N))) (le-ltb s N h)

  pub count_right : (s : ℕ) → l.states ≤ s → length ((joined l r).ways s) ≡ length (r.ways (s - l.states))
  count_right s h = ap length (ways_right s h) ∙ length-map (r.ways (s - N)) (shifted N)

  pub way_left : (s k : ℕ) → s < l.states → way_at (joined l r) s k ≡ way_at l s k
  way_left s k h = ap (λ ws. slice_index_or ws k None) (ways_left s h)

  pub way_right : (s k : ℕ) → l.states ≤ s → way_at (joined l r) s k ≡ shifted l.states (way_at r (s - l.states) k)
  way_right s k h = ap (λ ws. slice_index_or ws k None) (ways_right s h) ∙ get_or-map (shifted N) (r.ways (s - N)) k None

  module _ (lim : Limits l) (rim : Limits r) where
    few : (s : ℕ) → length ((joined l r).ways s) ≤ 4095
    few s =
        by_order s N
        (λ h. subst (λ ws. length ws ≤ 4095) (sym (ways_left s h)) (lim.few s))
        (λ h. subst (λ n. n ≤ 4095) (sym (count_right s h)) (rim.few (s - N)))

    outside : (s : ℕ) → l.states + r.states ≤ s → (joined l r).ways s ≡ []
    outside s h =
        let past : l.states ≤ s = omega arith in
        let past' : r.states ≤ s - l.states = omega arith in
        ways_right s past ∙ ap (map (shifted N)) (rim.outside (s - N) past')

    action : (s k a t : ℕ) → way_at (joined l r) s k ≡ Some (a, t) → a ≤ 52
    action s k a t e =
        by_order s N
        (λ h. lim.action s k a t (sym (way_left s k h) ∙ e))
        (λ h. let x = unshifted N (way_at r (s - N) k) a t (sym (way_right s k h) ∙ e) in rim.action (s - N) k a x.0 x.1)

    target : (s k a t : ℕ) → way_at (joined l r) s k ≡ Some (a, t) → t < l.states + r.states
    target s k a t e =
        by_order s N
        (λ h. omega (arith, lim.target s k a t (sym (way_left s k h) ∙ e)))
        (λ h. let x = unshifted N (way_at r (s - N) k) a t (sym (way_right s k h) ∙ e) in omega (arith, rim.target (s - N) k a x.0 x.1, x.2))

    pub joined_wide : Wide (joined l r)
    joined_wide = record {
      some = omega (arith, lim.some, rim.some);
      most = omega (arith, lim.most, rim.most);
      few = few;
      outside = outside;
      action = action;
      target = target;
    }
