-- Two systems side by side: every move leads to one of their states.
use Rattle.std.proofs.Common.{◌≡◌, ℕ, zero, suc, ◌+◌, ◌-◌, ◌<◌, Bool, true, false, cond, ltb, List, [], ◌∷◌, map, get_or, Some, None, sym, refl, ◌∙◌, arith}
use Rattle.lts.specs.Lts.{Lts, Way, Limits, way_at}
use Rattle.lts.specs.Joined.{joined, shifted}
use Rattle.hml.specs.Theorems.{Closed}
use Rattle.hml.proofs.Deciding.{same_move, none_moves}

shifted_at : (n : ℕ) (ws : List Way) (k : ℕ) → get_or (map (shifted n) ws) k None ≡ shifted n (get_or ws k None)
shifted_at n [] k = refl
shifted_at n (w ∷ ws) zero = refl
shifted_at n (w ∷ ws) (suc k) = shifted_at n ws k

pub joined_closed : (l r : Lts) → Limits l → Limits r → Closed (joined l r)
joined_closed l r left right s a t (k, move) = go (ltb s l.states) move
  where
    behind : (w : Way) → way_at r (s - l.states) k ≡ w → shifted l.states w ≡ Some (a, t) → t < l.states + r.states
    behind None is e = absurd (none_moves a t e)
    behind (Some p) is e =
        omega (arith, (same_move p.0 (l.states + p.1) a t refl e).1, right.target (s - l.states) k p.0 p.1 is)

    go : (b : Bool) → get_or (cond b (l.ways s) (map (shifted l.states) (r.ways (s - l.states)))) k None ≡ Some (a, t) → t < l.states + r.states
    go true e = omega (arith, left.target s k a t e)
    go false e = behind (way_at r (s - l.states) k) refl (sym (shifted_at l.states (r.ways (s - l.states)) k) ∙ e)
