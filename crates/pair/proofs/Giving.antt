-- What a way that an iterator gives is among all ways of the state.
use Rattle.std.proofs.Common.{◌≡◌, ℕ, zero, suc, ◌+◌, ◌<◌, ◌≤◌, List, [], ◌∷◌, length, get_or, drop, None, arith}
use Rattle.lts.specs.Lts.{Way}

-- After k of the ways the next one is way k, and k + 1 are given then.
pub way_given : (ws : List Way) (k : ℕ) (w : Way) (later : List Way) → drop k ws ≡ w ∷ later → (k < length ws) × (w ≡ get_or ws k None) × (later ≡ drop (k + 1) ws)
way_given [] zero w later e = absurd (let none : ◌≡◌ {A = List Way} [] (w ∷ later) = e in cc)
way_given [] (suc k) w later e = absurd (let none : ◌≡◌ {A = List Way} [] (w ∷ later) = e in cc)
way_given (x ∷ ws) zero w later e = let whole : (x ∷ ws) ≡ w ∷ later = e in (omega arith, cc, cc)
way_given (x ∷ ws) (suc k) w later e =
    let more : suc k + 1 ≡ suc (k + 1) = omega arith in
    let behind = way_given ws k w later e in
    (omega (arith, behind.0), behind.1, rw more behind.2)

-- Where none is left, all are given.
pub all_given : (ws : List Way) (k : ℕ) → drop k ws ≡ [] → length ws ≤ k
all_given [] k e = omega arith
all_given (x ∷ ws) zero e = absurd (let whole : (x ∷ ws) ≡ [] = e in cc)
all_given (x ∷ ws) (suc k) e = omega (arith, all_given ws k e)
