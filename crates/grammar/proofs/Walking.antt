-- What comes of a text from any place and any state: one byte, spaces, a refusal and the end. Assumes nothing.
use Rattle.std.proofs.Common.{◌≡◌, ℕ, zero, suc, ◌+◌, ◌<◌, ◌≤◌, ltb, List, [], ◌∷◌, ◌++◌, length, get_or, drop, sym, refl, ap, ◌∙◌, ⊎_elim, add-one, arith}
use Rattle.std.proofs.lemmas.List.{drop_more, drop_all}
use Rattle.std.proofs.lemmas.Bool.{lt-ltb, le-ltb, ne_eqb, cases_lt, cond-true, cond-false}
use Rattle.hml.specs.Logic.{Formula}
use Rattle.grammar.specs.Grammar.{ands}
use Rattle.grammar.specs.Order.{bad}
use Rattle.grammar.specs.Verdict.{Out}
use Rattle.grammar.specs.Machine.{Ctx, first, State, await, have, dead, next, run, start, joined, outer}
use Rattle.grammar.specs.Machine.{begun, depth, ending, limited, checked, walk, read, out_at, Alive, Within}

-- The check of a state that goes on: where too many entries have begun, where too many brackets are open, and else.
checked_alive : (limit : ℕ) (σ : State) (p : ℕ) (o : Out) → Alive σ → checked limit σ p o ≡ limited limit σ p o
checked_alive limit (await g k) p o h = refl
checked_alive limit (have f k) p o h = refl
checked_alive limit dead p o h = absurd h

pub checked_many : (limit : ℕ) (σ : State) (p : ℕ) (o : Out) → Alive σ → limit < begun σ → checked limit σ p o ≡ bad 32 p
checked_many limit σ p o h many = checked_alive limit σ p o h ∙ cond-true (ltb limit (begun σ)) _ _ (lt-ltb limit (begun σ) many)

pub checked_deep : (limit : ℕ) (σ : State) (p : ℕ) (o : Out) → Alive σ → begun σ ≤ limit → 16 < depth σ → checked limit σ p o ≡ bad 33 p
checked_deep limit σ p o h few deep =
    checked_alive limit σ p o h ∙ cond-false (ltb limit (begun σ)) _ _ (le-ltb limit (begun σ) few) ∙ cond-true (ltb 16 (depth σ)) _ _ (lt-ltb 16 (depth σ) deep)

pub checked_within : (limit : ℕ) (σ : State) (p : ℕ) (o : Out) → Within limit σ → checked limit σ p o ≡ o
checked_within limit σ p o h =
    checked_alive limit σ p o h.0 ∙ cond-false (ltb limit (begun σ)) _ _ (le-ltb limit (begun σ) h.1) ∙ cond-false (ltb 16 (depth σ)) _ _ (le-ltb 16 (depth σ) h.2)

-- Each of the bytes leads on within the limits.
abbrev pub Through : ℕ → State → List ℕ → Type 0
Through limit σ [] = Unit {0}
Through limit σ (b ∷ w) = Within limit (next σ b) × Through limit (next σ b) w

-- Such bytes are passed.
pub walk_run : (limit : ℕ) (u bs : List ℕ) (σ : State) (p : ℕ) → Through limit σ u → walk limit σ p (u ++ bs) ≡ walk limit (run σ u) (p + length u) bs
walk_run limit [] bs σ p h = let same : p ≡ p + 0 = omega arith in ap (λ i. walk limit σ i bs) same
walk_run limit (b ∷ u) bs σ p h =
    let same : suc p + length u ≡ p + suc (length u) = omega arith in
    checked_within limit (next σ b) p _ h.0 ∙ walk_run limit u bs (next σ b) (suc p) h.1 ∙ ap (λ i. walk limit (run (next σ b) u) i bs) same

-- The state after the whole or-phrase that an and-phrase ends.
abbrev pub regrouped : Formula → Ctx ands → State
regrouped f k = have (joined f k) (first (outer k))

-- Bytes other than a space and & lead to the same state from there.
pub next_regrouped : (f : Formula) (k : Ctx ands) (b : ℕ) → ¬ (b ≡ 32) → ¬ (b ≡ 38) → next (have f k) b ≡ next (regrouped f k) b
next_regrouped f k b space and = rw (ne_eqb b 32 space, ne_eqb b 38 and)

module _ (limit : ℕ) (s : List ℕ) where
  -- What is read is what comes of the text from its first place on, in the start.
  pub out_start : read limit s ≡ out_at limit s start 0
  unfolding out_at
  out_start = refl

  -- What comes of the end.
  pub out_end : (σ : State) (p : ℕ) → length s ≤ p → out_at limit s σ p ≡ ending σ p
  unfolding out_at
  out_end σ p h = ap (walk limit σ p) (drop_all p s h)

  -- What comes of a byte that leads to τ.
  module _ (σ τ : State) (p b : ℕ) (h : p < length s) (e : get_or s p 0 ≡ b) (n : next σ b ≡ τ) where
    pub out_checked : out_at limit s σ p ≡ checked limit τ p (out_at limit s τ (p + 1))
    unfolding out_at
    out_checked =
        ap (walk limit σ p) (drop_more s p 0 h ∙ ap (λ c. c ∷ drop (p + 1) s) e)
        ∙ ap (λ i. checked limit (next σ b) p (walk limit (next σ b) i (drop (p + 1) s))) (sym (add-one p))
        ∙ ap (λ ρ. checked limit ρ p (walk limit ρ (p + 1) (drop (p + 1) s))) n

    -- Within the limits.
    pub out_byte : Within limit τ → out_at limit s σ p ≡ out_at limit s τ (p + 1)
    out_byte w = out_checked ∙ checked_within limit τ p _ w

    -- Where an entry too many begins.
    pub out_many : Alive τ → limit < begun τ → out_at limit s σ p ≡ bad 32 p
    out_many a many = out_checked ∙ checked_many limit τ p _ a many

    -- Where a bracket too many is opened.
    pub out_deep : Alive τ → begun τ ≤ limit → 16 < depth τ → out_at limit s σ p ≡ bad 33 p
    out_deep a few deep = out_checked ∙ checked_deep limit τ p _ a few deep

  -- What comes of a byte that may not stand there.
  pub out_dead : (σ : State) (p b : ℕ) → p < length s → get_or s p 0 ≡ b → next σ b ≡ dead → out_at limit s σ p ≡ bad 31 p
  out_dead σ p b h e n = out_checked σ dead p b h e n

  -- What comes of spaces where they may stand.
  pub out_spaces : (σ : State) → next σ 32 ≡ σ → Within limit σ → (n p : ℕ) → p + n ≤ length s → ((i : ℕ) → p ≤ i → i < p + n → get_or s i 0 ≡ 32) → out_at limit s σ p ≡ out_at limit s σ (p + n)
  out_spaces σ stays w zero p l h = let same : p ≡ p + 0 = omega arith in ap (out_at limit s σ) same
  out_spaces σ stays w (suc n) p l h =
      let same : p + 1 + n ≡ p + suc n = omega arith in
      out_byte σ σ p 32 (omega arith) (h p (omega arith) (omega arith)) stays w
      ∙ out_spaces σ stays w n (p + 1) (omega arith) (λ i low high. h i (omega arith) (omega arith)) ∙ ap (out_at limit s σ) same

  -- Where neither a space nor & follows, what comes after an and-phrase is what comes after the or-phrase that it ends.
  pub out_regrouped : (f : Formula) (k : Ctx ands) (p : ℕ) → (p < length s → (¬ (get_or s p 0 ≡ 32)) × (¬ (get_or s p 0 ≡ 38))) → out_at limit s (have f k) p ≡ out_at limit s (regrouped f k) p
  out_regrouped f k p h = ⊎_elim more none (cases_lt p (length s))
    where
      more : p < length s → out_at limit s (have f k) p ≡ out_at limit s (regrouped f k) p
      more l =
          let b = get_or s p 0 in
          let τ = next (regrouped f k) b in
          out_checked (have f k) τ p b l refl (next_regrouped f k b (h l).0 (h l).1) ∙ sym (out_checked (regrouped f k) τ p b l refl refl)

      none : length s ≤ p → out_at limit s (have f k) p ≡ out_at limit s (regrouped f k) p
      none l = out_end (have f k) p l ∙ sym (out_end (regrouped f k) p l)
