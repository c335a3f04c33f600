-- What the machine reads is the verdict of formula text. Assumes nothing.
use Rattle.std.proofs.Common.{◌≡◌, ℕ, zero, suc, ◌+◌, ◌<◌, ◌≤◌, Bool, true, false, cond, ◌⊎◌, List, [], ◌∷◌, length, take, drop, codes, sym, refl, ap, ◌∙◌, subst, ap₂, inl, inr, ⊎_elim, add-zero, arith, take-append-drop}
use lib.Seq.{take-length}
use Rattle.std.proofs.lemmas.Bool.{cases_lt}
use Rattle.hml.specs.Logic.{Formula}
use Rattle.grammar.specs.Order.{good, bad, Passes, Tested, Fits, reads, ends, refused}
use Rattle.grammar.specs.Grammar.{ors, size}
use Rattle.grammar.specs.Verdict.{Is, Viable, Spot, outside, inside, second, among, beginning, entries, depth_of, tests, Out, Verdict}
use Rattle.grammar.specs.Machine.{Ctx, top, within, State, await, have, dead, run, start, joined, outer, whole, ending, begun, begun_at, depth, Alive, checked, machine, read}
use Rattle.grammar.specs.Theorems.{TextIsOneFormula, EntriesAreCounted, MachineIsExact, VerdictIsOne, AcceptedIsDerived, MalformedAt, MalformedIsFirst}
use Rattle.grammar.proofs.Ordering.{ordered, first_is_bad}
use Rattle.grammar.proofs.Walking.{checked_many, checked_deep, checked_within}
use Rattle.grammar.proofs.Completeness.{run_text, text_ends}
use Rattle.grammar.proofs.Soundness.{ends_text, bad_is_not_good}
use Rattle.grammar.proofs.Viability.{alive_viable, dead_not_viable}
use Rattle.grammar.proofs.Counting.{entries_begun, depth_open, counts_joined}

-- A state goes on or does not.
alive_or_dead : (σ : State) → Alive σ ⊎ (σ ≡ dead)
alive_or_dead (await g k) = inl tt
alive_or_dead (have f k) = inl tt
alive_or_dead dead = inr refl

-- The machine refuses as the tests do.
tested : (limit : ℕ) (w : List ℕ) (p : ℕ) → Tested (tests limit) w p (checked limit (run start w) p)
tested limit w p = ⊎_elim alive gone (alive_or_dead (run start w))
  where
    Here : Type 0
    Here = Tested (tests limit) w p (checked limit (run start w) p)

    gone : run start w ≡ dead → Here
    gone e = inr (bad 31 p, inl (dead_not_viable w e, refl), λ o. ap (λ σ. checked limit σ p o) e)

    alive : Alive (run start w) → Here
    alive h = ⊎_elim many (λ few. ⊎_elim (deep few) (flat few) (cases_lt 16 (depth (run start w)))) (cases_lt limit (begun (run start w)))
      where
        viable : Viable w
        viable = alive_viable w h

        many : limit < begun (run start w) → Here
        many x = inr (bad 32 p, inr (viable, inl (λ few. omega (arith, entries_begun w h), refl)), λ o. checked_many limit (run start w) p o h x)

        deep : begun (run start w) ≤ limit → 16 < depth (run start w) → Here
        deep few x =
            inr (bad 33 p, inr (viable, inr (omega (arith, entries_begun w h), inl (λ flat. omega (arith, depth_open w h), refl))), λ o. checked_deep limit (run start w) p o h few x)

        flat : begun (run start w) ≤ limit → depth (run start w) ≤ 16 → Here
        flat few x = inl ((viable, (omega (arith, entries_begun w h), (omega (arith, depth_open w h), tt))), λ o. checked_within limit (run start w) p o (h, few, x))

-- The end of a text is good, or the text ends too soon.
ended : (σ : State) (p : ℕ) → ((f : Formula) × (ending σ p ≡ good f)) ⊎ (ending σ p ≡ bad 31 p)
ended (await g k) p = inr refl
ended (have f k) p = go (outer k)
  where
    go : (j : Ctx ors) → ((h : Formula) × (whole (joined f k) j p ≡ good h)) ⊎ (whole (joined f k) j p ≡ bad 31 p)
    go top = inl (joined f k, refl)
    go (within i) = inr refl
ended dead p = inr refl

-- So the machine fits the grammar and the tests.
pub fits : (limit : ℕ) → Fits Is 31 (tests limit) (machine limit)
fits limit = record {
  empty = (alive_viable [] tt, (omega arith, (omega arith, tt)));
  tested = tested limit;
  sound = ends_text;
  complete = text_ends;
  ended = λ s p. ended (run start s) p;
}

-- A text is at most one formula.
pub unique : TextIsOneFormula
unique s f g x y = cc (text_ends s f 0 x, text_ends s g 0 y)

-- As many entries begin in the text of a formula as the formula has.
pub counted : EntriesAreCounted
counted s f t =
    let x = run_text t top in
    let many = entries_begun s (subst Alive (sym x.2) tt) in
    let here : begun (run start s) ≡ size x.0 + begun_at x.1 = ap begun x.2 in
    let all : size (joined x.0 x.1) + begun_at (outer x.1) ≡ size f = ap₂ (λ h j. size h + begun_at j) x.3 x.4 ∙ add-zero (size f) in
    omega (arith, counts_joined x.0 x.1)

-- What the machine reads is the verdict, and the verdict is what it reads.
pub exact : MachineIsExact
exact limit s o = ordered Formula Is 31 (tests limit) (machine limit) (fits limit) s o

-- Each text has a verdict, and one only.
pub decided : VerdictIsOne
decided limit s = (read limit s, (exact limit s (read limit s)).1 refl, λ x v. sym ((exact limit s x).0 v))

-- What is read without a refusal is derived, and no more entries begin in it than the limit.
good_verdict : (limit : ℕ) (s : List ℕ) (o : Out) → Verdict limit s o → (f : Formula) → o ≡ good f → Is s f × (entries s ≤ limit)
good_verdict limit s o (reads {f = g} h t) f e =
    let same : g ≡ f = cc in
    (subst (Is s) same t, subst (λ w. entries w ≤ limit) (take-length s) (h (length s) (omega arith)).1.0)
good_verdict limit s o (ends h none) f e = absurd (bad_is_not_good f 31 (length s) e)
good_verdict limit s o (refused {p = p} l h x) f e = let b = first_is_bad (tests limit) (take (suc p) s) p o x in absurd (bad_is_not_good f b.0 b.1 (sym b.2 ∙ e))

-- A formula that is read has no more entries than the limit.
pub accepted_size : (limit : ℕ) (s : List ℕ) (f : Formula) → read limit s ≡ good f → size f ≤ limit
accepted_size limit s f e = let x = good_verdict limit s (good f) ((exact limit s (good f)).1 e) f refl in omega (arith, counted s f x.0, x.1)

-- No more entries begin in a beginning.
cond_le : (t : Bool) (x y u v : ℕ) → x ≤ y → u ≤ v → cond t x u ≤ cond t y v
cond_le true x y u v h k = h
cond_le false x y u v h k = k

beginning_take : (q : Spot) (n : ℕ) (w : List ℕ) → beginning q (take n w) ≤ beginning q w
beginning_take q zero w = omega arith
beginning_take q (suc n) [] = omega arith
beginning_take outside (suc n) (b ∷ w) =
    let more : suc (beginning outside (take n w)) ≤ suc (beginning outside w) = omega (arith, beginning_take outside n w) in
    let act : suc (beginning inside (take n w)) ≤ suc (beginning inside w) = omega (arith, beginning_take inside n w) in
    let constant : suc (beginning second (take n w)) ≤ suc (beginning second w) = omega (arith, beginning_take second n w) in
    cond_le (among (codes "tf") b) _ _ _ _ constant (cond_le (among (codes "<[") b) _ _ _ _ act (cond_le (among (codes "&|") b) _ _ _ _ more (beginning_take outside n w)))
beginning_take inside (suc n) (b ∷ w) = cond_le (among (codes ">]") b) _ _ _ _ (beginning_take outside n w) (beginning_take inside n w)
beginning_take second (suc n) (b ∷ w) = beginning_take outside n w

-- What is read is what the grammar derives, and what it derives is read where no limit is exceeded.
pub accepted : AcceptedIsDerived
accepted limit s f = (λ e. (good_verdict limit s (good f) ((exact limit s (good f)).1 e) f refl).0, λ t few flat. (exact limit s (good f)).0 (reads (λ q l. passes t few flat q) t))
  where
    passes : Is s f → size f ≤ limit → ((q : ℕ) → depth_of (take q s) ≤ 16) → (q : ℕ) → Passes (tests limit) (take q s)
    passes t few flat q = ((drop q s, f, rw (take-append-drop q s) t), (omega (arith, beginning_take outside q s, counted s f t), (flat q, tt)))

-- What a refusal by 31 says of the text.
malformed_verdict : (limit : ℕ) (s : List ℕ) (o : Out) → Verdict limit s o → (p : ℕ) → o ≡ bad 31 p → MalformedAt s p
malformed_verdict limit s o (reads {f} h t) p e = absurd (bad_is_not_good f 31 p (sym e))
malformed_verdict limit s o (ends h none) p e = let same : length s ≡ p = cc in ((h p (omega arith)).0, omega arith, λ l. absurd (omega arith), λ _. none)
malformed_verdict limit s o (refused {p = r} l h (inl x)) p e =
    let same : r ≡ p = cc in
    ((h p (omega arith)).0, omega arith, λ _. subst (λ q. ¬ Viable (take (suc q) s)) same x.0, λ k. absurd (omega arith))
malformed_verdict limit s o (refused l h (inr (v, inl x))) p e = let z : ◌≡◌ {A = ℕ} 31 32 = cc in absurd (omega arith)
malformed_verdict limit s o (refused l h (inr (v, inr (few, inl x)))) p e = let z : ◌≡◌ {A = ℕ} 31 33 = cc in absurd (omega arith)
malformed_verdict limit s o (refused l h (inr (v, inr (few, inr x)))) p e = absurd x.1

-- At 31 some text begins with the bytes before, and none with this byte too, or the text ends too soon.
pub malformed : MalformedIsFirst
malformed limit s p e = malformed_verdict limit s (bad 31 p) ((exact limit s (bad 31 p)).1 e) p refl
