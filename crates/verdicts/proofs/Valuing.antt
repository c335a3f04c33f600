-- What an entry says where its parts are decided decides its formula.
use Rattle.std.proofs.Common.{◌≡◌, ℕ, ◌+◌, ◌<◌, Bool, true, false, ◌&&◌, ◌||◌, T, ◌⊎◌, ◌↔◌, List, [], ◌∷◌, length, get_or, drop, ◌∙◌, length-drop, sym, ap, refl, subst, ap₂, inl, inr, ⊎_elim, arith, below_more}
use Rattle.std.specs.List.{list_any, list_all}
use Rattle.std.proofs.lemmas.List.{drop_more}
use Rattle.lts.specs.Lts.{Lts}
use Rattle.pair.specs.Wide.{Wide}
use Rattle.hml.specs.Logic.{Formula, Sat}
use Rattle.hml.specs.Logic.Formula.{tru, may, must}
use Rattle.formula.specs.declared.entry.Entry.{Entry}
use Rattle.formula.specs.declared.entry.Entry.TheVariants.{True, False, And, Or, May, Must}
use Rattle.formula.specs.Entries.{formula_of, formulas, formula_at, Sound, AllSound}
use Rattle.verdicts.specs.Words.{says, Decides}
use Rattle.verdicts.specs.Values.{goes, stays, value_of, EntryJudged}
use Rattle.verdicts.proofs.Going.{some_going, going_some, staying, all_staying}
use Rattle.verdicts.proofs.Naming.{formula_made}
use Rattle.verdicts.proofs.Telling.{true_holds, holds_true}

module _ (m : Lts) (P Q : ℕ → ℕ → Bool) (n : ℕ) (same : (i t : ℕ) → i < n → P i t ≡ Q i t) where
  -- What an entry says rests on what the entries below n say, where it names only these.
  pub value_same : (e : Entry) → Sound n e → (s : ℕ) → value_of m P e s ≡ value_of m Q e s
  value_same True h s = refl
  value_same False h s = refl
  value_same (And i j) h s = ap₂ (λ x y. x && y) (same i s h.0) (same j s h.1)
  value_same (Or i j) h s = ap₂ (λ x y. x || y) (same i s h.0) (same j s h.1)
  value_same (May a i) h s = λ x. list_any (goes a (λ t. same i t h.1 x)) (m.ways s)
  value_same (Must a i) h s = λ x. list_all (stays a (λ t. same i t h.1 x)) (m.ways s)

both_decide : {A B : Type 0} (x y : Bool) → T x ↔ A → T y ↔ B → T (x && y) ↔ (A × B)
both_decide true y p q = (λ h. (p.0 tt, q.0 h), λ z. q.1 z.1)
both_decide false y p q = (λ h. absurd h, λ z. p.1 z.0)

either_decides : {A B : Type 0} (x y : Bool) → T x ↔ A → T y ↔ B → T (x || y) ↔ (A ⊎ B)
either_decides true y p q = (λ h. inl (p.0 tt), λ z. tt)
either_decides false y p q = (λ h. inr (q.0 h), ⊎_elim (λ a. absurd (p.1 a)) q.1)

module _ (m : Lts) (wide : Wide m) (P : ℕ → ℕ → Bool) (fs : List Formula) (n : ℕ) (decided : (i s : ℕ) → i < n → s < m.states → T (P i s) ↔ Sat m s (get_or fs i tru)) where
  -- The formula that an entry i stands for.
  abbrev at : ℕ → Formula
  at i = get_or fs i tru

  may_holds : (a i s : ℕ) → i < n → T (value_of m P (May a i) s) → Sat m s (may a (at i))
  may_holds a i s l h =
      let x = some_going a (P i) (m.ways s) (holds_true (value_of m P (May a i) s) h) in
      (x.0, (x.1, x.2), (decided i x.0 l (wide.target s x.1 a x.0 x.2)).0 (true_holds (P i x.0) x.3))

  may_told : (a i s : ℕ) → i < n → Sat m s (may a (at i)) → T (value_of m P (May a i) s)
  may_told a i s l x =
      let told = (decided i x.0 l (wide.target s x.1.0 a x.0 x.1.1)).1 x.2 in
      true_holds (value_of m P (May a i) s) (going_some a (P i) (m.ways s) x.1.0 x.0 x.1.1 (holds_true (P i x.0) told))

  must_holds : (a i s : ℕ) → i < n → T (value_of m P (Must a i) s) → Sat m s (must a (at i))
  must_holds a i s l h t x =
      let e = staying a (P i) (m.ways s) (holds_true (value_of m P (Must a i) s) h) x.0 t x.1 in
      (decided i t l (wide.target s x.0 a t x.1)).0 (true_holds (P i t) e)

  must_told : (a i s : ℕ) → i < n → Sat m s (must a (at i)) → T (value_of m P (Must a i) s)
  must_told a i s l every =
      true_holds (value_of m P (Must a i) s) (all_staying a (P i) (m.ways s) (λ k t e. holds_true (P i t) ((decided i t l (wide.target s k a t e)).1 (every t (k, e)))))

  -- What a sound entry says is whether its formula holds.
  pub value_decides : (e : Entry) → Sound n e → (s : ℕ) → s < m.states → T (value_of m P e s) ↔ Sat m s (formula_of fs e)
  value_decides True h s l = (λ x. tt, λ x. tt)
  value_decides False h s l = (λ x. x, λ x. x)
  value_decides (And i j) h s l = both_decide (P i s) (P j s) (decided i s h.0 l) (decided j s h.1 l)
  value_decides (Or i j) h s l = either_decides (P i s) (P j s) (decided i s h.0 l) (decided j s h.1 l)
  value_decides (May a i) h s l = (may_holds a i s h.1, may_told a i s h.1)
  value_decides (Must a i) h s l = (must_holds a i s h.1, must_told a i s h.1)

-- The entry that a loop takes next, after k of the list.
pub entry_given : (es : List Entry) (k : ℕ) (e : Entry) (later : List Entry) → drop k es ≡ e ∷ later → (k < length es) × (e ≡ get_or es k True) × (later ≡ drop (k + 1) es)
entry_given es k e later is =
    let within : k < length es = omega (arith, ap length is, length-drop k es) in
    let both : e ∷ later ≡ get_or es k True ∷ drop (k + 1) es = sym is ∙ drop_more es k True within in
    (within, cc, cc)

-- One entry more of a list is judged.
pub judge_more :
    (m : Lts) → Wide m → (es : List Entry) (old new : List ℕ) (n : ℕ) → n < length es → EntryJudged m (get_or es n True) n m.states old new
    → (AllSound es → (i : ℕ) → i < n → Decides m old i (formula_at es i))
    → AllSound es → (i : ℕ) → i < n + 1 → Decides m new i (formula_at es i)
judge_more m wide es old new n lt made below sound =
    below_more (λ i. Decides m new i (formula_at es i)) n
    (λ i l s k. subst (λ b. T b ↔ Sat m s (formula_at es i)) (sym (made.others i s (λ e. omega arith))) (below sound i l s k))
    (λ s k.
    let e = get_or es n True in
    let value = value_decides m wide (says old) (formulas [] es) n (λ i t l b. below sound i l t b) e (sound n lt) s k in
    subst (λ b. T b ↔ Sat m s (formula_at es n)) (sym (made.value (sound n lt) s k)) (subst (λ f. T (value_of m (says old) e s) ↔ Sat m s f) (sym (formula_made es n lt (sound n lt))) value))
