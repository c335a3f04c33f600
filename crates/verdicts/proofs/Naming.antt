-- The formula of an entry is made of the formulas that the same list has for its parts.
use Rattle.std.proofs.Common.{◌≡◌, ℕ, zero, suc, ◌+◌, ◌<◌, List, [], ◌∷◌, ◌++◌, length, get_or, sym, refl, ap, ◌∙◌, subst, ap₂, arith}
use Rattle.std.proofs.lemmas.List.{get_or_append_left, get_or_push, length_push}
use Rattle.hml.specs.Logic.{Formula}
use Rattle.hml.specs.Logic.Formula.{tru, both, either, may, must}
use Rattle.formula.specs.declared.entry.Entry.{Entry}
use Rattle.formula.specs.declared.entry.Entry.TheVariants.{True, False, And, Or, May, Must}
use Rattle.formula.specs.Entries.{formula_of, formulas, formula_at, Sound}

-- Formulas given in front stay in front.
formulas_keep : (fs : List Formula) (es : List Entry) (n : ℕ) → n < length fs → get_or (formulas fs es) n tru ≡ get_or fs n tru
formulas_keep fs [] n l = refl
formulas_keep fs (e ∷ es) n l =
    let one = formula_of fs e ∷ [] in
    let within : n < length (fs ++ one) = omega (arith, length_push fs (formula_of fs e)) in
    formulas_keep (fs ++ one) es n within ∙ get_or_append_left fs one tru n l

-- An entry that names places below n stands for one formula, whatever lists have the same formulas there.
formula_same : (fs gs : List Formula) (n : ℕ) → ((i : ℕ) → i < n → get_or fs i tru ≡ get_or gs i tru) → (e : Entry) → Sound n e → formula_of fs e ≡ formula_of gs e
formula_same fs gs n same True h = refl
formula_same fs gs n same False h = refl
formula_same fs gs n same (And i j) h = ap₂ both (same i h.0) (same j h.1)
formula_same fs gs n same (Or i j) h = ap₂ either (same i h.0) (same j h.1)
formula_same fs gs n same (May a i) h = ap (may a) (same i h.1)
formula_same fs gs n same (Must a i) h = ap (must a) (same i h.1)

-- The same behind formulas given in front.
made_behind : (fs : List Formula) (es : List Entry) (i : ℕ) → i < length es → Sound (length fs + i) (get_or es i True) → get_or (formulas fs es) (length fs + i) tru ≡ formula_of (formulas fs es) (get_or es i True)
made_behind fs [] i l h = absurd (omega arith)
made_behind fs (e ∷ es) zero l h =
    let x = formula_of fs e in
    let gs = formulas (fs ++ x ∷ []) es in
    let place : length fs + 0 ≡ length fs = omega arith in
    let long = length_push fs x in
    let keeps : (n : ℕ) → n < length fs → get_or fs n tru ≡ get_or gs n tru =
    λ n (l : n < length fs). sym (formulas_keep (fs ++ x ∷ []) es n (omega arith) ∙ get_or_append_left fs (x ∷ []) tru n l) in
    ap (λ n. get_or gs n tru) place
    ∙ formulas_keep (fs ++ x ∷ []) es (length fs) (omega arith)
    ∙ get_or_push fs x tru (length fs) refl
    ∙ formula_same fs gs (length fs) keeps e (subst (λ n. Sound n e) place h)
made_behind fs (e ∷ es) (suc i) l h =
    let x = formula_of fs e in
    let place : length (fs ++ x ∷ []) + i ≡ length fs + suc i = omega (arith, length_push fs x) in
    ap (λ n. get_or (formulas (fs ++ x ∷ []) es) n tru) (sym place)
    ∙ made_behind (fs ++ x ∷ []) es i (omega arith) (subst (λ n. Sound n (get_or es i True)) (sym place) h)

-- The formula of a sound entry is that of its parts.
pub formula_made : (es : List Entry) (i : ℕ) → i < length es → Sound i (get_or es i True) → formula_at es i ≡ formula_of (formulas [] es) (get_or es i True)
formula_made es i l h =
    let place : 0 + i ≡ i = omega arith in
    ap (λ n. get_or (formulas [] es) n tru) (sym place) ∙ made_behind [] es i l (subst (λ n. Sound n (get_or es i True)) (sym place) h)
