-- What the entries of a list stand for, and whether they are sound, as lists are appended.
use Rattle.std.proofs.Common.{◌≡◌, ℕ, ◌+◌, ◌-◌, ◌<◌, ◌≤◌, ◌⊎◌, List, [], ◌∷◌, ◌++◌, map, length, get_or, sym, refl, ap, ◌∙◌, subst, ap₂, inl, inr, arith}
use Rattle.std.proofs.lemmas.List.{append-nil, append_assoc, length-append, length-map, get_or_append_left, get_or-append_right, get_or-append-add, get_or-map}
use Rattle.std.proofs.lemmas.Bool.{cases_lt}
use Rattle.hml.specs.Logic.{Formula}
use Rattle.hml.specs.Logic.Formula.{tru, both, either, may, must}
use Rattle.formula.specs.declared.entry.Entry.{Entry}
use Rattle.formula.specs.declared.entry.Entry.TheVariants.{True, False, And, Or, May, Must}
use Rattle.formula.specs.Entries.{formula_of, formulas, Sound, raised, appended}
use Rattle.formula.specs.Theorems.{AppendingKeeps, AppendingAdds, AppendingIsSound}

-- The formulas of entries go behind those given, one for each entry.
formulas_behind : (fs : List Formula) (es : List Entry) → (gs : List Formula) × (formulas fs es ≡ fs ++ gs) × (length gs ≡ length es)
formulas_behind fs [] = ([], sym (append-nil fs), refl)
formulas_behind fs (e ∷ es) =
    let rest = formulas_behind (fs ++ formula_of fs e ∷ []) es in
    (formula_of fs e ∷ rest.0, rest.1 ∙ append_assoc fs (formula_of fs e ∷ []) rest.0, rw rest.2)

pub length_formulas : (es : List Entry) → length (formulas [] es) ≡ length es
length_formulas es = let x = formulas_behind [] es in ap length x.1 ∙ x.2

formulas_append : (fs : List Formula) (es list : List Entry) → formulas fs (es ++ list) ≡ formulas (formulas fs es) list
formulas_append fs [] list = refl
formulas_append fs (e ∷ es) list = formulas_append (fs ++ formula_of fs e ∷ []) es list

pub appending_keeps : AppendingKeeps
appending_keeps es list n l =
    let fs = formulas [] es in
    let x = formulas_behind fs (map (raised (length es)) list) in
    let within : n < length fs = omega (arith, length_formulas es) in
    ap (λ gs. get_or gs n tru) (formulas_append [] es (map (raised (length es)) list) ∙ x.1) ∙ get_or_append_left fs x.0 tru n within

-- A raised entry stands for the same formula where as many formulas more stand in front.
raised_formula : (ps gs : List Formula) (e : Entry) → formula_of (ps ++ gs) (raised (length ps) e) ≡ formula_of gs e
raised_formula ps gs True = refl
raised_formula ps gs False = refl
raised_formula ps gs (And i j) = ap₂ both (get_or-append-add ps gs i tru) (get_or-append-add ps gs j tru)
raised_formula ps gs (Or i j) = ap₂ either (get_or-append-add ps gs i tru) (get_or-append-add ps gs j tru)
raised_formula ps gs (May a i) = ap (may a) (get_or-append-add ps gs i tru)
raised_formula ps gs (Must a i) = ap (must a) (get_or-append-add ps gs i tru)

raised_formulas : (ps gs : List Formula) (es : List Entry) → formulas (ps ++ gs) (map (raised (length ps)) es) ≡ ps ++ formulas gs es
raised_formulas ps gs [] = refl
raised_formulas ps gs (e ∷ es) =
    let one = ap (λ f. (ps ++ gs) ++ f ∷ []) (raised_formula ps gs e) ∙ append_assoc ps gs (formula_of gs e ∷ []) in
    ap (λ fs. formulas fs (map (raised (length ps)) es)) one ∙ raised_formulas ps (gs ++ formula_of gs e ∷ []) es

pub appending_adds : AppendingAdds
appending_adds es list n s l =
    let fs = formulas [] es in
    let gs = formulas [] list in
    let behind = subst (λ hs. formulas hs (map (raised (length fs)) list) ≡ fs ++ gs) (append-nil fs) (raised_formulas fs [] list) in
    let at : get_or (formulas fs (map (raised (length fs)) list)) (length fs + n) tru ≡ get_or gs n tru =
    ap (λ hs. get_or hs (length fs + n) tru) behind ∙ get_or-append-add fs gs n tru in
    ap (λ hs. get_or hs (length es + n) tru) (formulas_append [] es (map (raised (length es)) list))
    ∙ subst (λ i. get_or (formulas fs (map (raised i) list)) (i + n) tru ≡ get_or gs n tru) (length_formulas es) at

raised_sound : (n k : ℕ) (e : Entry) → Sound k e → Sound (n + k) (raised n e)
raised_sound n k True h = tt
raised_sound n k False h = tt
raised_sound n k (And i j) h = omega arith
raised_sound n k (Or i j) h = omega arith
raised_sound n k (May a i) h = omega arith
raised_sound n k (Must a i) h = omega arith

pub appending_is_sound : AppendingIsSound
appending_is_sound es list h g k l = go (cases_lt k (length es))
  where
    more : List Entry
    more = map (raised (length es)) list

    go : (k < length es) ⊎ (length es ≤ k) → Sound k (get_or (appended es list) k True)
    go (inl below) = rw (get_or_append_left es more True k below) (h k below)
    go (inr above) =
        let i = k - length es in
        let within : i < length list = omega (arith, length-append es more, length-map list (raised (length es))) in
        let place : length es + i ≡ k = omega arith in
        let same = get_or-append_right es more (length es) k True refl above ∙ get_or-map (raised (length es)) list i True True within in
        rw same (subst (λ j. Sound j (raised (length es) (get_or list i True))) place (raised_sound (length es) i (get_or list i True) (g i within)))
