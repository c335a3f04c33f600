-- What the entries of a formula stand for, and that they are sound. Assumes nothing.
use Rattle.std.proofs.Common.{◌≡◌, ℕ, zero, suc, ◌+◌, ◌<◌, ◌≤◌, List, [], ◌∷◌, ◌++◌, length, replicate, get_or, sym, refl, ap, ap₂, ◌∙◌, subst, ⊎_elim, arith}
use Rattle.std.proofs.lemmas.List.{append-nil, append_assoc, length-append, get_or_append_left, get_or-append-add}
use Rattle.std.proofs.lemmas.Bool.{cases_lt}
use Rattle.hml.specs.Logic.{Formula}
use Rattle.hml.specs.Logic.Formula.{tru, fls, both, either, may, must}
use Rattle.formula.specs.declared.entry.Entry.{Entry}
use Rattle.formula.specs.declared.entry.Entry.TheVariants.{True, False, And, Or, May, Must}
use Rattle.formula.specs.Entries.{formula_of, formulas, formula_at, Sound, AllSound}
use Rattle.formula.proofs.Appending.{length_formulas}
use Rattle.grammar.specs.Grammar.{Level, Letter, letter, gap, Act, silent, receives, sends, before, after, Text, truth, falsity, diamond, box, bracketed, single, conjunction, conjunctions, disjunction, led, trailed, size}
use Rattle.grammar.specs.Writing.{AllActions}
use Rattle.formula_text.specs.Listing.{last_of, listed}
use Rattle.formula_text.proofs.Sizes.{length_listed}

-- The formula of an entry that is put behind others goes behind theirs.
formulas_behind : (fs : List Formula) (es : List Entry) (e : Entry) → formulas fs (es ++ e ∷ []) ≡ formulas fs es ++ formula_of (formulas fs es) e ∷ []
formulas_behind fs [] e = refl
formulas_behind fs (x ∷ es) e = formulas_behind (fs ++ formula_of fs x ∷ []) es e

-- The formula of an entry behind others, and those of the others.
last_formula : (es : List Entry) (e : Entry) → formula_at (es ++ e ∷ []) (length es) ≡ formula_of (formulas [] es) e
last_formula es e =
    let fs = formulas [] es in
    let same : length es ≡ length fs + 0 = omega (arith, length_formulas es) in
    ap (λ gs. get_or gs (length es) tru) (formulas_behind [] es e) ∙ ap (λ n. get_or (fs ++ formula_of fs e ∷ []) n tru) same ∙ get_or-append-add fs (formula_of fs e ∷ []) 0 tru

earlier : (es : List Entry) (e : Entry) (n : ℕ) → n < length es → formula_at (es ++ e ∷ []) n ≡ formula_at es n
earlier es e n l =
    let fs = formulas [] es in
    let within : n < length fs = omega (arith, l, length_formulas es) in
    ap (λ gs. get_or gs n tru) (formulas_behind [] es e) ∙ get_or_append_left fs (formula_of fs e ∷ []) tru n within

pub size_some : (f : Formula) → 0 < size f
size_some tru = omega arith
size_some fls = omega arith
size_some (both f g) = omega arith
size_some (either f g) = omega arith
size_some (may a f) = omega arith
size_some (must a f) = omega arith

-- The entries of a formula leave those before them as they are.
pub listed_keeps : (es : List Entry) (f : Formula) (n : ℕ) → n < length es → formula_at (listed es f) n ≡ formula_at es n
listed_keeps es tru n l = earlier es True n l
listed_keeps es fls n l = earlier es False n l
listed_keeps es (both f g) n l =
    let x = listed es f in
    let y = listed x g in
    earlier y (And (last_of x) (last_of y)) n (omega (arith, l, length_listed es f, length_listed x g)) ∙ listed_keeps x g n (omega (arith, l, length_listed es f)) ∙ listed_keeps es f n l
listed_keeps es (either f g) n l =
    let x = listed es f in
    let y = listed x g in
    earlier y (Or (last_of x) (last_of y)) n (omega (arith, l, length_listed es f, length_listed x g)) ∙ listed_keeps x g n (omega (arith, l, length_listed es f)) ∙ listed_keeps es f n l
listed_keeps es (may a f) n l = earlier (listed es f) (May a (last_of (listed es f))) n (omega (arith, l, length_listed es f)) ∙ listed_keeps es f n l
listed_keeps es (must a f) n l = earlier (listed es f) (Must a (last_of (listed es f))) n (omega (arith, l, length_listed es f)) ∙ listed_keeps es f n l

-- The last of them stands for the formula.
last_stands : (es : List Entry) (e : Entry) → formula_at (es ++ e ∷ []) (last_of (es ++ e ∷ [])) ≡ formula_of (formulas [] es) e
last_stands es e =
    let same : last_of (es ++ e ∷ []) ≡ length es = omega (arith, length-append es (e ∷ [])) in
    ap (formula_at (es ++ e ∷ [])) same ∙ last_formula es e

pub listed_stands : (es : List Entry) (f : Formula) → formula_at (listed es f) (last_of (listed es f)) ≡ f
listed_stands es tru = last_stands es True
listed_stands es fls = last_stands es False
listed_stands es (both f g) =
    let x = listed es f in
    let y = listed x g in
    last_stands y (And (last_of x) (last_of y))
    ∙ ap₂ both (listed_keeps x g (last_of x) (omega (arith, length_listed es f, size_some f)) ∙ listed_stands es f) (listed_stands x g)
listed_stands es (either f g) =
    let x = listed es f in
    let y = listed x g in
    last_stands y (Or (last_of x) (last_of y))
    ∙ ap₂ either (listed_keeps x g (last_of x) (omega (arith, length_listed es f, size_some f)) ∙ listed_stands es f) (listed_stands x g)
listed_stands es (may a f) = last_stands (listed es f) (May a (last_of (listed es f))) ∙ ap (may a) (listed_stands es f)
listed_stands es (must a f) = last_stands (listed es f) (Must a (last_of (listed es f))) ∙ ap (must a) (listed_stands es f)

-- A sound entry behind sound ones.
sound_behind : (es : List Entry) (e : Entry) → AllSound es → Sound (length es) e → AllSound (es ++ e ∷ [])
sound_behind es e sound last k l = ⊎_elim old new (cases_lt k (length es))
  where
    old : k < length es → Sound k (get_or (es ++ e ∷ []) k True)
    old h = subst (Sound k) (sym (get_or_append_left es (e ∷ []) True k h)) (sound k h)

    new : length es ≤ k → Sound k (get_or (es ++ e ∷ []) k True)
    new h =
        let same : length es + 0 ≡ k = omega (arith, h, l, length-append es (e ∷ [])) in
        let there : length es ≡ k = omega (arith, same) in
        subst (λ i. Sound k (get_or (es ++ e ∷ []) i True)) same (subst (Sound k) (sym (get_or-append-add es (e ∷ []) 0 True)) (subst (λ i. Sound i e) there last))

pub listed_sound : (es : List Entry) (f : Formula) → AllSound es → AllActions f → AllSound (listed es f)
listed_sound es tru sound h = sound_behind es True sound tt
listed_sound es fls sound h = sound_behind es False sound tt
listed_sound es (both f g) sound h =
    let x = listed es f in
    let y = listed x g in
    sound_behind y (And (last_of x) (last_of y)) (listed_sound x g (listed_sound es f sound h.0) h.1)
    (omega (arith, length_listed es f, length_listed x g, size_some f), omega (arith, length_listed es f, length_listed x g, size_some f))
listed_sound es (either f g) sound h =
    let x = listed es f in
    let y = listed x g in
    sound_behind y (Or (last_of x) (last_of y)) (listed_sound x g (listed_sound es f sound h.0) h.1)
    (omega (arith, length_listed es f, length_listed x g, size_some f), omega (arith, length_listed es f, length_listed x g, size_some f))
listed_sound es (may a f) sound h = sound_behind (listed es f) (May a (last_of (listed es f))) (listed_sound es f sound h.1) (h.0, omega (arith, length_listed es f, size_some f))
listed_sound es (must a f) sound h = sound_behind (listed es f) (Must a (last_of (listed es f))) (listed_sound es f sound h.1) (h.0, omega (arith, length_listed es f, size_some f))

-- Places that hold true, behind a list.
pub padded : (n : ℕ) (es : List Entry) → AllSound es → AllSound (es ++ replicate n True) × ((k : ℕ) → k < length es → formula_at (es ++ replicate n True) k ≡ formula_at es k)
padded zero es sound = (subst AllSound (sym (append-nil es)) sound, λ k l. ap (λ x. formula_at x k) (append-nil es))
padded (suc n) es sound =
    let next = padded n (es ++ True ∷ []) (sound_behind es True sound tt) in
    let same = append_assoc es (True ∷ []) (replicate n True) in (
      subst AllSound same next.0,
      λ k l. ap (λ x. formula_at x k) (sym same) ∙ next.1 k (omega (arith, l, length-append es (True ∷ []))) ∙ earlier es True k l,
    )

-- The actions of a text are 0 to 52.
letter_low : {s : List ℕ} {c : ℕ} → Letter s c → c < 26
letter_low (letter h) = h
letter_low (gap x) = letter_low x

act_low : {s : List ℕ} {a : ℕ} → Act s a → a ≤ 52
act_low silent = omega arith
act_low (receives x) = omega (arith, letter_low x)
act_low (sends x) = omega (arith, letter_low x)
act_low (before x) = act_low x
act_low (after x) = act_low x

pub text_actions : {l : Level} {s : List ℕ} {f : Formula} → Text l s f → AllActions f
text_actions truth = tt
text_actions falsity = tt
text_actions (diamond x u) = (act_low x, text_actions u)
text_actions (box x u) = (act_low x, text_actions u)
text_actions (bracketed u) = text_actions u
text_actions (single u) = text_actions u
text_actions (conjunction u v) = (text_actions u, text_actions v)
text_actions (conjunctions u) = text_actions u
text_actions (disjunction u v) = (text_actions u, text_actions v)
text_actions (led u) = text_actions u
text_actions (trailed u) = text_actions u
