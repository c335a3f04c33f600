-- How the text of an entry's formula is made of its parts'. Assumes nothing.
use Rattle.std.proofs.Common.{◌≡◌, ℕ, zero, suc, ◌+◌, ◌<◌, true, false, List, [], ◌∷◌, ◌++◌, codes, length, get_or, Result, OnOk, refl, sym, ap, ap₂, ◌∙◌, subst, ⊎_elim, arith}
use Rattle.std.proofs.lemmas.List.{append_assoc, length-append, get_or_append_left, get_or-append-add}
use Rattle.std.proofs.lemmas.Bool.{false≢true, cases_lt}
use Rattle.std.proofs.lemmas.Result.{on_ok_weaker}
use Rattle.hml.specs.Logic.{Formula}
use Rattle.hml.specs.Logic.Formula.{tru, both, either, may, must}
use Rattle.formula.specs.declared.entry.Entry.{Entry}
use Rattle.formula.specs.declared.entry.Entry.TheVariants.{True, False, And, Or, May, Must}
use Rattle.formula.specs.Entries.{formula_of, formulas, formula_at, Sound, AllSound}
use Rattle.grammar.specs.Grammar.{unary, ands, ors}
use Rattle.grammar.specs.Writing.{text_at, AllActions}
use Rattle.formula_writing.specs.Brackets.{level_of, bracketed}
use Rattle.formula_writing.specs.declared.level.Level.{Level}
use Rattle.formula_writing.specs.declared.level.Level.TheVariants.{Unary, Ands, Ors}

-- The formulas that are there stay.
kept : (fs : List Formula) (es : List Entry) (i : ℕ) → i < length fs → get_or (formulas fs es) i tru ≡ get_or fs i tru
kept fs [] i l = refl
kept fs (e ∷ es) i l = kept (fs ++ formula_of fs e ∷ []) es i (omega (arith, l, length-append fs (formula_of fs e ∷ []))) ∙ get_or_append_left fs (formula_of fs e ∷ []) tru i l

-- The formula of an entry hangs on those before it alone.
same_parts : (fs gs : List Formula) (e : Entry) → Sound (length fs) e → ((i : ℕ) → i < length fs → get_or gs i tru ≡ get_or fs i tru) → formula_of gs e ≡ formula_of fs e
same_parts fs gs True s h = refl
same_parts fs gs False s h = refl
same_parts fs gs (And i j) s h = ap₂ both (h i s.0) (h j s.1)
same_parts fs gs (Or i j) s h = ap₂ either (h i s.0) (h j s.1)
same_parts fs gs (May a i) s h = ap (may a) (h i s.1)
same_parts fs gs (Must a i) s h = ap (must a) (h i s.1)

made_of : (fs : List Formula) (es : List Entry) (n : ℕ) → n < length es → Sound (length fs + n) (get_or es n True) → get_or (formulas fs es) (length fs + n) tru ≡ formula_of (formulas fs es) (get_or es n True)
made_of fs [] n l s = absurd (omega (arith, l))
made_of fs (e ∷ es) zero l s =
    let f = formula_of fs e in
    let more = length-append fs (f ∷ []) in
    let sound : Sound (length fs) e = subst (λ k. Sound k e) (omega arith) s in
    kept (fs ++ f ∷ []) es (length fs + 0) (omega (arith, more)) ∙ get_or-append-add fs (f ∷ []) 0 tru
    ∙ sym (same_parts fs (formulas (fs ++ f ∷ []) es) e sound (λ i low. kept (fs ++ f ∷ []) es i (omega (arith, low, more)) ∙ get_or_append_left fs (f ∷ []) tru i low))
made_of fs (e ∷ es) (suc n) l s =
    let f = formula_of fs e in
    let same : length (fs ++ f ∷ []) + n ≡ length fs + suc n = omega (arith, length-append fs (f ∷ [])) in
    ap (λ k. get_or (formulas (fs ++ f ∷ []) es) k tru) (sym same) ∙ made_of (fs ++ f ∷ []) es n (omega (arith, l)) (subst (λ k. Sound k (get_or es n True)) (sym same) s)

-- The formula of an entry of a sound list is that of its parts.
pub entry_formula : (es : List Entry) → AllSound es → (n : ℕ) → n < length es → (e : Entry) → get_or es n True ≡ e → formula_at es n ≡ formula_of (formulas [] es) e
entry_formula es sound n l e is =
    let start : 0 + n ≡ n = omega arith in
    ap (λ k. get_or (formulas [] es) k tru) (sym start) ∙ made_of [] es n l (subst (λ k. Sound k (get_or es n True)) (sym start) (sound n l)) ∙ ap (formula_of (formulas [] es)) is

parts_actions : (fs : List Formula) (e : Entry) → Sound (length fs) e → ((i : ℕ) → i < length fs → AllActions (get_or fs i tru)) → AllActions (formula_of fs e)
parts_actions fs True s all = tt
parts_actions fs False s all = tt
parts_actions fs (And i j) s all = (all i s.0, all j s.1)
parts_actions fs (Or i j) s all = (all i s.0, all j s.1)
parts_actions fs (May a i) s all = (s.0, all i s.1)
parts_actions fs (Must a i) s all = (s.0, all i s.1)

-- The actions of its formula are 0 to 52.
by_actions : (fs : List Formula) (es : List Entry) → ((i : ℕ) → i < length fs → AllActions (get_or fs i tru)) → ((k : ℕ) → k < length es → Sound (length fs + k) (get_or es k True)) → (i : ℕ) → AllActions (get_or (formulas fs es) i tru)
by_actions fs [] all sound i = all_or fs i all
  where
    all_or : (fs : List Formula) (i : ℕ) → ((i : ℕ) → i < length fs → AllActions (get_or fs i tru)) → AllActions (get_or fs i tru)
    all_or [] i all = tt
    all_or (f ∷ fs) zero all = all 0 (omega arith)
    all_or (f ∷ fs) (suc i) all = all_or fs i (λ k l. all (suc k) (omega (arith, l)))
by_actions fs (e ∷ es) all sound i =
    let f = formula_of fs e in
    let more = length-append fs (f ∷ []) in
    let own : AllActions f = parts_actions fs e (subst (λ k. Sound k e) (omega arith) (sound 0 (omega arith))) all in
    by_actions (fs ++ f ∷ []) es
    (λ k l. ⊎_elim
    (λ low. subst AllActions (sym (get_or_append_left fs (f ∷ []) tru k low)) (all k low))
    (λ high. let same : length fs + 0 ≡ k = omega (arith, high, l, more) in subst (λ n. AllActions (get_or (fs ++ f ∷ []) n tru)) same (subst AllActions (sym (get_or-append-add fs (f ∷ []) 0 tru)) own))
    (cases_lt k (length fs)))
    (λ k l. subst (λ n. Sound n (get_or es k True)) (omega (arith, more)) (sound (suc k) (omega (arith, l)))) i

pub entry_actions : (es : List Entry) → AllSound es → (n : ℕ) → AllActions (formula_at es n)
entry_actions es sound n = by_actions [] es (λ i l. absurd (omega (arith, l))) (λ k l. subst (λ n. Sound n (get_or es k True)) (omega arith) (sound k l)) n

-- Where an entry stands in no round brackets.
pub plain_and : (l : Level) (i j : ℕ) (f g : Formula) → bracketed l (And i j) ≡ false → text_at (level_of l) (both f g) ≡ text_at ands f ++ (codes "&" ++ text_at unary g)
plain_and Unary i j f g h = absurd (false≢true (sym h))
plain_and Ands i j f g h = refl
plain_and Ors i j f g h = refl

pub plain_or : (l : Level) (i j : ℕ) (f g : Formula) → bracketed l (Or i j) ≡ false → text_at (level_of l) (either f g) ≡ text_at ors f ++ (codes "|" ++ text_at ands g)
plain_or Unary i j f g h = absurd (false≢true (sym h))
plain_or Ands i j f g h = absurd (false≢true (sym h))
plain_or Ors i j f g h = refl

-- Where it does, the text between them is that of a whole formula.
pub in_brackets : (l : Level) (fs : List Formula) (e : Entry) → bracketed l e ≡ true → text_at (level_of l) (formula_of fs e) ≡ codes "(" ++ (text_at ors (formula_of fs e) ++ codes ")")
in_brackets Unary fs (And i j) h = refl
in_brackets Unary fs (Or i j) h = refl
in_brackets Ands fs (Or i j) h = refl
in_brackets Unary fs True h = absurd (false≢true h)
in_brackets Unary fs False h = absurd (false≢true h)
in_brackets Unary fs (May a i) h = absurd (false≢true h)
in_brackets Unary fs (Must a i) h = absurd (false≢true h)
in_brackets Ands fs True h = absurd (false≢true h)
in_brackets Ands fs False h = absurd (false≢true h)
in_brackets Ands fs (And i j) h = absurd (false≢true h)
in_brackets Ands fs (May a i) h = absurd (false≢true h)
in_brackets Ands fs (Must a i) h = absurd (false≢true h)
in_brackets Ors fs True h = absurd (false≢true h)
in_brackets Ors fs False h = absurd (false≢true h)
in_brackets Ors fs (And i j) h = absurd (false≢true h)
in_brackets Ors fs (Or i j) h = absurd (false≢true h)
in_brackets Ors fs (May a i) h = absurd (false≢true h)
in_brackets Ors fs (Must a i) h = absurd (false≢true h)

-- Two and three texts, one written behind the other.
pub written_two : {T E : Type 0} (r : Result T E) (old mid new u w x : List ℕ) → OnOk r (new ≡ mid ++ w) → mid ≡ old ++ u → u ++ w ≡ x → OnOk r (new ≡ old ++ x)
written_two r old mid new u w x last first is = on_ok_weaker r (λ h. h ∙ ap (λ m. m ++ w) first ∙ append_assoc old u w ∙ ap (λ y. old ++ y) is) last

pub written_three : {T E : Type 0} (r : Result T E) (old mid next new u v w x : List ℕ) → OnOk r (new ≡ next ++ w) → next ≡ mid ++ v → mid ≡ old ++ u → u ++ (v ++ w) ≡ x → OnOk r (new ≡ old ++ x)
written_three r old mid next new u v w x last second first is =
    written_two r old mid new u (v ++ w) x (on_ok_weaker r (λ h. h ∙ ap (λ m. m ++ w) second ∙ append_assoc mid v w) last) first is

-- A modality in its marks, and the text behind it.
pub marked : (a b : ℕ) (t w : List ℕ) → (a ∷ (t ++ b ∷ [])) ++ w ≡ a ∷ (t ++ (b ∷ w))
marked a b t w = ap (λ x. a ∷ x) (append_assoc t (b ∷ []) w)

pub written_four : {T E : Type 0} (r : Result T E) (old one two three new t u v w x : List ℕ) → OnOk r (new ≡ three ++ w) → three ≡ two ++ v → two ≡ one ++ u → one ≡ old ++ t → t ++ (u ++ (v ++ w)) ≡ x → OnOk r (new ≡ old ++ x)
written_four r old one two three new t u v w x last third second first is =
    written_three r old one two new t u (v ++ w) x (on_ok_weaker r (λ h. h ∙ ap (λ m. m ++ w) third ∙ append_assoc two v w) last) second first is
