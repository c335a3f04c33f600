-- The text of formulas under a modality is made of theirs. Assumes nothing.
use Rattle.std.proofs.Common.{◌≡◌, ℕ, zero, suc, ◌+◌, ◌-◌, ◌<◌, ◌≤◌, List, [], ◌∷◌, ◌++◌, codes, All, length, min, max, take, drop, get_or, refl, sym, ap, ◌∙◌, arith}
use Rattle.std.proofs.lemmas.List.{append-nil, append_assoc, drop_more, take_min, length-drop}
use Rattle.std.proofs.lemmas.List.Elements.{All-head, All-tail}
use Rattle.std.proofs.Math.Seq.{drop-drop}
use Rattle.hml.specs.Logic.{Formula}
use Rattle.hml.specs.Logic.Formula.{tru, both, either}
use Rattle.hml.specs.Distinguishing.{all_from, all, any_from, any, modal, lines_from, formula_of_lines}
use Rattle.hml.specs.declared.line.Modality.{Modality}
use Rattle.hml.specs.declared.line.Modality.TheVariants.{May, Must}
use Rattle.hml.specs.declared.line.Line.{Line}
use Rattle.actions.specs.Text.{action_text}
use Rattle.grammar.specs.Grammar.{Level, unary, ands, ors}
use Rattle.grammar.specs.Machine.{opener, closer}
use Rattle.grammar.specs.Writing.{text_at, formula_text, AllActions}
use Rattle.formula_writing.specs.LineTexts.{IsAction, line_text, joint, nothing, joined_some, joined_text, inside_some, inside_text}

-- The formula is written the same at a place of any level.
abbrev pub Plain : Formula → Type 0
Plain f = (l : Level) → text_at l f ≡ text_at unary f

abbrev pub Plains : List Formula → Type 0
Plains [] = Unit {0}
Plains (f ∷ fs) = Plain f × Plains fs

plains_take : (n : ℕ) (fs : List Formula) → Plains fs → Plains (take n fs)
plains_take zero fs h = tt
plains_take (suc n) [] h = tt
plains_take (suc n) (f ∷ fs) h = (h.0, plains_take n fs h.1)

plains_drop : (n : ℕ) (fs : List Formula) → Plains fs → Plains (drop n fs)
plains_drop zero fs h = h
plains_drop (suc n) [] h = tt
plains_drop (suc n) (f ∷ fs) h = plains_drop n fs h.1

plain_modal : (m : Modality) (a : ℕ) (fs : List Formula) → Plain (modal m a fs)
plain_modal May a fs l = refl
plain_modal Must a fs l = refl

-- All of the formulas, or any of them.
abbrev pub whole : Modality → List Formula → Formula
whole May fs = all fs
whole Must fs = any fs

-- The formulas, each behind the mark.
abbrev pub joined : Modality → List Formula → List ℕ
joined m [] = []
joined m (f ∷ fs) = joint m ++ (text_at unary f ++ joined m fs)

-- What stands under a modality.
abbrev pub inside : Modality → List Formula → List ℕ
inside m [] = nothing m
inside m (f ∷ []) = text_at unary f
inside m (f ∷ g ∷ fs) = codes "(" ++ (text_at unary f ++ (joined m (g ∷ fs) ++ codes ")"))

all_text : (f : Formula) (fs : List Formula) → Plains fs → text_at ands (all_from f fs) ≡ text_at ands f ++ joined May fs
all_text f [] h = sym (append-nil (text_at ands f))
all_text f (g ∷ fs) h = all_text (both f g) fs h.1 ∙ append_assoc (text_at ands f) (codes "&" ++ text_at unary g) (joined May fs)

any_text : (f : Formula) (fs : List Formula) → Plains fs → text_at ors (any_from f fs) ≡ text_at ors f ++ joined Must fs
any_text f [] h = sym (append-nil (text_at ors f))
any_text f (g ∷ fs) h =
    any_text (either f g) fs h.1 ∙ append_assoc (text_at ors f) (codes "|" ++ text_at ands g) (joined Must fs)
    ∙ ap (λ t. text_at ors f ++ (codes "|" ++ (t ++ joined Must fs))) (h.0 ands)

all_bracketed : (f g : Formula) (fs : List Formula) → text_at unary (all_from (both f g) fs) ≡ codes "(" ++ (text_at ands (all_from (both f g) fs) ++ codes ")")
all_bracketed f g [] = refl
all_bracketed f g (h ∷ fs) = all_bracketed (both f g) h fs

any_bracketed : (f g : Formula) (fs : List Formula) → text_at unary (any_from (either f g) fs) ≡ codes "(" ++ (text_at ors (any_from (either f g) fs) ++ codes ")")
any_bracketed f g [] = refl
any_bracketed f g (h ∷ fs) = any_bracketed (either f g) h fs

whole_text : (m : Modality) (fs : List Formula) → Plains fs → text_at unary (whole m fs) ≡ inside m fs
whole_text May [] h = refl
whole_text Must [] h = refl
whole_text May (f ∷ []) h = refl
whole_text Must (f ∷ []) h = refl
whole_text May (f ∷ g ∷ fs) h =
    all_bracketed f g fs
    ∙ ap (λ t. codes "(" ++ (t ++ codes ")")) (all_text f (g ∷ fs) h.1 ∙ ap (λ t. t ++ joined May (g ∷ fs)) (h.0 ands))
    ∙ ap (λ t. codes "(" ++ t) (append_assoc (text_at unary f) (joined May (g ∷ fs)) (codes ")"))
whole_text Must (f ∷ g ∷ fs) h =
    any_bracketed f g fs
    ∙ ap (λ t. codes "(" ++ (t ++ codes ")")) (any_text f (g ∷ fs) h.1 ∙ ap (λ t. t ++ joined Must (g ∷ fs)) (h.0 ors))
    ∙ ap (λ t. codes "(" ++ t) (append_assoc (text_at unary f) (joined Must (g ∷ fs)) (codes ")"))

-- A modality with what stands under it.
modal_text : (m : Modality) (a : ℕ) (fs : List Formula) → Plains fs → text_at unary (modal m a fs) ≡ opener m ∷ (action_text a ++ (closer m ∷ inside m fs))
modal_text May a fs h = ap (λ t. 60 ∷ (action_text a ++ (62 ∷ t))) (whole_text May fs h)
modal_text Must a fs h = ap (λ t. 91 ∷ (action_text a ++ (93 ∷ t))) (whole_text Must fs h)

-- The formulas of lines are all of them written the same at any level.
lines_plain : (at : ℕ) (ls : List Line) → Plains (lines_from at ls)
lines_plain at [] = tt
lines_plain at (l ∷ ls) = (plain_modal l.modality l.action (take l.count (drop (l.first - suc at) (lines_from (suc at) ls))), lines_plain (suc at) ls)

pub length_lines : (at : ℕ) (ls : List Line) → length (lines_from at ls) ≡ length ls
length_lines at [] = refl
length_lines at (l ∷ ls) = ap suc (length_lines (suc at) ls)

-- The formula of a line is that of the lines under it.
line_formula : (d : Line) (at : ℕ) (ls : List Line) (n : ℕ) → n < length ls → get_or (lines_from at ls) n tru ≡ modal (get_or ls n d).modality (get_or ls n d).action (take (get_or ls n d).count (drop ((get_or ls n d).first - suc (at + n)) (drop (suc n) (lines_from at ls))))
line_formula d at [] n h = absurd (omega (arith, h))
line_formula d at (l ∷ ls) zero h =
    let same : at + 0 ≡ at = omega arith in
    ap (λ k. modal l.modality l.action (take l.count (drop (l.first - suc k) (lines_from (suc at) ls)))) (sym same)
line_formula d at (l ∷ ls) (suc n) h =
    let x = get_or ls n d in
    let same : suc at + n ≡ at + suc n = omega arith in
    line_formula d (suc at) ls n (omega (arith, h)) ∙ ap (λ k. modal x.modality x.action (take x.count (drop (x.first - suc k) (drop (suc n) (lines_from (suc at) ls))))) same

module _ (ls : List Line) (m : Modality) where
  -- k lines from one on.
  joined_lines : (k first : ℕ) → first + k ≤ length ls → joined_some ls m first k ≡ joined m (take k (drop first (lines_from 0 ls)))
  joined_lines zero first h = refl
  joined_lines (suc k) first h =
      let fs = lines_from 0 ls in
      let next : first + 1 ≡ suc first = omega arith in
      let more : drop first fs ≡ get_or fs first tru ∷ drop (suc first) fs = drop_more fs first tru (omega (arith, h, length_lines 0 ls)) ∙ ap (λ n. get_or fs first tru ∷ drop n fs) next in
      ap (λ t. joint m ++ (line_text ls first ++ t)) (joined_lines k (suc first) (omega (arith, h))) ∙ ap (λ gs. joined m (take (suc k) gs)) (sym more)

  inside_lines : (k first : ℕ) → first + k ≤ length ls → inside_some ls m first k ≡ inside m (take k (drop first (lines_from 0 ls)))
  inside_lines zero first h = refl
  inside_lines (suc zero) first h =
      let fs = lines_from 0 ls in
      ap (λ gs. inside m (take 1 gs)) (sym (drop_more fs first tru (omega (arith, h, length_lines 0 ls))))
  inside_lines (suc (suc k)) first h =
      let fs = lines_from 0 ls in
      let here = drop_more fs first tru (omega (arith, h, length_lines 0 ls)) in
      let same : first + 1 ≡ suc first = omega arith in
      let next : drop (first + 1) fs ≡ get_or fs (suc first) tru ∷ drop (suc first + 1) fs = ap (λ n. drop n fs) same ∙ drop_more fs (suc first) tru (omega (arith, h, length_lines 0 ls)) in
      ap (λ t. codes "(" ++ (line_text ls first ++ (t ++ codes ")"))) (joined_lines (suc k) (suc first) (omega (arith, h)) ∙ ap (λ n. joined m (take (suc k) (drop n fs))) (sym same) ∙ ap (λ gs. joined m (take (suc k) gs)) next)
      ∙ ap (λ gs. inside m (take (suc (suc k)) gs)) (sym (here ∙ ap (λ gs. get_or fs first tru ∷ gs) next))

-- The text of a line: its action in its marks, and what stands under it.
pub line_text_is : (d : Line) (ls : List Line) (n first last : ℕ) → n < length ls → first ≡ max (get_or ls n d).first (n + 1) → last ≡ min (first + (get_or ls n d).count) (length ls) → line_text ls n ≡ opener (get_or ls n d).modality ∷ (action_text (get_or ls n d).action ++ (closer (get_or ls n d).modality ∷ inside_text ls (get_or ls n d).modality first last))
line_text_is d ls n first last h begins ends =
    let l = get_or ls n d in
    let m = l.modality in
    let fs = lines_from 0 ls in
    let gs = take l.count (drop (l.first - suc (0 + n)) (drop (suc n) fs)) in
    let from : suc n + (l.first - suc (0 + n)) ≡ first = omega (arith, begins) in
    let under : drop (l.first - suc (0 + n)) (drop (suc n) fs) ≡ drop first fs = drop-drop (l.first - suc (0 + n)) (suc n) fs ∙ ap (λ k. drop k fs) from in
    let few : min l.count (length (drop first fs)) ≡ last - first = omega (arith, begins, ends, length-drop first fs, length_lines 0 ls) in
    let cut : gs ≡ take (last - first) (drop first fs) = ap (take l.count) under ∙ sym (take_min l.count (drop first fs)) ∙ ap (λ k. take k (drop first fs)) few in
    ap (text_at unary) (line_formula d 0 ls n h)
    ∙ modal_text m l.action gs (plains_take l.count (drop (l.first - suc (0 + n)) (drop (suc n) fs)) (plains_drop (l.first - suc (0 + n)) (drop (suc n) fs) (plains_drop (suc n) fs (lines_plain 0 ls))))
    ∙ ap (λ t. opener m ∷ (action_text l.action ++ (closer m ∷ t))) (ap (inside m) cut ∙ sym (inside_here (last - first) refl))
  where
    inside_here : (k : ℕ) → k ≡ last - first → inside_some ls (get_or ls n d).modality first k ≡ inside (get_or ls n d).modality (take k (drop first (lines_from 0 ls)))
    inside_here zero e = refl
    inside_here (suc k) e = inside_lines ls (get_or ls n d).modality (suc k) first (omega (arith, e, ends))

-- The first of some lines behind their marks, and the others.
pub joined_step : (ls : List Line) (m : Modality) (first last : ℕ) → first < last → joined_text ls m first last ≡ joint m ++ (line_text ls first ++ joined_text ls m (first + 1) last)
joined_step ls m first last h =
    let more : last - first ≡ suc (last - (first + 1)) = omega (arith, h) in
    let next : suc first ≡ first + 1 = omega arith in
    ap (joined_some ls m first) more ∙ ap (λ n. joint m ++ (line_text ls first ++ joined_some ls m n (last - (first + 1)))) next

-- More than one line stand in round brackets.
pub inside_more : (ls : List Line) (m : Modality) (first last : ℕ) → first + 1 < last → inside_text ls m first last ≡ codes "(" ++ (line_text ls first ++ (joined_text ls m (first + 1) last ++ codes ")"))
inside_more ls m first last h =
    let more : last - first ≡ suc (suc (last - (first + 2))) = omega (arith, h) in
    let others : suc (last - (first + 2)) ≡ last - (first + 1) = omega (arith, h) in
    let next : suc first ≡ first + 1 = omega arith in
    ap (inside_some ls m first) more
    ∙ ap (λ k. codes "(" ++ (line_text ls first ++ (joined_some ls m (suc first) k ++ codes ")"))) others
    ∙ ap (λ n. codes "(" ++ (line_text ls first ++ (joined_some ls m n (last - (first + 1)) ++ codes ")"))) next

-- The formula that lines stand for is written as its first line is.
pub first_text : (ls : List Line) → formula_text (formula_of_lines ls) ≡ line_text ls 0
first_text [] = refl
first_text (l ∷ ls) = plain_modal l.modality l.action (take l.count (drop (l.first - 1) (lines_from 1 ls))) ors

-- The actions of each formula are 0 to 52.
abbrev pub Actions : List Formula → Type 0
Actions [] = Unit {0}
Actions (f ∷ fs) = AllActions f × Actions fs

actions_take : (n : ℕ) (fs : List Formula) → Actions fs → Actions (take n fs)
actions_take zero fs h = tt
actions_take (suc n) [] h = tt
actions_take (suc n) (f ∷ fs) h = (h.0, actions_take n fs h.1)

actions_drop : (n : ℕ) (fs : List Formula) → Actions fs → Actions (drop n fs)
actions_drop zero fs h = h
actions_drop (suc n) [] h = tt
actions_drop (suc n) (f ∷ fs) h = actions_drop n fs h.1

all_actions : (f : Formula) (fs : List Formula) → AllActions f → Actions fs → AllActions (all_from f fs)
all_actions f [] h hs = h
all_actions f (g ∷ fs) h hs = all_actions (both f g) fs (h, hs.0) hs.1

any_actions : (f : Formula) (fs : List Formula) → AllActions f → Actions fs → AllActions (any_from f fs)
any_actions f [] h hs = h
any_actions f (g ∷ fs) h hs = any_actions (either f g) fs (h, hs.0) hs.1

modal_actions : (m : Modality) (a : ℕ) (fs : List Formula) → a ≤ 52 → Actions fs → AllActions (modal m a fs)
modal_actions May a [] low h = (low, tt)
modal_actions Must a [] low h = (low, tt)
modal_actions May a (f ∷ fs) low h = (low, all_actions f fs h.0 h.1)
modal_actions Must a (f ∷ fs) low h = (low, any_actions f fs h.0 h.1)

lines_actions : (at : ℕ) (ls : List Line) → All IsAction ls → Actions (lines_from at ls)
lines_actions at [] h = tt
lines_actions at (l ∷ ls) h =
    let rest = lines_actions (suc at) ls (All-tail IsAction l ls h) in
    (modal_actions l.modality l.action (take l.count (drop (l.first - suc at) (lines_from (suc at) ls))) (All-head IsAction l ls h) (actions_take l.count (drop (l.first - suc at) (lines_from (suc at) ls)) (actions_drop (l.first - suc at) (lines_from (suc at) ls) rest)), rest)

-- The actions of the formula that lines stand for are 0 to 52.
pub told_actions : (ls : List Line) → All IsAction ls → AllActions (formula_of_lines ls)
told_actions [] h = tt
told_actions (l ∷ ls) h = (lines_actions 0 (l ∷ ls) h).0
