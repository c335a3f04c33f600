-- The lines of a text: by the relation and by the function, and one after the other. Assumes nothing.
use Rattle.std.proofs.Common.{◌≡◌, ℕ, ◌<◌, ◌≤◌, Bool, List, [], ◌∷◌, ◌++◌, length, take, drop, sym, refl, ap, ◌∙◌, subst, ⊎_elim, one-add, arith, length-drop}
use Rattle.std.specs.List.{onto_first}
use Rattle.std.proofs.lemmas.List.{drop-drop}
use Rattle.std.proofs.lemmas.Bool.{ne_eqb, cond-false, cases_eq}
use Rattle.sheet.specs.Cursors.{bytes, place, rest, Moved}
use Rattle.sheet.specs.Parts.{Lacks, length_to, begins, one}
use Rattle.sheet.specs.Lines.{Lines, none, last, more, lines_of, LinesAreFound}
use Rattle.sheet.specs.declared.cursor.Cursor.{Cursor}

-- One byte more before the first line.
grow : {b : ℕ} {s : List ℕ} {ls : List (List ℕ)} → (b ≡ 10 → ⊥) → Lines s ls → Lines (b ∷ s) (onto_first b ls)
grow ne none = last (ne, tt) (omega arith)
grow ne (last lacks some) = last (ne, lacks) (omega arith)
grow ne (more lacks rest) = more (ne, lacks) rest

no_line_end : (b : ℕ) (bs : List ℕ) → (b ≡ 10 → ⊥) → lines_of (b ∷ bs) ≡ onto_first b (lines_of bs)
no_line_end b bs e = cond-false _ _ _ (ne_eqb b 10 e)

found : (s : List ℕ) → Lines s (lines_of s)
found [] = none
found (b ∷ bs) =
    ⊎_elim
    (λ e. rw e (more {l = []} tt (found bs)))
    (λ e. subst (λ (ls : List (List ℕ)). Lines (b ∷ bs) ls) (sym (no_line_end b bs e)) (grow e (found bs)))
    (cases_eq b 10)

last_line : (l : List ℕ) → Lacks 10 l → 1 ≤ length l → lines_of l ≡ l ∷ []
last_line [] lacks some = absurd (omega arith)
last_line (b ∷ []) lacks some = no_line_end b [] lacks.0
last_line (b ∷ c ∷ l) lacks some = no_line_end b (c ∷ l) lacks.0 ∙ ap (onto_first b) (last_line (c ∷ l) lacks.1 (omega arith))

first_line : (l s : List ℕ) → Lacks 10 l → lines_of (l ++ 10 ∷ s) ≡ l ∷ lines_of s
first_line [] s lacks = refl
first_line (b ∷ l) s lacks = no_line_end b (l ++ 10 ∷ s) lacks.0 ∙ ap (onto_first b) (first_line l s lacks.1)

only : {s : List ℕ} {ls : List (List ℕ)} → Lines s ls → ls ≡ lines_of s
only none = refl
only (last {l} lacks some) = sym (last_line l lacks some)
only (more {l} {s} lacks rest) = ap (λ ls. l ∷ ls) (only rest) ∙ sym (first_line l s lacks)

pub lines_are_found : LinesAreFound
lines_are_found s = (found s, λ ls h. only h)

-- What is left of a text behind its first line.
abbrev behind : List ℕ → List ℕ
behind s = drop (one (begins 10 (drop (length_to 10 s) s))) (drop (length_to 10 s) s)

abbrev FirstAndRest : List ℕ → Type 0
FirstAndRest s = lines_of s ≡ take (length_to 10 s) s ∷ lines_of (behind s)

no_end_first : (b : ℕ) (bs : List ℕ) → (b ≡ 10 → ⊥) → onto_first b (lines_of bs) ≡ (b ∷ take (length_to 10 bs) bs) ∷ lines_of (behind bs) → FirstAndRest (b ∷ bs)
no_end_first b bs e h = rw (ne_eqb b 10 e, one-add) h

first_and_rest : (s : List ℕ) → 0 < length s → FirstAndRest s
first_and_rest [] some = absurd (omega arith)
first_and_rest (b ∷ []) some = ⊎_elim (λ e. rw e) (λ e. no_end_first b [] e refl) (cases_eq b 10)
first_and_rest (b ∷ c ∷ bs) some =
    ⊎_elim (λ e. rw e) (λ e. no_end_first b (c ∷ bs) e (ap (onto_first b) (first_and_rest (c ∷ bs) (omega arith)))) (cases_eq b 10)

-- A cursor reads the line l, from its start to its end, and passes the end, where the next one starts.
pub line_read : (start end next : Cursor) {l : List ℕ} {ended : Bool} → place start < length (bytes start) → l ≡ take (length_to 10 (rest start)) (rest start) → Moved start (length_to 10 (rest start)) end → ended ≡ begins 10 (rest end) → Moved end (one ended) next → lines_of (rest start) ≡ l ∷ lines_of (rest next)
line_read start end next inside part read mark passed =
    let some : 0 < length (rest start) = simp length-drop (omega arith) in
    let end_is : drop (length_to 10 (rest start)) (rest start) ≡ rest end = drop-drop (length_to 10 (rest start)) (place start) (bytes start) ∙ (cc) in
    let next_is : drop (one (begins 10 (rest end))) (rest end) ≡ rest next = drop-drop (one (begins 10 (rest end))) (place end) (bytes end) ∙ (cc) in
    first_and_rest (rest start) some ∙ rw (end_is, next_is, ← part)
