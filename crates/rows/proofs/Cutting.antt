-- The fields of a line: by the relation and by the function, and one after the other. Assumes nothing.
use Rattle.std.proofs.Common.{◌≡◌, ℕ, Bool, true, false, cond, List, [], ◌∷◌, ◌++◌, take, drop, sym, refl, ap, ◌∙◌, subst, ⊎_elim, one-add, append_assoc, map, Bor}
use Rattle.std.specs.List.{onto_first}
use Rattle.std.proofs.lemmas.List.{drop-drop, map_push}
use Rattle.std.proofs.lemmas.Bool.{ne_eqb, cond-false, cases_eq}
use Rattle.sheet.specs.Parts.{Lacks, length_to, begins, one}
use Rattle.sheet.specs.Cursors.{bytes, place, rest, Moved}
use Rattle.sheet.specs.declared.cursor.Cursor.{Cursor}
use Rattle.rows.specs.Fields.{Fields, fields_of, FieldsAreFound}
use Rattle.rows.specs.Fields as fields

-- One byte more before the first field.
grow : {b : ℕ} {l : List ℕ} {fs : List (List ℕ)} → (b ≡ 44 → ⊥) → Fields l fs → Fields (b ∷ l) (onto_first b fs)
grow ne (fields.one lacks) = fields.one (ne, lacks)
grow ne (fields.more lacks rest) = fields.more (ne, lacks) rest

no_comma : (b : ℕ) (bs : List ℕ) → (b ≡ 44 → ⊥) → fields_of (b ∷ bs) ≡ onto_first b (fields_of bs)
no_comma b bs e = cond-false _ _ _ (ne_eqb b 44 e)

found : (l : List ℕ) → Fields l (fields_of l)
found [] = fields.one tt
found (b ∷ bs) =
    ⊎_elim
    (λ e. rw e (fields.more {f = []} tt (found bs)))
    (λ e. subst (λ (fs : List (List ℕ)). Fields (b ∷ bs) fs) (sym (no_comma b bs e)) (grow e (found bs)))
    (cases_eq b 44)

one_field : (f : List ℕ) → Lacks 44 f → fields_of f ≡ f ∷ []
one_field [] lacks = refl
one_field (b ∷ f) lacks = no_comma b f lacks.0 ∙ ap (onto_first b) (one_field f lacks.1)

first_field : (f l : List ℕ) → Lacks 44 f → fields_of (f ++ 44 ∷ l) ≡ f ∷ fields_of l
first_field [] l lacks = refl
first_field (b ∷ f) l lacks = no_comma b (f ++ 44 ∷ l) lacks.0 ∙ ap (onto_first b) (first_field f l lacks.1)

only : {l : List ℕ} {fs : List (List ℕ)} → Fields l fs → fs ≡ fields_of l
only (fields.one {f} lacks) = sym (one_field f lacks)
only (fields.more {f} {l} lacks rest) = ap (λ fs. f ∷ fs) (only rest) ∙ sym (first_field f l lacks)

pub fields_are_found : FieldsAreFound
fields_are_found l = (found l, λ fs h. only h)

-- The fields behind the first one, from its end on.
abbrev behind : List ℕ → List (List ℕ)
behind s = cond (begins 44 s) (fields_of (drop 1 s)) []

first_and_rest : (s : List ℕ) → fields_of s ≡ take (length_to 44 s) s ∷ behind (drop (length_to 44 s) s)
first_and_rest [] = refl
first_and_rest (b ∷ bs) =
    ⊎_elim (λ e. rw e) (λ e. rw (ne_eqb b 44 e, one-add) (ap (onto_first b) (first_and_rest bs))) (cases_eq b 44)

-- A cursor reads the field f, from its start to its end, and passes the comma that ends it.
pub field_read : (start end next : Cursor) {f : List ℕ} (comma : Bool) → f ≡ take (length_to 44 (rest start)) (rest start) → Moved start (length_to 44 (rest start)) end → comma ≡ begins 44 (rest end) → Moved end (one comma) next → fields_of (rest start) ≡ f ∷ cond comma (fields_of (rest next)) []
field_read start end next {f = f} comma part read mark passed = first_and_rest (rest start) ∙ rw (end_is, ← mark, ← part) (left comma passed)
  where
    end_is : drop (length_to 44 (rest start)) (rest start) ≡ rest end
    end_is = drop-drop (length_to 44 (rest start)) (place start) (bytes start) ∙ (cc)

    left : (comma : Bool) → Moved end (one comma) next → f ∷ cond comma (fields_of (drop 1 (rest end))) [] ≡ f ∷ cond comma (fields_of (rest next)) []
    left false passed = refl
    left true passed =
        let next_is : drop 1 (rest end) ≡ rest next = drop-drop 1 (place end) (bytes end) ∙ (cc) in
        rw next_is

-- The field that is cut goes from those that are left to the parts.
pub cut_more : (parts : List (Bor (List ℕ))) (part : Bor (List ℕ)) {after : List (Bor (List ℕ))} {fs left all : List (List ℕ)} → after ≡ parts ++ part ∷ [] → fs ≡ part.now ∷ left → map (λ part. part.now) parts ++ fs ≡ all → map (λ part. part.now) after ++ left ≡ all
cut_more parts part pushed read inv = rw (pushed, map_push (λ part. part.now) parts part, append_assoc, ← read) inv
