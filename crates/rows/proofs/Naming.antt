-- The field that alone has a name. Assumes nothing.
use Rattle.std.proofs.Common.{◌≡◌, ℕ, ◌+◌, ◌-◌, ◌<◌, ◌≤◌, ◌==◌, Bool, true, false, cond, not, List, [], ◌∷◌, map, length, get_or, take, drop, Option, Some, None, sym, refl, ap, ◌∙◌, ⊎_elim, arith, length-drop, Bor}
use Rattle.std.specs.List.{position, position_or_len, prefix_len}
use Rattle.std.specs.Option.{is_some}
use Rattle.std.specs.Cmp.Lexicographic.{pointwise}
use Rattle.std.proofs.lemmas.List.{get_or-drop, length-map, take_all, drop-map}
use Rattle.std.proofs.lemmas.List.Quantifiers.{position-Some}
use Rattle.std.proofs.lemmas.List.Sums.{prefix_len_passes}
use Rattle.std.proofs.lemmas.Slice.Eq.{slice_eq-Decides}
use Rattle.std.proofs.lemmas.Bool.Decides.{Decides-eqb, nat_tests}
use Rattle.std.proofs.lemmas.Bool.{cases_lt, both_ways}
use Rattle.rows.specs.Format.{Once}

at_most : {X : Type 0} (p : X → Bool) (xs : List X) → position p xs ≡ None → length xs ≤ position_or_len p xs
at_most p xs e = grind (arith, nat_tests)

none_passes : {X : Type 0} (p : X → Bool) (xs : List X) (k : ℕ) (d : X) → position p xs ≡ None → k < length xs → p (get_or xs k d) ≡ true → ⊥
none_passes p xs k d e inside passes =
    let least = at_most p xs e in
    let fails : not (p (get_or xs k d)) ≡ true = prefix_len_passes (λ x. not (p x)) xs k d (omega arith) in
    cc

-- Fields are told apart by their texts.
prefix_of_texts : (q : List ℕ → Bool) (fs : List (Bor (List ℕ))) → prefix_len (λ field. q field.now) fs ≡ prefix_len q (map (λ field. field.now) fs)
prefix_of_texts q [] = refl
prefix_of_texts q (f ∷ fs) = ap (λ n. cond (q f.now) (1 + n) 0) (prefix_of_texts q fs)

position_of_texts : (q : List ℕ → Bool) (fs : List (Bor (List ℕ))) → position (λ field. q field.now) fs ≡ position q (map (λ field. field.now) fs)
position_of_texts q fs = rw (prefix_of_texts (λ f. not (q f)) fs, length-map fs (λ (field : Bor (List ℕ)). field.now))

position_behind : (q : List ℕ → Bool) (n : ℕ) (fs : List (Bor (List ℕ))) → position (λ field. q field.now) (take (length fs - n) (drop n fs)) ≡ position q (drop n (map (λ field. field.now) fs))
position_behind q n fs =
    ap (λ gs. position (λ (field : Bor (List ℕ)). q field.now) gs) (take_all (length fs - n) (drop n fs) (omega (arith, length-drop n fs)))
    ∙ position_of_texts q (drop n fs)
    ∙ ap (position q) (sym (drop-map (λ (field : Bor (List ℕ)). field.now) n fs))

module _ (name : List ℕ) where
  abbrev has_name : List ℕ → Bool
  has_name f = pointwise ◌==◌ f name

  is : (f : List ℕ) → has_name f ≡ true → f ≡ name
  is f = (slice_eq-Decides Decides-eqb f name (has_name f) refl).0

  has : (f : List ℕ) → f ≡ name → has_name f ≡ true
  has f = (slice_eq-Decides Decides-eqb f name (has_name f) refl).1

  -- where the name stands first, and where it stands behind that place
  module _ (parts : List (Bor (List ℕ))) where
    abbrev fs : List (List ℕ)
    fs = map (λ part. part.now) parts

    pub none_named : None ≡ position (λ part. pointwise ◌==◌ part.now name) parts → (k : ℕ) → Once fs k name → ⊥
    none_named e k once = none_passes has_name fs k [] (sym (e ∙ position_of_texts has_name parts)) once.there (has _ once.named)

    module _ (i : ℕ) (first : Some i ≡ position (λ part. pointwise ◌==◌ part.now name) parts) (next : Option ℕ) (second : next ≡ position (λ part. pointwise ◌==◌ part.now name) (take (length parts - (i + 1)) (drop (i + 1) parts))) where
      at : (i < length fs) × (has_name (get_or fs i []) ≡ true) × ((k : ℕ) → k < i → has_name (get_or fs k []) ≡ false)
      at = position-Some has_name fs i [] (sym (first ∙ position_of_texts has_name parts))

      behind : position has_name (drop (i + 1) fs) ≡ next
      behind = sym (second ∙ position_behind has_name (i + 1) parts)

      pub two_named : is_some next ≡ true → (k : ℕ) → Once fs k name → ⊥
      two_named some k once = twice next behind some
        where
          twice : (r : Option ℕ) → position has_name (drop (i + 1) fs) ≡ r → is_some r ≡ true → ⊥
          twice None e some = absurd (cc)
          twice (Some j) e some =
              let there = position-Some has_name (drop (i + 1) fs) j [] e in
              let same = once.alone i at.0 (is _ at.1) in
              let also = once.alone (i + 1 + j) (omega (arith, length-drop (i + 1) fs, there.0)) (is _ (rw get_or-drop at there.1)) in
              omega arith

      pub one_named : is_some next ≡ false → Once fs i name
      one_named none = record {
        there = at.0;
        named = is _ at.1;
        alone = λ j inside named.
            ⊎_elim
            (λ before. absurd (both_ways _ (at.2 j before) (has _ named)))
            (λ from.
            ⊎_elim
            (λ after.
            let there : i + 1 + (j - (i + 1)) ≡ j = omega arith in
            absurd (none_passes has_name (drop (i + 1) fs) (j - (i + 1)) [] (no_more next behind none) (omega (arith, length-drop (i + 1) fs)) (rw (get_or-drop, there) (has _ named))))
            (λ upto. omega arith)
            (cases_lt i j))
            (cases_lt j i);
      }
        where
          no_more : (r : Option ℕ) → position has_name (drop (i + 1) fs) ≡ r → is_some r ≡ false → position has_name (drop (i + 1) fs) ≡ None
          no_more None e none = e
          no_more (Some j) e none = absurd (cc)
