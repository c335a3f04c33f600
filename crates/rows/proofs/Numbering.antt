-- Numbers of states in decimal. Assumes nothing.
use Rattle.std.proofs.Common.{◌≡◌, ℕ, ◌+◌, ◌-◌, ◌*◌, ◌^◌, ◌<◌, ◌≤◌, true, ◌↔◌, List, [], ◌∷◌, length, get_or, drop, Some, None, decimal, Option, sym, ap, ◌∙◌, subst, ⊎_elim, arith, rules, MatchOption}
use Rattle.std.specs.Option.{option_map}
use Rattle.std.specs.Char.{is_ascii_digit}
use Rattle.std.specs.Str.{all_ascii_digits}
use Rattle.std.proofs.lemmas.List.{at_drop_more}
use Rattle.std.proofs.lemmas.Bool.{and_parts, cases_eq}
use Rattle.std.proofs.lemmas.Str.Parse.{IsNumeralModel, numerals_by_fold, tells_all_ascii_digits}
use Rattle.std.proofs.lemmas.Fmt.{decimal_digit, decimal_nonempty, first_decimal, digits_decimal, digits_value-decimal, decimal-digits_value}
use Rattle.rows.specs.Digits.{value_from, Small, Unpadded}
use Rattle.rows.specs.Format.{IsState}
use Rattle.rows.specs.Held.{state_number}
use Rattle.rows.specs.declared.state.State.{State}

own : IsNumeralModel (λ ds. all_ascii_digits ds ≡ true) (value_from 0)
own = numerals_by_fold _ tells_all_ascii_digits value_from (search rules)

grows : (n : ℕ) (bs : List ℕ) → n ≤ value_from n bs
grows n [] = omega arith
grows n (b ∷ bs) = omega (arith, grows (n * 10 + (b - 48)) bs)

-- Where the digit at i is one too many for a state, so is the number.
pub too_large : (s : List ℕ) (i n : ℕ) → i < length s → all_ascii_digits (drop i s) ≡ true → (is_ascii_digit (get_or s i 0) ≡ true → 1024 ≤ n * 10 + (get_or s i 0 - 48)) → 1024 ≤ value_from n (drop i s)
too_large s i n inside digits large =
    let here = large (and_parts _ _ (sym (at_drop_more all_ascii_digits s i 0 inside) ∙ digits)).0 in
    rw (at_drop_more (value_from n) s i 0 inside) (omega (arith, here, grows (n * 10 + (get_or s i 0 - 48)) (drop (i + 1) s)))

-- What the text of a number is.
pub written : (f : List ℕ) (n : ℕ) → IsState f n → Small f n × Unpadded f
written f n h =
    let small : n < 2 ^ 64 = omega (arith, h.0) in (
      (rw h.1 (digits_decimal own n small), rw h.1 (digits_value-decimal own n small), h.0),
      (rw h.1 (decimal_nonempty n small), rw h.1 (zero_alone n small)),
    )
  where
    zero_alone : (k : ℕ) → k < 2 ^ 64 → get_or (decimal k) 0 0 ≡ 48 → length (decimal k) ≡ 1
    zero_alone k small first =
        ⊎_elim (λ (z : k ≡ 0). rw z (ap length (decimal_digit 0 (omega arith)))) (λ ne. absurd (let some : 0 < k = omega arith in omega (arith, first_decimal k some small))) (cases_eq k 0)

pub writes : (f : List ℕ) (n : ℕ) → Small f n → Unpadded f → IsState f n
writes f n h plain =
    let small : value_from 0 f < 2 ^ 64 = omega (arith, h.1, h.2) in
    (h.2, sym (decimal-digits_value own f h.0 plain.0 plain.1 small) ∙ ap decimal h.1)

-- What is answered of a field, by what the reader has found.
abbrev Answered : List ℕ → Option State → Type 0
Answered f r = (n : ℕ) → (option_map state_number r ≡ Some n) ↔ IsState f n

none_answered : (f : List ℕ) → ((n : ℕ) → IsState f n → ⊥) → Answered f None
none_answered f no-state n = ((λ e. let z : ◌≡◌ {A = ℕ} 0 1 = cc in absurd (omega arith)), (λ h. absurd (no-state n h)))

pub padded_answered : (f : List ℕ) → (Unpadded f → ⊥) → Answered f None
padded_answered f padded = none_answered f (λ n h. padded (written f n h).1)

pub digits_answered : (f : List ℕ) (r : Option State) → MatchOption r ((n : ℕ) → Small f n → ⊥) (λ s. Small f s.number) → Unpadded f → Answered f r
digits_answered f None none plain = none_answered f (λ n h. none n (written f n h).0)
digits_answered f (Some s) small plain = λ n. (
  (λ e. let is : s.number ≡ n = cc in subst (IsState f) is (writes f s.number small plain)),
  (λ h. ap (λ k. Some k) (sym small.1 ∙ (written f n h).0.1)),
)

-- No bytes write no state.
pub none_written : (f : List ℕ) (n : ℕ) → f ≡ [] → IsState f n → ⊥
none_written f n none h =
    let small : n < 2 ^ 64 = omega (arith, h.0) in
    omega (arith, decimal_nonempty n small, ap length (sym h.1 ∙ none))
