-- Entries that are held at the front of 128 places, with true in the places behind them. Assumes nothing.
use Rattle.std.proofs.Common.{◌≡◌, ℕ, ◌+◌, ◌-◌, ◌≤◌, List, ◌++◌, length, take, drop, set, replicate, sym, ap, ◌∙◌, arith, length-take-le, take-append-drop}
use Rattle.std.proofs.lemmas.List.{drop-set-lt, drop-drop, drop-replicate}
use Rattle.formula.specs.declared.entry.Entry.{Entry}
use Rattle.formula.specs.declared.entry.Entry.TheVariants.{True}

-- The entries held give back how many they are, and all places.
pub counted_again : (n : ℕ) (es : List Entry) → n ≤ 128 → length es ≡ 128 → length (take n es) ≡ n
counted_again n es few room = length-take-le n es (omega (arith, few, room))

pub padded_again : (n : ℕ) (es : List Entry) → n ≤ 128 → length es ≡ 128 → drop n es ≡ replicate (128 - n) True → take n es ++ replicate (128 - length (take n es)) True ≡ es
padded_again n es few room padded =
    ap (λ k. take n es ++ replicate (128 - k) True) (counted_again n es few room)
    ∙ ap (λ l. take n es ++ l) (sym padded)
    ∙ take-append-drop n es

-- One place less is true once the next entry is written.
pub padding_less : (n : ℕ) (es : List Entry) (x : Entry) → drop n es ≡ replicate (128 - n) True → drop (n + 1) (set es n x) ≡ replicate (128 - (n + 1)) True
padding_less n es x padded =
    drop-set-lt (n + 1) es n x (omega arith)
    ∙ sym (drop-drop 1 n es)
    ∙ ap (drop 1) padded
    ∙ drop-replicate 1 (128 - n) True
    ∙ ap (λ k. replicate k True) (omega arith)
