-- Verdicts as bits of words: bit i of word s says whether formula i holds at state s. Assumes nothing.
use Rattle.std.specs.Prelude.{ℕ, ◌/◌, ◌%◌, ◌^◌, ◌<◌, Bool, T, ◌↔◌, List, length, ◌==◌, slice_index}
use Rattle.lts.specs.Lts.{Lts}
use Rattle.hml.specs.Logic.{Formula, Sat}
use Rattle.formula.specs.Entries.{formula_at}
use Rattle.formula.specs.declared.entry.Entry.{Entry}

-- Bit i of a word.
abbrev pub bit : ℕ → ℕ → Bool
bit word i = word / 2 ^ i % 2 == 1

-- What the words say of formula i at state s.
abbrev pub says : List ℕ → ℕ → ℕ → Bool
says words i s = bit (slice_index words s) i

-- What the words say of number i is whether the formula f holds, at each state.
abbrev pub Decides : Lts → List ℕ → ℕ → Formula → Type 0
Decides m words i f = (s : ℕ) → s < m.states → T (says words i s) ↔ Sat m s f

-- The words decide each entry's formula.
abbrev pub Judged : Lts → List Entry → List ℕ → Type 0
Judged m es words = (i : ℕ) → i < length es → Decides m words i (formula_at es i)
