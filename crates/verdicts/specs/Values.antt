-- What an entry says of a state, computed from what its parts say. Assumes nothing.
use Rattle.std.specs.Prelude.{◌≡◌, ℕ, ◌<◌, Bool, true, false, not, ◌&&◌, ◌||◌, List, Some, None, ◌==◌, ◌≢◌}
use Rattle.std.specs.List.{list_any, list_all}
use Rattle.lts.specs.Lts.{Lts, Way}
use Rattle.formula.specs.Entries.{Sound}
use Rattle.formula.specs.declared.entry.Entry.{Entry}
use Rattle.formula.specs.declared.entry.Entry.TheVariants.{True, False, And, Or, May, Must}
use Rattle.verdicts.specs.Words.{says}

-- Whether the way is a move by a to a state with P.
abbrev pub goes : ℕ → (ℕ → Bool) → Way → Bool
goes a P None = false
goes a P (Some p) = p.0 == a && P p.1

-- Whether the way is no move by a, or leads to a state with P.
abbrev pub stays : ℕ → (ℕ → Bool) → Way → Bool
stays a P None = true
stays a P (Some p) = not (p.0 == a) || P p.1

-- What the entry says of state s, where P i t is what entry i says of state t.
abbrev pub value_of : Lts → (ℕ → ℕ → Bool) → Entry → ℕ → Bool
value_of m P True s = true
value_of m P False s = false
value_of m P (And i j) s = P i s && P j s
value_of m P (Or i j) s = P i s || P j s
value_of m P (May a i) s = list_any (goes a (P i)) (m.ways s)
value_of m P (Must a i) s = list_all (stays a (P i)) (m.ways s)

-- The words before became those after as the entry was judged, as number n, at the states below a bound.
pub record EntryJudged (m : Lts) (e : Entry) (n bound : ℕ) (before after : List ℕ) : Type 0 where
  -- a sound entry has its value by the words before
  pub value : Sound n e → (s : ℕ) → s < bound → says after n s ≡ value_of m (says before) e s
  -- every other number keeps its verdicts
  pub others : (i s : ℕ) → (i ≢ n) → says after i s ≡ says before i s
