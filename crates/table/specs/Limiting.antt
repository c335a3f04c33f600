-- The rows of a table keep to the limits of transition systems. Assumes nothing.
use Rattle.std.specs.Prelude.{◌≡◌, ℕ, ◌<◌, ◌≤◌, ◌==◌, List, [], ◌∷◌, map, length, Some, None, slice_index_or, refl}
use Rattle.std.specs.List.{All}
use Rattle.std.proofs.Common.{ap, ⊎_elim, arith}
use Rattle.std.proofs.lemmas.List.{length-map, get_or_past}
use Rattle.std.proofs.lemmas.List.Elements.{All-nil, All-cons, All-map, All-filter, All-get_or}
use Rattle.std.proofs.lemmas.List.Sums.{length-filter, count_by-le-length}
use Rattle.std.proofs.lemmas.Bool.{cases_lt}
use Rattle.std.proofs.lemmas.Bool.Decides.{nat_tests}
use Rattle.actions.specs.Actions.{number_of}
use Rattle.actions.specs.declared.action.Action.{Action}
use Rattle.actions.specs.declared.action.Action.TheVariants.{Silent, Receive, Send}
use Rattle.lts.specs.Lts.{Way, Limits}
use Rattle.rows.specs.Format.{Transition}
use Rattle.rows.specs.Held.{transition_of}
use Rattle.rows.specs.declared.row.Row.{Row}
use Rattle.table.specs.Meaning.{states_of, rows_from, way_of, ways_of, table_lts}

action_few : (a : Action) → number_of a ≤ 52
action_few Silent = omega arith
action_few (Receive s) = omega (arith, s.below)
action_few (Send s) = omega (arith, s.below)

pub states_some : (ts : List Transition) → 1 ≤ states_of ts
states_some [] = omega arith
states_some (t ∷ ts) = omega (arith, states_some ts)

pub states_most : (rows : List Row) → states_of (map transition_of rows) ≤ 1024
states_most [] = omega arith
states_most (r ∷ rows) = omega (arith, states_most rows, r.from.below, r.to.below)

none_outside : (ts : List Transition) (s : ℕ) → states_of ts ≤ s → rows_from ts s ≡ []
none_outside [] s h = refl
none_outside (t ∷ ts) s h = let more = none_outside ts s (omega arith) in grind (arith, nat_tests)

pub from_few : (ts : List Transition) (s : ℕ) → length (rows_from ts s) ≤ length ts
from_few ts s = omega (arith, length-filter (λ (t : Transition). t.from == s) ts, count_by-le-length (λ (t : Transition). t.from == s) ts)

-- A way keeps to the limits where there are n states.
abbrev Keeps : ℕ → Way → Type 0
Keeps n w = (a u : ℕ) → w ≡ Some (a, u) → (a ≤ 52) × (u < n)

rows_keep : (rows : List Row) (n : ℕ) → states_of (map transition_of rows) ≤ n → All (λ t. Keeps n (way_of t)) (map transition_of rows)
rows_keep [] n h = All-nil (λ t. Keeps n (way_of t))
rows_keep (r ∷ rows) n h =
    All-cons (λ t. Keeps n (way_of t)) (transition_of r) (map transition_of rows)
    (λ a u e.
    let move : ◌≡◌ {A = ℕ × ℕ} (number_of r.action, r.to.number) (a, u) = cc in
    (omega (arith, action_few r.action, ap (λ p. p.0) move), omega (arith, ap (λ p. p.1) move)))
    (rows_keep rows n (omega arith))

ways_keep : (rows : List Row) (s k : ℕ) → Keeps (states_of (map transition_of rows)) (slice_index_or (ways_of (map transition_of rows) s) k None)
ways_keep rows s k =
    let ts = map transition_of rows in
    let n = states_of ts in
    ⊎_elim
    (λ h.
    All-get_or (Keeps n) (ways_of ts s) k None h
    (All-map (Keeps n) way_of (rows_from ts s) (All-filter (λ t. t.from == s) (λ t. Keeps n (way_of t)) ts (rows_keep rows n (omega arith)))))
    (λ h a u e. absurd (let none = get_or_past (ways_of ts s) k None h in let z : ◌≡◌ {A = ℕ} 0 1 = cc in omega arith))
    (cases_lt k (length (ways_of ts s)))

pub table_limits : (rows : List Row) → length rows ≤ 2048 → Limits (table_lts (map transition_of rows))
table_limits rows few = record {
  some = states_some (map transition_of rows);
  most = states_most rows;
  starts = omega (arith, states_some (map transition_of rows));
  few = λ s. omega (arith, length-map (rows_from (map transition_of rows) s) way_of, from_few (map transition_of rows) s, length-map rows transition_of);
  outside = λ s h. ap (map way_of) (none_outside (map transition_of rows) s h);
  action = λ s k a u e. (ways_keep rows s k a u e).0;
  target = λ s k a u e. (ways_keep rows s k a u e).1;
}

-- No row is from a state past the last that a table can name.
pub none_past : (rows : List Row) (s : ℕ) → 1024 ≤ s → rows_from (map transition_of rows) s ≡ []
none_past rows s h = none_outside (map transition_of rows) s (omega (arith, states_most rows))
