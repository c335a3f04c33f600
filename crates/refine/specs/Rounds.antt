-- What a round of refinement has found. Assumes nothing.
use Rattle.std.specs.Prelude.{◌≡◌, ℕ, suc, ◌<◌, ◌≤◌, List, [], ◌∷◌, ◌++◌, slice_index}
use Rattle.arrayvec.specs.ArrayVec.{array_vec_len}
use Rattle.lts.specs.Lts.{Lts}
use Rattle.refine.specs.Classes.{Names}
use Rattle.refine.specs.Signatures.{Weighs}
use Rattle.refine.specs.declared.round.Round.{Round}

-- t is below s and a name to the next depth, and was no name.
pub record Fresh (names next : List ℕ) (s t : ℕ) : Type 0 where
  pub below : t < s
  pub new : ¬ (slice_index names t ≡ t)
  pub naming : slice_index next t ≡ t

-- What is known of the states below s, where names has the names to depth r: their names to the next depth, the
-- weights of their signatures, and which of them are fresh names.
pub record Placed (m : Lts) (r : ℕ) (names : List ℕ) (s : ℕ) (w : Round) : Type 0 where
  pub named : (t : ℕ) → t < s → Names m (suc r) t (slice_index w.next t)
  pub weighs : (t : ℕ) → t < s → Weighs m names t (slice_index w.weights t)
  pub few : array_vec_len w.fresh ≤ s
  pub fresh : (j : ℕ) → j < array_vec_len w.fresh → Fresh names w.next s (slice_index w.fresh.items j)
  pub listed : (t : ℕ) → Fresh names w.next s t → (j : ℕ) × (j < array_vec_len w.fresh) × (slice_index w.fresh.items j ≡ t)

-- State s, which had the name c, gets the name u and the weight, and is listed where u is s and c is not.
pub record Entered (w : Round) (s c u weight : ℕ) (w' : Round) : Type 0 where
  pub name : slice_index w'.next s ≡ u
  pub names : (t : ℕ) → t < s → slice_index w'.next t ≡ slice_index w.next t
  pub weighs : slice_index w'.weights s ≡ weight
  pub weights : (t : ℕ) → t < s → slice_index w'.weights t ≡ slice_index w.weights t
  pub listed : u ≡ s → ¬ (c ≡ s) → w'.fresh.items ≡ w.fresh.items ++ s ∷ []
  pub other : ¬ (u ≡ s) → w'.fresh.items ≡ w.fresh.items
  pub known : c ≡ s → w'.fresh.items ≡ w.fresh.items
