-- What running calls on a bench does, from a bench to a bench. Assumes nothing.
use Rattle.std.specs.Prelude.{◌≡◌, List}
use Rattle.lts.specs.Lts.{Lts}
use Rattle.law.specs.History.{Call, Phase}
use Rattle.bench.specs.Bench.{Bench}
use Rattle.bench.specs.Keeping.{Kept}

-- The calls took the bench b, which is open or settled, to the bench b': its systems are the same, and from every
-- history that led to b they lead to b'. `left` and `right` say what the systems mean.
pub record Took {L R : Type 0} (left : L → Lts) (right : R → Lts) (φ : Phase) (b : Bench L R) (φ' : Phase) (b' : Bench L R) (Calls : List Call → List Call → Type 0) : Type 0 where
  pub same_left : b'.left ≡ b.left
  pub same_right : b'.right ≡ b.right
  pub leads : (h : List Call) → Kept left right φ b h → (h' : List Call) × Calls h h' × Kept left right φ' b' h'
