-- Where two states part. Assumes nothing.
use Rattle.std.specs.Prelude.{ℕ, Some, None, Option}
use Rattle.lts.specs.Lts.{Lts}
use Rattle.hml.specs.Bisimilarity.{Bisimilar}
use Rattle.hml.specs.Distinguishing.{FirstApart}

-- The least depth to which s and t do not agree, and none where they are bisimilar.
abbrev pub PartsAt : Lts → ℕ → ℕ → Option ℕ → Type 0
PartsAt m s t None = Bisimilar m s t
PartsAt m s t (Some r) = FirstApart m r s t
