-- Classes of states that agree to a depth, each named by its lowest state, and the tree of their separations.
-- Assumes nothing.
use Rattle.std.specs.Prelude.{◌≡◌, ℕ, suc, ◌<◌, List, slice_index, slice_index_or}
use Rattle.lts.specs.Lts.{Lts}
use Rattle.hml.specs.Bisimilarity.{Agree}
use Rattle.refine.specs.declared.classes.Classes.{Classes}
use Rattle.refine.specs.declared.classes.Parting.{Parting}

-- u names the class of s to depth r: it is the lowest state that agrees with s to that depth.
pub record Names (m : Lts) (r s u : ℕ) : Type 0 where
  pub agrees : Agree m r s u
  pub lowest : (v : ℕ) → v < u → ¬ Agree m r s v

-- The list has the name of each state's class to depth r.
abbrev pub Classed : Lts → ℕ → List ℕ → Type 0
Classed m r names = (s : ℕ) → s < m.states → Names m r s (slice_index names s)

-- State u names its own class from depth d + 1 on, and to depth d the lower state p named it: there the two parted.
pub record Parted (m : Lts) (u p d : ℕ) : Type 0 where
  pub lower : p < u
  pub together : Names m d u p
  pub apart : Names m (suc d) u u

-- How name u parted, as the list has it.
abbrev pub parting_at : List Parting → ℕ → Parting
parting_at partings u = slice_index_or partings u (record { parent = 0; depth = 0 })

-- The classes are those of bisimilarity: they stay the same from some depth r on. Every name but state 0 has the name
-- from which it parted, and the depth at which the two first disagree.
pub record Refined (m : Lts) (c : Classes) : Type 0 where
  pub depth : ℕ
  pub classed : Classed m depth c.names
  pub rests : Classed m (suc depth) c.names
  pub parted : (u : ℕ) → 0 < u → u < m.states → slice_index c.names u ≡ u → (d : ℕ) × ((parting_at c.partings u).depth ≡ suc d) × (d < depth) × Parted m u (parting_at c.partings u).parent d
