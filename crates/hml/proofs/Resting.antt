-- Agreement rests at some depth, and where it rests it is bisimilarity.
use Rattle.std.proofs.Common.{◌≡◌, ℕ, zero, suc, ◌+◌, ◌*◌, ◌/◌, ◌%◌, ◌<◌, ◌≤◌, Bool, T, eqb, subst, subst₂, arith, eqb→eq}
use native.Mathlib.Decide.{dec_lt, le_ind}
use lib.Arith.{digits_lt, digits_div, digits_mod}
use lib.Dec.{eqb_refl}
use Rattle.lts.specs.Lts.{Lts, Move}
use Rattle.hml.specs.Bisimilarity.{Matched, Bisimulation, Bisimilar, Agree}
use Rattle.hml.specs.Theorems.{Closed}
use Rattle.hml.proofs.Deciding.{both?, implies?, all_below?, below_suc, answer, answer_holds, answer_passes}
use Rattle.hml.proofs.Agreement.{agree?, agree_less, matched_wider}

-- What has the property in round r, of the numbers below n, has it in the round after.
abbrev pub Rests : (ℕ → ℕ → Type 0) → ℕ → ℕ → Type 0
Rests P n r = (i : ℕ) → i < n → P r i → P (suc r) i

unfoldable pub rests? : (P : ℕ → ℕ → Type 0) → ((r i : ℕ) → Dec (P r i)) → (n r : ℕ) → Dec (Rests P n r)
unfolding all_below? implies?
rests? P P? n r = all_below? (λ i. P r i → P (suc r) i) (λ i. implies? (P? r i) (P? (suc r) i)) n

-- A decided property that falls away with the rounds, and does not come back, rests below any number.
module _ (P : ℕ → ℕ → Type 0) (P? : (r i : ℕ) → Dec (P r i)) (falls : (r i : ℕ) → P (suc r) i → P r i) where
  falls_to : (d r i : ℕ) → d ≤ r → P r i → P d i
  falls_to d r i l = le_ind {n = d} (λ k. P k i → P d i) (λ h. h) (λ k g to h. to (falls k i h)) r l

  -- Where the numbers below n rest at r, and n itself falls away then, they rest together later.
  pub rests : (n start : ℕ) → (r : ℕ) × (start ≤ r) × Rests P n r
  rests zero start = (start, omega arith, λ i l. absurd (omega arith))
  rests (suc n) start = let x = rests n start in go x.0 x.1 x.2 (rests n (suc x.0)) (P? (suc x.0) n)
    where
      go : (r : ℕ) → start ≤ r → Rests P n r → (q : ℕ) × (suc r ≤ q) × Rests P n q → Dec (P (suc r) n) → (r : ℕ) × (start ≤ r) × Rests P (suc n) r
      go r l h later (yes p) = (r, l, below_suc (λ i. P r i → P (suc r) i) n h (λ x. p))
      go r l h later (no lost) =
          let q = later.0 in
          (q, omega (arith, later.1), below_suc (λ i. P q i → P (suc q) i) n later.2 (λ x. absurd (lost (falls_to (suc r) q n later.1 x))))

-- Agreement to depth r, on the states of the system, is agreement to one depth more.
abbrev pub AgreeRests : Lts → ℕ → Type 0
AgreeRests m r = (s t : ℕ) → s < m.states → t < m.states → Agree m r s t → Agree m (suc r) s t

unfoldable pub agree_rests? : (m : Lts) (r : ℕ) → Dec (AgreeRests m r)
unfolding all_below? rests? agree?
agree_rests? m r = go (all_below? Row (λ s. rests? (λ q t. Agree m q s t) (λ q t. agree? m q s t) m.states r) m.states)
  where
    Row : ℕ → Type 0
    Row s = Rests (λ q t. Agree m q s t) m.states r

    go : Dec ((s : ℕ) → s < m.states → Row s) → Dec (AgreeRests m r)
    go (yes h) = yes (λ s t ls lt. h s ls t lt)
    go (no n) = no (λ h. n (λ s ls t lt. h s t ls lt))

-- Every move of a state leads to a state.
abbrev pub ClosedBelow : Lts → Type 0
ClosedBelow m = (s : ℕ) → s < m.states → (a t : ℕ) → Move m s a t → t < m.states

pub closed_below : (m : Lts) → Closed m → ClosedBelow m
closed_below m closed s l = closed s

module _ (m : Lts) where
  -- Agreement rests at some depth, on the states of the system.
  pub agree_rests : (r : ℕ) × AgreeRests m r
  agree_rests =
      let r = depth.0 in
      (r, λ s t ls lt. subst₂ (λ u v. Agree m r u v → Agree m (suc r) u v) (digits_div s lt) (digits_mod s lt) (depth.2 (s * N + t) (digits_lt ls lt)))
    where
      N : ℕ
      N = m.states

      depth : (r : ℕ) × (0 ≤ r) × Rests (λ r i. Agree m r (i / N) (i % N)) (N * N) r
      depth = rests (λ r i. Agree m r (i / N) (i % N)) (λ r i. agree? m r (i / N) (i % N)) (λ r i. agree_less m r (i / N) (i % N)) (N * N) 0

  -- Where it rests it is bisimilarity.
  pub rests_bisimilar_below : ClosedBelow m → (r : ℕ) → AgreeRests m r → (s t : ℕ) → s < m.states → t < m.states → Agree m r s t → Bisimilar m s t
  rests_bisimilar_below below r rest s t ls lt h = (λ u v. answer (related? u v), answer_passes (related? s t) (ls, (lt, h)), both_ways)
    where
      related? : (u v : ℕ) → Dec ((u < m.states) × ((v < m.states) × Agree m r u v))
      related? u v = both? (dec_lt u m.states) (both? (dec_lt v m.states) (agree? m r u v))

      both_ways : Bisimulation m (λ u v. answer (related? u v))
      both_ways u v x =
          let y = answer_holds (related? u v) x in
          let next = rest u v y.0 y.1.0 y.1.1 in (
            λ a w z. let q = next.0 a w z in (q.0, q.1, answer_passes (related? w q.0) (below u y.0 a w z, (below v y.1.0 a q.0 q.1, q.2))),
            λ a w z. let q = next.1 a w z in (q.0, q.1, answer_passes (related? q.0 w) (below u y.0 a q.0 q.1, (below v y.1.0 a w z, q.2))),
          )

  pub rests_bisimilar : Closed m → (r : ℕ) → AgreeRests m r → (s t : ℕ) → s < m.states → t < m.states → Agree m r s t → Bisimilar m s t
  rests_bisimilar closed = rests_bisimilar_below (closed_below m closed)

  -- What a bisimulation relates agrees to every depth.
  pub bisimulation_agrees : (R : ℕ → ℕ → Bool) → Bisimulation m R → (r s t : ℕ) → T (R s t) → Agree m r s t
  bisimulation_agrees R b zero s t h = tt
  bisimulation_agrees R b (suc r) s t h = (
    matched_wider m (λ u v. T (R u v)) (Agree m r) (bisimulation_agrees R b r) s t (b s t h).0,
    matched_wider m (λ u v. T (R v u)) (λ u v. Agree m r v u) (λ u v. bisimulation_agrees R b r v u) t s (b s t h).1,
  )

  -- Bisimilar states agree to every depth.
  pub bisimilar_agrees : (s t : ℕ) → Bisimilar m s t → (r : ℕ) → Agree m r s t
  bisimilar_agrees s t h r = bisimulation_agrees h.0 h.2 r s t h.1

  -- Bisimilarity is reflexive, by the relation of equality, and symmetric.
  pub bisimilar_refl : (s : ℕ) → Bisimilar m s s
  bisimilar_refl s = (eqb, eqb_refl s, λ u v h. same u v (eqb→eq u v h))
    where
      same : (u v : ℕ) → u ≡ v → Matched m (λ w z. T (eqb w z)) u v × Matched m (λ w z. T (eqb z w)) v u
      same u v e =
          subst (λ v. Matched m (λ w z. T (eqb w z)) u v × Matched m (λ w z. T (eqb z w)) v u) e (λ a w x. (w, x, eqb_refl w), λ a w x. (w, x, eqb_refl w))

  pub bisimilar_sym : (s t : ℕ) → Bisimilar m s t → Bisimilar m t s
  bisimilar_sym s t h = (λ u v. h.0 v u, h.1, λ u v x. let y = h.2 v u x in (y.1, y.0))

  -- States that agree to every depth are bisimilar.
  pub every_depth_bisimilar : Closed m → (s t : ℕ) → s < m.states → t < m.states → ((r : ℕ) → Agree m r s t) → Bisimilar m s t
  every_depth_bisimilar closed s t ls lt h = rests_bisimilar closed agree_rests.0 agree_rests.1 s t ls lt (h agree_rests.0)

  -- States that are not bisimilar do not agree to some depth.
  pub unlike_apart : Closed m → (s t : ℕ) → s < m.states → t < m.states → ¬ Bisimilar m s t → (r : ℕ) × (¬ Agree m r s t)
  unlike_apart closed s t ls lt n = (agree_rests.0, λ h. n (rests_bisimilar closed agree_rests.0 agree_rests.1 s t ls lt h))
