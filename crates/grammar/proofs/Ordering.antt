-- A machine that refuses as the tests do reads each text as its verdict, for any grammar. Assumes nothing.
use Rattle.std.proofs.Common.{◌≡◌, ℕ, zero, suc, ◌<◌, ◌≤◌, ◌⊎◌, List, [], ◌∷◌, ◌++◌, length, get_or, take, drop, sym, refl, ap, ◌∙◌, subst, ap₂, inl, inr, ⊎_elim, arith, length-drop, drop-cons, take-suc}
use lib.Seq.{take-length, drop-length}
use Rattle.std.proofs.lemmas.Bool.{cases_lt}
use Rattle.grammar.specs.Order.{Out, good, bad, Test, Passes, First, Passed, Verdict, reads, ends, refused, run, Machine, after, walk, read, Tested, Fits, Ordered}

-- A beginning that a test refuses does not pass.
pub first_fails : {F : Type 0} (ts : List Test) (w : List ℕ) (p : ℕ) (o : Out F) → First ts w p o → ¬ Passes ts w
first_fails [] w p o x h = x
first_fails (t ∷ ts) w p o (inl x) h = x.0 h.0
first_fails (t ∷ ts) w p o (inr x) h = first_fails ts w p o x.1 h.1

-- It is refused by a number at a place.
pub first_is_bad : {F : Type 0} (ts : List Test) (w : List ℕ) (p : ℕ) (o : Out F) → First ts w p o → (n : ℕ) × (q : ℕ) × (o ≡ bad n q)
first_is_bad [] w p o x = absurd x
first_is_bad (t ∷ ts) w p o (inl x) = (t.number, t.place p, x.1)
first_is_bad (t ∷ ts) w p o (inr x) = first_is_bad ts w p o x.1

-- The refusal of the first test that a beginning does not keep is one only.
pub first_is_one : {F : Type 0} (ts : List Test) (w : List ℕ) (p : ℕ) (o x : Out F) → First ts w p o → First ts w p x → o ≡ x
first_is_one [] w p o x f g = absurd f
first_is_one (t ∷ ts) w p o x (inl f) (inl g) = f.1 ∙ sym g.1
first_is_one (t ∷ ts) w p o x (inl f) (inr g) = absurd (f.0 g.0)
first_is_one (t ∷ ts) w p o x (inr f) (inl g) = absurd (g.0 f.0)
first_is_one (t ∷ ts) w p o x (inr f) (inr g) = first_is_one ts w p o x f.1 g.1

-- One beginning more passes.
passed_more : (ts : List Test) (s : List ℕ) (n : ℕ) → Passed ts s n → Passes ts (take (suc n) s) → Passed ts s (suc n)
passed_more ts s n h x q l = ⊎_elim (λ (j : q < suc n). h q (omega arith)) (λ j. let e : suc n ≡ q = omega arith in subst (λ i. Passes ts (take i s)) e x) (cases_lt q (suc n))

-- A run over two parts is a run over the second after one over the first.
pub run_append : {S : Type 0} (next : S → ℕ → S) (σ : S) (u v : List ℕ) → run next σ (u ++ v) ≡ run next (run next σ u) v
run_append next σ [] v = refl
run_append next σ (b ∷ u) v = run_append next (next σ b) u v

module _ {F : Type 0} (m : Machine F) (s : List ℕ) where
  -- The state after n bytes of the text.
  abbrev pub state_at : ℕ → m.State
  state_at n = after m (take n s)

  -- What comes of the bytes after n of them.
  abbrev pub walk_at : ℕ → Out F
  walk_at n = walk m (state_at n) n (drop n s)

  -- One byte of a walk.
  pub walk_more : (n : ℕ) → n < length s → walk_at n ≡ m.checked (state_at (suc n)) n (walk_at (suc n))
  walk_more n h =
      let one : state_at (suc n) ≡ m.next (state_at n) (get_or s n 0) = ap (after m) (take-suc s n 0 h) ∙ run_append m.next m.start (take n s) (get_or s n 0 ∷ []) in
      ap (walk m (state_at n) n) (drop-cons s n 0 h) ∙ ap (λ σ. m.checked σ n (walk m σ (suc n) (drop (suc n) s))) (sym one)

  -- What comes of the end of the text.
  abbrev at_end : Out F
  at_end = m.ending (after m s) (length s)

module _ {F : Type 0} (Is : List ℕ → F → Type 0) (early : ℕ) (ts : List Test) (m : Machine F) (fits : Fits Is early ts m) (s : List ℕ) where
  -- Where the beginnings of at most n bytes pass, what is read is what comes of the bytes after n.
  pub walk_at_lem : (n : ℕ) → n ≤ length s → Passed ts s n → read m s ≡ walk_at m s n
  walk_at_lem zero l h = refl
  walk_at_lem (suc n) l h = walk_at_lem n (omega arith) (λ q k. h q (omega arith)) ∙ walk_more m s n l ∙ go (fits.tested (take (suc n) s) n)
    where
      go : Tested ts (take (suc n) s) n (m.checked (state_at m s (suc n)) n) → m.checked (state_at m s (suc n)) n (walk_at m s (suc n)) ≡ walk_at m s (suc n)
      go (inl x) = x.1 _
      go (inr x) = absurd (first_fails ts (take (suc n) s) n x.0 x.1 (h (suc n) (omega arith)))

  -- Where every beginning passes, it is what comes of the end.
  walk_end : Passed ts s (length s) → read m s ≡ at_end m s
  walk_end h = walk_at_lem (length s) (omega arith) h ∙ ap₂ (λ w bs. walk m (after m w) (length s) bs) (take-length s) (drop-length s)

  -- The first test that a beginning does not keep says what is read.
  walk_refused : (p : ℕ) (x : Out F) → p < length s → Passed ts s p → First ts (take (suc p) s) p x → read m s ≡ x
  walk_refused p x l h f = walk_at_lem p (omega arith) h ∙ walk_more m s p l ∙ go (fits.tested (take (suc p) s) p)
    where
      go : Tested ts (take (suc p) s) p (m.checked (state_at m s (suc p)) p) → m.checked (state_at m s (suc p)) p (walk_at m s (suc p)) ≡ x
      go (inl y) = absurd (first_fails ts (take (suc p) s) p x f y.0)
      go (inr y) = y.2 _ ∙ first_is_one ts (take (suc p) s) p y.0 x y.1 f

  -- The verdict is what is read.
  verdict_read : (o : Out F) → Verdict Is early ts s o → read m s ≡ o
  verdict_read o (reads {f} h x) = walk_end h ∙ fits.complete s f (length s) x
  verdict_read o (ends h none) = walk_end h ∙ ⊎_elim (λ x. absurd (none x.0 (fits.sound s x.0 (length s) x.1))) (λ e. e) (fits.ended s (length s))
  verdict_read o (refused {p = p} l h f) = walk_refused p o l h f

  -- What is read is the verdict, where the beginnings of at most n bytes pass.
  read_verdict : (bs : List ℕ) (n : ℕ) → n ≤ length s → drop n s ≡ bs → Passed ts s n → Verdict Is early ts s (read m s)
  read_verdict [] n l e h = go (fits.ended s (length s))
    where
      passed : Passed ts s (length s)
      passed q k = h q (omega (arith, length-drop n s, ap length e))

      go : ((f : F) × (at_end m s ≡ good f)) ⊎ (at_end m s ≡ bad early (length s)) → Verdict Is early ts s (read m s)
      go (inl x) = rw (walk_end passed ∙ x.1) (reads passed (fits.sound s x.0 (length s) x.1))
      go (inr x) = rw (walk_end passed ∙ x) (ends passed (λ f is. let z : ◌≡◌ {A = ℕ} 0 1 = cc (x, fits.complete s f (length s) is) in omega arith))
  read_verdict (b ∷ bs) n l e h =
      let within : n < length s = omega (arith, length-drop n s, ap length e) in
      let more = drop-cons s n 0 within in
      let rest : drop (suc n) s ≡ bs = cc in
      ⊎_elim
      (λ x. read_verdict bs (suc n) within rest (passed_more ts s n h x.0))
      (λ x. rw (walk_refused n x.0 within h x.1) (refused within h x.1))
      (fits.tested (take (suc n) s) n)

-- The verdict and what a machine that fits reads are the same.
pub ordered : Ordered
ordered F Is early ts m fits s o = (verdict_read Is early ts m fits s o, λ e. subst (Verdict Is early ts s) e (read_verdict Is early ts m fits s s 0 (omega arith) refl none))
  where
    none : Passed ts s 0
    none zero l = fits.empty
    none (suc q) l = absurd (omega arith)
