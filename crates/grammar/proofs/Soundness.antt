-- What the machine reads, the grammar derives: what the bytes are that led to each state. Assumes nothing.
use Rattle.std.proofs.Common.{◌≡◌, ℕ, ◌+◌, Bool, true, false, List, [], ◌∷◌, ◌++◌, codes, sym, refl, subst, append_assoc, append-nil, arith}
use Rattle.hml.specs.Logic.{Formula}
use Rattle.hml.specs.Logic.Formula.{both, either}
use Rattle.hml.specs.declared.line.Modality.{Modality}
use Rattle.hml.specs.declared.line.Modality.TheVariants.{May, Must}
use Rattle.grammar.specs.Grammar.{Level, unary, ands, ors, modal_of, Letter, letter, gap, Act, silent, receives, sends, before, after}
use Rattle.grammar.specs.Grammar.{Text, truth, falsity, diamond, box, bracketed, single, conjunction, conjunctions, disjunction, led, trailed}
use Rattle.grammar.specs.Order.{good, bad}
use Rattle.grammar.specs.Verdict.{Is, Out}
use Rattle.grammar.specs.Machine.{Ctx, top, within, first, bar, lone, amp, under, want, half, act, hat, shut, State, await, have, dead}
use Rattle.grammar.specs.Machine.{opener, closer, initial, done, joined, outer, leave, moves, next, run, start, whole, ending}
use Rattle.grammar.proofs.Moves.{AllMoves, by_moves}

-- A refusal is not a formula.
pub bad_is_not_good : (f : Formula) (n p : ℕ) → ¬ ◌≡◌ {A = Out} (bad n p) (good f)
bad_is_not_good f n p e = let z : ◌≡◌ {A = ℕ} 0 1 = cc in omega arith

-- Before any phrase of the first level the bytes make one of the second level, whose formula is h of the first's.
abbrev pub Leads : Level → Level → (Formula → Formula) → List ℕ → Type 0
Leads l n h p = (u : List ℕ) (g : Formula) → Text l u g → Text n (p ++ u) (h g)

-- The bytes stand before a phrase of the level around which this is pending.
pub data Before : (l : Level) → Ctx l → List ℕ → Type 0 where
  at_top : {w : List ℕ} → Leads ors ors (λ f. f) w → Before ors top w
  at_within : {k : Ctx unary} {v : List ℕ} → Before unary k v → (p : List ℕ) → ((u : List ℕ) (g : Formula) → Text ors u g → Text unary (p ++ (u ++ codes ")")) g) → Before ors (within k) (v ++ p)
  at_first : {k : Ctx ors} {v : List ℕ} → Before ors k v → Before ands (first k) v
  at_bar : {f : Formula} {k : Ctx ors} {v : List ℕ} → Before ors k v → (p : List ℕ) → Leads ands ors (either f) p → Before ands (bar f k) (v ++ p)
  at_lone : {k : Ctx ands} {v : List ℕ} → Before ands k v → Before unary (lone k) v
  at_amp : {f : Formula} {k : Ctx ands} {v : List ℕ} → Before ands k v → (p : List ℕ) → Leads unary ands (both f) p → Before unary (amp f k) (v ++ p)
  at_under : {m : Modality} {a : ℕ} {k : Ctx unary} {v : List ℕ} → Before unary k v → (p : List ℕ) → Leads unary unary (modal_of m a) p → Before unary (under m a k) (v ++ p)

-- The bytes led to the state.
pub data Led : State → List ℕ → Type 0 where
  to_want : {k : Ctx unary} {w : List ℕ} → Before unary k w → Led (await want k) w
  to_half : {c : Bool} {k : Ctx unary} {v : List ℕ} → Before unary k v → Led (await (half c) k) (v ++ initial c ∷ [])
  to_act : {m : Modality} {k : Ctx unary} {v : List ℕ} → Before unary k v → (x : List ℕ) → ((y : List ℕ) (a : ℕ) → Act y a → Act (x ++ y) a) → Led (await (act m) k) (v ++ opener m ∷ x)
  to_hat : {m : Modality} {k : Ctx unary} {v : List ℕ} → Before unary k v → (x : List ℕ) → ((y : List ℕ) (c : ℕ) → Letter y c → Act (x ++ y) (c + 27)) → Led (await (hat m) k) (v ++ opener m ∷ x)
  to_shut : {m : Modality} {a : ℕ} {k : Ctx unary} {v x : List ℕ} → Before unary k v → Act x a → Led (await (shut m a) k) (v ++ opener m ∷ x)
  to_have : {f : Formula} {k : Ctx ands} {v u : List ℕ} → Before ands k v → Text ands u f → Led (have f k) (v ++ u)
  to_dead : {w : List ℕ} → Led dead w

-- What stands before the rest of a conjunction, of a disjunction, and of a formula under a modality.
leads_and : {u : List ℕ} {f : Formula} → Text ands u f → Leads unary ands (both f) (u ++ codes "&")
leads_and {u} t y g r = rw (append_assoc u (codes "&") y) (conjunction t r)

leads_or : {u : List ℕ} {f : Formula} → Text ors u f → Leads ands ors (either f) (u ++ codes "|")
leads_or {u} t y g r = rw (append_assoc u (codes "|") y) (disjunction t r)

leads_modal : (m : Modality) {x : List ℕ} {a : ℕ} → Act x a → Leads unary unary (modal_of m a) (opener m ∷ x ++ closer m ∷ [])
leads_modal May {x} r y g t = rw (append_assoc x (codes ">") y) (diamond r t)
leads_modal Must {x} r y g t = rw (append_assoc x (codes "]") y) (box r t)

-- A space more may stand before a phrase.
leads_space : (l n : Level) (h : Formula → Formula) (p : List ℕ) → Leads l n h p → Leads l n h (p ++ codes " ")
leads_space l n h p d u g t = rw (append_assoc p (codes " ") u) (d (codes " " ++ u) g (led t))

before_space : {l : Level} {k : Ctx l} {w : List ℕ} → Before l k w → Before l k (w ++ codes " ")
before_space (at_top {w} d) = at_top (leads_space _ _ _ w d)
before_space (at_within {v = v} b p d) =
    rw (append_assoc v p (codes " ")) (at_within b (p ++ codes " ") (λ u g t. rw (append_assoc p (codes " ") (u ++ codes ")")) (d (codes " " ++ u) g (led t))))
before_space (at_first b) = at_first (before_space b)
before_space (at_bar {v = v} b p d) = rw (append_assoc v p (codes " ")) (at_bar b (p ++ codes " ") (leads_space _ _ _ p d))
before_space (at_lone b) = at_lone (before_space b)
before_space (at_amp {v = v} b p d) = rw (append_assoc v p (codes " ")) (at_amp b (p ++ codes " ") (leads_space _ _ _ p d))
before_space (at_under {v = v} b p d) = rw (append_assoc v p (codes " ")) (at_under b (p ++ codes " ") (leads_space _ _ _ p d))

-- A whole unary phrase leads on.
led_done : {k : Ctx unary} {w : List ℕ} {u : List ℕ} {f : Formula} → Before unary k w → Text unary u f → Led (done f k) (w ++ u)
led_done (at_lone b) t = to_have b (single t)
led_done {u = u} {f} (at_amp {v = v} b p d) t = rw (append_assoc v p u) (to_have b (d u f t))
led_done {u = u} {f} (at_under {v = v} b p d) t = rw (append_assoc v p u) (led_done b (d u f t))

-- An and-phrase is the last of an or-phrase.
abbrev Last : Formula → Ctx ands → List ℕ → Type 0
Last f k w = (v : List ℕ) × (y : List ℕ) × Before ors (outer k) v × Text ors y (joined f k) × (w ≡ v ++ y)

last : {k : Ctx ands} {v u : List ℕ} {f : Formula} → Before ands k v → Text ands u f → Last f k (v ++ u)
last {u = u} (at_first {v = v} b) t = (v, u, b, conjunctions t, refl)
last {u = u} {f} (at_bar {v = v} b p d) t = (v, p ++ u, b, d u f t, append_assoc v p u)

-- A whole or-phrase leads on by ).
led_leave : {k : Ctx ors} {v y : List ℕ} {f : Formula} → Before ors k v → Text ors y f → Led (leave f k) ((v ++ y) ++ codes ")")
led_leave (at_top d) t = to_dead
led_leave {y = y} {f} (at_within {v = v} b p d) t = simp append_assoc (led_done b (d y f t))

-- The bytes that led to a state, with the byte of each of its moves, led to the state of that move.
led_moves : {σ : State} {w : List ℕ} → Led σ w → AllMoves (λ b τ. Led τ (w ++ b ∷ [])) (moves σ)
led_moves (to_want b) = (
  to_want (before_space b),
  (to_half b, (to_half b, (to_act b [] (λ y a r. r), (to_act b [] (λ y a r. r), (to_want (at_lone (at_first (at_within b (codes "(") (λ u g t. bracketed t)))), tt))))),
)
led_moves (to_half {c = true} b) = (rw append_assoc (led_done b truth), tt)
led_moves (to_half {c = false} b) = (rw append_assoc (led_done b falsity), tt)
led_moves (to_act b x d) = (
  λ c l. rw append_assoc (to_shut b (d ((c + 97) ∷ []) (c + 1) (receives (letter l)))),
  (
    rw append_assoc (to_act b (x ++ codes " ") (λ y a r. rw append_assoc (d (codes " " ++ y) a (before r)))),
    (rw append_assoc (to_shut b (d (codes "*") 0 silent)), (rw append_assoc (to_hat b (x ++ codes "^") (λ y c r. rw append_assoc (d (codes "^" ++ y) (c + 27) (sends r)))), tt)),
  ),
)
led_moves (to_hat b x d) = (
  λ c l. rw append_assoc (to_shut b (d ((c + 97) ∷ []) c (letter l))),
  (rw append_assoc (to_hat b (x ++ codes " ") (λ y c r. rw append_assoc (d (codes " " ++ y) c (gap r)))), tt),
)
led_moves (to_shut {m} {x = x} b r) = (rw append_assoc (to_shut b (after r)), (rw append_assoc (to_want (at_under b (opener m ∷ x ++ closer m ∷ []) (leads_modal m r))), tt))
led_moves (to_have {u = u} b t) =
    let x = last b t in (
      rw append_assoc (to_have b (trailed t)),
      (
        rw append_assoc (to_want (at_amp b (u ++ codes "&") (leads_and t))),
        (rw (x.4, append_assoc) (to_want (at_lone (at_bar x.2 (x.1 ++ codes "|") (leads_or x.3)))), (rw x.4 (led_leave x.2 x.3), tt)),
      ),
    )
led_moves to_dead = tt

-- The bytes that led to a state, with more bytes, led to the state after these.
pub led_run : (v : List ℕ) {σ : State} {w : List ℕ} → Led σ w → Led (run σ v) (w ++ v)
led_run [] {σ} {w} d = subst (Led σ) (sym (append-nil w)) d
led_run (b ∷ v) {σ} {w} d =
    let one = by_moves (λ b τ. Led τ (w ++ b ∷ [])) (λ b. to_dead) (moves σ) (led_moves d) b in
    subst (Led (run (next σ b) v)) (append_assoc w (b ∷ []) v) (led_run v one)

-- No bytes led to the start.
pub led_start : Led start []
led_start = to_want (at_lone (at_first (at_top (λ u g t. t))))

-- Bytes that led to a state whose end is good are the text of its formula.
good_whole : {k : Ctx ors} {v y : List ℕ} {h : Formula} (f : Formula) (p : ℕ) → Before ors k v → Text ors y h → whole h k p ≡ good f → Is (v ++ y) f
good_whole {y = y} {h} f p (at_top {w} d) t e = let same : h ≡ f = cc in subst (Text ors (w ++ y)) same (d y h t)
good_whole f p (at_within b q d) t e = absurd (bad_is_not_good f 31 p e)

good_end : {σ : State} {w : List ℕ} (f : Formula) (p : ℕ) → Led σ w → ending σ p ≡ good f → Is w f
good_end f p (to_want b) e = absurd (bad_is_not_good f 31 p e)
good_end f p (to_half b) e = absurd (bad_is_not_good f 31 p e)
good_end f p (to_act b x d) e = absurd (bad_is_not_good f 31 p e)
good_end f p (to_hat b x d) e = absurd (bad_is_not_good f 31 p e)
good_end f p (to_shut b r) e = absurd (bad_is_not_good f 31 p e)
good_end f p (to_have b t) e = let x = last b t in rw x.4 (good_whole f p x.2 x.3 e)
good_end f p to_dead e = absurd (bad_is_not_good f 31 p e)

-- A text whose end is good is the formula that the machine reads.
pub ends_text : (s : List ℕ) (f : Formula) (p : ℕ) → ending (run start s) p ≡ good f → Is s f
ends_text s f p e = good_end f p (led_run s led_start) e
