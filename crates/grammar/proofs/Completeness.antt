-- What the grammar derives, the machine reads, whatever is pending around it. Assumes nothing.
use Rattle.std.proofs.Common.{◌≡◌, ℕ, ◌+◌, ◌<◌, List, [], ◌∷◌, ◌++◌, sym, refl, ap, ◌∙◌, subst, ap₂}
use Rattle.hml.specs.Logic.{Formula}
use Rattle.hml.specs.declared.line.Modality.{Modality}
use Rattle.hml.specs.declared.line.Modality.TheVariants.{May, Must}
use Rattle.grammar.specs.Grammar.{Level, unary, ands, ors, Letter, letter, gap, Act, silent, receives, sends, before, after}
use Rattle.grammar.specs.Grammar.{Text, truth, falsity, diamond, box, bracketed, single, conjunction, conjunctions, disjunction, led, trailed}
use Rattle.grammar.specs.Order.{good}
use Rattle.grammar.specs.Verdict.{Is}
use Rattle.grammar.specs.Machine.{Ctx, top, within, first, bar, lone, amp, under, want, act, hat, shut, State, await, have}
use Rattle.grammar.specs.Machine.{next, run, start, done, joined, outer, leave, whole, ending, opener, closer}
use Rattle.grammar.proofs.Ordering.{run_append}
use Rattle.grammar.proofs.Moves.{next_receives, next_sends, done_space}

-- A letter is read from a state that takes small letters and spaces.
run_letter : (σ : State) (h : ℕ → State) → ((c : ℕ) → c < 26 → next σ (c + 97) ≡ h c) → next σ 32 ≡ σ → {x : List ℕ} {c : ℕ} → Letter x c → run σ x ≡ h c
run_letter σ h small space (letter {c} l) = small c l
run_letter σ h small space (gap {x} r) = ap (λ τ. run τ x) space ∙ run_letter σ h small space r

-- An action is read after < or [.
pub run_act : (m : Modality) (k : Ctx unary) {x : List ℕ} {a : ℕ} → Act x a → run (await (act m) k) x ≡ await (shut m a) k
run_act m k silent = refl
run_act m k (receives r) = run_letter (await (act m) k) (λ c. await (shut m (c + 1)) k) (next_receives m k) refl r
run_act m k (sends r) = run_letter (await (hat m) k) (λ c. await (shut m (c + 27)) k) (next_sends m k) refl r
run_act m k (before r) = run_act m k r
run_act m k (after {x} r) = run_append next (await (act m) k) x (32 ∷ []) ∙ ap (λ σ. next σ 32) (run_act m k r)

-- A modality and its action are read where a unary phrase is wanted.
pub run_modal : (m : Modality) (k : Ctx unary) {x : List ℕ} {a : ℕ} (u : List ℕ) → Act x a → run (await want k) (opener m ∷ (x ++ (closer m ∷ u))) ≡ run (await want (under m a k)) u
run_modal May k {x} u r = run_append next (await (act May) k) x (62 ∷ u) ∙ ap (λ σ. run σ (62 ∷ u)) (run_act May k r)
run_modal Must k {x} u r = run_append next (await (act Must) k) x (93 ∷ u) ∙ ap (λ σ. run σ (93 ∷ u)) (run_act Must k r)

-- What is pending around the first unary phrase of a phrase of the level.
abbrev pub opening : (l : Level) → Ctx l → Ctx unary
opening unary k = k
opening ands k = lone k
opening ors k = lone (first k)

-- The state is one after a whole phrase f of the level, where k is pending around it.
abbrev pub Reached : (l : Level) → Formula → Ctx l → State → Type 0
Reached unary f k σ = σ ≡ done f k
Reached ands f k σ = σ ≡ have f k
Reached ors f k σ = (g : Formula) × (j : Ctx ands) × (σ ≡ have g j) × (joined g j ≡ f) × (outer j ≡ k)

-- A space may follow.
reached_space : (l : Level) (f : Formula) (k : Ctx l) (σ : State) → Reached l f k σ → Reached l f k (next σ 32)
reached_space unary f k σ e = ap (λ τ. next τ 32) e ∙ done_space f k
reached_space ands f k σ e = ap (λ τ. next τ 32) e
reached_space ors f k σ x = (x.0, x.1, ap (λ τ. next τ 32) x.2, x.3, x.4)

-- A phrase of any level is read, whatever is pending around it.
pub run_text : {l : Level} {u : List ℕ} {f : Formula} → Text l u f → (k : Ctx l) → Reached l f k (run (await want (opening l k)) u)
run_text truth k = refl
run_text falsity k = refl
run_text (diamond {u = u} {a} r t) k = run_modal May k u r ∙ run_text t (under May a k)
run_text (box {u = u} {a} r t) k = run_modal Must k u r ∙ run_text t (under Must a k)
run_text (bracketed {u} {f} t) k =
    let x = run_text t (within k) in
    run_append next (await want (lone (first (within k)))) u (41 ∷ []) ∙ ap (λ σ. next σ 41) x.2 ∙ ap₂ leave x.3 x.4
run_text (single t) k = run_text t (lone k)
run_text (conjunction {u} {v} {f} t r) k =
    run_append next (await want (lone k)) u (38 ∷ v) ∙ ap (λ σ. run σ (38 ∷ v)) (run_text t k) ∙ run_text r (amp f k)
run_text (conjunctions {f = f} t) k = (f, first k, run_text t (first k), refl, refl)
run_text (disjunction {u} {v} {f} {g} t r) k =
    let x = run_text t k in
    let e = ap₂ (λ h j. run (await want (lone (bar h j))) v) x.3 x.4 in
    (g, bar f k, run_append next (await want (lone (first k))) u (124 ∷ v) ∙ ap (λ σ. run σ (124 ∷ v)) x.2 ∙ e ∙ run_text r (bar f k), refl, refl)
run_text (led t) k = run_text t k
run_text (trailed {l} {u} {f} t) k =
    subst (Reached l f k) (sym (run_append next (await want (opening l k)) u (32 ∷ []))) (reached_space l f k (run (await want (opening l k)) u) (run_text t k))

-- The end of the text of a formula is good.
pub text_ends : (s : List ℕ) (f : Formula) (p : ℕ) → Is s f → ending (run start s) p ≡ good f
text_ends s f p t = let x = run_text t top in ap (λ σ. ending σ p) x.2 ∙ ap₂ (λ h j. whole h j p) x.3 x.4
