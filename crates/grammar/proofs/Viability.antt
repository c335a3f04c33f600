-- Some text begins with bytes exactly where the machine goes on after them. Assumes nothing.
use Rattle.std.proofs.Common.{◌≡◌, ℕ, true, false, List, [], ◌∷◌, ◌++◌, codes, sym, refl, ap, ◌∙◌, subst}
use Rattle.hml.specs.Logic.{Formula}
use Rattle.hml.specs.Logic.Formula.{tru, fls, both}
use Rattle.hml.specs.declared.line.Modality.{Modality}
use Rattle.hml.specs.declared.line.Modality.TheVariants.{May, Must}
use Rattle.grammar.specs.Grammar.{Level, unary, ands, ors, modal_of}
use Rattle.grammar.specs.Order.{good}
use Rattle.grammar.specs.Verdict.{Viable}
use Rattle.grammar.specs.Machine.{Ctx, top, within, first, bar, lone, amp, under, want, half, act, hat, shut, State, await, have, dead}
use Rattle.grammar.specs.Machine.{done, joined, outer, leave, next, run, start, whole, ending, Alive}
use Rattle.grammar.proofs.Ordering.{run_append}
use Rattle.grammar.proofs.Moves.{run_dead}
use Rattle.grammar.proofs.Completeness.{text_ends}
use Rattle.grammar.proofs.Soundness.{ends_text, bad_is_not_good}

-- The round brackets that are to be closed around a phrase.
abbrev closing : {l : Level} → Ctx l → List ℕ
closing top = []
closing (within k) = 41 ∷ closing k
closing (first k) = closing k
closing (bar f k) = closing k
closing (lone k) = closing k
closing (amp f k) = closing k
closing (under m a k) = closing k

-- The end of the text is good in the state.
abbrev Good : State → Type 0
Good σ = (g : Formula) × ((p : ℕ) → ending σ p ≡ good g)

-- It is good once the brackets around a whole phrase of the level are closed.
abbrev Closes : (l : Level) → Ctx l → Type 0
Closes unary k = (f : Formula) → Good (run (done f k) (closing k))
Closes ands k = (f : Formula) → Good (run (have f k) (closing k))
Closes ors k = (f : Formula) (j : Ctx ands) → outer j ≡ k → Good (run (have f j) (closing k))

closes : (l : Level) (k : Ctx l) → Closes l k
closes ors top = λ f j e. (joined f j, λ p. ap (λ i. whole (joined f j) i p) e)
closes ors (within k) = λ f j e. subst (λ i. Good (run (leave (joined f j) i) (closing k))) (sym e) (closes unary k (joined f j))
closes ands (first k) = λ f. closes ors k f (first k) refl
closes ands (bar g k) = λ f. closes ors k f (bar g k) refl
closes unary (lone k) = λ f. closes ands k f
closes unary (amp g k) = λ f. closes ands k (both g f)
closes unary (under m a k) = λ f. closes unary k (modal_of m a f)

-- From each state that goes on some bytes lead to a good end.
shut_ends : (m : Modality) (a : ℕ) (k : Ctx unary) → (v : List ℕ) × Good (run (await (shut m a) k) v)
shut_ends May a k = (codes ">tt" ++ closing k, closes unary (under May a k) tru)
shut_ends Must a k = (codes "]tt" ++ closing k, closes unary (under Must a k) tru)

alive_ends : (σ : State) → Alive σ → (v : List ℕ) × Good (run σ v)
alive_ends (await want k) h = (codes "tt" ++ closing k, closes unary k tru)
alive_ends (await (half true) k) h = (codes "t" ++ closing k, closes unary k tru)
alive_ends (await (half false) k) h = (codes "f" ++ closing k, closes unary k fls)
alive_ends (await (act m) k) h = let x = shut_ends m 0 k in (codes "*" ++ x.0, x.1)
alive_ends (await (hat m) k) h = let x = shut_ends m 27 k in (codes "a" ++ x.0, x.1)
alive_ends (await (shut m a) k) h = shut_ends m a k
alive_ends (have f k) h = (closing k, closes ands k f)
alive_ends dead h = absurd h

-- Where the machine goes on, some text begins so.
pub alive_viable : (w : List ℕ) → Alive (run start w) → Viable w
alive_viable w h =
    let x = alive_ends (run start w) h in
    (x.0, x.1.0, ends_text (w ++ x.0) x.1.0 0 (ap (λ σ. ending σ 0) (run_append next start w x.0) ∙ x.1.1 0))

-- Where it does not, none does.
pub dead_not_viable : (w : List ℕ) → run start w ≡ dead → ¬ Viable w
dead_not_viable w e x =
    let stays : run start (w ++ x.0) ≡ dead = run_append next start w x.0 ∙ ap (λ σ. run σ x.0) e ∙ run_dead x.0 in
    bad_is_not_good x.1 31 0 (sym (ap (λ σ. ending σ 0) stays) ∙ text_ends (w ++ x.0) x.1 0 x.2)
