-- A call that is answered as defined goes on from every history that led to the bench, lawfully.
use Rattle.std.proofs.Common.{◌≡◌, ℕ, Bool, List, [], ◌∷◌, Ok, Err, Option, Result, sym, refl, subst, arith}
use Rattle.lts.specs.Lts.{Lts, Limits}
use Rattle.hml.specs.declared.step.Step.{Step}
use Rattle.hml.specs.declared.line.Line.{Line}
use Rattle.formula.specs.Entries.{AllSound}
use Rattle.formula.specs.declared.entry.Entry.{Entry}
use Rattle.formula.proofs.Appending.{appending_is_sound}
use Rattle.entering.specs.Held.{HeldAfter}
use Rattle.law.specs.Answers.{Entered, Ruled, Reached, Compared, Told}
use Rattle.law.specs.History.{Call, Phase, History, AsDefined, Lawful, entries_held}
use Rattle.law.specs.History.Call.{enter, settle, reopen, rule, reach, alike, tell}
use Rattle.law.specs.History.Phase.{Open, Settled}
use Rattle.law.specs.History.History.{opened, entered, settled, reopened, ruled, reached, compared, told}
use Rattle.law.specs.declared.refusals.EnterRefusal.{EnterRefusal}
use Rattle.law.specs.declared.refusals.RuleRefusal.{RuleRefusal}
use Rattle.law.specs.declared.refusals.ReachRefusal.{ReachRefusal}
use Rattle.law.specs.declared.refusals.AlikeRefusal.{AlikeRefusal}
use Rattle.law.specs.declared.refusals.TellRefusal.{TellRefusal}
use Rattle.law.proofs.Lawful.{every_history_is_lawful}
use Rattle.bench.specs.Bench.{Bench, system}
use Rattle.bench.specs.Keeping.{Kept, OpenTakes, Settles, SettledTakes, Reopens}

-- The entries that a history leaves are sound.
pub held_sound : (m : Lts) {φ : Phase} {h : List Call} → History m φ h → AllSound (entries_held h)
held_sound m opened = λ k l. absurd (omega arith)
held_sound m (entered {h} list (Ok n) before x) = appending_is_sound (entries_held h) list (held_sound m before) x.1
held_sound m (entered list (Err e) before x) = held_sound m before
held_sound m (settled before) = held_sound m before
held_sound m (reopened before) = held_sound m before
held_sound m (ruled f s r before x) = held_sound m before
held_sound m (reached f s p q r before x) = held_sound m before
held_sound m (compared s t r before x) = held_sound m before
held_sound m (told s t p q r before x) = held_sound m before

-- The entries after entering are those that the call leaves.
held_after : (h : List Call) (list : List Entry) (r : Result ℕ EnterRefusal) (before after : List Entry) → before ≡ entries_held h → HeldAfter before list r after → after ≡ entries_held (enter list r ∷ h)
held_after h list (Ok n) before after e x = rw (sym e) x
held_after h list (Err f) before after e x = rw (sym e) x

-- The systems of a bench, with what they keep to.
module _ {L R : Type 0} (left : L → Lts) (right : R → Lts) (lim : (x : L) → Limits (left x)) (rim : (x : R) → Limits (right x)) where
  lawful : (b : Bench L R) {φ : Phase} {h : List Call} → History (system left right b) φ h → Lawful (system left right b) h
  lawful b {φ} {h} x = every_history_is_lawful (left b.left) (right b.right) (lim b.left) (rim b.right) φ h x

  pub opening_keeps : (b : Bench L R) → b.entries ≡ [] → Kept left right Open b []
  opening_keeps b e = record { history = opened; entries = e }

  pub entering_takes : (b : Bench L R) (es list : List Entry) (a : Result ℕ EnterRefusal) → Entered b.entries list a → HeldAfter b.entries list a es
      → OpenTakes left right b (record { left = b.left; right = b.right; entries = es }) (enter list a)
  entering_takes b es list a answer after h k =
      let defined : Entered (entries_held h) list a = subst (λ x. Entered x list a) k.entries answer in
      let history = entered list a k.history defined in
      (defined, record { history = history; entries = held_after h list a b.entries es k.entries after }, lawful b history)

  module _ (b : Bench L R) where
    abbrev m : Lts
    m = system left right b

    -- A call that leaves the bench as it was.
    module _ (b' : Bench L R) (same : b ≡ b') where
      pub settling_takes : Settles left right b b'
      settling_takes h k =
          let history = settled k.history in
          (tt, subst (λ x. Kept left right Settled x (settle ∷ h)) same (record { history = history; entries = k.entries }), lawful b history)

      pub reopening_takes : Reopens left right b b'
      reopening_takes h k =
          let history = reopened k.history in
          (tt, subst (λ x. Kept left right Open x (reopen ∷ h)) same (record { history = history; entries = k.entries }), lawful b history)

      asking_takes : (e : Call) → ((h : List Call) → History m Settled h → AsDefined m (entries_held h) e → History m Settled (e ∷ h))
          → ((h : List Call) → entries_held (e ∷ h) ≡ entries_held h) → AsDefined m b.entries e → SettledTakes left right b b' e
      asking_takes e more stays answer h k =
          let defined : AsDefined m (entries_held h) e = subst (λ es. AsDefined m es e) k.entries answer in
          let history = more h k.history defined in
          (defined, subst (λ x. Kept left right Settled x (e ∷ h)) same (record { history = history; entries = rw (stays h) k.entries }), lawful b history)

      pub ruling_takes : (f s : ℕ) (r : Result Bool RuleRefusal) → Ruled m b.entries f s r → SettledTakes left right b b' (rule f s r)
      ruling_takes f s r = asking_takes (rule f s r) (λ h. ruled f s r) (λ h. refl)

      pub reaching_takes : (f s : ℕ) (before after : List Step) (r : Result (Option ℕ) ReachRefusal) → Reached m b.entries f s before after r → SettledTakes left right b b' (reach f s before after r)
      reaching_takes f s before after r = asking_takes (reach f s before after r) (λ h. reached f s before after r) (λ h. refl)

      pub comparing_takes : (s t : ℕ) (r : Result Bool AlikeRefusal) → Compared m s t r → SettledTakes left right b b' (alike s t r)
      comparing_takes s t r = asking_takes (alike s t r) (λ h. compared s t r) (λ h. refl)

      pub telling_takes : (s t : ℕ) (before after : List Line) (r : Result ℕ TellRefusal) → Told m s t before after r → SettledTakes left right b b' (tell s t before after r)
      telling_takes s t before after r = asking_takes (tell s t before after r) (λ h. told s t before after r) (λ h. refl)
