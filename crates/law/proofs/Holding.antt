-- A formula that is held keeps its meaning whatever calls follow.
use Rattle.std.proofs.Common.{◌≡◌, ℕ, ◌<◌, List, [], ◌∷◌, ◌++◌, map, length, Ok, Err, sym, refl, ◌∙◌, subst, arith}
use Rattle.std.proofs.lemmas.List.{length-append}
use Rattle.hml.specs.Logic.{Formula}
use Rattle.formula.specs.Entries.{formula_at, raised}
use Rattle.formula.proofs.Appending.{appending_keeps}
use Rattle.law.specs.History.{Call, entries_held, Stands}
use Rattle.law.specs.History.Call.{enter, settle, reopen, rule, reach, alike, tell}

module _ (f : ℕ) (g : Formula) where
  -- Formula f is held after the calls of a log, and it is g.
  abbrev Held : List Call → Type 0
  Held h = (f < length (entries_held h)) × (formula_at (entries_held h) f ≡ g)

  held_after : (c : Call) (h : List Call) → Held h → Held (c ∷ h)
  held_after (enter list (Ok n)) h x = (
    omega (arith, length-append (entries_held h) (map (raised (length (entries_held h))) list), x.0),
    appending_keeps (entries_held h) list f x.0 ∙ x.1,
  )
  held_after (enter list (Err e)) h x = x
  held_after settle h x = x
  held_after reopen h x = x
  held_after (rule f s r) h x = x
  held_after (reach f s before after r) h x = x
  held_after (alike s t r) h x = x
  held_after (tell s t before after r) h x = x

  held_later : (later earlier : List Call) → Held earlier → Held (later ++ earlier)
  held_later [] earlier x = x
  held_later (c ∷ later) earlier x = held_after c (later ++ earlier) (held_later later earlier x)

pub formula_kept : (f : ℕ) (h : List Call) (e : Call) (earlier : List Call) → Stands h e earlier → f < length (entries_held earlier) → formula_at (entries_held h) f ≡ formula_at (entries_held earlier) f
formula_kept f h e earlier (later, is) l =
    let g = formula_at (entries_held earlier) f in
    (subst (Held f g) (sym is) (held_later f g later (e ∷ earlier) (held_after f g e earlier (l, refl)))).1
