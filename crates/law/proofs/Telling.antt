-- Tell has one answer and leaves one memory.
use Rattle.std.proofs.Common.{◌≡◌, ℕ, ◌≤◌, min, cond, leb, List, ◌++◌, length, take, drop, replicate, Some, None, Ok, Err, Option, Result, refl, ap, inl, inr, arith}
use Rattle.std.proofs.lemmas.Bool.{le-leb, lt-leb}
use Rattle.lts.specs.Lts.{Lts}
use Rattle.hml.specs.Logic.{steps}
use Rattle.hml.specs.Bisimilarity.{Bisimilar}
use Rattle.hml.specs.Distinguishing.{LinesFor, formula_of_lines}
use Rattle.hml.specs.declared.line.Line.{Line}
use Rattle.hml.proofs.Agreement.{sat_kept}
use Rattle.hml.proofs.Resting.{bisimilar_agrees}
use Rattle.hml.proofs.Characterised.{lines_are_one, lines_distinguish}
use Rattle.law.specs.Answers.{Told, blank}
use Rattle.law.specs.declared.refusals.TellRefusal.{TellRefusal}
use Rattle.law.specs.declared.refusals.TellRefusal.TheVariants.{NoState, Alike, TooLong}
use Rattle.law.proofs.Guarding.{AtMostOne, parts_are_one, written, Paired, paired_is_one}

-- What tell answers, and the memory that it leaves.
abbrev tell_done : List Line → Option (List Line) → Result ℕ TellRefusal × List Line
tell_done before None = (Err Alike, before)
tell_done before (Some ls) =
    cond (leb (length ls) (min (length before) 4096)) (Ok (length ls), ls ++ drop (length ls) before) (Err TooLong, replicate (length before) blank)

module _ (m : Lts) (s t : ℕ) where
  -- The two states are bisimilar, or these are the lines of their distinguishing formula.
  abbrev Telling : Option (List Line) → Type 0
  Telling None = Bisimilar m s t
  Telling (Some ls) = LinesFor m s t ls

  bisimilar_no_lines : (ls : List Line) → Bisimilar m s t → ¬ LinesFor m s t ls
  bisimilar_no_lines ls b lines =
      let f = formula_of_lines ls in
      let apart = lines_distinguish m s t ls lines in
      apart.1 (sat_kept m f (steps f) s t (omega arith) (bisimilar_agrees m s t b (steps f)) apart.0)

  telling_is_one : AtMostOne Telling
  telling_is_one None None h g = refl
  telling_is_one None (Some ks) h g = absurd (bisimilar_no_lines ks h g)
  telling_is_one (Some ls) None h g = absurd (bisimilar_no_lines ls g h)
  telling_is_one (Some ls) (Some ks) h g = ap Some (lines_are_one m s t ls ks h g)

  module _ (before : List Line) where
    told_made : (after : List Line) (r : Result ℕ TellRefusal) → Told m s t before after r → Paired m s t (Err NoState, before) Telling (tell_done before) (r, after)
    told_made after (Ok n) h =
        let memory = written n before after h.2 h.4 h.6 in
        let fits : n ≤ min (length before) 4096 = omega arith in
        inr ((h.0, h.1), (Some (take n after), h.5, rw (memory.0, le-leb n (min (length before) 4096) fits) (ap (λ z. (Ok n, z)) memory.1)))
    told_made after (Err NoState) h = inl (h.0, ap (λ z. (Err NoState, z)) h.1)
    told_made after (Err Alike) h = inr ((h.0, h.1), (None, h.2, ap (λ z. (Err Alike, z)) h.3))
    told_made after (Err TooLong) h =
        let (ls, lines, long) = h.2 in
        inr ((h.0, h.1), (Some ls, lines, rw (lt-leb (length ls) (min (length before) 4096) long) (ap (λ z. (Err TooLong, z)) h.3)))

    pub told_is_one : (x y : List Line) (r q : Result ℕ TellRefusal) → Told m s t before x r → Told m s t before y q → (r ≡ q) × (x ≡ y)
    told_is_one x y r q h g =
        parts_are_one (paired_is_one m s t _ Telling (tell_done before) telling_is_one (r, x) (q, y) (told_made x r h) (told_made y q g))
