-- Empty lines are passed, up to the one that is given. Assumes nothing.
use Rattle.std.proofs.Common.{◌≡◌, ◌+◌, ◌<◌, Bool, false, not, ◌||◌, ℕ, suc, List, [], ◌∷◌, length, Option, Some, None, refl, ap, arith, Bor, length-drop}
use Rattle.sheet.specs.Lines.{is_remark, blanks}
use Rattle.sheet.specs.Reading.{unread, Holds, Gives, NextLine}
use Rattle.sheet.specs.declared.line.Line.{Line}
use Rattle.sheet.specs.declared.line.Line.TheVariants.{Remark, Header, Row}
use Rattle.sheet.specs.declared.line.Numbered.{Numbered}
use Rattle.sheet.specs.declared.lines.Lines.{Lines}

-- What comes next at b comes next at a.
pub record Skips (a b : Lines) : Type 0 where
  pub next : (r : Option Numbered) (after : Lines) → NextLine b r after → NextLine a r after

-- It is not empty, and is given.
content_first : (a b : Lines) (l : List ℕ) (given : Numbered) → 0 < length l → unread a ≡ l ∷ unread b → given.number ≡ a.count + 1 → Holds a.headed l given.line → b.count ≡ given.number → b.headed ≡ (a.headed || not (is_remark l)) → NextLine a (Some given) b
content_first a b [] given some read number holds count headed = absurd (omega arith)
content_first a b (x ∷ l) given some read number holds count headed = rw read (record {
  there = rw read (omega arith);
  number = omega (arith, number);
  holds = rw read holds;
  left = rw read;
  count = count;
  headed = rw read headed;
})

pub gives_first : {a b c : Lines} {given : Numbered} (l : List ℕ) → Skips a b → unread b ≡ l ∷ unread c → 0 < length l → given.number ≡ b.count + 1 → Holds b.headed l given.line → c.count ≡ given.number → c.headed ≡ (b.headed || not (is_remark l)) → Gives a (blanks (unread a)) given c
gives_first {b} {c} {given} l skips read some number holds count headed = skips.next (Some given) c (content_first b c l given some read number holds count headed)

-- None is left.
pub none_left : {a b : Lines} (after : Lines) → Skips a b → (unread b ≡ []) × (unread after ≡ []) → NextLine a None after
none_left after skips left = skips.next None after (rw left.0, left.1)

-- A line that is given leaves fewer.
pub fewer : {a b : Lines} {k : ℕ} {given : Numbered} → Gives a k given b → length (unread b) < length (unread a)
fewer {a} {k} gives = omega (arith, ap length gives.left, length-drop (suc k) (unread a), gives.there)

-- What is not the header changes nothing of whether the header is read.
pub headed_stays : (headed : Bool) (l : List ℕ) (line : Line) → Holds headed l line → ((part : Bor (List ℕ)) → line ≡ Header part → ⊥) → (headed || false) ≡ (headed || not (is_remark l))
headed_stays headed l (Remark part) holds other = rw holds.0
headed_stays headed l (Header part) holds other = absurd (other part refl)
headed_stays headed l (Row part) holds other = rw holds.1
