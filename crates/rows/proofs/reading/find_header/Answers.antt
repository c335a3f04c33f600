use Rattle.std.proofs.Common.{rules, of_calls, ◌≡◌, refl}
use Rattle.rows.specs.Verdict.{Refused}
use Rattle.rows.specs.declared.refusal.Refusal.TheVariants.{NoHeader}
use Rattle.rows.proofs.Ways.{header_found, no_header_found}
use Rattle.rows.proofs.reading.find_header.Goals as goal

pub returns : goal.returns
returns c = λ s gone.
    let found = rw c.in_ok-number.ensures.ok_part at c.find_map.ensures.ran in
    rw c.ok_or-2.ensures.value (header_found _ (λ p x r q called. search (rules, of_calls)) c.args.lines.now _ c.requires s gone c.find_map.new.self (c.in_ok-number.number, c.in_ok-number.line) found c.read.result c.read.ensures)

pub returns-in_err-number : goal.returns-in_err-number
returns-in_err-number c = λ s gone.
    let run = rw c.in_err-number.ensures.ok_part at c.find_map.ensures.runs in
    let said = rw c.in_err-number.ensures.ok_part at c.in_err-number.ensures.value in
    let same : c.in_err-number.field-0.0 ≡ NoHeader = cc in
    let missing : Refused s c.in_err-number.field-0.0 = rw same (no_header_found _ (λ p x r q called. search (rules, of_calls)) c.args.lines.now _ c.requires s gone (λ a r q called. refl) run) in
    search rules
