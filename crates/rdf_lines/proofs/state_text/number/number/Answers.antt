use Rattle.std.proofs.Common.{◌≡◌, ◌∙◌, sym, subst, ap, ℕ, Result, Ok, Err, IsUtf8, true≢false, decimal}
use Rattle.std.proofs.lemmas.Slice.Eq.{bytes_eq-Decides}
use Rattle.rdf_lines.proofs.StateLineLemmas.{parsed_back, decimal_utf8}
use Rattle.rdf_lines.proofs.state_text.number.number.Goals as goal

ok_is : (m n : ℕ) → ◌≡◌ {A = Result ℕ ℕ} (Ok m) (Ok n) → m ≡ n
ok_is m n e = cc

pub returns-in_default : goal.returns-in_default
returns-in_default c = λ n h e. c.in_default.ensures.cases.0 (subst IsUtf8 e (decimal_utf8 n h))

pub returns-in_default-parse : goal.returns-in_default-parse
returns-in_default-parse c = λ n h e.
    let back = parsed_back c.in-Ok.text.now n (Err c.in_default-parse.field-0) c.in_default-parse.ensures.value.0 h (e ∙ sym c.in-Ok.ensures.cases.0) in
    absurd cc

pub returns-else-eq : goal.returns-else-eq
returns-else-eq c = λ n h e.
    let number = c.in-Ok-parse.number in
    let text = c.in-Ok.text.now in
    let written : decimal n ≡ text = e ∙ sym c.in-Ok.ensures.cases.0 in
    let same : number ≡ n = ok_is number n (parsed_back {E = ℕ} text n (Ok number) c.in-Ok-parse.ensures.value.0 h written) in
    true≢false (sym ((bytes_eq-Decides c.format.result.now text).1 (c.format.ensures.text ∙ ap decimal same ∙ written)) ∙ sym c.eq.ensures ∙ c.if-eq.false)
