-- A line says one thing, and no other; and the reader's ways out.
use Rattle.std.proofs.Common.{◌≡◌, ℕ, true, false, List, Option, Some, None, Result, Ok, Err, refl, sym, ap, subst, ◌∙◌, inl, inr}
use Rattle.std.proofs.lemmas.Bool.{cases_Bool, true≢false}
use Rattle.std.proofs.lemmas.Str.{IsUtf8-from_is_utf8, is_utf8-from_IsUtf8}
use Rattle.std.specs.Str.{chars, IsUtf8, is_utf8}
use Rattle.rdf_lines.specs.declared.fault.FaultKind.{FaultKind}
use Rattle.rdf_lines.specs.declared.fault.FaultKind.TheVariants.{NotUtf8, Syntax, Relative, Read, NoMemory, Failed}
use Rattle.rdf_lines.specs.declared.format.LineFormat.{LineFormat}
use Rattle.rdf_lines.specs.declared.statement.Statement.{Statement}
use Rattle.rdf_lines.specs.declared.written.WrittenStatement.{WrittenStatement}
use Rattle.rdf_lines.specs.Grammar.{Holds}
use Rattle.rdf_lines.specs.Line.{IsAbsolute, LineSays, LineTells}
use Rattle.rdf_lines.specs.Reading.{is_end, statement_at}
use Rattle.rdf_lines.specs.Written.{absolute_statement}
use Rattle.rdf_lines.proofs.LineLemmas.{meant, line_at, line_sound, one_reading, no_reading, end_sound}
use Rattle.rdf_lines.proofs.AbsoluteLemmas.{Ready, absolute_sound, not_absolute, statement_ready}

-- what one answer says of the line, against another
pub answers_agree : (format : LineFormat) (line : List ℕ) (a b : Result (Option Statement) FaultKind) → LineSays format line a → LineSays format line b → a ≡ b
answers_agree f line (Ok r) (Ok s) h k = ap (λ (x : Option Statement). Ok x) (one_reading f (chars line) r s h.1 k.1)
answers_agree f line (Ok r) (Err NotUtf8) h k = absurd (k h.0)
answers_agree f line (Ok r) (Err Syntax) h k = absurd (k.1 r h.1)
answers_agree f line (Ok r) (Err Relative) h k = absurd (k.1.2 (subst IsAbsolute (one_reading f (chars line) r k.1.0 h.1 k.1.1) h.2))
answers_agree f line (Err NotUtf8) (Ok s) h k = absurd (h k.0)
answers_agree f line (Err NotUtf8) (Err NotUtf8) h k = refl
answers_agree f line (Err NotUtf8) (Err Syntax) h k = absurd (h k.0)
answers_agree f line (Err NotUtf8) (Err Relative) h k = absurd (h k.0)
answers_agree f line (Err Syntax) (Ok s) h k = absurd (h.1 s k.1)
answers_agree f line (Err Syntax) (Err NotUtf8) h k = absurd (k h.0)
answers_agree f line (Err Syntax) (Err Syntax) h k = refl
answers_agree f line (Err Syntax) (Err Relative) h k = absurd (h.1 k.1.0 k.1.1)
answers_agree f line (Err Relative) (Ok s) h k = absurd (h.1.2 (subst IsAbsolute (one_reading f (chars line) s h.1.0 k.1 h.1.1) k.2))
answers_agree f line (Err Relative) (Err NotUtf8) h k = absurd (k h.0)
answers_agree f line (Err Relative) (Err Syntax) h k = absurd (k.1 h.1.0 h.1.1)
answers_agree f line (Err Relative) (Err Relative) h k = refl
answers_agree f line (Err Read) b h k = absurd h
answers_agree f line (Err (NoMemory _)) b h k = absurd h
answers_agree f line (Err Failed) b h k = absurd h
answers_agree f line (Ok r) (Err Read) h k = absurd k
answers_agree f line (Ok r) (Err (NoMemory _)) h k = absurd k
answers_agree f line (Ok r) (Err Failed) h k = absurd k
answers_agree f line (Err NotUtf8) (Err Read) h k = absurd k
answers_agree f line (Err NotUtf8) (Err (NoMemory _)) h k = absurd k
answers_agree f line (Err NotUtf8) (Err Failed) h k = absurd k
answers_agree f line (Err Syntax) (Err Read) h k = absurd k
answers_agree f line (Err Syntax) (Err (NoMemory _)) h k = absurd k
answers_agree f line (Err Syntax) (Err Failed) h k = absurd k
answers_agree f line (Err Relative) (Err Read) h k = absurd k
answers_agree f line (Err Relative) (Err (NoMemory _)) h k = absurd k
answers_agree f line (Err Relative) (Err Failed) h k = absurd k

-- ---- a line says something

answer_of : (f : LineFormat) (line : List ℕ) (w : WrittenStatement) (o : Option Statement) → IsUtf8 line → line_at f (chars line) ≡ Some (Some w) → Ready w.object
    → absolute_statement w ≡ o → (a : Result (Option Statement) FaultKind) × LineSays f line a
answer_of f line w None u e ready absolute = (Err Relative, (u, (Some (meant w), line_sound f (chars line) (Some w) e, not_absolute w absolute)))
answer_of f line w (Some s) u e ready absolute = (Ok (Some (meant w)), (u, line_sound f (chars line) (Some w) e, (absolute_sound w s ready absolute).1))

statement_answer : (f : LineFormat) (line : List ℕ) (o : Option WrittenStatement) → IsUtf8 line → is_end (chars line) ≡ false → statement_at f (chars line) ≡ o
    → (a : Result (Option Statement) FaultKind) × LineSays f line a
statement_answer f line None u e h = (Err Syntax, (u, no_reading f (chars line) (rw (e, h) refl)))
statement_answer f line (Some w) u e h = answer_of f line w (absolute_statement w) u (rw (e, h) refl) (statement_ready f (chars line) w h) refl

text_answer : (f : LineFormat) (line : List ℕ) → IsUtf8 line → (a : Result (Option Statement) FaultKind) × LineSays f line a
text_answer f line u =
    elim (cases_Bool (is_end (chars line))) [
      | inl is ↦ (Ok None, (u, end_sound (chars line) is, tt))
      | inr not ↦ statement_answer f line (statement_at f (chars line)) u not refl
    ]

pub answer_of_line : (format : LineFormat) (line : List ℕ) → ((a : Result (Option Statement) FaultKind) × LineSays format line a)
answer_of_line f line =
    elim (cases_Bool (is_utf8 line)) [
      | inl is ↦ text_answer f line (IsUtf8-from_is_utf8 line is)
      | inr not ↦ (Err NotUtf8, λ u. true≢false (sym (is_utf8-from_IsUtf8 line u) ∙ not))
    ]

-- ---- the reader's ways out

pub tells_nothing : (f : LineFormat) (line text : List ℕ) → IsUtf8 line → text ≡ line → is_end (chars text) ≡ true → LineTells f line (Ok None)
tells_nothing f line text u t h = (u, end_sound (chars line) (ap (λ (x : List ℕ). is_end (chars x)) (sym t) ∙ h), tt)

pub tells_syntax : (f : LineFormat) (line text : List ℕ) → IsUtf8 line → text ≡ line → is_end (chars text) ≡ false → statement_at f (chars text) ≡ None → LineTells f line (Err Syntax)
tells_syntax f line text u t h e =
    let none : line_at f (chars text) ≡ None = rw (h, e) refl in
    (u, no_reading f (chars line) (ap (λ (x : List ℕ). line_at f (chars x)) (sym t) ∙ none))

read_here : (f : LineFormat) (line text : List ℕ) (w : WrittenStatement) → text ≡ line → is_end (chars text) ≡ false → statement_at f (chars text) ≡ Some w → line_at f (chars line) ≡ Some (Some w)
read_here f line text w t h e =
    let some : line_at f (chars text) ≡ Some (Some w) = rw (h, e) refl in
    ap (λ (x : List ℕ). line_at f (chars x)) (sym t) ∙ some

pub tells_relative : (f : LineFormat) (line text : List ℕ) (w : WrittenStatement) → IsUtf8 line → text ≡ line → is_end (chars text) ≡ false → statement_at f (chars text) ≡ Some w
    → absolute_statement w ≡ None → LineTells f line (Err Relative)
tells_relative f line text w u t h e absolute =
    (u, (Some (meant w), line_sound f (chars line) (Some w) (read_here f line text w t h e), not_absolute w absolute))

pub tells_statement : (f : LineFormat) (line text : List ℕ) (w : WrittenStatement) (s : Statement) → IsUtf8 line → text ≡ line → is_end (chars text) ≡ false → statement_at f (chars text) ≡ Some w
    → absolute_statement w ≡ Some s → LineTells f line (Ok (Some s))
tells_statement f line text w s u t h e absolute =
    let a = absolute_sound w s (statement_ready f (chars text) w e) absolute in
    (u, subst (λ (x : Statement). Holds f (chars line) (Some x)) a.0 (line_sound f (chars line) (Some w) (read_here f line text w t h e)), subst (λ (x : Statement). IsAbsolute (Some x)) a.0 a.1)
