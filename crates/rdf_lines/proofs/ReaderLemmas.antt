-- The call_is of a reader of lines.
use Rattle.std.proofs.Common.{◌≡◌, ◌≢◌, ◌∙◌, inl, inr, ap, refl, sym, subst, ℕ, ◌+◌, arith, Bool, true, false, cond, List, [], ◌∷◌, ◌++◌, length, append_assoc, append-nil, length-append, Some, None}
use Rattle.std.specs.Prelude.{Ok, Err, is_ok}
use Rattle.std.specs.Io.KnownBytes.{Consumes, IsAtEnd}
use Rattle.rdf_lines.specs.declared.fault.FaultKind.{FaultKind}
use Rattle.rdf_lines.specs.declared.fault.FaultKind.TheVariants.{NotUtf8, Syntax, Relative, Read, NoMemory, Failed as FailedKind}
use Rattle.rdf_lines.specs.declared.state.ReaderState.{ReaderState}
use Rattle.rdf_lines.specs.declared.state.ReaderState.TheVariants.{Reading, Ended, Failed}
use Rattle.rdf_lines.specs.declared.fault.LineFault.{LineFault}
use Rattle.rdf_lines.specs.declared.format.LineFormat.{LineFormat}
use Rattle.rdf_lines.specs.Lines.{lines_behind}
use Rattle.rdf_lines.specs.Line.{LineSays}
use Rattle.rdf_lines.specs.Labels.{all_noted, labels_of}
use Rattle.rdf_lines.specs.Pieces.{Hold, onto, TakesLine}
use Rattle.rdf_lines.specs.Reader.{LineState, Answer, AreSilent, Taken, FailsBehind, Passes, ReadsOn, OneLine, ReadsLine, Call, CallAt, state_after, FaultOf}
use Rattle.rdf_lines.proofs.PieceLemmas.{Consumes-chain, Consumes-none, Hold-none, onto-none}

-- ---- one line

pub is_last : (b : Bool) (read line : List ℕ) (now : Bool) → Hold b read [] line now → line ≢ [] → lines_behind b read ≡ line ∷ []
is_last b read line now h some = ap (lines_behind b) (sym (append-nil read)) ∙ h [] ∙ onto-none line some

pub is_end_of_text : (b : Bool) (read : List ℕ) (now : Bool) → Hold b read [] [] now → lines_behind b read ≡ []
is_end_of_text b read now h = ap (lines_behind b) (sym (append-nil read)) ∙ h []

pub line_taken : (old new : LineState) (line : List ℕ) (ended : Bool) (answer : Answer) → Taken old (line ∷ []) new ended → ReadsLine old.format line old.number old.labels answer new.number new.labels
    → new.format ≡ old.format → new.state ≡ cond (is_ok answer) (state_after ended) Failed → OneLine old answer new
line_taken old new line ended (Ok None) t r f s = (line ∷ [], ended, ((r.0, tt), t, s, (let e = r.1 in omega (arith, e)), r.2, f))
line_taken old new line ended (Ok (Some q)) t r f s = ([], line, r.0, ended, tt, t, r.1, r.2, r.3, (let e = r.4 in omega (arith, e)), s, f)
line_taken old new line ended (Err e) t r f s =
    ([], tt, (let l = r.0 in omega (arith, l)), s, r.1 ∙ sym r.0, elim r.2 [ inl own ↦ inl (line, ended, own, t) | inr memory ↦ inr (inr (line, ended, memory, t)) ])

pub no_line : (old new : LineState) → (read : List ℕ) × Consumes old.ahead new.ahead read × Hold old.behind_return read [] [] new.behind_return × IsAtEnd new.ahead
    → new.state ≡ Ended → new.number ≡ old.number → new.labels ≡ old.labels → new.format ≡ old.format → OneLine old (Ok None) new
no_line old new t s n l f = ([], true, (tt, (t.0, t.1, is_end_of_text old.behind_return t.0 new.behind_return t.2, t.3), s, (omega (arith, n)), l, f))

pub line_failed : (old new : LineState) (line : List ℕ) (kind : FaultKind) (f : LineFault) → TakesLine old.ahead old.behind_return (Err kind) line new.ahead new.behind_return
    → f.line ≡ old.number → f.kind ≡ kind → new.state ≡ Failed → new.number ≡ old.number → OneLine old (Err f) new
line_failed old new line Read f t l k s n = ([], tt, omega (arith, l), s, n ∙ sym l, inr (inl (inl k, (t.0, line, t.1, t.2))))
line_failed old new line (NoMemory _) f t l k s n = ([], tt, omega (arith, l), s, n ∙ sym l, inr (inl (inr k, (t.0, line, t.1, t.2))))
line_failed old new line NotUtf8 f t l k s n = absurd t
line_failed old new line Syntax f t l k s n = absurd t
line_failed old new line Relative f t l k s n = absurd t
line_failed old new line FailedKind f t l k s n = absurd t

-- ---- one line after another

Hold-append : (a b c : Bool) (xs ys : List ℕ) (ls ms : List (List ℕ)) (front : List ℕ) → Hold a xs ls [] b → Hold b ys ms front c → Hold a (xs ++ ys) (ls ++ ms) front c
Hold-append a b c xs ys ls ms front p q tail =
    ap (lines_behind a) (append_assoc xs ys tail) ∙ p (ys ++ tail) ∙ ap (λ l. ls ++ l) (q tail) ∙ sym (append_assoc ls ms (onto front (lines_behind c tail)))

pub taken_on : (a b c : LineState) (ls ms : List (List ℕ)) (e : Bool) → Taken a ls b false → Taken b ms c e → Taken a (ls ++ ms) c e
taken_on a b c ls ms false p q =
    (p.0 ++ q.0, Consumes-chain a.ahead b.ahead c.ahead p.0 q.0 p.1 q.1, Hold-append _ _ _ p.0 q.0 ls ms [] p.2 q.2)
taken_on a b c ls ms true p q =
    (p.0 ++ q.0, Consumes-chain a.ahead b.ahead c.ahead p.0 q.0 p.1 q.1, p.2 q.0 ∙ ap (λ l. ls ++ l) q.2, q.3)

pub fails_on : (a b c : LineState) (ls ms : List (List ℕ)) → Taken a ls b false → FailsBehind b ms c → FailsBehind a (ls ++ ms) c
fails_on a b c ls ms p q = (p.0 ++ q.0, q.1, Consumes-chain a.ahead b.ahead c.ahead p.0 q.0 p.1 q.2, Hold-append _ _ _ p.0 q.0 ls ms q.1 p.2 q.3)

pub silent_on : (format : LineFormat) (ls ms : List (List ℕ)) → AreSilent format ls → AreSilent format ms → AreSilent format (ls ++ ms)
silent_on format [] ms p q = q
silent_on format (l ∷ ls) ms p q = (p.0, silent_on format ls ms p.1 q)

pub passes_none : (a : LineState) → a.state ≡ Reading → Passes a [] a false
passes_none a s = (tt, ([], Consumes-none a.ahead, Hold-none a.behind_return), s, omega arith, refl, refl)

still : (a : LineState) (e : Bool) → a.state ≡ Reading → a.state ≡ state_after e → e ≡ false
still a false p q = refl
still a true p q = cc

pub still_passes : (a b : LineState) (ls : List (List ℕ)) (e : Bool) → b.state ≡ Reading → Passes a ls b e → Passes a ls b false
still_passes a b ls e r p = subst (Passes a ls b) (still b e r p.2) p

pub ends_passing : (a b : LineState) (ls : List (List ℕ)) (e : Bool) → b.state ≢ Reading → Passes a ls b e → Passes a ls b true
ends_passing a b ls false r p = absurd (r p.2)
ends_passing a b ls true r p = p

counted : (m n k l : ℕ) (ls ms : List (List ℕ)) → m ≡ n + length ls → k ≡ m + length ms + l → k ≡ n + length (ls ++ ms) + l
counted m n k l ls ms p q = omega (arith, p, q, length-append ls ms)

pub passes_on : (a b c : LineState) (ls ms : List (List ℕ)) (e : Bool) → Passes a ls b false → Passes b ms c e → Passes a (ls ++ ms) c e
passes_on a b c ls ms e p q =
    (silent_on a.format ls ms p.0 (subst (λ f. AreSilent f ms) p.5 q.0), taken_on a b c ls ms e p.1 q.1, q.2, (let n = p.3 in let m = q.3 in omega (arith, n, m, length-append ls ms)), q.4 ∙ p.4, q.5 ∙ p.5)

pub reads_on : (a b c : LineState) (ls : List (List ℕ)) (answer : Answer) → Passes a ls b false → ReadsOn b answer c → ReadsOn a answer c
reads_on a b c ls (Ok None) p r = (ls ++ r.0, passes_on a b c ls r.0 true p r.1)
reads_on a b c ls (Ok (Some q)) p r =
    let ms = r.0 in
    let line = r.1 in (
      ls ++ ms,
      line,
      r.2,
      r.3,
      silent_on a.format ls ms p.0 (subst (λ f. AreSilent f ms) p.5 r.4),
      subst (λ l. Taken a l c r.3) (sym (append_assoc ls ms (line ∷ []))) (taken_on a b c ls (ms ++ line ∷ []) r.3 p.1 r.5),
      subst (λ f. LineSays f line (Ok (Some r.2))) p.5 r.6,
      r.7 ∙ ap (λ k. all_noted k (labels_of r.2)) p.4,
      r.8,
      counted _ a.number _ 1 ls ms p.3 r.9,
      r.10,
      r.11 ∙ p.5,
    )
reads_on a b c ls (Err f) p r =
    let ms = r.0 in (
      ls ++ ms,
      silent_on a.format ls ms p.0 (subst (λ g. AreSilent g ms) p.5 r.1),
      (let n = p.3 in let m = r.2 in omega (arith, n, m, length-append ls ms)),
      r.3,
      r.4,
      elim r.5 [
        | inl own ↦ inl (own.0, own.1, subst (λ g. FaultOf g own.0 f.kind) p.5 own.2, subst (λ l. Taken a l c own.1) (sym (append_assoc ls ms (own.0 ∷ []))) (taken_on a b c ls (ms ++ own.0 ∷ []) own.1 p.1 own.3))
        | inr (inl failed) ↦ inr (inl (failed.0, fails_on a b c ls ms p.1 failed.1))
        | inr (inr m) ↦ inr (inr (m.0, m.1, m.2, subst (λ l. Taken a l c m.1) (sym (append_assoc ls ms (m.0 ∷ []))) (taken_on a b c ls (ms ++ m.0 ∷ []) m.1 p.1 m.3)))
      ],
    )

pub call_is : (s : ReaderState) (old new : LineState) (answer : Answer) → old.state ≡ s → CallAt s old answer new → Call old answer new
call_is s old new answer e r = subst (λ t. CallAt t old answer new) (sym e) r
