-- The answers of one call after another.
use Rattle.std.proofs.Common.{◌≡◌, ◌∙◌, inl, inr, ap, refl, sym, subst, ℕ, ◌+◌, arith, Bool, true, false, List, [], ◌∷◌, ◌++◌, length, map, append_assoc, append-nil, Option, Some, None}
use Rattle.std.specs.Prelude.{Result, Ok, Err}
use Rattle.std.specs.List.{AllByRecursion, flat_map}
use Rattle.std.specs.Io.KnownBytes.{Consumes, IsAtEnd}
use Rattle.rdf_lines.specs.declared.fault.FaultKind.{FaultKind}
use Rattle.rdf_lines.specs.declared.fault.FaultKind.TheVariants.{NotUtf8, Syntax, Relative, Read, NoMemory, Failed as FailedKind}
use Rattle.rdf_lines.specs.declared.fault.LineFault.{LineFault}
use Rattle.rdf_lines.specs.declared.state.ReaderState.TheVariants.{Reading, Ended, Failed}
use Rattle.rdf_terms.specs.declared.quad.Quad.{Quad}
use Rattle.rdf_lines.specs.declared.statement.Statement.{Statement}
use Rattle.rdf_lines.specs.declared.format.LineFormat.{LineFormat}
use Rattle.rdf_lines.specs.Lines.{lines_behind, lines}
use Rattle.rdf_lines.specs.Line.{LineSays}
use Rattle.rdf_lines.proofs.LineLaws.{one_answer, some_answer}
use Rattle.rdf_lines.specs.Labels.{all_noted, labels_of, labels_after, quad_in, numbered}
use Rattle.rdf_lines.specs.Document.{ReadsAll, EachTextIsOneDocument}
use Rattle.rdf_lines.specs.Reader.{LineState, Answer, AreSilent, Taken, Passes, ReadsOn, CallAt, state_after, FaultOf, fault, Calls, Agrees, fresh, AnswersAreTheDocument}
use Rattle.rdf_lines.proofs.LabelLemmas.{quad_in-kept, all_noted-append}

-- ---- a line says one thing

pub fault_says : (format : LineFormat) (line : List ℕ) (kind : FaultKind) → FaultOf format line kind → LineSays format line (Err kind)
fault_says format line NotUtf8 h = h
fault_says format line Syntax h = h
fault_says format line Relative h = h
fault_says format line Read h = absurd h
fault_says format line (NoMemory _) h = absurd h
fault_says format line FailedKind h = absurd h

none_is_some : {A B : Type 0} {E : Type 0} (s : A) → ◌≡◌ {A = Result (Option A) E} (Ok None) (Ok (Some s)) → B
none_is_some s e = cc

ok_is_err : {A B E : Type 0} (x : A) (k : E) → ◌≡◌ {A = Result A E} (Ok x) (Err k) → B
ok_is_err x k e = cc

same_statement : (s t : Statement) → ◌≡◌ {A = Result (Option Statement) FaultKind} (Ok (Some s)) (Ok (Some t)) → s ≡ t
same_statement s t e = cc

same_kind : (j k : FaultKind) → ◌≡◌ {A = Result (Option Statement) FaultKind} (Err j) (Err k) → j ≡ k
same_kind j k e = cc

-- ---- what a document has behind lines that say nothing, behind a statement, and at a faulty line

module _ (format : LineFormat) (ss : List Statement) (ending : Option LineFault) where
  pub silent : (n : ℕ) (ls rest : List (List ℕ)) → AreSilent format ls → ReadsAll format n (ls ++ rest) ss ending → ReadsAll format (n + length ls) rest ss ending
  silent n [] rest p r = subst (λ m. ReadsAll format m rest ss ending) (let e : n ≡ n + 0 = omega arith in e) r
  silent n (l ∷ ls) rest p r =
      let next : ReadsAll format (n + 1) (ls ++ rest) ss ending = elim r [
        | inl here ↦ here.1
        | inr (inl here) ↦ none_is_some here.0 (one_answer format l _ _ p.0 here.2)
        | inr (inr here) ↦ ok_is_err None here.0 (one_answer format l (Ok None) (Err here.0) p.0 here.1)
      ] in
      subst (λ m. ReadsAll format m rest ss ending) (let e : (n + 1) + length ls ≡ n + length (l ∷ ls) = omega arith in e) (silent (n + 1) ls rest p.1 next)

  pub at_statement : (n : ℕ) (line : List ℕ) (rest : List (List ℕ)) (s : Statement) → LineSays format line (Ok (Some s)) → ReadsAll format n (line ∷ rest) ss ending
      → (others : List Statement) × (ss ≡ s ∷ others) × ReadsAll format (n + 1) rest others ending
  at_statement n line rest s p r = elim r [
    | inl here ↦ none_is_some s (one_answer format line _ _ here.0 p)
    | inr (inl here) ↦ (here.1, here.3 ∙ ap (λ t. t ∷ here.1) (same_statement here.0 s (one_answer format line _ _ here.2 p)), here.4)
    | inr (inr here) ↦ ok_is_err (Some s) here.0 (one_answer format line (Ok (Some s)) (Err here.0) p here.1)
  ]

  pub at_fault : (n : ℕ) (line : List ℕ) (rest : List (List ℕ)) (kind : FaultKind) → LineSays format line (Err kind) → ReadsAll format n (line ∷ rest) ss ending
      → (ss ≡ []) × (ending ≡ Some (fault n kind))
  at_fault n line rest kind p r = elim r [
    | inl here ↦ ok_is_err None kind (one_answer format line (Ok None) (Err kind) here.0 p)
    | inr (inl here) ↦ ok_is_err (Some here.0) kind (one_answer format line (Ok (Some here.0)) (Err kind) here.2 p)
    | inr (inr here) ↦ (here.2, here.3 ∙ ap (λ k. Some (fault n k)) (same_kind here.0 kind (one_answer format line _ _ here.1 p)))
  ]

-- ---- the lines ahead

-- what was taken are the first lines of what lay ahead
abbrev pub Left : LineState → Bool → List (List ℕ) → Type 0
Left new false rest = (ys : List ℕ) × (new.ahead ≡ Some ys) × (rest ≡ lines_behind new.behind_return ys)
Left new true rest = rest ≡ []

pub known : (a : Option (List ℕ)) (xs read : List ℕ) → Consumes (Some xs) a read → (ys : List ℕ) × (a ≡ Some ys) × (xs ≡ read ++ ys)
known None xs read h = absurd h
known (Some ys) xs read h = (ys, refl, h)

pub at_end : (a : Option (List ℕ)) (ys : List ℕ) → a ≡ Some ys → IsAtEnd a → ys ≡ []
at_end a ys e h = subst IsAtEnd e h

pub taken_lines : (old new : LineState) (ls : List (List ℕ)) (ended : Bool) (xs : List ℕ) → old.ahead ≡ Some xs → Taken old ls new ended
    → (rest : List (List ℕ)) × (lines_behind old.behind_return xs ≡ ls ++ rest) × Left new ended rest
taken_lines old new ls false xs e t =
    let k = known new.ahead xs t.0 (subst (λ a. Consumes a new.ahead t.0) e t.1) in
    (lines_behind new.behind_return k.0, ap (lines_behind old.behind_return) k.2 ∙ t.2 k.0, (k.0, k.1, refl))
taken_lines old new ls true xs e t =
    let k = known new.ahead xs t.0 (subst (λ a. Consumes a new.ahead t.0) e t.1) in
    ([], ap (lines_behind old.behind_return) (k.2 ∙ ap (λ l. t.0 ++ l) (at_end new.ahead k.0 k.1 t.3) ∙ append-nil t.0) ∙ t.2 ∙ sym (append-nil ls), refl)

-- ---- behind the end, and behind a fault

pub ended_calls : (answers : List Answer) (s end : LineState) → s.state ≡ Ended → Calls s answers end → AllByRecursion (λ a. a ≡ Ok None) answers
ended_calls [] s end e c = tt
ended_calls (a ∷ answers) s end e c =
    let call = subst (λ t. CallAt t s a c.0) e c.1 in
    (call.0, ended_calls answers c.0 end (ap (λ (t : LineState). t.state) call.1 ∙ e) c.2)

failed_calls : (answers : List Answer) (s end : LineState) (n : ℕ) → s.state ≡ Failed → s.number ≡ n → Calls s answers end → AllByRecursion (λ a. a ≡ Err (fault n FailedKind)) answers
failed_calls [] s end n e m c = tt
failed_calls (a ∷ answers) s end n e m c =
    let call = subst (λ t. CallAt t s a c.0) e c.1 in
    (call.0 ∙ ap (λ k. Err (fault k FailedKind)) m, failed_calls answers c.0 end n (ap (λ (t : LineState). t.state) call.1 ∙ e) (ap (λ (t : LineState). t.number) call.1 ∙ m) c.2)

all_none : (answers : List Answer) → AllByRecursion (λ a. a ≡ Ok None) answers → Agrees answers [] None
all_none [] h = tt
all_none (a ∷ answers) h = subst (λ b. Agrees (b ∷ answers) [] None) (sym h.0) (refl, refl, h.1)

pub same_fault : (f : LineFault) (n : ℕ) → f.line ≡ n → fault n f.kind ≡ f
same_fault f n e = λ i. record { line = sym e i; kind = f.kind }

abbrev pub quads_of : List (List ℕ) → List Statement → List Quad
quads_of known ss = map (quad_in (labels_after known ss)) ss

-- the first quad, and the others by the labels so far
pub first_quad : (known : List (List ℕ)) (s : Statement) (others : List Statement) → quads_of known (s ∷ others) ≡ quad_in (all_noted known (labels_of s)) s ∷ quads_of (all_noted known (labels_of s)) others
first_quad known s others =
    let more = flat_map labels_of others in
    let grown : labels_after known (s ∷ others) ≡ all_noted (all_noted known (labels_of s)) more = all_noted-append known (labels_of s) more in
    ap (λ k. map (quad_in k) (s ∷ others)) grown ∙ ap (λ q. q ∷ map (quad_in (all_noted (all_noted known (labels_of s)) more)) others) (quad_in-kept known more s)

-- ---- the law, from a reader that has come so far

abbrev pub From : LineState → List Answer → Type 0
From s answers = (end : LineState) (xs : List ℕ) (ss : List Statement) (ending : Option LineFault) → s.state ≡ Reading → s.ahead ≡ Some xs → Calls s answers end
    → ReadsAll s.format s.number (lines_behind s.behind_return xs) ss ending → Agrees answers (quads_of s.labels ss) ending

ends : (s new end : LineState) (answers : List Answer) (xs : List ℕ) (ss : List Statement) (ending : Option LineFault) → s.ahead ≡ Some xs
    → ReadsAll s.format s.number (lines_behind s.behind_return xs) ss ending → (ls : List (List ℕ)) × Passes s ls new true → Calls new answers end → Agrees (Ok None ∷ answers) (quads_of s.labels ss) ending
ends s new end answers xs ss ending a r (ls, p) c =
    let t = taken_lines s new ls true xs a p.1 in
    let whole = subst (λ l. ReadsAll s.format s.number l ss ending) t.1 r in
    let left = subst (λ l. ReadsAll s.format (s.number + length ls) l ss ending) t.2 (silent s.format ss ending s.number ls t.0 p.0 whole) in
    (ap (quads_of s.labels) left.0, left.1, ended_calls answers new end p.2 c)

goes_on : (s new end : LineState) (quad : Quad) (answers : List Answer) (xs : List ℕ) (ss : List Statement) (ending : Option LineFault) → From new answers → s.ahead ≡ Some xs
    → ReadsAll s.format s.number (lines_behind s.behind_return xs) ss ending → ReadsOn s (Ok (Some quad)) new → Calls new answers end → Agrees (Ok (Some quad) ∷ answers) (quads_of s.labels ss) ending
goes_on s new end quad answers xs ss ending later a r (ls, line, st, ended, still, took, says, labels, is_quad, number, state, format) c =
    let t = taken_lines s new (ls ++ line ∷ []) ended xs a took in
    let whole = subst (λ l. ReadsAll s.format s.number l ss ending) (t.1 ∙ append_assoc ls (line ∷ []) t.0) r in
    let here = at_statement s.format ss ending (s.number + length ls) line t.0 st says (silent s.format ss ending s.number ls (line ∷ t.0) still whole) in
    let next : ReadsAll new.format new.number t.0 here.0 ending =
    subst (λ f. ReadsAll f new.number t.0 here.0 ending) (sym format) (subst (λ n. ReadsAll s.format n t.0 here.0 ending) (sym number) here.2) in (
      quads_of new.labels here.0,
      ap (quads_of s.labels) here.1 ∙ first_quad s.labels st here.0 ∙ ap (λ k. quad_in k st ∷ quads_of k here.0) (sym labels) ∙ ap (λ q. q ∷ quads_of new.labels here.0) (sym is_quad),
      by ended state t.0 here.0 t.2 next,
    )
  where
    by : (ended : Bool) → new.state ≡ state_after ended → (rest : List (List ℕ)) (others : List Statement) → Left new ended rest → ReadsAll new.format new.number rest others ending → Agrees answers (quads_of new.labels others) ending
    by false state rest others left next = later end left.0 others ending state left.1 c (subst (λ l. ReadsAll new.format new.number l others ending) left.2 next)
    by true state rest others left next =
        let over = subst (λ l. ReadsAll new.format new.number l others ending) left next in
        subst (λ e. Agrees answers (quads_of new.labels others) e) (sym over.1) (subst (λ q. Agrees answers q None) (sym (ap (quads_of new.labels) over.0)) (all_none answers (ended_calls answers new end state c)))

fails : (s new end : LineState) (f : LineFault) (answers : List Answer) (xs : List ℕ) (ss : List Statement) (ending : Option LineFault) → s.ahead ≡ Some xs
    → ReadsAll s.format s.number (lines_behind s.behind_return xs) ss ending → ReadsOn s (Err f) new → Calls new answers end → Agrees (Err f ∷ answers) (quads_of s.labels ss) ending
fails s new end f answers xs ss ending a r (ls, still, number, state, at, why) c = (
  failed_calls answers new end f.line state at c,
  elim why [
    | inl own ↦ inl (by own)
    | inr (inl failed) ↦ inr failed.0
    | inr (inr memory) ↦ inr (inr memory.2)
  ],
)
  where
    by : (line : List ℕ) × (ended : Bool) × FaultOf s.format line f.kind × Taken s (ls ++ line ∷ []) new ended → (quads_of s.labels ss ≡ []) × (ending ≡ Some f)
    by (line, ended, own, took) =
        let t = taken_lines s new (ls ++ line ∷ []) ended xs a took in
        let whole = subst (λ l. ReadsAll s.format s.number l ss ending) (t.1 ∙ append_assoc ls (line ∷ []) t.0) r in
        let here = at_fault s.format ss ending (s.number + length ls) line t.0 f.kind (fault_says s.format line f.kind own) (silent s.format ss ending s.number ls (line ∷ t.0) still whole) in
        (ap (quads_of s.labels) here.0, here.1 ∙ ap Some (same_fault f (s.number + length ls) number))

pub follows : (answers : List Answer) (s : LineState) → From s answers
follows [] s end xs ss ending e a c r = tt
follows (Ok None ∷ answers) s end xs ss ending e a c r = ends s c.0 end answers xs ss ending a r (subst (λ t. CallAt t s (Ok None) c.0) e c.1) c.2
follows (Ok (Some quad) ∷ answers) s end xs ss ending e a c r =
    goes_on s c.0 end quad answers xs ss ending (follows answers c.0) a r (subst (λ t. CallAt t s (Ok (Some quad)) c.0) e c.1) c.2
follows (Err f ∷ answers) s end xs ss ending e a c r = fails s c.0 end f answers xs ss ending a r (subst (λ t. CallAt t s (Err f) c.0) e c.1) c.2

pub law : AnswersAreTheDocument
law format text answers end quads ending calls (ss, reads, are) =
    subst (λ q. Agrees answers q ending) (sym are) (follows answers (fresh format (Some text)) end text ss ending refl refl calls reads)

-- ---- each text is one document

pub some_reading : (format : LineFormat) (n : ℕ) (ls : List (List ℕ)) → (ss : List Statement) × (ending : Option LineFault) × ReadsAll format n ls ss ending
some_reading format n [] = ([], None, (refl, refl))
some_reading format n (l ∷ ls) = let says = some_answer format l in by says.0 says.1 (some_reading format (n + 1) ls)
  where
    by : (a : Result (Option Statement) FaultKind) → LineSays format l a → (ss : List Statement) × (ending : Option LineFault) × ReadsAll format (n + 1) ls ss ending
        → (ss : List Statement) × (ending : Option LineFault) × ReadsAll format n (l ∷ ls) ss ending
    by (Ok None) says (ss, ending, r) = (ss, ending, inl (says, r))
    by (Ok (Some s)) says (ss, ending, r) = (s ∷ ss, ending, inr (inl (s, ss, says, refl, r)))
    by (Err kind) says later = ([], Some (fault n kind), inr (inr (kind, says, refl, refl)))

one_reading : (format : LineFormat) (n : ℕ) (ls : List (List ℕ)) (ss ts : List Statement) (e f : Option LineFault) → ReadsAll format n ls ss e → ReadsAll format n ls ts f → (ts ≡ ss) × (f ≡ e)
one_reading format n [] ss others e f p q = (q.0 ∙ sym p.0, q.1 ∙ sym p.1)
one_reading format n (l ∷ ls) ss others e f p q = elim p [
  | inl here ↦ one_reading format (n + 1) ls ss others e f here.1 (past others f q here.0)
  | inr (inl here) ↦
      let second = at_statement format others f n l ls here.0 here.2 q in
      let same = one_reading format (n + 1) ls here.1 second.0 e f here.4 second.2 in
      (second.1 ∙ ap (λ t. here.0 ∷ t) same.0 ∙ sym here.3, same.1)
  | inr (inr here) ↦ let second = at_fault format others f n l ls here.0 here.1 q in (second.0 ∙ sym here.2, second.1 ∙ sym here.3)
]
  where
    past : (ts : List Statement) (f : Option LineFault) → ReadsAll format n (l ∷ ls) ts f → LineSays format l (Ok None) → ReadsAll format (n + 1) ls ts f
    past ts f q says = silent format ts f n (l ∷ []) ls (says, tt) q

pub one_document : EachTextIsOneDocument
one_document format text =
    let some = some_reading format 1 (lines text) in (
      numbered some.0,
      some.1,
      (some.0, some.2, refl),
      λ others end is.
          let same = one_reading format 1 (lines text) some.0 is.0 some.1 end some.2 is.1 in (is.2 ∙ ap numbered same.0, same.1),
    )
