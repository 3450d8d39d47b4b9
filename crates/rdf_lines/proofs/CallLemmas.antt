-- The law of the reader call by call.
use Rattle.std.proofs.Common.{◌≡◌, ◌∙◌, inl, inr, ap, refl, sym, subst, ℕ, ◌+◌, Bool, true, false, List, [], ◌∷◌, ◌++◌, length, append_assoc, Some, None}
use Rattle.std.specs.Prelude.{Ok, Err}
use Rattle.rdf_lines.specs.declared.fault.LineFault.{LineFault}
use Rattle.rdf_lines.specs.declared.format.LineFormat.{LineFormat}
use Rattle.rdf_terms.specs.declared.quad.Quad.{Quad}
use Rattle.rdf_lines.specs.Lines.{lines, lines_behind}
use Rattle.rdf_lines.specs.Line.{LineSays}
use Rattle.rdf_lines.specs.Labels.{all_noted, labels_of, quad_in}
use Rattle.rdf_lines.specs.Pieces.{onto}
use Rattle.rdf_lines.specs.Document.{ReadsAll, IsDocument, HasSaid, ReadsFront}
use Rattle.rdf_lines.specs.Reader.{LineState, Answer, AreSilent, Taken, FaultOf, Call, CallAt, HasRead, StopsAt, StartsWithNothing, QuadsAddUp, EndIsTheDocument, FaultStops, fresh, fault, state_after}
use Rattle.rdf_lines.proofs.PieceLemmas.{Consumes-none, Hold-none}
use Rattle.rdf_lines.proofs.ReaderLemmas.{taken_on, fails_on}
use Rattle.rdf_lines.proofs.LawLemmas.{known, at_end, taken_lines, fault_says, same_fault}
use Rattle.rdf_lines.proofs.FrontLemmas.{said_nothing, said_silent, said_statement, said_all}

pub starts : StartsWithNothing
starts format text = ([], false, ([], Consumes-none text, Hold-none false), refl, refl, said_nothing format)

call_at : (old new : LineState) (answer : Answer) (ended : Bool) → old.state ≡ state_after ended → Call old answer new → CallAt (state_after ended) old answer new
call_at old new answer ended e s = subst (λ t. CallAt t old answer new) e s

some_is_none : {B : Type 0} (q : Quad) → ◌≡◌ {A = Answer} (Ok (Some q)) (Ok None) → B
some_is_none q e = cc

err_is_none : {B : Type 0} (f : LineFault) → ◌≡◌ {A = Answer} (Err f) (Ok None) → B
err_is_none f e = cc

-- the silent lines of a call behind what was said
said_then : (format : LineFormat) (quads : List Quad) (front ls : List (List ℕ)) (s : LineState) → s.format ≡ format → HasSaid format front s.number s.labels quads → AreSilent s.format ls
    → HasSaid format (front ++ ls) (s.number + length ls) s.labels quads
said_then format quads front ls s e said silent = said_silent format front s.number s.labels quads said ls (subst (λ f. AreSilent f ls) e silent)

pub goes_on : QuadsAddUp
goes_on format text quads quad old new (front, ended, taken, state, is_format, said) call = by ended taken (call_at old new (Ok (Some quad)) ended state call)
  where
    by : (ended : Bool) → Taken (fresh format text) front old ended → CallAt (state_after ended) old (Ok (Some quad)) new → HasRead format text (quads ++ quad ∷ []) new
    by true taken s = some_is_none quad s.0
    by false taken (ls, line, s, over, silent, took, says, labels, is_quad, number, now, same) =
        let before = said_then format quads front ls old is_format said silent in
        let after = said_statement format (front ++ ls) (old.number + length ls) old.labels quads before line s (subst (λ f. LineSays f line (Ok (Some s))) is_format says) in (
          front ++ (ls ++ line ∷ []),
          over,
          taken_on (fresh format text) old new front (ls ++ line ∷ []) over taken took,
          now,
          same ∙ is_format,
          subst (λ q. HasSaid format (front ++ (ls ++ line ∷ [])) new.number new.labels (quads ++ q ∷ [])) (sym is_quad)
              (subst (λ k. HasSaid format (front ++ (ls ++ line ∷ [])) new.number k (quads ++ quad_in k s ∷ [])) (sym labels)
              (subst (λ n. HasSaid format (front ++ (ls ++ line ∷ [])) n (all_noted old.labels (labels_of s)) (quads ++ quad_in (all_noted old.labels (labels_of s)) s ∷ [])) (sym number)
              (subst (λ l. HasSaid format l (old.number + length ls + 1) (all_noted old.labels (labels_of s)) (quads ++ quad_in (all_noted old.labels (labels_of s)) s ∷ [])) (append_assoc front ls (line ∷ [])) after))),
        )

-- all lines were read
whole : (format : LineFormat) (text : List ℕ) (quads : List Quad) (front : List (List ℕ)) (s : LineState) (n : ℕ) (labels : List (List ℕ)) → Taken (fresh format (Some text)) front s true → HasSaid format front n labels quads
    → IsDocument format text quads None × (s.ahead ≡ Some [])
whole format text quads front s n labels taken said =
    let t = taken_lines (fresh format (Some text)) s front true text refl taken in
    let left = known s.ahead text taken.0 taken.1 in (
      said_all format front n labels quads said text t.0 None t.1 (subst (λ l. ReadsAll format n l [] None) (sym t.2) (refl, refl)),
      left.1 ∙ ap Some (at_end s.ahead left.0 left.1 taken.3),
    )

pub ends : EndIsTheDocument
ends format text quads old new (front, ended, taken, state, is_format, said) call = by ended taken (call_at old new (Ok None) ended state call)
  where
    by : (ended : Bool) → Taken (fresh format (Some text)) front old ended → CallAt (state_after ended) old (Ok None) new → IsDocument format text quads None × (new.ahead ≡ Some [])
    by true taken s =
        let is = whole format text quads front old old.number old.labels taken said in (is.0, ap (λ (t : LineState). t.ahead) s.1 ∙ is.1)
    by false taken (ls, passes) =
        whole format text quads (front ++ ls) new (old.number + length ls) old.labels (taken_on (fresh format (Some text)) old new front ls true taken passes.1) (said_then format quads front ls old is_format said passes.0)

pub stops : FaultStops
stops format text quads f old new (front, ended, taken, state, is_format, said) call = by ended taken (call_at old new (Err f) ended state call)
  where
    reached : (n : ℕ) → f.line ≡ n → (before behind : List (List ℕ)) → lines text ≡ before ++ behind → HasSaid format before n old.labels quads → ReadsFront format text f.line quads behind
    reached n line before behind e had = (before, old.labels, e, subst (λ m. HasSaid format before m old.labels quads) (sym line) had)

    by : (ended : Bool) → Taken (fresh format (Some text)) front old ended → CallAt (state_after ended) old (Err f) new → StopsAt format text quads f
    by true taken s = err_is_none f s.0
    by false taken (ls, silent, line, now, number, why) =
        let start = fresh format (Some text) in
        let n = old.number + length ls in
        let had = said_then format quads front ls old is_format said silent in
        elim why [
          | inl own ↦
              let t = taken_lines start new (front ++ (ls ++ own.0 ∷ [])) own.1 text refl (taken_on start old new front (ls ++ own.0 ∷ []) own.1 taken own.3) in
              let e = t.1 ∙ ap (λ l. l ++ t.0) (sym (append_assoc front ls (own.0 ∷ []))) ∙ append_assoc (front ++ ls) (own.0 ∷ []) t.0 in
              inl (subst (λ g. IsDocument format text quads (Some g)) (same_fault f n line)
              (said_all format (front ++ ls) n old.labels quads had text (own.0 ∷ t.0) (Some (fault n f.kind)) e
              (inr (inr (f.kind, fault_says format own.0 f.kind (subst (λ g. FaultOf g own.0 f.kind) is_format own.2), refl, refl)))))
          | inr (inl failed) ↦
              let b = fails_on start old new front ls taken failed.1 in
              let k = known new.ahead text b.0 b.2 in
              inr (failed.0, (onto b.1 (lines_behind new.behind_return k.0), reached n line (front ++ ls) (onto b.1 (lines_behind new.behind_return k.0)) (ap lines k.2 ∙ b.3 k.0) had))
          | inr (inr memory) ↦
              let t = taken_lines start new (front ++ (ls ++ memory.0 ∷ [])) memory.1 text refl (taken_on start old new front (ls ++ memory.0 ∷ []) memory.1 taken memory.3) in
              let e = t.1 ∙ ap (λ l. l ++ t.0) (sym (append_assoc front ls (memory.0 ∷ []))) ∙ append_assoc (front ++ ls) (memory.0 ∷ []) t.0 in
              inr (inr memory.2, (memory.0 ∷ t.0, reached n line (front ++ ls) (memory.0 ∷ t.0) e had))
        ]
