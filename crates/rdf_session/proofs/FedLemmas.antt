-- A document of lines that is fed to the start of a session a piece at a time.
use Rattle.std.proofs.Common.{◌≡◌, ◌∙◌, ap, refl, sym, subst, ℕ, ◌+◌, ◌≤◌, arith, List, [], ◌∷◌, ◌++◌, length, append_assoc, append-nil, length-append, Option, Some, None}
use Rattle.std.specs.Prelude.{Result, Err}
use Rattle.rdf_lines.specs.Document as lines
use Rattle.rdf_lines.specs.Fed.{Faults, Fed, HasBeenFed, StopsFed, Takes, TakesAll}
use Rattle.rdf_lines.specs.declared.fault.FaultKind.{FaultKind}
use Rattle.rdf_lines.specs.declared.fault.FaultKind.TheVariants as kind
use Rattle.rdf_lines.specs.declared.fault.LineFault.{LineFault}
use Rattle.rdf_lines.specs.declared.format.LineFormat.{LineFormat}
use Rattle.rdf_lines.specs.declared.format.LineFormat.TheVariants.{NQuads, NTriples}
use Rattle.rdf_terms.specs.Quad.{QuadParts}
use Rattle.rdf_session.specs.Beginning.{BeginsWithLoad}
use Rattle.rdf_session.specs.Documents.{IsDocument, of_lines}
use Rattle.rdf_session.specs.FedStart.{BeginsFed, FeedsOn, IsFed, Start, StopsFed as StopsStart}
use Rattle.rdf_session.specs.Inside.FedQuads.{StopsLines, TakesIn}
use Rattle.rdf_session.specs.Inside.Staging.{TellsFault, TellsLineFault, line_refusal}
use Rattle.rdf_session.specs.Session.{Session}
use Rattle.rdf_session.specs.declared.fault.KeeperFault.{KeeperFault}
use Rattle.rdf_session.specs.declared.fault.KeeperFault.TheVariants.{NoMemory, Line}
use Rattle.rdf_session.proofs.BeginningLemmas.{not_read, session_refused}

-- ---- a format of lines is one of documents

pub of_lines-document : (format : LineFormat) (base : Option (List ℕ)) (text : List ℕ) (quads : List QuadParts) → lines.IsDocument format text quads None → IsDocument (of_lines format) base text quads
of_lines-document NQuads base text quads h = h
of_lines-document NTriples base text quads h = h

pub of_lines-fault : (format : LineFormat) (base : Option (List ℕ)) (text : List ℕ) (fault : KeeperFault) → TellsLineFault format text fault → TellsFault (of_lines format) base text fault
of_lines-fault format base text (NoMemory _) h = tt
of_lines-fault NQuads base text (Line at) h = h
of_lines-fault NTriples base text (Line at) h = h
of_lines-fault format base text _ h = absurd h

-- ---- a fault of the reader, behind these quads of a text

pub stops_line : (format : LineFormat) (text : List ℕ) (quads : List QuadParts) (f : LineFault) (k : FaultKind) → StopsFed format text quads f k → TellsLineFault format text (line_refusal f k)
stops_line format text quads f (kind.NoMemory _) s = tt
stops_line format text quads f kind.NotUtf8 s = (quads, s)
stops_line format text quads f kind.Syntax s = (quads, s)
stops_line format text quads f kind.Relative s = (quads, s)
stops_line format text quads f kind.Read s = absurd s
stops_line format text quads f kind.Failed s = absurd s

-- the same of a reader of the whole text
pub line_refused : (format : LineFormat) (text : List ℕ) (f : LineFault) (k : FaultKind) → lines.TellsFault format text f k → TellsLineFault format text (line_refusal f k)
line_refused format text f (kind.NoMemory _) s = tt
line_refused format text f kind.NotUtf8 s = s
line_refused format text f kind.Syntax s = s
line_refused format text f kind.Relative s = s
line_refused format text f kind.Read s = absurd s
line_refused format text f kind.Failed s = absurd s

-- ---- a piece of which a front was fed

pub record SoFar (old : Fed) (front : List ℕ) (more : List QuadParts) (now : Fed) : Type 0 where
  pub format : now.format ≡ old.format
  pub number : now.number ≤ old.number + length front
  pub fed : (read : List ℕ) (quads : List QuadParts) → HasBeenFed read quads old → HasBeenFed (read ++ front) (quads ++ more) now

pub nothing_so_far : (old : Fed) → SoFar old [] [] old
nothing_so_far old = record {
  format = refl;
  number = omega arith;
  fed = λ read quads h. subst (λ t. HasBeenFed t (quads ++ []) old) (sym (append-nil read)) (subst (λ q. HasBeenFed read q old) (sym (append-nil quads)) h);
}

module _ (old now : Fed) (piece front rest : List ℕ) (more : List QuadParts) (parts : piece ≡ front ++ rest) (far : SoFar old front more now) where
  -- a statement comes
  pub one_more : (q : QuadParts) (after : List ℕ) (new : Fed) (t : Takes now rest (Some q) after new) → SoFar old (front ++ t.front) (more ++ q ∷ []) new
  one_more q after new t = record {
    format = t.format ∙ far.format;
    number = (let n = t.number in let l = ap length t.parts in let f = far.number in omega (arith, n, l, f, length-append t.front after, length-append front t.front));
    fed =
        λ read quads h.
        subst (λ r. HasBeenFed r (quads ++ (more ++ q ∷ [])) new) (append_assoc read front t.front)
        (subst (λ k. HasBeenFed ((read ++ front) ++ t.front) k new) (append_assoc quads more (q ∷ [])) (t.fed (read ++ front) (quads ++ more) (far.fed read quads h)));
  }

  pub one_parts : (q : Option QuadParts) (after : List ℕ) (new : Fed) (t : Takes now rest q after new) → piece ≡ (front ++ t.front) ++ after
  one_parts q after new t = parts ∙ ap (λ l. front ++ l) t.parts ∙ sym (append_assoc front t.front after)

  -- or none any more
  pub all_fed : (after : List ℕ) (new : Fed) → Takes now rest None after new → TakesAll old piece more new
  all_fed after new t =
      let whole : piece ≡ front ++ t.front = one_parts None after new t ∙ ap (λ l. (front ++ t.front) ++ l) t.left ∙ append-nil (front ++ t.front) in
      record {
        format = t.format ∙ far.format;
        number = (let n = t.number in let l = ap length t.parts in let f = far.number in let w = ap length whole in omega (arith, n, l, f, w, length-append t.front after, length-append front t.front));
        fed =
            λ read quads h.
            subst (λ p. HasBeenFed (read ++ p) (quads ++ more) new) (sym whole)
            (subst (λ r. HasBeenFed r (quads ++ more) new) (append_assoc read front t.front) (t.fed (read ++ front) (quads ++ more) (far.fed read quads h)));
      }

  pub read_parts : (read beyond : List ℕ) → (read ++ front) ++ (rest ++ beyond) ≡ read ++ (piece ++ beyond)
  read_parts read beyond =
      append_assoc read front (rest ++ beyond) ∙ ap (λ l. read ++ l) (sym (append_assoc front rest beyond) ∙ ap (λ l. l ++ beyond) (sym parts))

  -- or a line is faulty
  pub at_fault : (f : LineFault) (given : KeeperFault) → given ≡ line_refusal f f.kind → Faults now rest f → StopsLines old piece given
  at_fault f given is faults read beyond quads h =
      subst (TellsLineFault old.format (read ++ (piece ++ beyond))) (sym is)
      (stops_line old.format (read ++ (piece ++ beyond)) (quads ++ more) f f.kind
      (subst (λ g. StopsFed g (read ++ (piece ++ beyond)) (quads ++ more) f f.kind) far.format
      (subst (λ t. StopsFed now.format t (quads ++ more) f f.kind) (read_parts read beyond) (faults (read ++ front) (quads ++ more) beyond (far.fed read quads h)))))

-- ---- a start

pub feeds_on : (base : Option (List ℕ)) (lines new : Fed) (quads now : List QuadParts) (piece : List ℕ) → TakesIn lines quads piece new now
    → FeedsOn (record { base_iri = base; lines = lines; quads = quads }) piece (record { base_iri = base; lines = new; quads = now })
feeds_on base lines new quads now piece took = record {
  base_iri = refl;
  format = took.1.format;
  number = took.1.number;
  fed = λ text h. subst (λ (q : List QuadParts). HasBeenFed (text ++ piece) q new) (sym took.2) (took.1.fed text quads h);
}

pub stops_fed : (base : Option (List ℕ)) (lines : Fed) (quads : List QuadParts) (piece : List ℕ) (fault : KeeperFault) → StopsLines lines piece fault
    → StopsStart (record { base_iri = base; lines = lines; quads = quads }) piece fault
stops_fed base lines quads piece fault stops text beyond h =
    let all = text ++ (piece ++ beyond) in
    session_refused (of_lines lines.format) base all fault (not_read (of_lines lines.format) base all fault (of_lines-fault lines.format base all fault (stops text beyond quads h)))

-- what begins at the start's own base, in its own format
pub at_start : (start : Start) (format : LineFormat) (base : Option (List ℕ)) → start.lines.format ≡ format → start.base_iri ≡ base → (text : List ℕ) (r : Result Session KeeperFault)
    → BeginsWithLoad (of_lines start.lines.format) start.base_iri text r → BeginsWithLoad (of_lines format) base text r
at_start start format base f b text r h =
    subst (λ (d : Option (List ℕ)). BeginsWithLoad (of_lines format) d text r) b (subst (λ (l : LineFormat). BeginsWithLoad (of_lines l) start.base_iri text r) f h)

-- all of a text was fed in one piece
module _ (start : Start) (format : LineFormat) (base : Option (List ℕ)) (text : List ℕ) (fed : IsFed [] start) (f : start.lines.format ≡ format) (b : start.base_iri ≡ base) where
  pub begun_whole : (new : Start) (r : Result Session KeeperFault) → FeedsOn start text new → BeginsFed new r → BeginsWithLoad (of_lines format) base text r
  begun_whole new r on begins = at_start new format base (on.format ∙ f) (on.base_iri ∙ b) text r (begins text (on.fed [] fed))

  pub stopped_whole : (fault : KeeperFault) → StopsStart start text fault → BeginsWithLoad (of_lines format) base text (Err fault)
  stopped_whole fault stops =
      at_start start format base f b text (Err fault) (subst (λ t. BeginsWithLoad (of_lines start.lines.format) start.base_iri t (Err fault)) (append-nil text) (stops [] [] fed))
