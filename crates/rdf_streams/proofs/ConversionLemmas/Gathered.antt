-- What is gathered of a piece of a document of lines.
use Rattle.std.proofs.Common.{◌≡◌, sym, subst, ℕ, List, [], ◌∷◌, ◌++◌, append-nil, Some, None}
use Rattle.std.specs.Prelude.{Ok, Err}
use Rattle.rdf_lines.specs.Document.{IsDocument}
use Rattle.rdf_lines.specs.Fed as fed
use Rattle.rdf_lines.specs.Fed.{EndsBehind, Faults, FaultsBehind, Fed, FedBegins, HasBeenFed, StopsFed, TakesAll}
use Rattle.rdf_lines.specs.declared.fault.FaultKind.{FaultKind}
use Rattle.rdf_lines.specs.declared.fault.FaultKind.TheVariants as kind
use Rattle.rdf_lines.specs.declared.fault.LineFault.{LineFault}
use Rattle.rdf_lines.specs.declared.format.LineFormat.{LineFormat}
use Rattle.rdf_session.proofs.CallerLemmas.{SoFar, read_parts}
use Rattle.rdf_terms.specs.declared.quad.Quad.{Quad}
use Rattle.rdf_streams.specs.Inside.Gathered.{Begins, Ends, GoesOn, Stops, StopsIn}
use Rattle.rdf_streams.specs.Inside.Held.{fault_of_kind}
use Rattle.rdf_streams.specs.declared.conversion.fault.ConvertFault.{ConvertFault}

-- a fault of the reader, behind these quads of a text
of_fault : (format : LineFormat) (text : List ℕ) (quads : List Quad) (f : LineFault) (k : FaultKind) → Begins format text quads → StopsFed format text quads f k → StopsIn format text quads (fault_of_kind f k)
of_fault format text quads f kind.Read b s = absurd s
of_fault format text quads f kind.Failed b s = absurd s
of_fault format text quads f (kind.NoMemory _) b s = b
of_fault format text quads f kind.NotUtf8 b s = s
of_fault format text quads f kind.Syntax b s = s
of_fault format text quads f kind.Relative b s = s

-- ---- a piece of which a front was fed

module _ (law : FedBegins) (old now : Fed) (piece front rest : List ℕ) (more : List Quad) (parts : piece ≡ front ++ rest) (far : SoFar old front more now) where
  begins_so : (read : List ℕ) (quads : List Quad) (beyond : List ℕ) → HasBeenFed read quads old → Begins old.format (read ++ (piece ++ beyond)) (quads ++ more)
  begins_so read quads beyond h =
      subst (λ f. Begins f (read ++ (piece ++ beyond)) (quads ++ more)) far.format
      (subst (λ t. Begins now.format t (quads ++ more)) (read_parts old now piece front rest more parts far read beyond) (law (read ++ front) (quads ++ more) now (rest ++ beyond) (far.fed read quads h)))

  -- a line is faulty
  pub at_fault : (f : LineFault) (given : ConvertFault) → given ≡ fault_of_kind f f.kind → Faults now rest f → Stops old piece more given
  at_fault f given is faults read quads beyond h =
      subst (StopsIn old.format (read ++ (piece ++ beyond)) (quads ++ more)) (sym is)
      (of_fault old.format (read ++ (piece ++ beyond)) (quads ++ more) f f.kind (begins_so read quads beyond h)
      (subst (λ g. StopsFed g (read ++ (piece ++ beyond)) (quads ++ more) f f.kind) far.format
      (subst (λ t. StopsFed now.format t (quads ++ more) f f.kind) (read_parts old now piece front rest more parts far read beyond) (faults (read ++ front) (quads ++ more) beyond (far.fed read quads h)))))

-- ---- the end

module _ (law : FedBegins) (old : Fed) where
  begins_at_end : (read : List ℕ) (quads : List Quad) → HasBeenFed read quads old → Begins old.format read quads
  begins_at_end read quads h = subst (λ t. Begins old.format t quads) (append-nil read) (law read quads old [] h)

  pub ends_open : fed.Ends old (Ok None) → Ends old [] (Ok tt)
  ends_open e read quads h = subst (λ q. IsDocument old.format read q None) (sym (append-nil quads)) (e read quads h)

  pub ends_on : (q : Quad) → fed.Ends old (Ok (Some q)) → Ends old (q ∷ []) (Ok tt)
  ends_on q e read quads h = e read quads h

  pub ends_faulty : (f : LineFault) (given : ConvertFault) → given ≡ fault_of_kind f f.kind → fed.Ends old (Err f) → Ends old [] (Err given)
  ends_faulty f given is e read quads h =
      subst (StopsIn old.format read (quads ++ [])) (sym is)
      (subst (λ q. StopsIn old.format read q (fault_of_kind f f.kind)) (sym (append-nil quads)) (of_fault old.format read quads f f.kind (begins_at_end read quads h) (e read quads h)))

-- ---- what the reader writes of a piece

pub goes_on : (old : Fed) (piece : List ℕ) (more : List Quad) (new : Fed) → TakesAll old piece more new → GoesOn old piece more new
goes_on old piece more new t = record { format = t.format; number = t.number; fed = t.fed }

pub stops_behind : (old : Fed) (piece : List ℕ) (more : List Quad) (f : LineFault) (given : ConvertFault) → given ≡ fault_of_kind f f.kind → FaultsBehind old piece more f → Stops old piece more given
stops_behind old piece more f given is faults read quads beyond h =
    let stops = faults read quads beyond h in
    subst (StopsIn old.format (read ++ (piece ++ beyond)) (quads ++ more)) (sym is) (of_fault old.format (read ++ (piece ++ beyond)) (quads ++ more) f f.kind stops.1 stops.0)

pub ends_behind : (old : Fed) (more : List Quad) (f : LineFault) (given : ConvertFault) → given ≡ fault_of_kind f f.kind → EndsBehind old more (Err f) → Ends old more (Err given)
ends_behind old more f given is ends read quads h =
    let stops = ends read quads h in subst (StopsIn old.format read (quads ++ more)) (sym is) (of_fault old.format read (quads ++ more) f f.kind stops.1 stops.0)
