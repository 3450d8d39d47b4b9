-- A session that begins with what a document loads.
use Rattle.std.proofs.Common.{◌≡◌, ◌∙◌, ℕ, ◌+◌, ◌≤◌, List, Option, refl, ap, arith}
use Rattle.std.specs.Prelude.{Result, Ok, Err, min}
use Rattle.rdf_dataset.specs.Insertion.{with_data}
use Rattle.rdf_dataset.specs.State.{State, empty_state, last_number}
use Rattle.rdf_terms.specs.Quad.{QuadParts}
use Rattle.rdf_session.specs.Documents.{IsDocument}
use Rattle.rdf_session.specs.Beginning.{BeginsWithLoad}
use Rattle.rdf_session.specs.Inside.Staging.{TellsFault, TellsTurtleFault}
use Rattle.rdf_session.specs.Inside.Starting.{BeginsAt, Starts}
use Rattle.rdf_session.specs.Request.{Load, blank_limit}
use Rattle.rdf_session.specs.Session.{Session, Transition, Do, Refused, accepted, counts_between, fresh}
use Rattle.rdf_session.specs.declared.fault.KeeperFault.{KeeperFault}
use Rattle.rdf_session.specs.declared.fault.KeeperFault.TheVariants.{NoMemory, BlankNumbers, Turtle as TurtleFault}
use Rattle.rdf_session.specs.declared.format.Format.{Format}
use Rattle.rdf_session.specs.declared.format.Format.TheVariants.{NQuads, NTriples, Turtle}

-- ---- the dataset

pub starts : (quads : List QuadParts) (blanks : ℕ) (t : State) → blanks ≡ min (blank_limit quads) (last_number + 1) → blanks ≤ last_number → t ≡ with_data (empty_state 0) quads blanks → Starts quads (Ok t)
starts quads blanks t c h e = let same : blanks ≡ blank_limit quads = omega (arith, c, h) in (omega (arith, same, h), e ∙ ap (with_data (empty_state 0) quads) same)

pub not_read : (format : Format) (base : Option (List ℕ)) (text : List ℕ) (f : KeeperFault) → TellsFault format base text f → BeginsAt format base text (Err f)
not_read format base text (NoMemory _) h = tt
not_read NQuads base text BlankNumbers h = absurd h
not_read NTriples base text BlankNumbers h = absurd h
not_read Turtle base text BlankNumbers h = absurd h
not_read format base text _ h = h

pub turtle_tells : (base : Option (List ℕ)) (text : List ℕ) (f : KeeperFault) → TellsTurtleFault base text f → TellsFault Turtle base text f
turtle_tells base text (NoMemory _) h = tt
turtle_tells base text (TurtleFault at) h = h
turtle_tells base text _ h = absurd h

pub begins_at : (format : Format) (base : Option (List ℕ)) (text : List ℕ) (quads : List QuadParts) (r : Result State KeeperFault) → IsDocument format base text quads → Starts quads r → BeginsAt format base text r
begins_at format base text quads (Ok t) is h = (quads, is, h.0, h.1)
begins_at format base text quads (Err (NoMemory _)) is h = tt
begins_at format base text quads (Err BlankNumbers) is h = (quads, is, h)
begins_at format base text quads (Err _) is h = absurd h

-- ---- the session

pub session_begins : (format : Format) (base : Option (List ℕ)) (text : List ℕ) (t : State) (s : Session) → BeginsAt format base text (Ok t) → s ≡ fresh base t → BeginsWithLoad format base text (Ok s)
session_begins format base text t s h e = (
  counts_between (empty_state 0) t,
  accepted t (fresh base (empty_state 0)),
  (t, h, refl, refl),
  e,
)

refused_by : (format : Format) (base : Option (List ℕ)) (text : List ℕ) (f : KeeperFault) → BeginsAt format base text (Err f) → Transition (fresh base (empty_state 0)) (Do (Load format text)) (Refused f) (fresh base (empty_state 0))
refused_by format base text (NoMemory _) h = (tt, refl)
refused_by format base text _ h = (h, refl)

pub session_refused : (format : Format) (base : Option (List ℕ)) (text : List ℕ) (f : KeeperFault) → BeginsAt format base text (Err f) → BeginsWithLoad format base text (Err f)
session_refused format base text f h = refused_by format base text f h
