-- A session that begins with a document of lines, whose text is fed to its start a piece at a time.
use Rattle.std.specs.Prelude.{◌≡◌, ◌≤◌, ℕ, ◌+◌, List, ◌++◌, length, Option, Result, Err}
use Rattle.rdf_lines.specs.Fed.{Fed, HasBeenFed}
use Rattle.rdf_terms.specs.Quad.{QuadParts}
use Rattle.rdf_session.specs.Beginning.{BeginsWithLoad}
use Rattle.rdf_session.specs.Documents.{of_lines}
use Rattle.rdf_session.specs.Session.{Session}
use Rattle.rdf_session.specs.declared.fault.KeeperFault.{KeeperFault}

-- what is held between two pieces: the base of the session, the reader of the lines, and the quads of the lines so far
pub record Start : Type 0 where
  pub base_iri : Option (List ℕ)
  pub lines : Fed
  pub quads : List QuadParts

-- It was fed this text so far.
abbrev pub IsFed : List ℕ → Start → Type 0
IsFed text s = HasBeenFed text s.quads s.lines

-- It was fed the piece, too.
pub record FeedsOn (old : Start) (piece : List ℕ) (new : Start) : Type 0 where
  pub base_iri : new.base_iri ≡ old.base_iri
  pub format : new.lines.format ≡ old.lines.format
  pub number : new.lines.number ≤ old.lines.number + length piece
  pub fed : (text : List ℕ) → IsFed text old → IsFed (text ++ piece) new

-- However the text goes on behind the piece, a session that is to begin with it is refused by this fault.
abbrev pub StopsFed : Start → List ℕ → KeeperFault → Type 0
StopsFed old piece fault = (text beyond : List ℕ) → IsFed text old → BeginsWithLoad (of_lines old.lines.format) old.base_iri (text ++ (piece ++ beyond)) (Err fault)

-- The text has ended: the session begins with it, or is refused.
abbrev pub BeginsFed : Start → Result Session KeeperFault → Type 0
BeginsFed start result = (text : List ℕ) → IsFed text start → BeginsWithLoad (of_lines start.lines.format) start.base_iri text result
