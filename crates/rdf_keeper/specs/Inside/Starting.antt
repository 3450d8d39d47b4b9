-- A session that begins with data while they are read.
use Rattle.std.specs.Prelude.{◌≡◌, ◌≤◌, ◌⊎◌, ℕ, ◌+◌, List, ◌++◌, length, Option, Result, Ok, Err}
use Rattle.rdf_lines.specs.declared.format.LineFormat.{LineFormat}
use Rattle.rdf_session.specs.Documents.{of_lines}
use Rattle.rdf_session.specs.FedStart.{IsFed}
use Rattle.rdf_session.specs.Session.{Session}
use Rattle.rdf_keeper.specs.Inside.Starts.{RefusesData}
use Rattle.rdf_keeper.specs.Program.Sessions.{BeginsOver}
use Rattle.rdf_keeper.specs.Program.Texts.{ReadsAll}
use Rattle.rdf_keeper.specs.declared.program.outcome.Outcome.{Outcome}
use Rattle.rdf_keeper.specs.declared.program.starting.LinesSoFar.{LinesSoFar}
use Rattle.rdf_keeper.specs.declared.program.starting.LinesSoFar.TheVariants.{Sound, Faulty}
use Rattle.rdf_keeper.specs.declared.program.words.StartFormat.{StartFormat}
use Rattle.rdf_keeper.specs.declared.program.words.StartFormat.TheVariants.{Document}

-- First all bytes are read, and then the session begins over them, unless reading ends the program.
abbrev pub BeginsReading : StartFormat → Option (List ℕ) → Option (List ℕ) → Result Session Outcome → Type 0
BeginsReading format base bytes result =
    ((outcome : Outcome) × ReadsAll bytes (Err outcome) × (result ≡ Err outcome))
    ⊎ ((text : List ℕ) × ReadsAll bytes (Ok text) × BeginsOver format base text result)

-- ---- a document of lines, by pieces

-- This text was fed to a start in the format at the base, or a line of it is faulty and ends the program so, however the text goes on.
abbrev pub IsSoFar : LineFormat → Option (List ℕ) → List ℕ → LinesSoFar → Type 0
IsSoFar format base text (Sound start) = IsFed text start × (start.lines.format ≡ format) × (start.base_iri ≡ base)
IsSoFar format base text (Faulty outcome) = (beyond : List ℕ) → RefusesData (Document (of_lines format)) base (text ++ beyond) outcome

-- the number of the line that comes next, as far as it is counted
abbrev pub number_of : LinesSoFar → ℕ
number_of (Sound start) = start.lines.number
number_of (Faulty outcome) = 0

-- The piece was read, too.
abbrev pub GoesOn : LinesSoFar → List ℕ → LinesSoFar → Type 0
GoesOn old piece new =
    (number_of new ≤ number_of old + length piece)
    × ((format : LineFormat) (base : Option (List ℕ)) (text : List ℕ) → IsSoFar format base text old → IsSoFar format base (text ++ piece) new)
