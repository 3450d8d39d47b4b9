-- What reading to the end and writing the whole leave.
use Rattle.std.specs.Prelude.{◌≡◌, ◌≢◌, ◌⊎◌, ℕ, Bool, true, false, List, [], ◌∷◌, ◌++◌, Option, None, Result, Ok, Err}
use Rattle.std.specs.Io.KnownBytes.{Appends, Consumes, IsAtEnd, Keeps}
use Rattle.rdf_streams.specs.Devices.{Event, Gave, ReadFault, Took, WriteFault as WriteFailure, Leads, taken}
use Rattle.rdf_streams.specs.declared.streams.reading.Ending.{Ending}
use Rattle.rdf_streams.specs.declared.streams.reading.Ending.TheVariants.{AtEnd, Failed, NoMemory}
use Rattle.rdf_streams.specs.declared.streams.writing.WriteFault.{WriteFault}

-- from what the reader has left before and after, and the bytes held before and after
abbrev pub ReadsTo : Option (List ℕ) → Option (List ℕ) → List ℕ → Ending → List ℕ → Type 0
ReadsTo before after held AtEnd now = (read : List ℕ) × (now ≡ held ++ read) × Consumes before after read × IsAtEnd after
ReadsTo before after held Failed now = (read : List ℕ) × (now ≡ held ++ read) × Consumes before after read
-- the last piece was read and isn't held
ReadsTo before after held (NoMemory _) now = (read : List ℕ) × Consumes before after read

-- the text was written, or a proper front of it
abbrev pub WritesTo : Option (List ℕ) → List ℕ → Result (Unit {0}) WriteFault → Option (List ℕ) → Type 0
WritesTo before text (Ok u) after = Appends before after text
WritesTo before text (Err e) after = (front more : List ℕ) × (text ≡ front ++ more) × (more ≢ []) × Appends before after front

-- ---- over a device

-- write calls alone, each of which took something
abbrev pub AreWrites : List Event → Type 0
AreWrites [] = Unit {0}
AreWrites (Gave bytes ∷ log) = ⊥
AreWrites (ReadFault ∷ log) = ⊥
AreWrites (Took [] ∷ log) = ⊥
AreWrites (Took (b ∷ bytes) ∷ log) = AreWrites log
AreWrites (WriteFailure ∷ log) = ⊥

-- the text was written by such calls
abbrev pub AreTaken : List ℕ → List Event → Type 0
AreTaken text log = AreWrites log × (taken log ≡ text)

-- the same, where the last of them failed or took nothing, or where none did
abbrev pub Wrote : Bool → List ℕ → List Event → Type 0
Wrote false text log = AreTaken text log
Wrote true text log =
    (done : List Event) × (last : Event) × (log ≡ done ++ last ∷ []) × ((last ≡ WriteFailure) ⊎ (last ≡ Took [])) × AreTaken text done

abbrev pub Writes : {D : Type 0} → (D → Event → D → Type 0) → D → Bool → List ℕ → D → Type 0
Writes step old failed text new = (log : List Event) × Leads step old log new × Wrote failed text log

-- the text was written, or a proper front of it, and then a call failed or took nothing
abbrev pub WritesOn : {D : Type 0} → (D → Event → D → Type 0) → D → List ℕ → Result (Unit {0}) WriteFault → D → Type 0
WritesOn step old text (Ok u) new = Writes step old false text new
WritesOn step old text (Err e) new = (front more : List ℕ) × (text ≡ front ++ more) × (more ≢ []) × Writes step old true front new

-- ---- a reader and a writer as one device

-- what an event does to them, where `remaining` tells what the one has left and `contents` what the other holds
abbrev pub PairStep : {R W : Type 0} → (R → Option (List ℕ)) → (W → Option (List ℕ)) → R → W → Event → R → W → Type 0
PairStep remaining contents reader writer (Gave bytes) reader' writer' =
    (writer' ≡ writer) × Consumes (remaining reader) (remaining reader') bytes × (bytes ≡ [] → IsAtEnd (remaining reader'))
PairStep remaining contents reader writer ReadFault reader' writer' = (writer' ≡ writer) × Keeps (remaining reader) (remaining reader')
PairStep remaining contents reader writer (Took bytes) reader' writer' =
    (reader' ≡ reader) × Appends (contents writer) (contents writer') bytes
PairStep remaining contents reader writer WriteFailure reader' writer' = (reader' ≡ reader) × Keeps (contents writer) (contents writer')

-- the bytes that no reader has left
abbrev pub no_bytes : Unit {0} → Option (List ℕ)
no_bytes u = None
