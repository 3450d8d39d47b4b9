-- Texts that are gathered until a piece of them is written.
use Rattle.std.specs.Prelude.{◌≡◌, ◌≢◌, ℕ, List, [], ◌++◌, Option, Result, Ok, Err}
use Rattle.std.specs.Io.KnownBytes.{Appends}
use Rattle.rdf_streams.specs.declared.streams.writing.WriteFault.{WriteFault}

-- what was done, of an answer that says more
abbrev pub done : {A : Type 0} → Result A WriteFault → Result (Unit {0}) WriteFault
done (Ok a) = Ok tt
done (Err e) = Err e

-- Behind what was gathered before comes this text: it is written, but for what is gathered now; or a proper front of it all was
-- written when a call failed.
abbrev pub Puts : Option (List ℕ) → List ℕ → List ℕ → Result (Unit {0}) WriteFault → Option (List ℕ) → List ℕ → Type 0
Puts before gathered text (Ok u) after now = (out : List ℕ) × Appends before after out × (gathered ++ text ≡ out ++ now)
Puts before gathered text (Err e) after now = (out more : List ℕ) × Appends before after out × (gathered ++ text ≡ out ++ more) × (more ≢ [])
