-- A document has one conversion, and one that is cut off is a beginning of it.
use Rattle.std.specs.Prelude.{◌≡◌, ◌≢◌, ◌⊎◌, ℕ, List, ◌++◌, Option, Result, Ok, Err}
use Rattle.rdf_session.specs.declared.format.Format.{Format}
use Rattle.rdf_turtle.specs.DocumentLaws.{SameFault}
use Rattle.rdf_streams.specs.Conversion.Converts.{Converts}
use Rattle.rdf_streams.specs.declared.conversion.fault.DocumentFault.{DocumentFault}
use Rattle.rdf_streams.specs.declared.conversion.fault.DocumentFault.TheVariants.{Line as InLine, Turtle as InTurtle}
use Rattle.rdf_streams.specs.declared.conversion.fault.ConvertFault.{ConvertFault}
use Rattle.rdf_streams.specs.declared.conversion.fault.ConvertFault.TheVariants.{Document, Write}

-- The conversion wasn't cut off, by a failed read or write or by want of memory: it came to the end of the document, or to its fault.
abbrev pub IsWhole : Result (Unit {0}) ConvertFault → Type 0
IsWhole (Ok u) = Unit {0}
IsWhole (Err (Document fault)) = Unit {0}
IsWhole (Err fault) = ⊥

-- one fault of a document, but for a line that is the reader's own choice
abbrev pub SameDocumentFault : DocumentFault → DocumentFault → Type 0
SameDocumentFault (InLine at) (InLine other) = at ≡ other
SameDocumentFault (InTurtle at) (InTurtle other) = SameFault at other
SameDocumentFault fault other = ⊥

-- both came to the end, or to the same fault
abbrev pub EndAlike : Result (Unit {0}) ConvertFault → Result (Unit {0}) ConvertFault → Type 0
EndAlike (Ok u) (Ok v) = Unit {0}
EndAlike (Err (Document fault)) (Err (Document other)) = SameDocumentFault fault other
EndAlike answer otherwise = ⊥

-- the bytes are the first of these
abbrev pub Begin : List ℕ → List ℕ → Type 0
Begin out whole = (rest : List ℕ) × (whole ≡ out ++ rest)

-- Two conversions of the same bytes that weren't cut off write the same bytes, and end alike.
abbrev pub OneConversion : Type 0
OneConversion = (format : Format) (base : Option (List ℕ)) (text : List ℕ) (left other : Option (List ℕ)) (out others : List ℕ) (answer otherwise : Result (Unit {0}) ConvertFault)
    → Converts format base text left out answer → IsWhole answer → Converts format base text other others otherwise → IsWhole otherwise
    → (out ≡ others) × EndAlike answer otherwise

-- What one writes that was cut off is a beginning of what the whole one writes.
abbrev pub CutOffBegin : Type 0
CutOffBegin = (format : Format) (base : Option (List ℕ)) (text : List ℕ) (left other : Option (List ℕ)) (out whole : List ℕ) (answer otherwise : Result (Unit {0}) ConvertFault)
    → Converts format base text left out answer → Converts format base text other whole otherwise → IsWhole otherwise → Begin out whole

-- And a proper one where a write failed.
abbrev pub FailedWritesLack : Type 0
FailedWritesLack = (format : Format) (base : Option (List ℕ)) (text : List ℕ) (left other : Option (List ℕ)) (out whole : List ℕ) (otherwise : Result (Unit {0}) ConvertFault)
    → Converts format base text left out (Err Write) → Converts format base text other whole otherwise → IsWhole otherwise → out ≢ whole

-- However two conversions of the same bytes end, what the one writes is a beginning of what the other writes.
abbrev pub OneBeginsTheOther : Type 0
OneBeginsTheOther = (format : Format) (base : Option (List ℕ)) (text : List ℕ) (left other : Option (List ℕ)) (out others : List ℕ) (answer otherwise : Result (Unit {0}) ConvertFault)
    → Converts format base text left out answer → Converts format base text other others otherwise → Begin out others ⊎ Begin others out
