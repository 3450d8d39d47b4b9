-- What is converted or checked of a text is the document that a session loads of it.
use Rattle.std.specs.Prelude.{◌≡◌, ℕ, List, length, Option, Ok, Err}
use Rattle.rdf_session.specs.Documents.{IsDocument, IsFaulty}
use Rattle.rdf_session.specs.declared.fault.KeeperFault.{KeeperFault}
use Rattle.rdf_session.specs.declared.fault.KeeperFault.TheVariants as keeper
use Rattle.rdf_session.specs.declared.format.Format.{Format}
use Rattle.rdf_terms.specs.declared.quad.Quad.{Quad}
use Rattle.rdf_streams.specs.Checks.{Checks}
use Rattle.rdf_streams.specs.Conversion.Converts.{Converts, lines_of}
use Rattle.rdf_streams.specs.declared.conversion.fault.ConvertFault.TheVariants.{Document}
use Rattle.rdf_streams.specs.declared.conversion.fault.DocumentFault.{DocumentFault}
use Rattle.rdf_streams.specs.declared.conversion.fault.DocumentFault.TheVariants.{Line as InLine, Turtle as InTurtle}

-- the fault for which a session refuses the document
abbrev pub fault_in_a_session : DocumentFault → KeeperFault
fault_in_a_session (InLine at) = keeper.Line at
fault_in_a_session (InTurtle at) = keeper.Turtle at

-- What is written of a document that is converted to its end are the lines of the quads that a session loads.
abbrev pub ConvertsWhatIsLoaded : Type 0
ConvertsWhatIsLoaded = (format : Format) (base : Option (List ℕ)) (text : List ℕ) (left : Option (List ℕ)) (out : List ℕ) (u : Unit {0})
    → Converts format base text left out (Ok u) → (quads : List Quad) × IsDocument format base text quads × (out ≡ lines_of quads)

-- What is counted of one that is checked are these quads.
abbrev pub CountsWhatIsLoaded : Type 0
CountsWhatIsLoaded = (format : Format) (base : Option (List ℕ)) (text : List ℕ) (left : Option (List ℕ)) (count : ℕ)
    → Checks format base text left (Ok count) → (quads : List Quad) × IsDocument format base text quads × (count ≡ length quads)

-- Where either is refused for a fault of the document, a session refuses it for that fault.
abbrev pub ConversionsFindTheFault : Type 0
ConversionsFindTheFault = (format : Format) (base : Option (List ℕ)) (text : List ℕ) (left : Option (List ℕ)) (out : List ℕ) (fault : DocumentFault)
    → Converts format base text left out (Err (Document fault)) → IsFaulty format base text (fault_in_a_session fault)

abbrev pub ChecksFindTheFault : Type 0
ChecksFindTheFault = (format : Format) (base : Option (List ℕ)) (text : List ℕ) (left : Option (List ℕ)) (fault : DocumentFault)
    → Checks format base text left (Err (Document fault)) → IsFaulty format base text (fault_in_a_session fault)
