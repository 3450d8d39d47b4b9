-- What is converted or checked of a text is the document that a session loads of it.
use Rattle.rdf_session.specs.declared.format.Format.TheVariants.{NQuads, NTriples, Turtle}
use Rattle.rdf_streams.specs.DocumentLaws.{ChecksFindTheFault, ConversionsFindTheFault, ConvertsWhatIsLoaded, CountsWhatIsLoaded}
use Rattle.rdf_streams.specs.declared.conversion.fault.DocumentFault.TheVariants.{Line as InLine, Turtle as InTurtle}

pub converts_what_is_loaded : ConvertsWhatIsLoaded
converts_what_is_loaded NQuads base text left out u converts = converts
converts_what_is_loaded NTriples base text left out u converts = converts
converts_what_is_loaded Turtle base text left out u converts = converts

pub counts_what_is_loaded : CountsWhatIsLoaded
counts_what_is_loaded NQuads base text left count checks = checks
counts_what_is_loaded NTriples base text left count checks = checks
counts_what_is_loaded Turtle base text left count checks = checks

pub conversions_find_the_fault : ConversionsFindTheFault
conversions_find_the_fault NQuads base text left out (InLine at) converts = (converts.0, converts.1)
conversions_find_the_fault NTriples base text left out (InLine at) converts = (converts.0, converts.1)
conversions_find_the_fault Turtle base text left out (InTurtle at) converts = converts.0
conversions_find_the_fault NQuads base text left out (InTurtle at) converts = absurd converts
conversions_find_the_fault NTriples base text left out (InTurtle at) converts = absurd converts
conversions_find_the_fault Turtle base text left out (InLine at) converts = absurd converts

pub checks_find_the_fault : ChecksFindTheFault
checks_find_the_fault NQuads base text left (InLine at) checks = checks
checks_find_the_fault NTriples base text left (InLine at) checks = checks
checks_find_the_fault Turtle base text left (InTurtle at) checks = checks
checks_find_the_fault NQuads base text left (InTurtle at) checks = absurd checks
checks_find_the_fault NTriples base text left (InTurtle at) checks = absurd checks
checks_find_the_fault Turtle base text left (InLine at) checks = absurd checks
