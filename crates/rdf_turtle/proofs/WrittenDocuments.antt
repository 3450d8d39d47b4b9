-- The lines of triples are a Turtle document of these triples.
use Rattle.std.proofs.Common.{map}
use Rattle.rdf_turtle.specs.WrittenLaws.{WrittenTriplesAreTurtle}
use Rattle.rdf_turtle.proofs.WrittenCuts.{lexemes_of}
use Rattle.rdf_turtle.proofs.WrittenLines.{document_slices, lines_list, lines_tokens}
use Rattle.rdf_turtle.proofs.WrittenMeanings.{answer_is}
use Rattle.rdf_turtle.proofs.WrittenNumbers.{follows}
use Rattle.rdf_turtle.proofs.WrittenTrees.{statement_of, document_derives, document_shallow}

pub written_triples_are_turtle : WrittenTriplesAreTurtle
written_triples_are_turtle base quads all numbered =
    let f = follows quads numbered in (
      map statement_of quads,
      record {
        tokens = (lines_list quads all).tokens;
        lexemes = lexemes_of (document_slices quads);
        list = lines_tokens quads all;
        shallow = document_shallow quads;
        reads = document_derives quads all;
      },
      answer_is base quads f.0 all f.1,
    )
