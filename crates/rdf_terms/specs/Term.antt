-- What a term is (RDF 1.1 Concepts, section 3.1).
use Rattle.std.specs.Prelude.{Bool, true, false, nat_lt}
use Rattle.rdf_terms.specs.Iri.{is_iri}
use Rattle.rdf_terms.specs.Literal.{is_literal}
use Rattle.rdf_terms.specs.declared.term.Term.{Term}
use Rattle.rdf_terms.specs.declared.term.Term.TheVariants.{Blank, Iri, Literal}

-- a blank number of 64 bits, an IRI, or a literal
abbrev pub is_term : Term → Bool
is_term (Blank number) = nat_lt number 18446744073709551616
is_term (Iri iri) = is_iri iri
is_term (Literal l) = is_literal l

abbrev pub is_literal_term : Term → Bool
is_literal_term (Literal l) = true
is_literal_term t = false

abbrev pub is_iri_term : Term → Bool
is_iri_term (Iri iri) = true
is_iri_term t = false
