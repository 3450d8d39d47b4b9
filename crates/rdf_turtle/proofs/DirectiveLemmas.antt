-- Directives, and the names behind those of the standard's example.
use Rattle.std.proofs.Common.{◌≡◌, ℕ, List, Option, Some, refl, ap}
use Rattle.std.specs.Option.{option_map}
use lib.Utf8.{encode}
use Rattle.rdf_terms.specs.Dots.{without_dots}
use Rattle.rdf_terms.specs.Quoted.{IsIriRef}
use Rattle.rdf_terms.specs.Reading as reading
use Rattle.rdf_terms.specs.Resolution.{Means}
use Rattle.rdf_terms.specs.Rewriting as rewriting
use Rattle.rdf_tokens.specs.Values.{iri_value, local_value}
use Rattle.rdf_tokens.proofs.CallerLemmas.{iri_value_is}
use Rattle.rdf_grammar.specs.Keys.{key_of}
use Rattle.rdf_grammar.specs.Prologue.{declares, moves_base, prefixed, resolved}
use Rattle.rdf_grammar.specs.References.{resolve}
use Rattle.rdf_grammar.specs.Steps.{and_then}
use Rattle.rdf_grammar.proofs.CallerLemmas.{resolved_is}
use Rattle.rdf_turtle.specs.Directives.{BaseIsMoved, PrefixIsDeclared, SectionExamples}
use Rattle.rdf_turtle.specs.Meaning.{statement}
use Rattle.rdf_turtle.specs.ParserState.{ParserState, declared}

found : (p : ParserState) (slice text iri : List ℕ) → IsIriRef slice text → Means p.prologue.base text iri → resolved slice p.prologue ≡ Some iri
found p slice text iri form m = resolved_is p.prologue p.prologue.base slice text iri refl (iri_value_is slice text form) m

pub base_is_moved : BaseIsMoved
unfolding statement
base_is_moved p slice text iri form m =
    ap (λ (o : Option (List ℕ)). and_then (option_map (λ i. (i, p)) o) (λ i. declared (moves_base i))) (found p slice text iri form m)

pub prefix_is_declared : PrefixIsDeclared
unfolding statement
prefix_is_declared p prefix slice text iri form m =
    ap (λ (o : Option (List ℕ)). and_then (option_map (λ i. (i, p)) o) (λ i. declared (declares (key_of prefix) i))) (found p slice text iri form m)

-- each name is computed
pub section_examples : SectionExamples
unfolding statement resolved prefixed declares moves_base resolve iri_value local_value without_dots rewriting.resolved reading.expect reading.allowed_only reading.numeric_at reading.iri_character_at reading.up_to reading.iri_body_at reading.iri_at encode
section_examples = record {
  relative = refl;
  prefixed = refl;
  replaced = refl;
  empty = refl;
  second_base = refl;
  earlier_prefix = refl;
  no_base = refl;
}
