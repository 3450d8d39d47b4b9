use Rattle.std.proofs.Common.{List, [], ◌∷◌, ◌++◌, ℕ, codes, refl, ap, arith, Option, Some, None}
use Rattle.std.proofs.lemmas.Fmt.{decimal_digit}
use Rattle.std.specs.List.{flat_map}
use lib.Utf8.{encode}
use Rattle.rdf_terms.specs.Characters.{is_pn_chars_base, is_pn_chars_u, is_pn_chars, short_escape}
use Rattle.rdf_terms.specs.Dotted.{dotted, dotted_at}
use Rattle.rdf_terms.specs.Literal.{tagged, xsd_string}
use Rattle.rdf_terms.specs.Reading.{allowed_only, escape_at, expect, hex4_at, hex_at, iri_at, iri_body_at, iri_character_at, numeric_at, quoted_at, quoted_body_at, scalar_only, string_character_at, up_to}
use Rattle.rdf_terms.specs.Skips.{one_of, skip, some_of}
use Rattle.rdf_terms.specs.Tags.{begins_group, skip_groups, tag_end_at}
use Rattle.rdf_terms.specs.Vocabulary.{xsd_integer}
use Rattle.rdf_terms.specs.declared.quad.GraphName.TheVariants.{Default, Named}
use Rattle.rdf_lines.specs.declared.format.LineFormat.TheVariants.{NTriples, NQuads}
use Rattle.rdf_lines.specs.declared.written.WrittenNode.{WrittenNode}
use Rattle.rdf_lines.specs.declared.written.WrittenNode.TheVariants as written
use Rattle.rdf_lines.specs.declared.written.WrittenObject.{WrittenObject}
use Rattle.rdf_lines.specs.declared.written.WrittenObject.TheVariants as written_object
use Rattle.rdf_lines.specs.declared.written.WrittenStatement.{WrittenStatement}
use Rattle.rdf_lines.specs.Examples.{example, g, p}
use Rattle.rdf_lines.specs.Grammar.{is_label_part, is_label_start, typed}
use Rattle.rdf_lines.specs.QuadText.{quad_text}
use Rattle.rdf_lines.specs.Reading.{begins_node, first_is, graph_at, is_empty_or_comment, is_end, label_at, label_end_at, literal_at, name_at, node_at, object_at, statement_at, stops_at, suffix_at, tag_at, tagged_at, tagged_literal, typed_at}
use Rattle.rdf_lines.specs.StateText.{name_line}
use Rattle.rdf_lines.proofs.LineLemmas.{line_sound, no_reading}
use Rattle.rdf_lines.proofs.examples.the_standards_lines_are_read.Goals as goal

pub returns-clause-classes : goal.returns-clause-classes
unfolding is_pn_chars_base is_pn_chars_u is_pn_chars is_label_start is_label_part
returns-clause-classes c = record { white = refl; starts = refl; parts = refl }

abbrev wrote : WrittenNode → List ℕ → WrittenObject → Option WrittenNode → Option WrittenStatement
wrote subject predicate object graph = Some (record { subject = subject; predicate = predicate; object = object; graph = graph })

-- each line is read from its front
pub returns-clause-lines : goal.returns-clause-lines
unfolding is_pn_chars_base is_pn_chars_u is_pn_chars short_escape dotted dotted_at allowed_only escape_at expect hex4_at hex_at iri_at iri_body_at iri_character_at numeric_at quoted_at quoted_body_at scalar_only string_character_at up_to one_of skip some_of begins_group skip_groups tag_end_at is_label_part is_label_start begins_node first_is graph_at is_empty_or_comment is_end label_at label_end_at literal_at name_at node_at object_at statement_at stops_at suffix_at tag_at tagged_at tagged_literal typed_at encode
returns-clause-lines c = record {
  comment_behind = line_sound NTriples (codes "<http://s> <http://p> <http://o> . # comments here") (wrote (written.Iri (codes "http://s")) p (written_object.Node (written.Iri (codes "http://o"))) None) refl;
  comment = line_sound NTriples (codes "# or on a line by themselves") None refl;
  nothing = line_sound NTriples (codes " \t") None refl;
  tagged_string = line_sound NTriples (codes "_:a <http://p> \"That Seventies Show\"@en .") (wrote (written.Label (codes "a")) p (written_object.Literal (tagged (codes "That Seventies Show") (codes "en"))) None) refl;
  typed_string = line_sound NTriples (codes "_:a <http://p> \"2\"^^<http://www.w3.org/2001/XMLSchema#integer> .") (wrote (written.Label (codes "a")) p (written_object.Typed (codes "2") xsd_integer) None) refl;
  dense = line_sound NTriples (codes "_:a<http://p>\"x\".") (wrote (written.Label (codes "a")) p (written_object.Literal (typed (codes "x") xsd_string)) None) refl;
  tabs = line_sound NTriples (codes "\t_:a\t<http://p> \t\"x\"\t.\t") (wrote (written.Label (codes "a")) p (written_object.Literal (typed (codes "x") xsd_string)) None) refl;
  escapes = line_sound NTriples (codes "_:a <http://p> \"\\u0041\\n\" .") (wrote (written.Label (codes "a")) p (written_object.Literal (typed (codes "A\n") xsd_string)) None) refl;
  labels = line_sound NTriples (codes "_:0:a.b <http://p> _:c.") (wrote (written.Label (codes "0:a.b")) p (written_object.Node (written.Label (codes "c"))) None) refl;
  no_subject = no_reading NTriples (codes "\"x\" <http://p> _:a .") refl;
  no_dot = no_reading NTriples (codes "_:a <http://p> \"x\"") refl;
  one_alone = no_reading NTriples (codes "_:a <http://p> \"x\" . _:a <http://p> \"x\" .") refl;
  graph = line_sound NQuads (codes "_:a <http://p> \"x\" <http://g> .") (wrote (written.Label (codes "a")) p (written_object.Literal (typed (codes "x") xsd_string)) (Some (written.Iri (codes "http://g")))) refl;
  blank_graph = line_sound NQuads (codes "_:a <http://p> \"x\" _:g .") (wrote (written.Label (codes "a")) p (written_object.Literal (typed (codes "x") xsd_string)) (Some (written.Label (codes "g")))) refl;
  no_graph = line_sound NQuads (codes "_:a <http://p> \"x\" .") (wrote (written.Label (codes "a")) p (written_object.Literal (typed (codes "x") xsd_string)) None) refl;
  triples_alone = no_reading NTriples (codes "_:a <http://p> \"x\" <http://g> .") refl;
  no_literal = no_reading NQuads (codes "_:a <http://p> \"x\" \"g\" .") refl;
}

-- the counter has one digit
pub returns-clause-written : goal.returns-clause-written
returns-clause-written c = record {
  triple = refl;
  quad = refl;
  state = ap (λ (digits : List ℕ). codes "#% rdfkeep state 2\n" ++ (codes "#% next " ++ (digits
      ++ (codes "\n" ++ (flat_map name_line (g ∷ []) ++ flat_map quad_text (example Default ∷ example (Named g) ∷ [])))))) (decimal_digit 5 (omega arith));
}
