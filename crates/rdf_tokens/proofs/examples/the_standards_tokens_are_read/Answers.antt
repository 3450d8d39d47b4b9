use Rattle.std.proofs.Common.{codes, refl}
use lib.Utf8.{encode}
use Rattle.rdf_terms.specs.Characters.{is_pn_chars_base, is_pn_chars_u, is_pn_chars, short_escape}
use Rattle.rdf_terms.specs.Dotted.{dotted, dotted_at}
use Rattle.rdf_terms.specs.Reading.{allowed_only, character_at, escape_at, expect, hex4_at, hex_at, iri_at, iri_body_at, iri_character_at, numeric_at, quoted_at, quoted_body_at, scalar_only, string_character_at, up_to}
use Rattle.rdf_terms.specs.Skips.{one_of, skip, some_of}
use Rattle.rdf_terms.specs.Tags.{begins_group, skip_groups, tag_end_at}
use Rattle.rdf_tokens.specs.declared.token.Kind.TheVariants.{Iri, Pname, BlankLabel, AtWord, Text, Integer, Decimal, Double, Var, Word, Symbol}
use Rattle.rdf_tokens.specs.Characters.{is_local_escape, is_name_start, is_variable_part}
use Rattle.rdf_tokens.specs.Inside.TokenReading.{blank_at, digits_at, dot_exponent_at, exponent_at, fraction_at, label_at, local_at, local_first_at, local_part_at, long_at, long_body_at, long_up, number_at, number_or_symbol_at, plx_at, pname_at, prefix_at, skip_sign, symbol_at, text_at, three_at, token_at, two_at, unsigned_at, variable_at, whole_at, with_exponent, word_at}
use Rattle.rdf_tokens.proofs.TokenLists.{token_is}
use Rattle.rdf_tokens.proofs.examples.the_standards_tokens_are_read.Goals as goal

pub returns-clause-classes : goal.returns-clause-classes
unfolding is_pn_chars_base is_pn_chars_u is_name_start is_variable_part is_local_escape
returns-clause-classes c = record {
  white = refl;
  signs = refl;
  exponents = refl;
  words = refl;
  name_starts = refl;
  variables = refl;
  escapes = refl;
  letters = (refl, refl, refl);
  marks = (refl, refl, refl, refl);
}

-- each text is read from its front
pub returns-clause-tokens : goal.returns-clause-tokens
unfolding is_pn_chars_base is_pn_chars_u is_pn_chars short_escape dotted dotted_at allowed_only character_at escape_at expect hex4_at hex_at iri_at iri_body_at iri_character_at numeric_at quoted_at quoted_body_at scalar_only string_character_at up_to one_of skip some_of begins_group skip_groups tag_end_at is_local_escape is_name_start is_variable_part blank_at digits_at dot_exponent_at exponent_at fraction_at label_at local_at local_first_at local_part_at long_at long_body_at long_up number_at number_or_symbol_at plx_at pname_at prefix_at skip_sign symbol_at text_at three_at token_at two_at unsigned_at variable_at whole_at with_exponent word_at encode
returns-clause-tokens c = record {
  iri = token_is (codes "<http://example.org/#spiderman> a") Iri (codes " a") refl;
  no_iri = token_is (codes "<http://a b>") Symbol (codes "http://a b>") refl;
  pname = (token_is (codes "leg:3032571;") Pname (codes ";") refl, token_is (codes "isbn13:9780136019701 .") Pname (codes " .") refl);
  colons = (token_is (codes "og:video:height .") Pname (codes " .") refl, token_is (codes "foaf:name.") Pname (codes ".") refl);
  escaped = token_is (codes "p:a\\,b%2F,") Pname (codes ",") refl;
  empty_prefix = (token_is (codes ":subject5 ") Pname (codes " ") refl, token_is (codes ": ") Pname (codes " ") refl);
  labels = (token_is (codes "_:alice foaf:knows") BlankLabel (codes " foaf:knows") refl, token_is (codes "_:0.a.") BlankLabel (codes ".") refl);
  tags = (token_is (codes "@en-UK .") AtWord (codes " .") refl, token_is (codes "@prefix p") AtWord (codes " p") refl);
  strings = (token_is (codes "\"a\\\"b\"@en") Text (codes "@en") refl, token_is (codes "'That 70s'.") Text (codes ".") refl);
  long = (token_is (codes "\"\"\"a\"\"b\"\"\" .") Text (codes " .") refl, token_is (codes "'''a'b''' .") Text (codes " .") refl);
  integers = (token_is (codes "-5 ") Integer (codes " ") refl, token_is (codes "+1]") Integer (codes "]") refl);
  dotted = token_is (codes "10.") Integer (codes ".") refl;
  decimals = (token_is (codes "4.002602 ;") Decimal (codes " ;") refl, token_is (codes "-.5,") Decimal (codes ",") refl);
  doubles = (
    token_is (codes "1.663E-4 .") Double (codes " .") refl,
    token_is (codes "1e6 ") Double (codes " ") refl,
    token_is (codes "1.e+3,") Double (codes ",") refl,
    token_is (codes ".1e0)") Double (codes ")") refl,
  );
  variables = (token_is (codes "?name.") Var (codes ".") refl, token_is (codes "$x1-1") Var (codes "-1") refl);
  words = (token_is (codes "true .") Word (codes " .") refl, token_is (codes "SELECT*") Word (codes "*") refl);
  symbols = (
    token_is (codes "^^xsd:integer") Symbol (codes "xsd:integer") refl,
    token_is (codes "<=1") Symbol (codes "1") refl,
    token_is (codes "<1") Symbol (codes "1") refl,
    token_is (codes "!=1") Symbol (codes "1") refl,
    token_is (codes "||!") Symbol (codes "!") refl,
    token_is (codes "()") Symbol (codes ")") refl,
  );
}
