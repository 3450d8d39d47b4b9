-- What other crates cite.
pub use Rattle.rdf_tokens.proofs.EachTokenLemmas.{each_end, each_few, each_nil, each_token, none_told}
pub use Rattle.rdf_tokens.proofs.SliceLemmas.{scalars_parts, token_stands, stands_once, form_at}
pub use Rattle.rdf_tokens.proofs.TokenLaws.{some_token_list, runs_have_forms, tokens_have_forms}
pub use Rattle.rdf_tokens.proofs.TokenLists.{one_token_list, same_place, Within, within_start, token_is}
pub use Rattle.rdf_tokens.proofs.TokenTags.{tag_form}
pub use Rattle.rdf_tokens.proofs.TokenUnits.{name_unit}
pub use Rattle.rdf_tokens.proofs.ValueIris.{iri_value_is, iri_value_allowed}
pub use Rattle.rdf_tokens.proofs.ValueNames.{local_part_is, local_plain}
pub use Rattle.rdf_tokens.proofs.ValuePnames.{pname_iri, has_scheme_after, local_allowed}
pub use Rattle.rdf_tokens.proofs.ValueTexts.{text_value_is, text_value_utf8}
