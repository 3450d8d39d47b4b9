-- What other crates cite.
pub use Rattle.rdf_terms.proofs.AllowedLemmas.{read_iri_allowed, written_allowed}
pub use Rattle.rdf_terms.proofs.AsciiLemmas.{chars_cons, chars_one, utf8_cons, utf8_one}
pub use Rattle.rdf_terms.proofs.CleanLemmas.{resolved_iri}
pub use Rattle.rdf_terms.proofs.CutLemmas.{after_joined, before_joined}
pub use Rattle.rdf_terms.proofs.DottedLemmas.{IsUnit, Shortens, dotted_front, dotted_no_longer, dotted_over, dotted_step, dotted_stop, further, one_sound, one_unit, ones_dotted, unit_shortens}
pub use Rattle.rdf_terms.proofs.EscapeLemmas.{hex_complete, hex_sound}
pub use Rattle.rdf_terms.proofs.ExampleLemmas.{ascii_iri}
pub use Rattle.rdf_terms.proofs.IntegerLemmas.{fits_decides, integers_back}
pub use Rattle.rdf_terms.proofs.OneCharacterLemmas.{chars_step}
pub use Rattle.rdf_terms.proofs.OptionLemmas.{bind_some, cases_Option, guard_some, map_some, none_is, some_is, some_pair}
pub use Rattle.rdf_terms.proofs.PastLemmas.{may_stop, no_longer_past, past_none, past_some}
pub use Rattle.rdf_terms.proofs.PlaceLemmas.{between_is}
pub use Rattle.rdf_terms.proofs.QuadTests.{QuadTests, quad_tests}
pub use Rattle.rdf_terms.proofs.QuotedLemmas.{escape-numeric, escape-short, escape_sound, expect_complete, expect_sound, iri_complete, iri_sound, numeric_begins, quoted_complete, quoted_sound, string_character_begins}
pub use Rattle.rdf_terms.proofs.ReferenceLemmas.{components_are}
pub use Rattle.rdf_terms.proofs.ResolutionLemmas.{means_itself, means_resolved}
pub use Rattle.rdf_terms.proofs.SkipLemmas.{AllPass, skip_end, skip_front, skip_less, skip_no_longer, skip_over, skip_step, skip_stop, some_complete, some_sound}
pub use Rattle.rdf_terms.proofs.TagForms.{AllLow, ascii_from, each_part, encodes_low, is_tag_part, tag_form, tag_low, tag_name}
pub use Rattle.rdf_terms.proofs.TagLemmas.{is_literal-tagged}
pub use Rattle.rdf_terms.proofs.TagReadings.{tag_greedy}
pub use Rattle.rdf_terms.proofs.TextLemmas.{texts_differ}
pub use Rattle.rdf_terms.proofs.UnescapeLemmas.{character_complete, character_sound, shorter}
pub use Rattle.rdf_terms.proofs.Utf8Lemmas.{iri_from, text_from}
pub use Rattle.rdf_terms.proofs.WriteLemmas.{kept_on}
pub use Rattle.rdf_terms.proofs.WrittenIriLemmas.{all_allowed, angled, angled_chars, iri_allowed, iri_form, iri_scheme, writes_allowed}
pub use Rattle.rdf_terms.proofs.WrittenNumberLemmas.{blank_ascii, decimal_digits, digit_part, is_digit, label_low}
pub use Rattle.rdf_terms.proofs.WrittenTermLemmas.{literal_parts, lower_stays, tag_ascii, tag_parts, term_utf8}
pub use Rattle.rdf_terms.proofs.WrittenTextLemmas.{by_escape, quoted, quoted_chars, quoted_form, quoted_utf8, string_body}
