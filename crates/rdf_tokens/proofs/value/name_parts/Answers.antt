use Rattle.std.proofs.Common.{◌∙◌, ap, sym}
use Rattle.std.specs.List.{position}
use Rattle.std.specs.Str.{chars}
use Rattle.rdf_tokens.specs.Inside.Shortcuts.{is_colon}
use Rattle.rdf_tokens.proofs.ValuePlaces.{front_range, colon_boundary, behind_boundary, prefix_is, prefix_whole, local_is, no_local}
use Rattle.rdf_tokens.proofs.value.name_parts.Goals as goal

pub range-requires-clause-end_boundary : goal.range-requires-clause-end_boundary
range-requires-clause-end_boundary c =
    colon_boundary c.as_str-text.result.now c.in-Some.colon (ap (position is_colon) (sym c.as_bytes.ensures.value) ∙ sym c.first_colon.ensures.first ∙ c.in-Some.is)

pub range_from-requires : goal.range_from-requires
range_from-requires c =
    λ _. behind_boundary c.as_str-text.result.now c.in-Some.colon c.as_str-text.utf8 (ap (position is_colon) (sym c.as_bytes.ensures.value) ∙ sym c.first_colon.ensures.first ∙ c.in-Some.is)

pub returns-in-Some-clause-prefix : goal.returns-in-Some-clause-prefix
returns-in-Some-clause-prefix c =
    c.new-front.ensures ∙ ap chars (c.range.ensures.value ∙ front_range c.as_str-text.result.now c.in-Some.colon)
    ∙ prefix_is c.as_str-text.result.now c.args.slice.now c.in-Some.colon c.as_str-text.utf8 c.as_str-text.ensures (ap (position is_colon) (sym c.as_bytes.ensures.value) ∙ sym c.first_colon.ensures.first ∙ c.in-Some.is)

pub returns-in-Some-clause-local : goal.returns-in-Some-clause-local
returns-in-Some-clause-local c =
    c.new-back.ensures ∙ ap chars c.range_from.ensures.value
    ∙ local_is c.as_str-text.result.now c.args.slice.now c.in-Some.colon c.as_str-text.utf8 c.as_str-text.ensures (ap (position is_colon) (sym c.as_bytes.ensures.value) ∙ sym c.first_colon.ensures.first ∙ c.in-Some.is)

pub returns-in-None-clause-prefix : goal.returns-in-None-clause-prefix
returns-in-None-clause-prefix c =
    c.fork-front.ensures
    ∙ prefix_whole c.as_str-text.result.now c.args.slice.now c.as_str-text.utf8 c.as_str-text.ensures (ap (position is_colon) (sym c.as_bytes.ensures.value) ∙ sym c.first_colon.ensures.first ∙ c.in-None.is)

pub returns-in-None-clause-local : goal.returns-in-None-clause-local
returns-in-None-clause-local c =
    c.new-back-in-None.ensures
    ∙ no_local c.as_str-text.result.now c.args.slice.now c.as_str-text.utf8 c.as_str-text.ensures (ap (position is_colon) (sym c.as_bytes.ensures.value) ∙ sym c.first_colon.ensures.first ∙ c.in-None.is)
