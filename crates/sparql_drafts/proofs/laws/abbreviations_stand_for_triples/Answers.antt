use Rattle.sparql_drafts.proofs.AbbreviationLemmas.{a_is_type, bracket_has, comma_repeats, empty_is_nil, last_has, list_has, object_is_said, semicolon_repeats}
use Rattle.sparql_drafts.proofs.laws.abbreviations_stand_for_triples.Goals as goal

pub returns-clause-object : goal.returns-clause-object
returns-clause-object c = object_is_said

pub returns-clause-a : goal.returns-clause-a
returns-clause-a c = a_is_type

pub returns-clause-comma : goal.returns-clause-comma
returns-clause-comma c = comma_repeats

pub returns-clause-semicolon : goal.returns-clause-semicolon
returns-clause-semicolon c = semicolon_repeats

pub returns-clause-inside : goal.returns-clause-inside
returns-clause-inside c = bracket_has

pub returns-clause-empty : goal.returns-clause-empty
returns-clause-empty c = empty_is_nil

pub returns-clause-last : goal.returns-clause-last
returns-clause-last c = last_has

pub returns-clause-cells : goal.returns-clause-cells
returns-clause-cells c = list_has
