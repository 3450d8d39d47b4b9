use Rattle.rdf_session.proofs.BlankCountLemmas.{limit_is_the_count, load_takes_the_count, load_wants_the_count}
use Rattle.rdf_session.proofs.InsertionLemmas.{load_inserts, load_is_refused_alike}
use Rattle.rdf_session.proofs.law.a_load_is_insert_data.Goals as goal

pub returns-clause-leads : goal.returns-clause-leads
returns-clause-leads c = load_inserts

pub returns-clause-refused : goal.returns-clause-refused
returns-clause-refused c = load_is_refused_alike

pub returns-clause-limit : goal.returns-clause-limit
returns-clause-limit c = limit_is_the_count c.blank_numbers_are_below.ensures c.blank_numbers_are_below-2.ensures

pub returns-clause-takes : goal.returns-clause-takes
returns-clause-takes c = load_takes_the_count c.blank_numbers_are_below.ensures c.blank_numbers_are_below-2.ensures c.readers_keep_laws.ensures

pub returns-clause-wants : goal.returns-clause-wants
returns-clause-wants c = load_wants_the_count c.blank_numbers_are_below.ensures c.blank_numbers_are_below-2.ensures c.readers_keep_laws.ensures
