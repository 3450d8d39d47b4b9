use Rattle.rdf_terms.proofs.TagForms.{tag_form, tag_name}
use Rattle.rdf_terms.proofs.TagReadings.{tag_greedy}
use Rattle.rdf_terms.proofs.tag.tags_are_read.Goals as goal

pub returns : goal.returns
returns c = record { longest = tag_greedy; taken = tag_form; named = tag_name }
