use Rattle.sparql_results.proofs.JsonStringLemmas.{json_texts_are_read, json_texts_are_read_once}
use Rattle.sparql_results.proofs.law.json_texts_are_read.Goals as goal

pub returns-clause-once : goal.returns-clause-once
returns-clause-once c = json_texts_are_read_once

pub returns-clause-read : goal.returns-clause-read
returns-clause-read c = json_texts_are_read
