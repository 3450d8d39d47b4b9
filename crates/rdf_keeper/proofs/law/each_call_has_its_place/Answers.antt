use Rattle.rdf_keeper.proofs.ScriptLemmas.Places.{ends_in_order, failed_reads_in_order, failures_come_last, reads_in_order, refusals_in_order, writes_in_order}
use Rattle.rdf_keeper.proofs.law.each_call_has_its_place.Goals as goal

pub returns : goal.returns
returns c = record {
  reads = reads_in_order;
  failed_reads = failed_reads_in_order;
  refusals = refusals_in_order;
  ends = ends_in_order;
  failures = failures_come_last;
  writes = writes_in_order;
}
