use Rattle.rdf_keeper.proofs.ScriptLemmas.Ends.{accepted_to_the_end, faults_are_told, read_faults_came, refused_without_faults, write_faults_came}
use Rattle.rdf_keeper.proofs.law.the_status_tells_the_end.Goals as goal

pub returns : goal.returns
returns c = record {
  faults = faults_are_told;
  write_faults = write_faults_came;
  read_faults = read_faults_came;
  accepted = accepted_to_the_end;
  refused = refused_without_faults;
}
