-- What other crates cite.
pub use Rattle.sparql_drafts.proofs.DraftsBelow.{data_numbered, numbered_below}
pub use Rattle.sparql_drafts.proofs.FailLemmas.{map_fails, then_fails}
pub use Rattle.sparql_drafts.proofs.StandLemmas.{data_stand}
