use Rattle.sparql_algebra.proofs.UnderLemmas.{graph_sets_active, active_unread, under_seen}
use Rattle.sparql_algebra.proofs.under.patterns_see_their_own.Goals as goal

pub returns-clause-active : goal.returns-clause-active
returns-clause-active c = graph_sets_active

pub returns-clause-unread : goal.returns-clause-unread
returns-clause-unread c = active_unread

pub returns-clause-seen : goal.returns-clause-seen
returns-clause-seen c = under_seen
