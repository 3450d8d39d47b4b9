use Rattle.std.proofs.Common.{refl}
use Rattle.std.specs.Prelude.{option_copied}
use Rattle.rdf_store.specs.Stored.{matches}
use Rattle.rdf_store.proofs.ShownLemmas.{none_appended, found_kept, matches_appended}
use Rattle.rdf_store.proofs.store.Store.matches.Goals as goal

pub returns-in_default-clause-found : goal.returns-in_default-clause-found
returns-in_default-clause-found c = none_appended _ _ _ c.self.invariant c.self.view_is _ c.in_default.ensures.absent _

pub append_run-requires : goal.append_run-requires
append_run-requires c = found_kept _ _ _ c.self.invariant c.self.view_is _ _ _ _ refl c.run-run.ensures.found refl

pub returns-clause-found : goal.returns-clause-found
returns-clause-found c =
    matches_appended _ _ _ c.self.invariant c.self.view_is c.terms_are_held_once.ensures.once
    _ (matches c.args.graph.now (option_copied c.args.subject) (option_copied c.args.predicate) (option_copied c.args.object)) c.in-Some.ensures.found
    _ _ _ _ _ refl c.run-run.ensures.found refl c.in_ok-append_run.ensures.ok
