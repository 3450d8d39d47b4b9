use Rattle.std.proofs.Common.{refl, subst}
use Rattle.std.specs.Prelude.{[], option_copied}
use Rattle.rdf_orders.specs.Runs.{AppendsKeysOnce}
use Rattle.rdf_orders.proofs.CallerLemmas.{some_of_run}
use Rattle.rdf_store.specs.Stored.{matches}
use Rattle.rdf_store.proofs.ResultLemmas.{if_ok_to}
use Rattle.rdf_store.proofs.ShownLemmas.{found_kept, none_of_some, some_appended}
use Rattle.rdf_store.proofs.store.Store.some_matches.Goals as goal

pub returns-in_default-clause-found : goal.returns-in_default-clause-found
returns-in_default-clause-found c = none_of_some _ _ _ c.self.invariant c.self.view_is _ c.in_default.ensures.absent _

pub append_front-requires : goal.append_front-requires
append_front-requires c = found_kept _ _ _ c.self.invariant c.self.view_is _ _ _ _ refl c.run-run.ensures.found refl

pub returns-clause-found : goal.returns-clause-found
returns-clause-found c =
    if_ok_to c.append_front.result
    (λ all g. some_appended _ _ _ c.self.invariant c.self.view_is c.terms_are_held_once.ensures.once
    _ (matches c.args.graph.now (option_copied c.args.subject) (option_copied c.args.predicate) (option_copied c.args.object)) c.in-Some.ensures.found
    all [] g.keys g.keys _ _ refl (some_of_run _ all g.keys _ (subst (AppendsKeysOnce _ []) g.parted c.run-run.ensures.found) g.whole) refl g.appended)
    c.append_front.ensures.front
