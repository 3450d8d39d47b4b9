use Rattle.std.proofs.Common.{◌≡◌, ap}
use Rattle.std.specs.Prelude.{None, Some}
use Rattle.rdf_store.specs.Inside.Ranks.{parts_ranked, terms_in}
use Rattle.rdf_store.proofs.RankLemmas.{made_ranked}
use Rattle.rdf_store.proofs.ranks.Ranks.quad.Goals as goal

pub unreachable-requires : goal.unreachable-requires
unreachable-requires c =
    let e : None ≡ Some (parts_ranked (terms_in c.args.self.now.terms.items) c.args.ranked.now) =
    made_ranked (terms_in c.args.self.now.terms.items) c.args.ranked.now _ _ _ _ _ c.requires c.in_ok-graph.ensures
    (ap (λ r. r.0) c.in_ok-subject.ensures) (ap (λ r. r.1) c.in_ok-subject.ensures) c.in_ok-object.ensures c.in-None.ensures in
    cc

pub returns : goal.returns
returns c =
    let e : Some c.in-Some.quad ≡ Some (parts_ranked (terms_in c.args.self.now.terms.items) c.args.ranked.now) =
    made_ranked (terms_in c.args.self.now.terms.items) c.args.ranked.now _ _ _ _ _ c.requires c.in_ok-graph.ensures
    (ap (λ r. r.0) c.in_ok-subject.ensures) (ap (λ r. r.1) c.in_ok-subject.ensures) c.in_ok-object.ensures c.in-Some.ensures in
    cc
