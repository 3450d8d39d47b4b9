use Rattle.std.proofs.Common.{◌∙◌, sym, ap, subst}
use Rattle.std.specs.FinSet as set
use Rattle.rdf_dataset.specs.State.{IsSound}
use Rattle.rdf_dataset.specs.Inside.Delta.{IsStateDelta}
use Rattle.rdf_dataset.proofs.CallerLemmas.{gone_to, gone_back, state}
use Rattle.plain_dataset.proofs.plain.PlainDataset.go_to.Goals as goal

pub invariant_of-self-in-Err : goal.invariant_of-self-in-Err
invariant_of-self-in-Err c =
    subst IsSound (sym (gone_back (state (set.from_list c.self.inside.quads) (set.from_list c.self.inside.names) c.self.inside.next) c.requires.leads.0 c.args.added.now c.args.removed.now c.args.names_added.now c.args.names_removed.now c.args.next _ _ _ (subst (λ s. IsStateDelta s c.requires.leads.0 c.args.added.now c.args.removed.now c.args.names_added.now c.args.names_removed.now c.args.next) (sym c.self.view_is) c.requires.leads.2) c.in_ok-unite.ensures.ok c.subtract.ensures (ap set.from_list c.in-Err.ensures.err))) c.self.invariant

pub returns-in-Err-clause-err : goal.returns-in-Err-clause-err
returns-in-Err-clause-err c =
    gone_back (state (set.from_list c.self.inside.quads) (set.from_list c.self.inside.names) c.self.inside.next) c.requires.leads.0 c.args.added.now c.args.removed.now c.args.names_added.now c.args.names_removed.now c.args.next _ _ _ (subst (λ s. IsStateDelta s c.requires.leads.0 c.args.added.now c.args.removed.now c.args.names_added.now c.args.names_removed.now c.args.next) (sym c.self.view_is) c.requires.leads.2) c.in_ok-unite.ensures.ok c.subtract.ensures (ap set.from_list c.in-Err.ensures.err)
    ∙ c.self.view_is

pub invariant_of-self-2 : goal.invariant_of-self-2
invariant_of-self-2 c =
    subst IsSound (sym (gone_to (state (set.from_list c.self.inside.quads) (set.from_list c.self.inside.names) c.self.inside.next) c.requires.leads.0 c.args.added.now c.args.removed.now c.args.names_added.now c.args.names_removed.now c.args.next _ _ _ _ (subst (λ s. IsStateDelta s c.requires.leads.0 c.args.added.now c.args.removed.now c.args.names_added.now c.args.names_removed.now c.args.next) (sym c.self.view_is) c.requires.leads.2) c.in_ok-unite.ensures.ok c.subtract-2.ensures c.in_default.ensures.ok c.subtract-3.ensures)) c.requires.leads.1

pub returns-clause-ok : goal.returns-clause-ok
returns-clause-ok c t l =
    gone_to (state (set.from_list c.self.inside.quads) (set.from_list c.self.inside.names) c.self.inside.next) t c.args.added.now c.args.removed.now c.args.names_added.now c.args.names_removed.now c.args.next _ _ _ _ (subst (λ s. IsStateDelta s t c.args.added.now c.args.removed.now c.args.names_added.now c.args.names_removed.now c.args.next) (sym c.self.view_is) l) c.in_ok-unite.ensures.ok c.subtract-2.ensures c.in_default.ensures.ok c.subtract-3.ensures
