use Rattle.std.proofs.Common.{◌∙◌, refl, sym, ap}
use Rattle.std.proofs.lemmas.Result.{on_ok_weaker}
use Rattle.rdf_dataset.specs.State.{net_between}
use Rattle.rdf_terms.specs.OrderLaws.{quad_cmp_total, term_cmp_total}
use Rattle.rdf_dataset.proofs.CallerLemmas.{leads_back, no_items}
use Rattle.plain_dataset.proofs.NetLemmas.{listed_net}
use Rattle.plain_dataset.proofs.plain.PlainDataset.revert.Goals as goal

pub go_to-requires-clause-rising : goal.go_to-requires-clause-rising
go_to-requires-clause-rising c = record { added_rise = c.removed.ensures.rises; removed_rise = c.added.ensures.rises; names_added_rise = c.names_removed.ensures.rises; names_removed_rise = c.names_added.ensures.rises }

pub go_to-requires-clause-leads : goal.go_to-requires-clause-leads
go_to-requires-clause-leads c =
    let lists = listed_net c.args.net.now _ _ _ _ c.before-counter.result c.args.net.now.after c.added.ensures c.removed.ensures c.names_added.ensures c.names_removed.ensures c.before-counter.ensures refl in
    (c.requires.ends.0, c.requires.ends.1, leads_back c.requires.ends.0 c.args.self.now _ _ _ _ c.before-counter.result c.args.net.now.after (lists ∙ c.requires.ends.2))

pub returns-clause-ok : goal.returns-clause-ok
returns-clause-ok c =
    let lists = listed_net c.args.net.now _ _ _ _ c.before-counter.result c.args.net.now.after c.added.ensures c.removed.ensures c.names_added.ensures c.names_removed.ensures c.before-counter.ensures refl in
    on_ok_weaker c.go_to.result (λ f t h. f t (leads_back t c.args.self.now _ _ _ _ c.before-counter.result c.args.net.now.after (lists ∙ h))) c.go_to.ensures.ok

pub returns-clause-free : goal.returns-clause-free
returns-clause-free c e f =
    c.go_to.ensures.free (no_items quad_cmp_total c.removed.result.now (c.removed.ensures.lists.all ∙ e)) (no_items term_cmp_total c.names_removed.result.now (c.names_removed.ensures.lists.all ∙ f))

pub returns-clause-begins : goal.returns-clause-begins
returns-clause-begins c =
    let lists = listed_net c.args.net.now _ _ _ _ c.before-counter.result c.args.net.now.after c.added.ensures c.removed.ensures c.names_added.ensures c.names_removed.ensures c.before-counter.ensures refl in
    on_ok_weaker c.go_to.result (λ f.
    let b = c.requires.ends in
    let new = f b.0 (leads_back b.0 c.args.self.now _ _ _ _ c.before-counter.result c.args.net.now.after (lists ∙ b.2)) in
    (c.args.self.now, c.sources_are_sound.ensures, b.2 ∙ ap (λ s. net_between s c.args.self.now) (sym new))) c.go_to.ensures.ok
