use Rattle.std.proofs.Common.{◌∙◌, refl, sym, ap}
use Rattle.std.proofs.lemmas.Result.{on_ok_weaker}
use Rattle.rdf_dataset.specs.State.{net_between}
use Rattle.rdf_terms.specs.OrderLaws.{quad_cmp_total, term_cmp_total}
use Rattle.rdf_dataset.proofs.CallerLemmas.{leads_of, no_items}
use Rattle.plain_dataset.proofs.NetLemmas.{listed_net}
use Rattle.plain_dataset.proofs.plain.PlainDataset.commit.Goals as goal

pub go_to-requires-clause-rising : goal.go_to-requires-clause-rising
go_to-requires-clause-rising c = record { added_rise = c.added.ensures.rises; removed_rise = c.removed.ensures.rises; names_added_rise = c.names_added.ensures.rises; names_removed_rise = c.names_removed.ensures.rises }

pub go_to-requires-clause-leads : goal.go_to-requires-clause-leads
go_to-requires-clause-leads c =
    let lists = listed_net c.args.net.now _ _ _ _ c.args.net.now.before c.after.result c.added.ensures c.removed.ensures c.names_added.ensures c.names_removed.ensures refl c.after.ensures in
    (c.requires.begins.0, c.requires.begins.1, leads_of c.args.self.now c.requires.begins.0 _ _ _ _ c.args.net.now.before c.after.result (lists ∙ c.requires.begins.2))

pub returns-clause-ok : goal.returns-clause-ok
returns-clause-ok c =
    let lists = listed_net c.args.net.now _ _ _ _ c.args.net.now.before c.after.result c.added.ensures c.removed.ensures c.names_added.ensures c.names_removed.ensures refl c.after.ensures in
    on_ok_weaker c.go_to.result (λ f t h. f t (leads_of c.args.self.now t _ _ _ _ c.args.net.now.before c.after.result (lists ∙ h))) c.go_to.ensures.ok

pub returns-clause-free : goal.returns-clause-free
returns-clause-free c e f =
    c.go_to.ensures.free (no_items quad_cmp_total c.added.result.now (c.added.ensures.lists.all ∙ e)) (no_items term_cmp_total c.names_added.result.now (c.names_added.ensures.lists.all ∙ f))

pub returns-clause-ends : goal.returns-clause-ends
returns-clause-ends c =
    let lists = listed_net c.args.net.now _ _ _ _ c.args.net.now.before c.after.result c.added.ensures c.removed.ensures c.names_added.ensures c.names_removed.ensures refl c.after.ensures in
    on_ok_weaker c.go_to.result (λ f.
    let b = c.requires.begins in
    let new = f b.0 (leads_of c.args.self.now b.0 _ _ _ _ c.args.net.now.before c.after.result (lists ∙ b.2)) in
    (c.args.self.now, c.sources_are_sound.ensures, b.2 ∙ ap (net_between c.args.self.now) (sym new))) c.go_to.ensures.ok
