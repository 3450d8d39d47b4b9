use Rattle.std.proofs.Common.{◌∙◌, sym, ap}
use Rattle.std.proofs.lemmas.Result.{on_ok_weaker}
use Rattle.rdf_dataset.specs.State.{Change, net_between}
use Rattle.rdf_terms.specs.OrderLaws.{quad_cmp_total, term_cmp_total}
use Rattle.rdf_dataset.proofs.StateLemmas.{leads_of, no_items}
use Rattle.rdf_dataset.proofs.dataset.Dataset.commit.Goals as goal

pub go_to-requires : goal.go_to-requires
go_to-requires c = (c.requires.begins.0, c.requires.begins.1, leads_of c.args.self.now c.requires.begins.0 _ _ _ _ c.net.inside.before c.net.inside.after (c.net.view_is ∙ c.requires.begins.2))

pub returns-clause-ok : goal.returns-clause-ok
returns-clause-ok c = on_ok_weaker c.go_to.result (λ f t h. f t (leads_of c.args.self.now t _ _ _ _ c.net.inside.before c.net.inside.after (c.net.view_is ∙ h))) c.go_to.ensures.ok

pub returns-clause-free : goal.returns-clause-free
returns-clause-free c e f =
    c.go_to.ensures.free (no_items quad_cmp_total c.net.inside.quads.added (ap (λ (n : Change). n.added) c.net.view_is ∙ e)) (no_items term_cmp_total c.net.inside.names.added (ap (λ (n : Change). n.names_added) c.net.view_is ∙ f))

pub returns-clause-ends : goal.returns-clause-ends
returns-clause-ends c = on_ok_weaker c.go_to.result (λ f.
    let b = c.requires.begins in
    let new = f b.0 (leads_of c.args.self.now b.0 _ _ _ _ c.net.inside.before c.net.inside.after (c.net.view_is ∙ b.2)) in
    (c.args.self.now, c.sources_are_sound.ensures, b.2 ∙ ap (net_between c.args.self.now) (sym new))) c.go_to.ensures.ok
