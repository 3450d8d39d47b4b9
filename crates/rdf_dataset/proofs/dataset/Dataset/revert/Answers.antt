use Rattle.std.proofs.Common.{◌∙◌, sym, ap}
use Rattle.std.proofs.lemmas.Result.{on_ok_weaker}
use Rattle.rdf_dataset.specs.State.{Change, net_between}
use Rattle.rdf_terms.specs.OrderLaws.{quad_cmp_total, term_cmp_total}
use Rattle.rdf_dataset.proofs.StateLemmas.{leads_back, no_items}
use Rattle.rdf_dataset.proofs.dataset.Dataset.revert.Goals as goal

pub go_to-requires : goal.go_to-requires
go_to-requires c = (c.requires.ends.0, c.requires.ends.1, leads_back c.requires.ends.0 c.args.self.now _ _ _ _ c.net.inside.before c.net.inside.after (c.net.view_is ∙ c.requires.ends.2))

pub returns-clause-ok : goal.returns-clause-ok
returns-clause-ok c = on_ok_weaker c.go_to.result (λ f t h. f t (leads_back t c.args.self.now _ _ _ _ c.net.inside.before c.net.inside.after (c.net.view_is ∙ h))) c.go_to.ensures.ok

pub returns-clause-free : goal.returns-clause-free
returns-clause-free c e f =
    c.go_to.ensures.free (no_items quad_cmp_total c.net.inside.quads.removed (ap (λ (n : Change). n.removed) c.net.view_is ∙ e)) (no_items term_cmp_total c.net.inside.names.removed (ap (λ (n : Change). n.names_removed) c.net.view_is ∙ f))

pub returns-clause-begins : goal.returns-clause-begins
returns-clause-begins c = on_ok_weaker c.go_to.result (λ f.
    let b = c.requires.ends in
    let new = f b.0 (leads_back b.0 c.args.self.now _ _ _ _ c.net.inside.before c.net.inside.after (c.net.view_is ∙ b.2)) in
    (c.args.self.now, c.sources_are_sound.ensures, b.2 ∙ ap (λ s. net_between s c.args.self.now) (sym new))) c.go_to.ensures.ok
