use Rattle.std.proofs.Common.{sym, subst}
use Rattle.rdf_dataset.specs.Inside.Emptied.{AreHeld}
use Rattle.rdf_dataset.proofs.EmptiedLemmas.{graphs_apart, name_apart, name_copied, with_graph_held}
use Rattle.rdf_dataset.proofs.emptied.graph_gained.Goals as goal

pub insert_all-requires-clause-new_quads : goal.insert_all-requires-clause-new_quads
insert_all-requires-clause-new_quads c =
    graphs_apart c.in_ok-more.more c.requires.0 c.args.name.now c.args.quads.now (subst (λ p. AreHeld p c.requires.0.quads) c.in_ok-more.was c.requires.1) c.requires.2 (sym c.if-has_name.ensures)

pub insert_all-requires-clause-new_names : goal.insert_all-requires-clause-new_names
insert_all-requires-clause-new_names c =
    name_apart c.in_ok-more.more.names c.args.name.now c.in_ok-name.name (name_copied c.copy.result c.ok.result c.in_ok-name.name c.args.name.now c.ok.ensures.value c.in_ok-name.was c.copy.ensures) (sym c.if-has_name.ensures)

pub returns-in-Ok : goal.returns-in-Ok
returns-in-Ok c s l h =
    with_graph_held c.in_ok-more.more s c.args.name.now c.args.quads.now (subst (λ p. AreHeld p s.quads) c.in_ok-more.was h) l c.insert_all.new.self c.in_ok-name.name
    (name_copied c.copy.result c.ok.result c.in_ok-name.name c.args.name.now c.ok.ensures.value c.in_ok-name.was c.copy.ensures) c.in-Ok.ensures.ok
