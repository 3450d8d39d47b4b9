use Rattle.std.proofs.Common.{◌≡◌, true}
use Rattle.rdf_grammar.specs.Prologue.{declared}
use Rattle.rdf_turtle.specs.Known.{known_triples}
use Rattle.rdf_turtle.proofs.ScopeLoops.{on_ok, triples_known}
use Rattle.rdf_turtle.proofs.scope.Scope.triples.Goals as goal

pub returns-clause-known : goal.returns-clause-known
returns-clause-known g c =
    on_ok _ (known_triples (declared c.args.self.now.prologue) c.args.node.now c.args.properties.now ≡ true) c.properties.result c.properties.ensures.known
    (triples_known c.args.self.now.prologue c.term.new.self.prologue c.inside.new.self.prologue c.args.node.now c.args.properties.now c.in_ok-subject.ensures.prologue c.in_ok-inside.ensures.prologue
    c.in_ok-subject.ensures.known c.in_ok-inside.ensures.known)
