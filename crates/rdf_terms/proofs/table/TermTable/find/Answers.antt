use Rattle.std.proofs.Common.{◌≡◌, sym, ◌∙◌, subst, false}
use Rattle.rdf_terms.specs.Table.{IsIdOf, is_held}
use Rattle.rdf_terms.proofs.TableLemmas.{held, placed}
use Rattle.rdf_terms.proofs.table.TermTable.find.Goals as goal

pub returns-in-Some-clause-found : goal.returns-in-Some-clause-found
returns-in-Some-clause-found c =
    subst (λ terms. IsIdOf terms c.in-Some.place c.args.term.now) c.self.view_is
    (placed c.self.inside.set.keys c.args.term.now c.in-Some.place (sym c.in-Some.ensures.index))

pub returns-in-None-clause-absent : goal.returns-in-None-clause-absent
returns-in-None-clause-absent c =
    subst (λ terms. is_held terms c.args.term.now ≡ false) c.self.view_is
    (sym (held c.self.inside.set.keys c.args.term.now) ∙ sym c.in-None.ensures.found)
