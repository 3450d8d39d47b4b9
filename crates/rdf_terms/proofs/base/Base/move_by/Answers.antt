use Rattle.std.proofs.Common.{ℕ, List, OnOk, ◌∙◌, ap, sym, subst}
use Rattle.rdf_terms.specs.Base.{text_of}
use Rattle.rdf_terms.specs.Resolution.{ResolvesTo}
use Rattle.rdf_terms.proofs.base.Base.move_by.Goals as goal

pub returns-in-Moved-clause-value : goal.returns-in-Moved-clause-value
returns-in-Moved-clause-value c =
    subst (λ (b : List ℕ). OnOk c.move_by.result (ResolvesTo b c.args.reference.now c.move_by.new.self)) (sym (ap text_of c.in-Moved.is) ∙ c.self.view_is) c.move_by.ensures.value

pub returns-in_ok-move_by-in-Given-clause-value : goal.returns-in_ok-move_by-in-Given-clause-value
returns-in_ok-move_by-in-Given-clause-value c =
    subst (λ (b : List ℕ). ResolvesTo b c.args.reference.now c.move_by-in-Given.new.self) (c.in_ok-placed-in-Given.ensures ∙ sym (ap text_of c.in-Given.is) ∙ c.self.view_is) c.in_ok-move_by-in-Given.ensures.value
