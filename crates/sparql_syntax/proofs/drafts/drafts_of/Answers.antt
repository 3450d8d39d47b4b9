use Rattle.std.proofs.Common.{ap, subst}
use Rattle.std.specs.Option.{option_map}
use Rattle.rdf_grammar.specs.Prologue.{Prologue}
use Rattle.sparql_drafts.specs.Drafting.{Drafting}
use Rattle.sparql_drafts.specs.Kept.{Tells}
use Rattle.sparql_syntax.specs.Meaning.{drafts}
use Rattle.sparql_syntax.proofs.RequestLemmas.{drafts_told}
use Rattle.sparql_syntax.proofs.drafts.drafts_of.Goals as goal

pub returns : goal.returns
returns c =
    drafts_told _ c.args.parts.items c.all_drafts-drafts.result
    (subst (λ (p : Prologue). Tells (option_map (λ z. z.0) (drafts c.args.parts.items p)) c.all_drafts-drafts.result) (ap (λ (s : Drafting). s.prologue) c.in_ok-scope.ensures) c.all_drafts-drafts.ensures)
