-- What a query says from the start, and why it says nothing.
use Rattle.std.proofs.Common.{◌≡◌, subst, ℕ, List, [], Option, Some, Result}
use Rattle.std.specs.Prelude.{MatchResult}
use Rattle.rdf_grammar.specs.Prologue as prologue
use Rattle.rdf_grammar.specs.Prologue.{Prologue}
use Rattle.sparql_drafts.specs.Kept.{Fails}
use Rattle.sparql_drafts.specs.declared.fault.DraftFault.{DraftFault}
use Rattle.sparql_grammar.specs.declared.tree.Query as written
use Rattle.sparql_trees.specs.declared.query.Query.{Query}
use Rattle.sparql_queries.specs.Groups.{Labels}
use Rattle.sparql_queries.specs.Queries.{said_from, query_in}
use Rattle.sparql_queries.specs.declared.query.Said.{Said}

-- what a reader answers, by the outcome
abbrev Answers : Option (Query × Labels) → Result Said DraftFault → Type 0
Answers outcome r = MatchResult r (λ said. outcome ≡ Some (said.query, said.labels)) (λ fault. Fails outcome fault)

-- what is said from the start is what the query says
pub query_said : (base : Option (List ℕ)) (q : written.Query) (p : Prologue) (r : Result Said DraftFault)
    → p ≡ prologue.start base → Answers (said_from p q []) r → Answers (query_in base q) r
unfolding query_in
query_said base q p r at h = subst (λ (x : Prologue). Answers (said_from x q []) r) at h
