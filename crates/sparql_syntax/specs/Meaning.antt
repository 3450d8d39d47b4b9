-- What a request says before its static rules are asked: its parts in order, each against the prologue that the parts before it leave (SPARQL
-- 1.1 Update, section 3).
use Rattle.std.specs.Prelude.{ℕ, List, [], ◌∷◌, ◌++◌, Option, Some, None, Result, Err, if◌then◌else◌, ok_or}
use Rattle.std.specs.Option.{option_map, option_and_then}
use Rattle.rdf_grammar.specs.Prologue as prologue
use Rattle.rdf_grammar.specs.Prologue.{Prologue, iri_of}
use Rattle.rdf_grammar.specs.Steps.{Step, ◌>>=◌, ◌<$>◌, pure}
use Rattle.rdf_grammar.specs.declared.tree.Name.{Name}
use Rattle.sparql_grammar.specs.QuadGroups.{quads_group}
use Rattle.sparql_grammar.specs.declared.tree.Block.{Block}
use Rattle.sparql_grammar.specs.declared.tree.GraphOrDefault.{GraphOrDefault}
use Rattle.sparql_grammar.specs.declared.tree.GraphOrDefault.TheVariants as written_one
use Rattle.sparql_grammar.specs.declared.tree.GraphRefAll.{GraphRefAll}
use Rattle.sparql_grammar.specs.declared.tree.GraphRefAll.TheVariants as written_some
use Rattle.sparql_grammar.specs.declared.tree.Group.{Group}
use Rattle.sparql_grammar.specs.declared.tree.Operation.{Operation}
use Rattle.sparql_grammar.specs.declared.tree.Operation.TheVariants as written
use Rattle.sparql_grammar.specs.declared.tree.Part.{Part}
use Rattle.sparql_grammar.specs.declared.tree.Part.TheVariants as written_part
use Rattle.sparql_trees.specs.declared.operation.GraphOrDefault as one
use Rattle.sparql_trees.specs.declared.operation.GraphOrDefault.TheVariants as one_of
use Rattle.sparql_trees.specs.declared.operation.GraphRefAll as some
use Rattle.sparql_trees.specs.declared.operation.GraphRefAll.TheVariants as some_of
use Rattle.sparql_trees.specs.declared.operation.Operation.TheVariants as op
use Rattle.sparql_drafts.specs.Meaning.{quads_in, declaration}
use Rattle.sparql_drafts.specs.declared.draft.Quads.{Quads}
use Rattle.sparql_queries.specs.Groups.{Labels, group}
use Rattle.sparql_syntax.specs.declared.drafts.Draft.{Draft}
use Rattle.sparql_syntax.specs.declared.drafts.Draft.TheVariants.{InsertData, DeleteData, Modify, Other}
use Rattle.sparql_syntax.specs.declared.drafts.Modification.{Modification}
use Rattle.sparql_syntax.specs.declared.fault.SyntaxFaultKind.{SyntaxFaultKind}
use Rattle.sparql_syntax.specs.declared.fault.SyntaxFaultKind.TheVariants.{UnknownPrefix, Relative}
use Rattle.sparql_syntax.specs.Known.{declares_first}
use Rattle.sparql_trees.specs.declared.pattern.Pattern.{Pattern}

-- ---- operations

abbrev pub graph_ref_all : GraphRefAll → Prologue → Option some.GraphRefAll
graph_ref_all (written_some.Graph name) p = option_map some_of.Graph (iri_of name p)
graph_ref_all written_some.Default p = Some some_of.Default
graph_ref_all written_some.Named p = Some some_of.Named
graph_ref_all written_some.All p = Some some_of.All

abbrev pub graph_or_default : GraphOrDefault → Prologue → Option one.GraphOrDefault
graph_or_default written_one.Default p = Some one_of.Default
graph_or_default (written_one.Graph name) p = option_map one_of.Graph (iri_of name p)

-- the first graph, then the second
abbrev pub both : GraphOrDefault → GraphOrDefault → Prologue → Option (one.GraphOrDefault × one.GraphOrDefault)
both from to p = option_and_then (λ f. option_map (λ u. (f, u)) (graph_or_default to p)) (graph_or_default from p)

-- what WITH names, if it is there
abbrev pub with_graph : Option Name → Prologue → Option (Option (List ℕ))
with_graph None p = Some None
with_graph (Some name) p = option_map Some (iri_of name p)

-- the template of DELETE, then that of INSERT; one that isn't there has no block
abbrev pub templates : List Block → List Block → Prologue → Option (Quads × Quads)
templates delete insert p = option_and_then (λ d. option_map (λ i. (d, i)) (quads_in insert p)) (quads_in delete p)

abbrev pub modification_of : Option (List ℕ) → Quads × Quads → Pattern × Labels → Modification
modification_of graph quads said = record { with = graph; delete = quads.0; insert = quads.1; pattern = said.0; labels = said.1 }

-- the graph of WITH, both templates, and what the group says (SPARQL 1.1 Update, section 3.1.3)
unfoldable pub modification : Option Name → List Block → List Block → Group → Prologue → Option Modification
modification with delete insert g p =
    option_and_then (λ graph. option_and_then (λ quads. option_map (modification_of graph quads) (group p g [])) (templates delete insert p))
    (with_graph with p)

-- what DELETE WHERE deletes is also its group (section 3.1.3.3)
unfoldable pub operation : Operation → Prologue → Option Draft
operation (written.InsertData blocks) p = option_map InsertData (quads_in blocks p)
operation (written.DeleteData blocks) p = option_map DeleteData (quads_in blocks p)
operation (written.DeleteWhere blocks) p = option_map Modify (modification None blocks [] (quads_group blocks) p)
operation (written.Modify m) p = option_map Modify (modification m.with m.delete m.insert m.group p)
operation (written.Create silent name) p = option_map (λ g. Other (op.Create silent g)) (iri_of name p)
operation (written.Clear silent graphs) p = option_map (λ g. Other (op.Clear silent g)) (graph_ref_all graphs p)
operation (written.Drop silent graphs) p = option_map (λ g. Other (op.Drop silent g)) (graph_ref_all graphs p)
operation (written.Copy silent from to) p = option_map (λ g. Other (op.Copy silent g.0 g.1)) (both from to p)
operation (written.Move silent from to) p = option_map (λ g. Other (op.Move silent g.0 g.1)) (both from to p)
operation (written.Add silent from to) p = option_map (λ g. Other (op.Add silent g.0 g.1)) (both from to p)

-- ---- requests

-- a declaration is in force from where it stands; an operation has a draft
unfoldable pub part : Part → Step Prologue (Option Draft)
part (written_part.Declaration declared) = (λ _. None) <$> declaration declared
part (written_part.Operation o) = λ p. option_map (λ d. (Some d, p)) (operation o p)

abbrev pub listed : Option Draft → List Draft
listed None = []
listed (Some d) = d ∷ []

-- drafts, and behind them those of the parts in order
abbrev pub drafts_behind : List Draft → List Part → Step Prologue (List Draft)
drafts_behind ds [] = pure ds
drafts_behind ds (p ∷ ps) = do
  d ← part p
  drafts_behind (ds ++ listed d) ps

abbrev pub drafts : List Part → Step Prologue (List Draft)
drafts ps = drafts_behind [] ps

-- the drafts of a request; none where a relative reference has no base, or something has no meaning
unfoldable pub drafts_of : Option (List ℕ) → List Part → Option (List Draft)
drafts_of base ps = option_map (λ r. r.0) (drafts ps (prologue.start base))

-- what is answered to a request: its drafts, or the first fault, UnknownPrefix before Relative over the whole text
abbrev pub answer : Option (List ℕ) → List Part → Result (List Draft) SyntaxFaultKind
answer base ps =
    if declares_first [] ps then ok_or (drafts_of base ps) Relative else Err UnknownPrefix
