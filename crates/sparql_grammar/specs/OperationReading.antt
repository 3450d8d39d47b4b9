-- Requests (SPARQL 1.1 Query, section 19.8), a definition for each production. Where a production has alternatives the next
-- lexeme chooses.
use Rattle.std.specs.Prelude.{ℕ, suc, Bool, List, [], ◌∷◌, Option, Some, None}
use Rattle.rdf_grammar.specs.Steps.{◌>>=◌, ◌>>◌, ◌<$>◌, pure, none}
use Rattle.rdf_grammar.specs.Terminals.{peek, next_terminal}
use Rattle.rdf_grammar.specs.Readings.{any, choose, is_more, next, one, optional, repeat}
use Rattle.rdf_grammar.specs.declared.tree.Name.{Name}
use Rattle.sparql_terminals.specs.declared.terminal.Terminal.{Terminal}
use Rattle.sparql_terminals.specs.declared.terminal.Terminal.TheVariants as terminal
use Rattle.sparql_grammar.specs.declared.tree.Block.{Block}
use Rattle.sparql_grammar.specs.declared.tree.GraphOrDefault.{GraphOrDefault}
use Rattle.sparql_grammar.specs.declared.tree.GraphOrDefault.TheVariants as place
use Rattle.sparql_grammar.specs.declared.tree.GraphRefAll.{GraphRefAll}
use Rattle.sparql_grammar.specs.declared.tree.GraphRefAll.TheVariants as graphs
use Rattle.sparql_grammar.specs.declared.tree.Group.{Group}
use Rattle.sparql_grammar.specs.declared.tree.Modify.{Modify}
use Rattle.sparql_grammar.specs.declared.tree.Operation.{Operation}
use Rattle.sparql_grammar.specs.declared.tree.Operation.TheVariants as o
use Rattle.sparql_grammar.specs.declared.tree.Part.{Part}
use Rattle.sparql_grammar.specs.declared.tree.Part.TheVariants as p
use Rattle.sparql_grammar.specs.declared.tree.Triples.{Triples}
use Rattle.sparql_grammar.specs.declared.tree.VarOrIri.{VarOrIri}
use Rattle.sparql_terminals.specs.Lexemes.{Lexemes, Reading, sees, the}
use Rattle.sparql_grammar.specs.GroupReading.{group_at}
use Rattle.sparql_grammar.specs.PrologueReading.{declaration, sees_declaration}
use Rattle.sparql_grammar.specs.Reading.{all_of, node, perhaps, sees_node, triples_template, var_or_iri}
use Rattle.sparql_terminals.specs.WordReading.{iri}

abbrev pub block : Option VarOrIri → List Triples → Block
block graph triples = record { graph = graph; triples = triples }

-- the name of WITH, both templates, and what stands behind WHERE
abbrev pub modify_with : Option Name → List Block × List Block → Group → Modify
modify_with name templates group =
    record { with = name; delete = templates.0; insert = templates.1; group = group }

-- a lexeme that stands behind the next: its terminal
abbrev pub second_terminal : Lexemes → Option Terminal
second_terminal ts = next_terminal (next ts)

-- ---- operations on graphs

-- "GRAPH" iri
unfoldable pub graph_ref : Reading Name
graph_ref = the terminal.Graph >> iri

-- GraphRef | "DEFAULT" | "NAMED" | "ALL"
abbrev pub graph_ref_all_by : Option Terminal → Reading GraphRefAll
graph_ref_all_by (Some terminal.Default) = any >> pure graphs.Default
graph_ref_all_by (Some terminal.Named) = any >> pure graphs.Named
graph_ref_all_by (Some terminal.All) = any >> pure graphs.All
graph_ref_all_by _ = graphs.Graph <$> graph_ref

unfoldable pub graph_ref_all : Reading GraphRefAll
graph_ref_all = peek >>= graph_ref_all_by

-- "DEFAULT" | "GRAPH"? iri
abbrev pub graph_or_default_by : Option Terminal → Reading GraphOrDefault
graph_or_default_by (Some terminal.Default) = any >> pure place.Default
graph_or_default_by _ = perhaps terminal.Graph >> place.Graph <$> iri

unfoldable pub graph_or_default : Reading GraphOrDefault
graph_or_default = peek >>= graph_or_default_by

-- "SILENT"? GraphRef
unfoldable pub create : Reading Operation
create = do
  silent ← perhaps terminal.Silent
  graph ← graph_ref
  pure (o.Create silent graph)

-- the operation that acts on these graphs, and that between these two
abbrev pub on_graphs_by : (Bool → GraphRefAll → Operation) → Bool × GraphRefAll → Operation
on_graphs_by operation x = operation x.0 x.1

abbrev pub between_by : (Bool → GraphOrDefault → GraphOrDefault → Operation) → Bool × GraphOrDefault × GraphOrDefault → Operation
between_by operation x = operation x.0 x.1 x.2

-- "SILENT"? GraphRefAll
unfoldable pub on_graphs : Reading (Bool × GraphRefAll)
on_graphs = do
  silent ← perhaps terminal.Silent
  graphs ← graph_ref_all
  pure (silent, graphs)

-- "SILENT"? GraphOrDefault "TO" GraphOrDefault
unfoldable pub between : Reading (Bool × GraphOrDefault × GraphOrDefault)
between = do
  silent ← perhaps terminal.Silent
  from ← graph_or_default
  the terminal.To
  to ← graph_or_default
  pure (silent, from, to)

-- Create | Clear | Drop | Copy | Move | Add
abbrev pub graph_operation_by : Option Terminal → Reading Operation
graph_operation_by (Some terminal.Create) = any >> create
graph_operation_by (Some terminal.Clear) = any >> on_graphs_by o.Clear <$> on_graphs
graph_operation_by (Some terminal.Drop) = any >> on_graphs_by o.Drop <$> on_graphs
graph_operation_by (Some terminal.Copy) = any >> between_by o.Copy <$> between
graph_operation_by (Some terminal.Move) = any >> between_by o.Move <$> between
graph_operation_by (Some terminal.Add) = any >> between_by o.Add <$> between
graph_operation_by _ = none

unfoldable pub graph_operation : Reading Operation
graph_operation = peek >>= graph_operation_by

-- ---- data and templates

module _ (template : Reading (List Triples)) where
  -- TriplesTemplate?
  unfoldable pub triples : Reading (List Triples)
  triples = all_of <$> optional sees_node template

  -- the triples of the default graph: TriplesTemplate?
  unfoldable pub default_block : Reading Block
  default_block = block None <$> triples

  -- "GRAPH" VarOrIri "{" TriplesTemplate? "}"
  unfoldable pub named_block : Reading Block
  named_block = do
    the terminal.Graph
    graph ← var_or_iri
    the terminal.OpenBrace
    triples ← triples
    the terminal.CloseBrace
    pure (block (Some graph) triples)

-- template is the rule for TriplesTemplate inside the braces of data, and inner inside GRAPH's
module _ (template inner : Reading (List Triples)) where
  -- QuadsNotTriples "."? TriplesTemplate?
  unfoldable pub named_and_default : Reading (List Block)
  named_and_default = do
    named ← named_block inner
    perhaps terminal.Dot
    default ← default_block template
    pure (named ∷ default ∷ [])

  -- TriplesTemplate? ( QuadsNotTriples "."? TriplesTemplate? )*
  unfoldable pub quads : Reading (List Block)
  quads = do
    first ← default_block template
    others ← repeat (sees terminal.Graph) named_and_default
    pure (first ∷ others)

  -- "{" Quads "}"
  unfoldable pub quad_pattern : Reading (List Block)
  quad_pattern = do
    the terminal.OpenBrace
    blocks ← quads
    the terminal.CloseBrace
    pure blocks

  -- "INSERT DATA" or "DELETE DATA", and QuadData
  unfoldable pub data_of : Terminal → (List Block → Operation) → Reading Operation
  data_of k operation = do
    the k
    the terminal.Data
    blocks ← quad_pattern
    pure (operation blocks)

  -- "DELETE WHERE" QuadPattern
  unfoldable pub delete_where : Reading Operation
  delete_where = do
    the terminal.Delete
    the terminal.Where
    blocks ← quad_pattern
    pure (o.DeleteWhere blocks)

  -- "DELETE" QuadPattern
  unfoldable pub delete_clause : Reading (List Block)
  delete_clause = the terminal.Delete >> quad_pattern

  -- "INSERT" QuadPattern
  unfoldable pub insert_clause : Reading (List Block)
  insert_clause = the terminal.Insert >> quad_pattern

  -- DeleteClause InsertClause? | InsertClause
  abbrev pub templates_by : Option Terminal → Reading (List Block × List Block)
  templates_by (Some terminal.Delete) = do
    delete ← delete_clause
    insert ← all_of <$> optional (sees terminal.Insert) insert_clause
    pure (delete, insert)
  templates_by _ = do
    insert ← insert_clause
    pure ([], insert)

  unfoldable pub templates : Reading (List Block × List Block)
  templates = peek >>= templates_by

-- and group is the rule for GroupGraphPattern
module _ (template inner : Reading (List Triples)) (group : Reading Group) where
  -- ( "WITH" iri )? ( DeleteClause InsertClause? | InsertClause ) "WHERE" GroupGraphPattern
  unfoldable pub modify : Reading Modify
  modify = do
    with_name ← optional (sees terminal.With) (the terminal.With >> iri)
    templates ← templates template inner
    the terminal.Where
    group ← group
    pure (modify_with with_name templates group)

  -- "INSERT" begins InsertData where "DATA" stands behind it, and Modify elsewhere
  abbrev pub insertion_by : Option Terminal → Reading Operation
  insertion_by (Some terminal.Data) = data_of template inner terminal.Insert o.InsertData
  insertion_by _ = o.Modify <$> modify

  -- "DELETE" begins DeleteData where "DATA" stands behind it, DeleteWhere where "WHERE" does, and Modify elsewhere
  abbrev pub deletion_by : Option Terminal → Reading Operation
  deletion_by (Some terminal.Data) = data_of template inner terminal.Delete o.DeleteData
  deletion_by (Some terminal.Where) = delete_where template inner
  deletion_by _ = o.Modify <$> modify

  abbrev pub operation_by : Option Terminal → Reading Operation
  operation_by (Some terminal.Insert) = λ ts. insertion_by (second_terminal ts) ts
  operation_by (Some terminal.Delete) = λ ts. deletion_by (second_terminal ts) ts
  operation_by (Some terminal.With) = o.Modify <$> modify
  operation_by _ = graph_operation

  unfoldable pub operation : Reading Operation
  operation = peek >>= operation_by

  -- Update1, and ";" or the end behind it
  unfoldable pub ended_operation : Reading Part
  ended_operation = do
    operation ← operation
    choose is_more (the terminal.Semicolon) (pure tt)
    pure (p.Operation operation)

  -- BaseDecl | PrefixDecl | Update1 ( ";" | the end )
  unfoldable pub part : Reading Part
  part = choose sees_declaration (p.Declaration <$> declaration) ended_operation

  -- Update, up to the last lexeme
  unfoldable pub update : Reading (List Part)
  update = repeat is_more (one part)

-- The number is how many brackets may be open from GRAPH's braces on, and in the braces of a group.
unfoldable pub request : ℕ → Reading (List Part)
request depth = update (triples_template (node (suc depth))) (triples_template (node depth)) (group_at depth)

-- At most 100 brackets are open at once: triples in GRAPH's braces, which stand in other braces.
abbrev pub in_graph : Reading (List Triples)
in_graph = triples_template (node 99)
