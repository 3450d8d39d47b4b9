-- Requests as they are written (SPARQL 1.1 Query, section 19.8, by the numbers of its rules), with no look at the next lexeme.
use Rattle.std.specs.Prelude.{ℕ, suc, Bool, List, [], ◌∷◌, ◌++◌, map, Some, None}
use Rattle.rdf_grammar.specs.Derivations.{◌>>=◌, ◌>>◌, ◌<$>◌, ◌∣◌, pure, the, maybe, Star}
use Rattle.rdf_grammar.specs.declared.tree.Name.{Name}
use Rattle.sparql_terminals.specs.declared.terminal.Terminal.{Terminal}
use Rattle.sparql_terminals.specs.declared.terminal.Terminal.TheVariants as terminal
use Rattle.sparql_grammar.specs.declared.tree.Block.{Block}
use Rattle.sparql_grammar.specs.declared.tree.Declaration.{Declaration}
use Rattle.sparql_grammar.specs.declared.tree.GraphOrDefault.{GraphOrDefault}
use Rattle.sparql_grammar.specs.declared.tree.GraphOrDefault.TheVariants as place
use Rattle.sparql_grammar.specs.declared.tree.GraphRefAll.{GraphRefAll}
use Rattle.sparql_grammar.specs.declared.tree.GraphRefAll.TheVariants as graphs
use Rattle.sparql_grammar.specs.declared.tree.Group.{Group}
use Rattle.sparql_grammar.specs.declared.tree.Modify.{Modify}
use Rattle.sparql_grammar.specs.declared.tree.Operation.{Operation}
use Rattle.sparql_grammar.specs.declared.tree.Operation.TheVariants as o
use Rattle.sparql_grammar.specs.declared.tree.Part.{Part}
use Rattle.sparql_grammar.specs.declared.tree.Part.TheVariants as p
use Rattle.sparql_grammar.specs.declared.tree.Triples.{Triples}
use Rattle.sparql_terminals.specs.Lexemes.{Lexemes, Derives}
use Rattle.sparql_grammar.specs.Grammar.{AVarOrIri, Nodes_at, Perhaps, TriplesTemplate}
use Rattle.sparql_grammar.specs.GroupGrammar.{GroupAt}
use Rattle.sparql_grammar.specs.OperationReading.{between_by, block, modify_with, on_graphs_by}
use Rattle.sparql_grammar.specs.PrologueGrammar.{Prologue}
use Rattle.sparql_grammar.specs.Reading.{all_of}
use Rattle.sparql_terminals.specs.WordGrammar.{Iri}

-- ---- operations on graphs

-- 46: GraphRef = "GRAPH" iri
abbrev pub GraphRef : Derives Name
GraphRef = the terminal.Graph >> Iri

-- 47: GraphRefAll = GraphRef | "DEFAULT" | "NAMED" | "ALL"
abbrev pub AGraphRefAll : Derives GraphRefAll
AGraphRefAll =
    (graphs.Graph <$> GraphRef) ∣ (the terminal.Default >> pure graphs.Default)
    ∣ (the terminal.Named >> pure graphs.Named) ∣ (the terminal.All >> pure graphs.All)

-- 45: GraphOrDefault = "DEFAULT" | "GRAPH"? iri
abbrev pub AGraphOrDefault : Derives GraphOrDefault
AGraphOrDefault = (the terminal.Default >> pure place.Default) ∣ (Perhaps terminal.Graph >> place.Graph <$> Iri)

-- 34: Create = "CREATE" "SILENT"? GraphRef
abbrev pub Create : Derives Operation
Create = do
  the terminal.Create
  silent ← Perhaps terminal.Silent
  graph ← GraphRef
  pure (o.Create silent graph)

-- "SILENT"? GraphRefAll
abbrev pub OnGraphs : Derives (Bool × GraphRefAll)
OnGraphs = do
  silent ← Perhaps terminal.Silent
  graphs ← AGraphRefAll
  pure (silent, graphs)

-- 32: Clear = "CLEAR" "SILENT"? GraphRefAll
abbrev pub Clear : Derives Operation
Clear = the terminal.Clear >> on_graphs_by o.Clear <$> OnGraphs

-- 33: Drop = "DROP" "SILENT"? GraphRefAll
abbrev pub Drop : Derives Operation
Drop = the terminal.Drop >> on_graphs_by o.Drop <$> OnGraphs

-- "SILENT"? GraphOrDefault "TO" GraphOrDefault
abbrev pub Between : Derives (Bool × GraphOrDefault × GraphOrDefault)
Between = do
  silent ← Perhaps terminal.Silent
  from ← AGraphOrDefault
  the terminal.To
  to ← AGraphOrDefault
  pure (silent, from, to)

-- 35: Add = "ADD" "SILENT"? GraphOrDefault "TO" GraphOrDefault
abbrev pub Add : Derives Operation
Add = the terminal.Add >> between_by o.Add <$> Between

-- 36: Move = "MOVE" "SILENT"? GraphOrDefault "TO" GraphOrDefault
abbrev pub Move : Derives Operation
Move = the terminal.Move >> between_by o.Move <$> Between

-- 37: Copy = "COPY" "SILENT"? GraphOrDefault "TO" GraphOrDefault
abbrev pub Copy : Derives Operation
Copy = the terminal.Copy >> between_by o.Copy <$> Between

-- those of rule 30 that act on whole graphs
abbrev pub GraphOperation : Derives Operation
GraphOperation = Clear ∣ Drop ∣ Add ∣ Move ∣ Copy ∣ Create

-- ---- data and templates

module _ (template : Derives (List Triples)) where
  -- TriplesTemplate?
  abbrev pub MaybeTriples : Derives (List Triples)
  MaybeTriples = all_of <$> maybe template

  -- the triples of the default graph: TriplesTemplate?
  abbrev pub DefaultBlock : Derives Block
  DefaultBlock = block None <$> MaybeTriples

  -- 51: QuadsNotTriples = "GRAPH" VarOrIri "{" TriplesTemplate? "}"
  abbrev pub QuadsNotTriples : Derives Block
  QuadsNotTriples = do
    the terminal.Graph
    graph ← AVarOrIri
    the terminal.OpenBrace
    triples ← MaybeTriples
    the terminal.CloseBrace
    pure (block (Some graph) triples)

-- template is the grammar of TriplesTemplate inside the braces of data, and inner inside GRAPH's
module _ (template inner : Derives (List Triples)) where
  -- QuadsNotTriples "."? TriplesTemplate?
  abbrev pub NamedAndDefault : Derives (List Block)
  NamedAndDefault = do
    named ← QuadsNotTriples inner
    Perhaps terminal.Dot
    default ← DefaultBlock template
    pure (named ∷ default ∷ [])

  -- 50: Quads = TriplesTemplate? ( QuadsNotTriples "."? TriplesTemplate? )*
  abbrev pub Quads : Derives (List Block)
  Quads = do
    first ← DefaultBlock template
    others ← Star NamedAndDefault
    pure (first ∷ others)

  -- 48: QuadPattern = "{" Quads "}"
  abbrev pub QuadPattern : Derives (List Block)
  QuadPattern = do
    the terminal.OpenBrace
    blocks ← Quads
    the terminal.CloseBrace
    pure blocks

  -- 38: InsertData = "INSERT DATA" QuadData, 39: DeleteData = "DELETE DATA" QuadData, and 49: QuadData = "{" Quads "}"
  abbrev pub DataOf : Terminal → (List Block → Operation) → Derives Operation
  DataOf k operation = do
    the k
    the terminal.Data
    blocks ← QuadPattern
    pure (operation blocks)

  -- 40: DeleteWhere = "DELETE WHERE" QuadPattern
  abbrev pub DeleteWhere : Derives Operation
  DeleteWhere = do
    the terminal.Delete
    the terminal.Where
    blocks ← QuadPattern
    pure (o.DeleteWhere blocks)

  -- 42: DeleteClause = "DELETE" QuadPattern
  abbrev pub DeleteClause : Derives (List Block)
  DeleteClause = the terminal.Delete >> QuadPattern

  -- 43: InsertClause = "INSERT" QuadPattern
  abbrev pub InsertClause : Derives (List Block)
  InsertClause = the terminal.Insert >> QuadPattern

  -- DeleteClause InsertClause?
  abbrev pub DeleteAndInsert : Derives (List Block × List Block)
  DeleteAndInsert = do
    delete ← DeleteClause
    insert ← all_of <$> maybe InsertClause
    pure (delete, insert)

  -- InsertClause, where nothing is deleted
  abbrev pub InsertAlone : Derives (List Block × List Block)
  InsertAlone = do
    insert ← InsertClause
    pure ([], insert)

-- and Group' is the grammar of GroupGraphPattern
module _ (template inner : Derives (List Triples)) (Group' : Derives Group) where
  -- 41: Modify = ( "WITH" iri )? ( DeleteClause InsertClause? | InsertClause ) UsingClause* "WHERE" GroupGraphPattern; USING is left out
  abbrev pub AModify : Derives Modify
  AModify = do
    with_name ← maybe (the terminal.With >> Iri)
    templates ← DeleteAndInsert template inner ∣ InsertAlone template inner
    the terminal.Where
    group ← Group'
    pure (modify_with with_name templates group)

  -- 30: Update1 = Load | Clear | Drop | Add | Move | Copy | Create | InsertData | DeleteData | DeleteWhere | Modify; LOAD is left out
  abbrev pub Update1 : Derives Operation
  Update1 =
      GraphOperation ∣ DataOf template inner terminal.Insert o.InsertData ∣ DataOf template inner terminal.Delete o.DeleteData
      ∣ DeleteWhere template inner ∣ (o.Modify <$> AModify)

-- 29: Update = Prologue ( Update1 ( ";" Update )? )?
pub data Update (Operation' : Derives Operation) : Lexemes → List Part → Lexemes → Type 0 where
  declared : {ts us : Lexemes} {prologue : List Declaration} → Prologue ts prologue us → Update Operation' ts (map p.Declaration prologue) us
  last : {ts mid us : Lexemes} {prologue : List Declaration} {operation : Operation}
      → Prologue ts prologue mid → Operation' mid operation us → Update Operation' ts (map p.Declaration prologue ++ p.Operation operation ∷ []) us
  more : {ts mid behind next us : Lexemes} {prologue : List Declaration} {others : List Part} {operation : Operation}
      → Prologue ts prologue mid → Operation' mid operation behind → the terminal.Semicolon behind tt next → Update Operation' next others us
      → Update Operation' ts (map p.Declaration prologue ++ p.Operation operation ∷ others) us

-- All of the lexemes are this request. Its brackets may nest as deep as they do.
abbrev pub IsRequest : Lexemes → List Part → Type 0
IsRequest ts parts =
    (depth : ℕ) × Update (Update1 (TriplesTemplate (Nodes_at (suc depth))) (TriplesTemplate (Nodes_at depth)) (GroupAt (suc depth))) ts parts []
