-- Prefixes are declared before they are used.
use Rattle.std.specs.Prelude.{ℕ, Bool, true, false, ◌&&◌, List, [], ◌∷◌, map, Option, Some, None, if◌then◌else◌}
use Rattle.std.specs.List.{list_all}
use Rattle.rdf_grammar.specs.Prologue.{knows}
use Rattle.rdf_grammar.specs.declared.tree.Name.{Name}
use Rattle.sparql_grammar.specs.Proper.{holds}
use Rattle.sparql_grammar.specs.declared.tree.Block.{Block}
use Rattle.sparql_grammar.specs.declared.tree.GraphOrDefault.{GraphOrDefault}
use Rattle.sparql_grammar.specs.declared.tree.GraphOrDefault.TheVariants as one
use Rattle.sparql_grammar.specs.declared.tree.GraphRefAll.{GraphRefAll}
use Rattle.sparql_grammar.specs.declared.tree.GraphRefAll.TheVariants as some
use Rattle.sparql_grammar.specs.declared.tree.Modify.{Modify}
use Rattle.sparql_grammar.specs.declared.tree.Operation.{Operation}
use Rattle.sparql_grammar.specs.declared.tree.Operation.TheVariants as o
use Rattle.sparql_grammar.specs.declared.tree.Part.{Part}
use Rattle.sparql_grammar.specs.declared.tree.Part.TheVariants as p
use Rattle.sparql_drafts.specs.Known as drafts
use Rattle.sparql_drafts.specs.Known.{known_block}
use Rattle.sparql_queries.specs.Known.{known_group}

-- each prefix that stands in the tree is one of these
module _ (declared : List (List ℕ)) where
  abbrev pub known_graph_ref_all : GraphRefAll → Bool
  known_graph_ref_all (some.Graph name) = knows declared name
  known_graph_ref_all _ = true

  abbrev pub known_graph_or_default : GraphOrDefault → Bool
  known_graph_or_default one.Default = true
  known_graph_or_default (one.Graph name) = knows declared name

  abbrev pub known_blocks : List Block → Bool
  known_blocks blocks = list_all holds (map (known_block declared) blocks)

  -- what WITH names
  abbrev pub known_with : Option Name → Bool
  known_with None = true
  known_with (Some name) = knows declared name

  abbrev pub known_modify : Modify → Bool
  known_modify m = known_with m.with && (known_blocks m.delete && (known_blocks m.insert && known_group declared m.group))

  unfoldable pub known_operation : Operation → Bool
  known_operation (o.InsertData blocks) = known_blocks blocks
  known_operation (o.DeleteData blocks) = known_blocks blocks
  known_operation (o.DeleteWhere blocks) = known_blocks blocks
  known_operation (o.Modify m) = known_modify m
  known_operation (o.Create silent graph) = knows declared graph
  known_operation (o.Clear silent graphs) = known_graph_ref_all graphs
  known_operation (o.Drop silent graphs) = known_graph_ref_all graphs
  known_operation (o.Copy silent from to) = known_graph_or_default from && known_graph_or_default to
  known_operation (o.Move silent from to) = known_graph_or_default from && known_graph_or_default to
  known_operation (o.Add silent from to) = known_graph_or_default from && known_graph_or_default to

  abbrev pub known_part : Part → Bool
  known_part (p.Operation operation) = known_operation operation
  known_part _ = true

-- the prefixes behind a part
abbrev pub declared_behind : List (List ℕ) → Part → List (List ℕ)
declared_behind declared (p.Declaration declaration) = drafts.declared_behind declared declaration
declared_behind declared (p.Operation operation) = declared

-- each part uses only prefixes that stand in the list or are declared before it
abbrev pub declares_first : List (List ℕ) → List Part → Bool
declares_first declared [] = true
declares_first declared (p ∷ ps) = if known_part declared p then declares_first (declared_behind declared p) ps else false
