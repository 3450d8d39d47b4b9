-- What each tree of the grammar is: its names and tags are whole, each verb has an object, and triples have properties (SPARQL 1.1
-- Query, section 19.8).
use Rattle.std.specs.Prelude.{Bool, true, false, ◌&&◌, ◌||◌, List, [], ◌∷◌, map, Option, Some, None}
use Rattle.std.specs.List.{list_all}
pub use Rattle.rdf_grammar.specs.Holds.{holds}
use Rattle.rdf_grammar.specs.Literals.{proper_literal}
use Rattle.rdf_grammar.specs.declared.tree.Name.{Name}
use Rattle.rdf_grammar.specs.Prologue.{is_proper}
use Rattle.sparql_expressions.specs.ProperExpressions.{proper_expression}
use Rattle.sparql_grammar.specs.declared.tree.Block.{Block}
use Rattle.sparql_grammar.specs.declared.tree.Columns.{Columns}
use Rattle.sparql_grammar.specs.declared.tree.Columns.TheVariants as c
use Rattle.sparql_grammar.specs.declared.tree.GraphOrDefault.{GraphOrDefault}
use Rattle.sparql_grammar.specs.declared.tree.GraphOrDefault.TheVariants as one
use Rattle.sparql_grammar.specs.declared.tree.GraphRefAll.{GraphRefAll}
use Rattle.sparql_grammar.specs.declared.tree.GraphRefAll.TheVariants as some
use Rattle.sparql_grammar.specs.declared.tree.Group.{Group}
use Rattle.sparql_grammar.specs.declared.tree.Member.{Member}
use Rattle.sparql_grammar.specs.declared.tree.Member.TheOpen.{Group-F, Member-F}
use Rattle.sparql_grammar.specs.declared.tree.Member.TheFolds.{fold-Group, fold-Member}
use Rattle.sparql_grammar.specs.declared.tree.Modify.{Modify}
use Rattle.sparql_grammar.specs.declared.tree.Node.{Node}
use Rattle.sparql_grammar.specs.declared.tree.Node.TheOpen.{Node-F, Property-F}
use Rattle.sparql_grammar.specs.declared.tree.Node.TheFolds.{fold-Node, fold-Property}
use Rattle.sparql_grammar.specs.declared.tree.Operation.{Operation}
use Rattle.sparql_grammar.specs.declared.tree.Operation.TheVariants as o
use Rattle.sparql_grammar.specs.declared.tree.Part.{Part}
use Rattle.sparql_grammar.specs.declared.tree.Part.TheVariants as p
use Rattle.sparql_grammar.specs.declared.tree.Property.{Property}
use Rattle.sparql_grammar.specs.declared.tree.Query.{Query}
use Rattle.sparql_grammar.specs.declared.tree.QueryForm.{QueryForm}
use Rattle.sparql_grammar.specs.declared.tree.QueryForm.TheVariants as form
use Rattle.sparql_grammar.specs.declared.tree.Triples.{Triples}
use Rattle.sparql_grammar.specs.declared.tree.VarOrIri.{VarOrIri}
use Rattle.sparql_grammar.specs.declared.tree.VarOrIri.TheVariants as place
use Rattle.sparql_grammar.specs.declared.tree.Verb.{Verb}
use Rattle.sparql_grammar.specs.declared.tree.Verb.TheVariants as v

abbrev pub is_filled : {A : Type 0} → List A → Bool
is_filled [] = false
is_filled (x ∷ xs) = true

abbrev pub proper_verb : Verb → Bool
proper_verb (v.Variable name) = true
proper_verb (v.Name name) = is_proper name
proper_verb v.Type = true

-- a verb has one object or more
abbrev pub proper_property_of : Property-F Bool Bool → Bool
proper_property_of p = proper_verb p.verb && (is_filled p.objects && list_all holds p.objects)

abbrev pub proper_node_of : Node-F Bool Bool → Bool
proper_node_of (Node-F.Variable name) = true
proper_node_of (Node-F.Name name) = is_proper name
proper_node_of (Node-F.Literal l) = proper_literal l
proper_node_of (Node-F.Label label) = true
proper_node_of (Node-F.Blank bracket properties) = list_all holds properties
proper_node_of (Node-F.Collection bracket items) = list_all holds items

abbrev pub proper_node : Node → Bool
proper_node = fold-Node Bool Bool proper_node_of proper_property_of

abbrev pub proper_property : Property → Bool
proper_property = fold-Property Bool Bool proper_node_of proper_property_of

-- brackets with properties, or a list with elements: a node that says triples by itself (98: TriplesNode)
abbrev pub stands_alone_of : Node-F Bool Bool → Bool
stands_alone_of (Node-F.Blank bracket properties) = is_filled properties
stands_alone_of (Node-F.Collection bracket items) = is_filled items
stands_alone_of _ = false

abbrev pub stands_alone : Node → Bool
stands_alone = fold-Node Bool Bool stands_alone_of (λ _. true)

-- a subject has properties, behind it or inside
abbrev pub proper_triples : Triples → Bool
proper_triples t =
    proper_node t.subject && (list_all holds (map proper_property t.properties) && (stands_alone t.subject || is_filled t.properties))

abbrev pub proper_var_or_iri : VarOrIri → Bool
proper_var_or_iri (place.Variable name) = true
proper_var_or_iri (place.Name name) = is_proper name

abbrev pub proper_graph : Option VarOrIri → Bool
proper_graph None = true
proper_graph (Some graph) = proper_var_or_iri graph

abbrev pub proper_block : Block → Bool
proper_block b = proper_graph b.graph && list_all holds (map proper_triples b.triples)

abbrev pub proper_graph_ref_all : GraphRefAll → Bool
proper_graph_ref_all (some.Graph name) = is_proper name
proper_graph_ref_all _ = true

abbrev pub proper_graph_or_default : GraphOrDefault → Bool
proper_graph_or_default one.Default = true
proper_graph_or_default (one.Graph name) = is_proper name

-- ---- groups

-- triples that stand together are one or more, and so are groups with UNION between them
abbrev pub proper_member_of : Member-F Bool Bool → Bool
proper_member_of (Member-F.Triples triples) = is_filled triples && list_all holds (map proper_triples triples)
proper_member_of (Member-F.Union groups) = is_filled groups && list_all holds groups
proper_member_of (Member-F.Optional group) = group
proper_member_of (Member-F.Graph graph group) = proper_var_or_iri graph && group
proper_member_of (Member-F.Minus group) = group

abbrev pub proper_group_of : Group-F Bool Bool → Bool
proper_group_of g = list_all holds g.members && list_all proper_expression g.filters

abbrev pub proper_group : Group → Bool
proper_group = fold-Group Bool Bool proper_member_of proper_group_of

abbrev pub proper_member : Member → Bool
proper_member = fold-Member Bool Bool proper_member_of proper_group_of

-- ---- operations

abbrev pub proper_blocks : List Block → Bool
proper_blocks blocks = list_all holds (map proper_block blocks)

abbrev pub proper_graph_name : Option Name → Bool
proper_graph_name None = true
proper_graph_name (Some name) = is_proper name

-- the name of WITH, both templates and the group
abbrev pub proper_modify : Modify → Bool
proper_modify m =
    proper_graph_name m.with && (proper_blocks m.delete && (proper_blocks m.insert && proper_group m.group))

unfoldable pub proper_operation : Operation → Bool
proper_operation (o.InsertData blocks) = proper_blocks blocks
proper_operation (o.DeleteData blocks) = proper_blocks blocks
proper_operation (o.DeleteWhere blocks) = proper_blocks blocks
proper_operation (o.Modify m) = proper_modify m
proper_operation (o.Create silent graph) = is_proper graph
proper_operation (o.Clear silent graphs) = proper_graph_ref_all graphs
proper_operation (o.Drop silent graphs) = proper_graph_ref_all graphs
proper_operation (o.Copy silent from to) = proper_graph_or_default from && proper_graph_or_default to
proper_operation (o.Move silent from to) = proper_graph_or_default from && proper_graph_or_default to
proper_operation (o.Add silent from to) = proper_graph_or_default from && proper_graph_or_default to

abbrev pub proper_part : Part → Bool
proper_part (p.Operation operation) = proper_operation operation
proper_part _ = true

-- ---- queries

-- SELECT names a variable, or all
abbrev pub proper_columns : Columns → Bool
proper_columns c.All = true
proper_columns (c.Variables names) = is_filled names

abbrev pub proper_form : QueryForm → Bool
proper_form (form.Select distinct columns group) = proper_columns columns && proper_group group
proper_form (form.Ask group) = proper_group group

abbrev pub proper_query : Query → Bool
proper_query q = proper_form q.form
