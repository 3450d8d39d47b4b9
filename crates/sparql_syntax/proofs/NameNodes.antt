-- Triples, and the names that their lexemes carry.
use Rattle.std.proofs.Common.{◌≡◌, ◌∙◌, ap, refl, sym, Bool, true, ◌&&◌, List, map}
use Rattle.std.specs.List.{list_all}
use Rattle.rdf_grammar.specs.Holds.{holds}
use Rattle.rdf_grammar.specs.Terminals.{Slice}
use Rattle.rdf_grammar.specs.declared.tree.Literal.{Literal}
use Rattle.rdf_grammar.specs.declared.tree.Name.{Name}
use Rattle.sparql_terminals.specs.declared.terminal.Terminal.TheVariants as terminal
use Rattle.sparql_grammar.specs.declared.tree.Node.{Node}
use Rattle.sparql_grammar.specs.declared.tree.Node.TheVariants as n
use Rattle.sparql_grammar.specs.declared.tree.Node.TheOpen.{Node-F, Property-F}
use Rattle.sparql_grammar.specs.declared.tree.Node.TheFolds.{fold-Node, fold-Property, fold-roll-Node, fold-roll-Property}
use Rattle.sparql_grammar.specs.declared.tree.Property.{Property}
use Rattle.sparql_grammar.specs.declared.tree.Triples.{Triples}
use Rattle.sparql_grammar.specs.declared.tree.VarOrIri.{VarOrIri}
use Rattle.sparql_grammar.specs.declared.tree.VarOrIri.TheVariants as i
use Rattle.sparql_grammar.specs.declared.tree.Verb.{Verb}
use Rattle.sparql_grammar.specs.declared.tree.Verb.TheVariants as v
use Rattle.sparql_grammar.specs.Grammar as g
use Rattle.sparql_grammar.specs.Reading as read
use Rattle.sparql_syntax.proofs.NameFronts.{Ask, Value, Gives, start, or_gives, map_gives, sign_gives}
use Rattle.sparql_syntax.proofs.NameWords.{each_literal, name_value, iri_gives}

-- of each name in triples
module _ (q : Ask) where
  abbrev pub each_verb : Verb → Bool
  each_verb (v.Variable name) = true
  each_verb (v.Name name) = q.name name
  each_verb v.Type = true

  abbrev pub each_property_of : Property-F Bool Bool → Bool
  each_property_of p = each_verb p.verb && list_all holds p.objects

  abbrev pub each_node_of : Node-F Bool Bool → Bool
  each_node_of (Node-F.Variable name) = true
  each_node_of (Node-F.Name name) = q.name name
  each_node_of (Node-F.Literal l) = each_literal q l
  each_node_of (Node-F.Label label) = true
  each_node_of (Node-F.Blank bracket properties) = list_all holds properties
  each_node_of (Node-F.Collection bracket items) = list_all holds items

  abbrev pub each_node : Node → Bool
  each_node = fold-Node Bool Bool each_node_of each_property_of

  abbrev pub each_property : Property → Bool
  each_property = fold-Property Bool Bool each_node_of each_property_of

  abbrev pub each_triples : Triples → Bool
  each_triples t = each_node t.subject && list_all holds (map each_property t.properties)

  abbrev pub each_var_or_iri : VarOrIri → Bool
  each_var_or_iri (i.Variable name) = true
  each_var_or_iri (i.Name name) = q.name name

-- ---- nodes by what they are

module _ {A B : Type 0} (f : Node-F A B → A) (h : Property-F A B → B) where
  pub by-Variable : (name : Slice) → fold-Node A B f h (n.Variable name) ≡ f (Node-F.Variable name)
  by-Variable name = ap (fold-Node A B f h) (sym (n.rolls-Variable name)) ∙ fold-roll-Node A B f h (Node-F.Variable name)

  pub by-Name : (name : Name) → fold-Node A B f h (n.Name name) ≡ f (Node-F.Name name)
  by-Name name = ap (fold-Node A B f h) (sym (n.rolls-Name name)) ∙ fold-roll-Node A B f h (Node-F.Name name)

  pub by-Literal : (literal : Literal) → fold-Node A B f h (n.Literal literal) ≡ f (Node-F.Literal literal)
  by-Literal literal = ap (fold-Node A B f h) (sym (n.rolls-Literal literal)) ∙ fold-roll-Node A B f h (Node-F.Literal literal)

  pub by-Label : (label : Slice) → fold-Node A B f h (n.Label label) ≡ f (Node-F.Label label)
  by-Label label = ap (fold-Node A B f h) (sym (n.rolls-Label label)) ∙ fold-roll-Node A B f h (Node-F.Label label)

  pub by-Blank : (bracket : Slice) (ps : List Property) → fold-Node A B f h (n.Blank bracket ps) ≡ f (Node-F.Blank bracket (map (fold-Property A B f h) ps))
  by-Blank bracket ps = ap (fold-Node A B f h) (sym (n.rolls-Blank bracket ps)) ∙ fold-roll-Node A B f h (Node-F.Blank bracket ps)

  pub by-Collection : (bracket : Slice) (xs : List Node) → fold-Node A B f h (n.Collection bracket xs) ≡ f (Node-F.Collection bracket (map (fold-Node A B f h) xs))
  by-Collection bracket xs = ap (fold-Node A B f h) (sym (n.rolls-Collection bracket xs)) ∙ fold-roll-Node A B f h (Node-F.Collection bracket xs)

  pub by-property : (verb : Verb) (objects : List Node) → fold-Property A B f h (read.property_with verb objects) ≡ h (record { verb = verb; objects = map (fold-Node A B f h) objects })
  by-property verb objects = fold-roll-Property A B f h (record { verb = verb; objects = objects })

abbrev pub triples_value : Triples → Value
triples_value x q = each_triples q x

abbrev pub place_value : VarOrIri → Value
place_value x q = each_var_or_iri q x

-- ---- names

variables_give : Gives start g.Var (λ _. start)
variables_give = sign_gives terminal.Variable start (refl, λ q text. refl)

pub place_gives : Gives start g.AVarOrIri place_value
place_gives = or_gives _ _ start place_value (map_gives i.Variable _ start (λ _. start) place_value variables_give (λ a q. refl)) (map_gives i.Name _ start name_value place_value iri_gives (λ a q. refl))
