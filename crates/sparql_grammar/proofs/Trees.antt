-- Functions of trees, by what the tree is, and which nodes stand alone.
use Rattle.std.proofs.Common.{◌≡◌, Bool, true, false, List, [], ◌∷◌, map, refl, sym, ◌∙◌, ap}
use Rattle.rdf_grammar.specs.declared.tree.Literal.{Literal}
use Rattle.rdf_grammar.specs.declared.tree.Name.{Name}
use Rattle.rdf_grammar.specs.Terminals.{Slice}
use Rattle.sparql_grammar.specs.declared.tree.Node.{Node}
use Rattle.sparql_grammar.specs.declared.tree.Node.TheVariants as n
use Rattle.sparql_grammar.specs.declared.tree.Node.TheOpen.{Node-F, Property-F}
use Rattle.sparql_grammar.specs.declared.tree.Node.TheFolds.{fold-Node, fold-Property, fold-roll-Node, fold-roll-Property}
use Rattle.sparql_grammar.specs.declared.tree.Property.{Property}
use Rattle.sparql_grammar.specs.declared.tree.Verb.{Verb}
use Rattle.sparql_grammar.specs.Proper.{is_filled, stands_alone, stands_alone_of}
use Rattle.sparql_grammar.specs.Reading.{property_with}

module _ {A B : Type 0} (f : Node-F A B → A) (h : Property-F A B → B) where
  pub by-Variable : (name : Slice) → fold-Node A B f h (n.Variable name) ≡ f (Node-F.Variable name)
  by-Variable name = ap (fold-Node A B f h) (sym (n.rolls-Variable name)) ∙ fold-roll-Node A B f h (Node-F.Variable name)

  pub by-Name : (name : Name) → fold-Node A B f h (n.Name name) ≡ f (Node-F.Name name)
  by-Name name = ap (fold-Node A B f h) (sym (n.rolls-Name name)) ∙ fold-roll-Node A B f h (Node-F.Name name)

  pub by-Literal : (literal : Literal) → fold-Node A B f h (n.Literal literal) ≡ f (Node-F.Literal literal)
  by-Literal literal = ap (fold-Node A B f h) (sym (n.rolls-Literal literal)) ∙ fold-roll-Node A B f h (Node-F.Literal literal)

  pub by-Label : (label : Slice) → fold-Node A B f h (n.Label label) ≡ f (Node-F.Label label)
  by-Label label = ap (fold-Node A B f h) (sym (n.rolls-Label label)) ∙ fold-roll-Node A B f h (Node-F.Label label)

  pub by-Blank : (bracket : Slice) (ps : List Property) → fold-Node A B f h (n.Blank bracket ps) ≡ f (Node-F.Blank bracket (map (fold-Property A B f h) ps))
  by-Blank bracket ps = ap (fold-Node A B f h) (sym (n.rolls-Blank bracket ps)) ∙ fold-roll-Node A B f h (Node-F.Blank bracket ps)

  pub by-Collection : (bracket : Slice) (xs : List Node) → fold-Node A B f h (n.Collection bracket xs) ≡ f (Node-F.Collection bracket (map (fold-Node A B f h) xs))
  by-Collection bracket xs = ap (fold-Node A B f h) (sym (n.rolls-Collection bracket xs)) ∙ fold-roll-Node A B f h (Node-F.Collection bracket xs)

  pub by-property : (verb : Verb) (objects : List Node) → fold-Property A B f h (property_with verb objects) ≡ h (record { verb = verb; objects = map (fold-Node A B f h) objects })
  by-property verb objects = fold-roll-Property A B f h (record { verb = verb; objects = objects })

-- ---- which nodes stand alone

pub filled_map : {A B : Type 0} (f : A → B) (xs : List A) → is_filled (map f xs) ≡ is_filled xs
filled_map f [] = refl
filled_map f (x ∷ xs) = refl

pub alone_variable : (name : Slice) → stands_alone (n.Variable name) ≡ false
alone_variable name = by-Variable stands_alone_of (λ _. true) name

pub alone_name : (name : Name) → stands_alone (n.Name name) ≡ false
alone_name name = by-Name stands_alone_of (λ _. true) name

pub alone_literal : (literal : Literal) → stands_alone (n.Literal literal) ≡ false
alone_literal literal = by-Literal stands_alone_of (λ _. true) literal

pub alone_label : (label : Slice) → stands_alone (n.Label label) ≡ false
alone_label label = by-Label stands_alone_of (λ _. true) label

pub alone_blank : (bracket : Slice) (ps : List Property) → stands_alone (n.Blank bracket ps) ≡ is_filled ps
alone_blank bracket ps = by-Blank stands_alone_of (λ _. true) bracket ps ∙ filled_map (fold-Property Bool Bool stands_alone_of (λ _. true)) ps

pub alone_collection : (bracket : Slice) (xs : List Node) → stands_alone (n.Collection bracket xs) ≡ is_filled xs
alone_collection bracket xs = by-Collection stands_alone_of (λ _. true) bracket xs ∙ filled_map stands_alone xs
