-- Where no more than so many brackets are open at once, no triples nest deeper.
use Rattle.std.proofs.Common.{◌≡◌, ℕ, zero, suc, ◌+◌, ◌-◌, ◌≤◌, [], ◌∷◌, refl, arith}
use Rattle.std.specs.Prelude.{is_some, option_to_list}
use Rattle.rdf_grammar.specs.Derivations as grammar
use Rattle.rdf_grammar.proofs.CallerLemmas.{Keeps, then_keeps, pure_keeps, or_keeps, the_keeps, map_keeps, behind_keeps, word_keeps, leaf_keeps, maybe_keeps, star_keeps, one_keeps}
use Rattle.rdf_grammar.proofs.CallerLemmas as shared
use Rattle.sparql_terminals.specs.declared.terminal.Terminal.{Terminal}
use Rattle.sparql_terminals.specs.declared.terminal.Terminal.TheVariants as terminal
use Rattle.sparql_grammar.specs.declared.tree.Node.{Node}
use Rattle.sparql_grammar.specs.declared.tree.Node.TheVariants as n
use Rattle.sparql_grammar.specs.declared.tree.VarOrIri.TheVariants as i
use Rattle.sparql_grammar.specs.declared.tree.Verb.TheVariants as v
use Rattle.sparql_terminals.specs.Lexemes.{Derives}
use Rattle.sparql_terminals.specs.Terminals.{bracket, word}
use Rattle.sparql_grammar.specs.Reading as read
use Rattle.sparql_terminals.specs.WordGrammar.{Iri, ALiteral}
use Rattle.sparql_grammar.specs.Grammar as g
use Rattle.sparql_terminals.proofs.CallerLemmas.{plain, kept, keeps, then_shifts, value_shifts, closed}

module _ (limit b : ℕ) where
  pub perhaps_keeps : (k : Terminal) → Keeps bracket limit b (grammar.the k) (grammar.the k) → Keeps bracket limit b (g.Perhaps k) (g.Perhaps k)
  perhaps_keeps k p = map_keeps bracket limit b is_some _ _ (maybe_keeps bracket limit b _ _ p)

  pub iri_keeps : Keeps bracket limit b Iri Iri
  iri_keeps = shared.iri_keeps word bracket plain limit b

  pub var_or_iri_keeps : Keeps bracket limit b g.AVarOrIri g.AVarOrIri
  var_or_iri_keeps = or_keeps bracket limit b _ _ _ _ (leaf_keeps bracket limit b i.Variable terminal.Variable refl) (map_keeps bracket limit b i.Name _ _ iri_keeps)

  verb_keeps : Keeps bracket limit b g.AVerb g.AVerb
  verb_keeps = or_keeps bracket limit b _ _ _ _ (leaf_keeps bracket limit b v.Variable terminal.Variable refl)
      (or_keeps bracket limit b _ _ _ _ (map_keeps bracket limit b v.Name _ _ iri_keeps) (word_keeps bracket limit b terminal.A v.Type refl))

  literal_keeps : Keeps bracket limit b ALiteral ALiteral
  literal_keeps = shared.literal_keeps word bracket plain limit b

  -- lists of nodes with as many brackets open as before them
  module _ (P Q : Derives Node) (p : Keeps bracket limit b P Q) where
    objects_keep : Keeps bracket limit b (g.ObjectList P) (g.ObjectList Q)
    objects_keep = then_keeps bracket limit b _ _ _ _ p (λ first. then_keeps bracket limit b _ _ _ _ (star_keeps bracket limit b _ _ (one_keeps bracket limit b _ _ (behind_keeps bracket limit b terminal.Comma P Q refl p))) (λ others. pure_keeps bracket limit b (first ∷ others)))

    property_keeps : Keeps bracket limit b (g.VerbObjects P) (g.VerbObjects Q)
    property_keeps = then_keeps bracket limit b _ _ _ _ verb_keeps (λ verb. then_keeps bracket limit b _ _ _ _ objects_keep (λ objects. pure_keeps bracket limit b (read.property_with verb objects)))

    not_empty_keeps : Keeps bracket limit b (g.PropertyListNotEmpty P) (g.PropertyListNotEmpty Q)
    not_empty_keeps = then_keeps bracket limit b _ _ _ _ property_keeps (λ first. then_keeps bracket limit b _ _ _ _
        (star_keeps bracket limit b _ _ (behind_keeps bracket limit b terminal.Semicolon _ _ refl (map_keeps bracket limit b option_to_list _ _ (maybe_keeps bracket limit b _ _ property_keeps)))) (λ others. pure_keeps bracket limit b (first ∷ others)))

    properties_keep : Keeps bracket limit b (g.PropertyList P) (g.PropertyList Q)
    properties_keep = map_keeps bracket limit b read.all_of _ _ (maybe_keeps bracket limit b _ _ not_empty_keeps)

-- ---- brackets

module _ (limit b : ℕ) where
  anon_keeps : Keeps bracket limit b g.Anon g.Anon
  anon_keeps = keeps limit b _ _ (then_shifts limit b (b + 1) b _ _ _ _ (value_shifts limit b (b + 1) terminal.OpenBracket refl) (λ opener. closed limit b terminal.CloseBracket (n.Blank opener []) (omega arith)))

  nil_keeps : Keeps bracket limit b g.Nil g.Nil
  nil_keeps = keeps limit b _ _ (then_shifts limit b (b + 1) b _ _ _ _ (value_shifts limit b (b + 1) terminal.Open refl) (λ opener. closed limit b terminal.Close (n.Collection opener []) (omega arith)))

  term_keeps : Keeps bracket limit b g.VarOrTerm g.VarOrTerm
  term_keeps = or_keeps bracket limit b _ _ _ _ (leaf_keeps bracket limit b n.Variable terminal.Variable refl) (or_keeps bracket limit b _ _ _ _ (map_keeps bracket limit b n.Name _ _ (iri_keeps limit b))
      (or_keeps bracket limit b _ _ _ _ (map_keeps bracket limit b n.Literal _ _ (literal_keeps limit b))
      (or_keeps bracket limit b _ _ _ _ (or_keeps bracket limit b _ _ _ _ (leaf_keeps bracket limit b n.Label terminal.BlankLabel refl) anon_keeps) nil_keeps)))

-- what stands in brackets
module _ (limit b : ℕ) (P Q : Derives Node) (p : Keeps bracket limit (b + 1) P Q) where
  blank_keeps : Keeps bracket limit b (g.BlankNodePropertyList P) (g.BlankNodePropertyList Q)
  blank_keeps = keeps limit b _ _ (then_shifts limit b (b + 1) b _ _ _ _ (value_shifts limit b (b + 1) terminal.OpenBracket refl)
      (λ opener. then_shifts limit (b + 1) (b + 1) b _ _ _ _ (kept limit (b + 1) _ _ (not_empty_keeps limit (b + 1) P Q p))
      (λ ps. closed limit b terminal.CloseBracket (n.Blank opener ps) (omega arith))))

  collection_keeps : Keeps bracket limit b (g.Collection P) (g.Collection Q)
  collection_keeps = keeps limit b _ _ (then_shifts limit b (b + 1) b _ _ _ _ (value_shifts limit b (b + 1) terminal.Open refl)
      (λ opener. then_shifts limit (b + 1) (b + 1) b _ _ _ _ (kept limit (b + 1) _ _ p)
      (λ first. then_shifts limit (b + 1) (b + 1) b _ _ _ _ (kept limit (b + 1) _ _ (star_keeps bracket limit (b + 1) _ _ (one_keeps bracket limit (b + 1) P Q p)))
      (λ others. closed limit b terminal.Close (n.Collection opener (first ∷ others)) (omega arith)))))

  triples_node_keeps : Keeps bracket limit b (g.TriplesNode P) (g.TriplesNode Q)
  triples_node_keeps = or_keeps bracket limit b _ _ _ _ collection_keeps blank_keeps

  graph_node_keeps : Keeps bracket limit b (g.GraphNode P) (g.GraphNode Q)
  graph_node_keeps = or_keeps bracket limit b _ _ _ _ (term_keeps limit b) triples_node_keeps

  about_term_keeps : Keeps bracket limit b (g.AboutTerm P) (g.AboutTerm Q)
  about_term_keeps = then_keeps bracket limit b _ _ _ _ (term_keeps limit b) (λ subject. then_keeps bracket limit b _ _ _ _ (not_empty_keeps limit b (g.GraphNode P) (g.GraphNode Q) graph_node_keeps)
      (λ ps. pure_keeps bracket limit b (read.triples_with subject ps)))

  about_node_keeps : Keeps bracket limit b (g.AboutNode P) (g.AboutNode Q)
  about_node_keeps = then_keeps bracket limit b _ _ _ _ triples_node_keeps (λ subject. then_keeps bracket limit b _ _ _ _ (properties_keep limit b (g.GraphNode P) (g.GraphNode Q) graph_node_keeps)
      (λ ps. pure_keeps bracket limit b (read.triples_with subject ps)))

  same_subject_keeps : Keeps bracket limit b (g.TriplesSameSubject P) (g.TriplesSameSubject Q)
  same_subject_keeps = or_keeps bracket limit b _ _ _ _ about_term_keeps about_node_keeps

  template_keeps : Keeps bracket limit b (g.TriplesTemplate P) (g.TriplesTemplate Q)
  template_keeps = then_keeps bracket limit b _ _ _ _ same_subject_keeps
      (λ first. then_keeps bracket limit b _ _ _ _ (star_keeps bracket limit b _ _ (one_keeps bracket limit b _ _ (behind_keeps bracket limit b terminal.Dot _ _ refl same_subject_keeps)))
      (λ others. then_keeps bracket limit b _ _ _ _ (maybe_keeps bracket limit b _ _ (the_keeps bracket limit b terminal.Dot refl)) (λ _. pure_keeps bracket limit b (first ∷ others))))

nodes_keep : (limit d b : ℕ) → Keeps bracket limit b (g.Nodes_at d) (g.Nodes_at (suc limit - b))
unfolding Keeps
nodes_keep limit zero b ts x us h below = absurd h
nodes_keep limit (suc d) b ts x us h below =
    let some : b ≤ limit = below.at 0 in
    let i : suc limit - (b + 1) ≡ limit - b = omega arith in
    let inside : Keeps bracket limit (b + 1) (g.Nodes_at d) (g.Nodes_at (limit - b)) = rw i at (nodes_keep limit d (b + 1)) in
    let m : suc limit - b ≡ suc (limit - b) = omega arith in
    rw m (graph_node_keeps limit b (g.Nodes_at d) (g.Nodes_at (limit - b)) inside ts x us h below)

-- Triples behind b brackets, derived at any depth, are derived at the depth that the limit leaves.
pub triples_keep : (limit d b : ℕ) → Keeps bracket limit b (g.TriplesTemplate (g.Nodes_at d)) (g.TriplesTemplate (g.Nodes_at (limit - b)))
triples_keep limit d b =
    let i : suc limit - (b + 1) ≡ limit - b = omega arith in
    let inside : Keeps bracket limit (b + 1) (g.Nodes_at d) (g.Nodes_at (limit - b)) = rw i at (nodes_keep limit d (b + 1)) in
    template_keeps limit b (g.Nodes_at d) (g.Nodes_at (limit - b)) inside
