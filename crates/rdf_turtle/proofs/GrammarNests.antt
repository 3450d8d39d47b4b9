-- Where no more than so many brackets are open at once, no derivation nests deeper.
use Rattle.std.proofs.Common.{◌≡◌, ℕ, zero, suc, ◌+◌, ◌-◌, ◌≤◌, List, [], ◌∷◌, take, refl, arith}
use Rattle.std.specs.Prelude.{option_to_list}
use Rattle.rdf_turtle.specs.declared.terminal.Terminal.TheVariants as terminal
use Rattle.rdf_turtle.specs.Lexemes.{Lexemes, Derives}
use Rattle.rdf_turtle.specs.declared.tree.Verb.TheVariants as v
use Rattle.rdf_turtle.specs.declared.tree.Node.{Node}
use Rattle.rdf_turtle.specs.declared.tree.Node.TheVariants as n
use Rattle.rdf_turtle.specs.declared.tree.Statement.{Statement}
use Rattle.rdf_turtle.specs.declared.tree.Statement.TheVariants as s
use Rattle.rdf_turtle.specs.Nesting.{open_after}
use Rattle.rdf_grammar.specs.Derivations as grammar
use Rattle.rdf_grammar.specs.Derivations.{Then, Star, stop, more}
use Rattle.rdf_turtle.specs.Grammar as g
use Rattle.rdf_turtle.specs.Terminals.{bracket, word}
use Rattle.rdf_grammar.proofs.CallerLemmas.{Keeps, then_keeps, pure_keeps, or_keeps, map_keeps, behind_keeps, word_keeps, leaf_keeps, maybe_keeps, star_keeps, one_keeps, enclosed, pair_keeps}
use Rattle.rdf_grammar.proofs.CallerLemmas as shared
use Rattle.rdf_turtle.proofs.GrammarWords.{plain}

module _ (limit b : ℕ) where
  iri_keeps : Keeps bracket limit b g.Iri g.Iri
  iri_keeps = shared.iri_keeps word bracket plain limit b

  verb_keeps : Keeps bracket limit b g.AVerb g.AVerb
  verb_keeps = or_keeps bracket limit b _ _ _ _ (map_keeps bracket limit b v.Name _ _ iri_keeps) (word_keeps bracket limit b terminal.A v.Type refl)

  literal_keeps : Keeps bracket limit b g.ALiteral g.ALiteral
  literal_keeps = shared.literal_keeps word bracket plain limit b

  -- lists of nodes with as many brackets open as before them
  module _ (P Q : Derives Node) (p : Keeps bracket limit b P Q) where
    objects_keeps : Keeps bracket limit b (g.Objects P) (g.Objects Q)
    objects_keeps = then_keeps bracket limit b _ _ _ _ p (λ first. then_keeps bracket limit b _ _ _ _ (star_keeps bracket limit b _ _ (one_keeps bracket limit b _ _ (behind_keeps bracket limit b terminal.Comma P Q refl p))) (λ others. pure_keeps bracket limit b (first ∷ others)))

    verb_objects_keeps : Keeps bracket limit b (g.VerbObjects P) (g.VerbObjects Q)
    verb_objects_keeps = then_keeps bracket limit b _ _ _ _ verb_keeps (λ verb. then_keeps bracket limit b _ _ _ _ objects_keeps (λ objects. pure_keeps bracket limit b (g.property_with verb objects)))

    predicate_object_list_keeps : Keeps bracket limit b (g.PredicateObjectList P) (g.PredicateObjectList Q)
    predicate_object_list_keeps = then_keeps bracket limit b _ _ _ _ verb_objects_keeps (λ first. then_keeps bracket limit b _ _ _ _
        (star_keeps bracket limit b _ _ (behind_keeps bracket limit b terminal.Semicolon _ _ refl (map_keeps bracket limit b option_to_list _ _ (maybe_keeps bracket limit b _ _ verb_objects_keeps)))) (λ others. pure_keeps bracket limit b (first ∷ others)))

-- what stands in brackets
module _ (limit b : ℕ) (P Q : Derives Node) (p : Keeps bracket limit (b + 1) P Q) where
  anonymous_keeps : Keeps bracket limit b (g.Anonymous P) (g.Anonymous Q)
  anonymous_keeps = pair_keeps bracket limit b terminal.OpenBracket terminal.CloseBracket [] refl (omega arith)

  blank_node_property_list_keeps : Keeps bracket limit b (g.BlankNodePropertyList P) (g.BlankNodePropertyList Q)
  blank_node_property_list_keeps = enclosed bracket limit b terminal.OpenBracket terminal.CloseBracket _ _ grammar.pure refl (omega arith) (predicate_object_list_keeps limit (b + 1) P Q p) (λ a ts x us d. d.1)

  blank_keeps : Keeps bracket limit b (g.Blank P) (g.Blank Q)
  blank_keeps = or_keeps bracket limit b _ _ _ _ (leaf_keeps bracket limit b n.Label terminal.BlankLabel refl) (map_keeps bracket limit b n.Blank _ _ anonymous_keeps)

  collection_keeps : Keeps bracket limit b (g.Collection P) (g.Collection Q)
  collection_keeps = enclosed bracket limit b terminal.Open terminal.Close _ _ grammar.pure refl (omega arith) (star_keeps bracket limit (b + 1) _ _ (one_keeps bracket limit (b + 1) P Q p)) (λ a ts x us d. d.1)

  named_keeps : Keeps bracket limit b (grammar.◌<$>◌ n.Name g.Iri) (grammar.◌<$>◌ n.Name g.Iri)
  named_keeps = map_keeps bracket limit b n.Name _ _ (iri_keeps limit b)

  subject_keeps : Keeps bracket limit b (g.Subject P) (g.Subject Q)
  subject_keeps = or_keeps bracket limit b _ _ _ _ named_keeps (or_keeps bracket limit b _ _ _ _ blank_keeps (map_keeps bracket limit b n.Collection _ _ collection_keeps))

  object_keeps : Keeps bracket limit b (g.Object P) (g.Object Q)
  object_keeps = or_keeps bracket limit b _ _ _ _ named_keeps (or_keeps bracket limit b _ _ _ _ blank_keeps (or_keeps bracket limit b _ _ _ _ (map_keeps bracket limit b n.Collection _ _ collection_keeps)
      (or_keeps bracket limit b _ _ _ _ (map_keeps bracket limit b n.Blank _ _ blank_node_property_list_keeps) (map_keeps bracket limit b n.Literal _ _ (literal_keeps limit b)))))

objects_at : (limit d b : ℕ) → Keeps bracket limit b (g.Objects_at d) (g.Objects_at (suc limit - b))
unfolding Keeps
objects_at limit zero b ts x us h below = absurd h
objects_at limit (suc d) b ts x us h below =
    let some : b ≤ limit = below.at 0 in
    let i : suc limit - (b + 1) ≡ limit - b = omega arith in
    let inside : Keeps bracket limit (b + 1) (g.Objects_at d) (g.Objects_at (limit - b)) = rw i at (objects_at limit d (b + 1)) in
    let n : suc limit - b ≡ suc (limit - b) = omega arith in
    rw n (object_keeps limit b (g.Objects_at d) (g.Objects_at (limit - b)) inside ts x us h below)

-- ---- statements, which stand where no bracket is open

module _ (limit : ℕ) where
  binding_keeps : Keeps bracket limit 0 g.Binding g.Binding
  binding_keeps = map_keeps bracket limit 0 g.bound _ _ (shared.binding_keeps word bracket plain limit 0)

  base_keeps : Keeps bracket limit 0 g.Base g.Base
  base_keeps = leaf_keeps bracket limit 0 s.Base terminal.Iri refl

  dotted_keeps : {A : Type 0} (P Q : Derives A) → Keeps bracket limit 0 P Q → Keeps bracket limit 0 (g.Dotted P) (g.Dotted Q)
  dotted_keeps P Q p = then_keeps bracket limit 0 _ _ _ _ p (λ x. behind_keeps bracket limit 0 terminal.Dot _ _ refl (pure_keeps bracket limit 0 x))

  directive_keeps : Keeps bracket limit 0 g.Directive g.Directive
  directive_keeps =
      or_keeps bracket limit 0 _ _ _ _ (behind_keeps bracket limit 0 terminal.AtPrefix _ _ refl (dotted_keeps _ _ binding_keeps))
      (or_keeps bracket limit 0 _ _ _ _ (behind_keeps bracket limit 0 terminal.AtBase _ _ refl (dotted_keeps _ _ base_keeps))
      (or_keeps bracket limit 0 _ _ _ _ (behind_keeps bracket limit 0 terminal.Prefix _ _ refl binding_keeps) (behind_keeps bracket limit 0 terminal.Base _ _ refl base_keeps)))

  module _ (I J P Q : Derives Node) (i : Keeps bracket limit 1 I J) (p : Keeps bracket limit 0 P Q) where
    about_keeps : Keeps bracket limit 0 (g.About I P) (g.About J Q)
    about_keeps = then_keeps bracket limit 0 _ _ _ _ (subject_keeps limit 0 I J i) (λ subject. then_keeps bracket limit 0 _ _ _ _ (predicate_object_list_keeps limit 0 P Q p) (λ ps. pure_keeps bracket limit 0 (s.Triples subject ps)))

    about_blank_keeps : Keeps bracket limit 0 (g.AboutBlank I P) (g.AboutBlank J Q)
    about_blank_keeps = then_keeps bracket limit 0 _ _ _ _ (blank_node_property_list_keeps limit 0 I J i) (λ inside. then_keeps bracket limit 0 _ _ _ _ (maybe_keeps bracket limit 0 _ _ (predicate_object_list_keeps limit 0 P Q p)) (λ ps. pure_keeps bracket limit 0 (s.Triples (n.Blank inside) (g.all_of ps))))

    statement_keeps : Keeps bracket limit 0 (g.AStatement I P) (g.AStatement J Q)
    statement_keeps = or_keeps bracket limit 0 _ _ _ _ directive_keeps (dotted_keeps _ _ (or_keeps bracket limit 0 _ _ _ _ about_keeps about_blank_keeps))

    statements_keep : Keeps bracket limit 0 (Star (grammar.one (g.AStatement I P))) (Star (grammar.one (g.AStatement J Q)))
    statements_keep = star_keeps bracket limit 0 _ _ (one_keeps bracket limit 0 _ _ statement_keeps)

-- A document that is derived at any depth is derived at the limit.
pub document_within : (limit d : ℕ) (ts : Lexemes) (ss : List Statement) → ((n : ℕ) → open_after 0 (take n ts) ≤ limit) → g.Document d ts ss [] → g.Document limit ts ss []
unfolding Keeps
document_within limit d ts ss below h =
    let i : suc limit - 1 ≡ limit = omega arith in
    let o : suc limit - 0 ≡ suc limit = omega arith in
    let inner : Keeps bracket limit 1 (g.Objects_at d) (g.Objects_at limit) = rw i at (objects_at limit d 1) in
    let outer : Keeps bracket limit 0 (g.Objects_at (suc d)) (g.Objects_at (suc limit)) = rw o at (objects_at limit (suc d) 0) in
    (statements_keep limit (g.Objects_at d) (g.Objects_at limit) (g.Objects_at (suc d)) (g.Objects_at (suc limit)) inner outer ts ss [] h (record { at = below })).0
