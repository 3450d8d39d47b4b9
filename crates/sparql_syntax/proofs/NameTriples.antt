-- Triples, and the names that their lexemes carry: a question of names alone.
use Rattle.std.proofs.Common.{◌≡◌, ◌∙◌, ap, refl, sym, ℕ, Bool, true, ◌&&◌, not, List, [], ◌∷◌, ◌++◌, map, Option, true≢false}
use Rattle.std.proofs.Math.Path.{fun_ext}
use Rattle.std.proofs.lemmas.Bool.{and_parts}
use Rattle.std.specs.List.{list_all}
use Rattle.rdf_grammar.specs.Holds.{holds}
use Rattle.rdf_grammar.specs.Terminals.{Slice, next_terminal}
use Rattle.rdf_grammar.specs.declared.tree.Literal.{Literal}
use Rattle.rdf_grammar.specs.declared.tree.Literal.TheVariants as l
use Rattle.rdf_grammar.specs.declared.tree.Name.{Name}
use Rattle.sparql_terminals.specs.declared.terminal.Terminal.{Terminal}
use Rattle.sparql_terminals.specs.declared.terminal.Terminal.TheVariants as terminal
use Rattle.sparql_terminals.specs.Lexemes.{Lexemes}
use Rattle.sparql_grammar.specs.Grammar.{Nodes_at, TriplesTemplate}
use Rattle.sparql_grammar.specs.declared.tree.Node.{Node}
use Rattle.sparql_grammar.specs.declared.tree.Node.TheOpen.{Node-F, Property-F}
use Rattle.sparql_grammar.specs.declared.tree.Node.TheFolds.{fold-Node, fold-Property}
use Rattle.sparql_grammar.specs.declared.tree.Property.{Property}
use Rattle.sparql_grammar.specs.declared.tree.Triples.{Triples}
use Rattle.sparql_grammar.specs.declared.tree.Verb.{Verb}
use Rattle.sparql_grammar.specs.declared.tree.Verb.TheVariants as v
use Rattle.sparql_syntax.specs.BrokenRules.{subject_behind}
use Rattle.sparql_syntax.proofs.NameFronts.{Ask, Gives, names as answered, all_named, all_plain, is_plain, of_names, start, lists}
use Rattle.sparql_syntax.proofs.NameNodes.{each_verb, each_node_of, each_property_of, each_node, each_property, each_triples, triples_value}
use Rattle.sparql_syntax.proofs.NameWords.{each_literal}
use Rattle.sparql_syntax.proofs.QuestionFronts.{Ends, asked, asks_front}
use Rattle.sparql_syntax.proofs.RuleLexemes.{all_steady, front_steady, is_steady, opened_yes}
use Rattle.sparql_syntax.proofs.SharedLabels.{or_yes}
use Rattle.sparql_syntax.proofs.TripleFronts as fronts
use Rattle.sparql_syntax.proofs.TripleFronts.{triples_end}
use Rattle.sparql_syntax.proofs.TripleQuestions.{Question, is_literal_node, asks_literal, asks_verb, asks_property_of, asks_node_of, asks_node, asks_property, asks_triples}
use Rattle.sparql_syntax.proofs.QuestionFronts as question

-- ---- trees

module _ (n : Name → Bool) where
  abbrev names : Question
  names = of_names n

  verb_same : (w : Verb) → asks_verb names w ≡ each_verb names w
  verb_same (v.Variable name) = refl
  verb_same (v.Name name) = refl
  verb_same v.Type = refl

  literal_same : (w : Literal) → asks_literal names w ≡ each_literal names w
  literal_same (l.Typed text name) = refl
  literal_same _ = refl

  node_of_same : (y : Node-F Bool Bool) → asks_node_of names y ≡ each_node_of names y
  node_of_same (Node-F.Variable name) = refl
  node_of_same (Node-F.Name name) = refl
  node_of_same (Node-F.Literal w) = literal_same w
  node_of_same (Node-F.Label label) = refl
  node_of_same (Node-F.Blank bracket properties) = refl
  node_of_same (Node-F.Collection bracket []) = refl
  node_of_same (Node-F.Collection bracket (b ∷ bs)) = refl

  property_of_same : (y : Property-F Bool Bool) → asks_property_of names y ≡ each_property_of names y
  property_of_same y = ap (λ (b : Bool). b && list_all holds y.objects) (verb_same y.verb)

  node_same : (x : Node) → asks_node names x ≡ each_node names x
  node_same x =
      ap (λ (f : Node-F Bool Bool → Bool). fold-Node Bool Bool f (asks_property_of names) x) (fun_ext node_of_same)
      ∙ ap (λ (f : Property-F Bool Bool → Bool). fold-Node Bool Bool (each_node_of names) f x) (fun_ext property_of_same)

  property_same : (x : Property) → asks_property names x ≡ each_property names x
  property_same x =
      ap (λ (f : Node-F Bool Bool → Bool). fold-Property Bool Bool f (asks_property_of names) x) (fun_ext node_of_same)
      ∙ ap (λ (f : Property-F Bool Bool → Bool). fold-Property Bool Bool (each_node_of names) f x) (fun_ext property_of_same)

  pub all_same : {A : Type 0} (f g : A → Bool) → ((x : A) → f x ≡ g x) → (xs : List A) → list_all holds (map f xs) ≡ list_all holds (map g xs)
  all_same f g h [] = refl
  all_same f g h (x ∷ xs) = ap (λ (b : Bool). b && list_all holds (map f xs)) (h x) ∙ ap (λ (b : Bool). g x && b) (all_same f g h xs)

  pub triples_same : (ts : Triples) → asks_triples names ts ≡ each_triples names ts
  triples_same ts =
      ap (λ (b : Bool). b && (asks_node names ts.subject && list_all holds (map (asks_property names) ts.properties))) (or_yes (not (is_literal_node ts.subject)))
      ∙ ap (λ (b : Bool). b && list_all holds (map (asks_property names) ts.properties)) (node_same ts.subject)
      ∙ ap (λ (b : Bool). each_node names ts.subject && b) (all_same (asks_property names) (each_property names) property_same ts.properties)

-- ---- lexemes

lexeme_named : (q : Ask) (s : Bool) (k : Terminal) (text : Slice) (next : Option Terminal) → is_steady k ≡ true → answered q k text ≡ asked (of_names q.name) s k text next
lexeme_named q s terminal.Insert text next e = absurd (true≢false (sym e))
lexeme_named q s terminal.Delete text next e = absurd (true≢false (sym e))
lexeme_named q s terminal.Open text next e = sym (opened_yes next)
lexeme_named q s _ text next e = refl

front_named : (q : Ask) (s : Bool) (f us : Lexemes) → all_steady f ≡ true → all_named q f ≡ asks_front (of_names q.name) s f us
front_named q s [] us e = refl
front_named q s (t ∷ f) us e =
    let parts = and_parts (is_steady t.terminal) (all_steady f) e in
    ap (λ (b : Bool). b && all_named q f) (lexeme_named q s t.terminal t.text (next_terminal (f ++ us)) parts.0)
    ∙ ap (λ (b : Bool). asked (of_names q.name) s t.terminal t.text (next_terminal (f ++ us)) && b) (front_named q (subject_behind t.terminal) f us parts.1)

plain_lexeme : (k : Terminal) → is_steady k ≡ true → is_plain k ≡ true
plain_lexeme terminal.Base e = e
plain_lexeme terminal.Prefix e = e
plain_lexeme _ e = refl

front_plain : (f : Lexemes) → all_steady f ≡ true → all_plain f ≡ true
front_plain [] e = refl
front_plain (t ∷ f) e =
    let parts = and_parts (is_steady t.terminal) (all_steady f) e in
    ap (λ (b : Bool). b && all_plain f) (plain_lexeme t.terminal parts.0) ∙ front_plain f parts.1

pub triples_give : (depth : ℕ) → Gives start (TriplesTemplate (Nodes_at depth)) (lists triples_value)
unfolding Gives Ends
triples_give depth ts xs us d =
    let r = triples_end depth ts xs us d in
    let still = front_steady true r.0 (question.lists fronts.triples_value) ts xs us r.1 refl in
    record {
      front = r.1.front;
      is = r.1.is;
      adds = record {
        plain = front_plain r.1.front still;
        says = λ q. front_named q true r.1.front us still ∙ r.1.says (of_names q.name) ∙ all_same q.name (asks_triples (of_names q.name)) (each_triples (of_names q.name)) (triples_same q.name) xs;
      };
    }
