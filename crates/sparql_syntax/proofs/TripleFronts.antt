-- Triples, and what is asked of their lexemes.
use Rattle.std.proofs.Common.{◌≡◌, ◌∙◌, ap, refl, sym, ℕ, zero, suc, Bool, true, false, ◌&&◌, ◌||◌, not, List, [], ◌∷◌, Option, Some, inl, inr}
use Rattle.std.proofs.Math.Bool.{and_assoc}
use Rattle.std.specs.Prelude.{option_to_list}
use Rattle.rdf_grammar.specs.Derivations as grammar
use Rattle.rdf_grammar.specs.Derivations.{Then, Star}
use Rattle.rdf_grammar.specs.Productions as productions
use Rattle.rdf_grammar.specs.Terminals.{Slice, next_terminal}
use Rattle.rdf_grammar.specs.declared.tree.Literal.{Literal}
use Rattle.rdf_grammar.specs.declared.tree.Literal.TheVariants as l
use Rattle.rdf_grammar.specs.declared.tree.Name.{Name}
use Rattle.rdf_grammar.specs.declared.tree.Name.TheVariants.{Full}
use Rattle.rdf_grammar.specs.declared.word.Word.{Word}
use Rattle.rdf_grammar.specs.declared.word.Word.TheVariants as w
use Rattle.sparql_terminals.specs.declared.terminal.Terminal.{Terminal}
use Rattle.sparql_terminals.specs.declared.terminal.Terminal.TheVariants as terminal
use Rattle.sparql_terminals.specs.Lexemes.{Lexeme, Lexemes, Derives}
use Rattle.sparql_terminals.specs.Terminals.{word}
use Rattle.sparql_terminals.specs.WordGrammar as words
use Rattle.sparql_grammar.specs.declared.tree.Node.{Node}
use Rattle.sparql_grammar.specs.declared.tree.Node.TheVariants as n
use Rattle.sparql_grammar.specs.declared.tree.Property.{Property}
use Rattle.sparql_grammar.specs.declared.tree.Triples.{Triples}
use Rattle.sparql_grammar.specs.declared.tree.VarOrIri.{VarOrIri}
use Rattle.sparql_grammar.specs.declared.tree.VarOrIri.TheVariants as i
use Rattle.sparql_grammar.specs.declared.tree.Verb.{Verb}
use Rattle.sparql_grammar.specs.declared.tree.Verb.TheVariants as v
use Rattle.sparql_grammar.specs.Grammar as g
use Rattle.sparql_grammar.specs.Reading as read
use Rattle.sparql_syntax.proofs.NameFronts.{and_true, iri_only, pname_only}
use Rattle.sparql_syntax.proofs.NameNodes.{by-Variable, by-Name, by-Literal, by-Label, by-Blank, by-Collection, by-property}
use Rattle.sparql_syntax.proofs.QuestionFronts.{Value, Gives, Ends, start, opened, asked, then_front, lexeme_front, then_gives, then_ends, any_ends, pure_gives, pure_ends, or_gives, map_gives, the_gives, value_gives, behind_gives, closed_gives, maybe_gives, maybe_ends, ends_there, later_gives, lists, star_gives, one_gives, first_gives, word_gives, sign_word_gives, the_word_gives, literal_word_gives}
use Rattle.sparql_syntax.proofs.SharedLabels.{or_no, or_yes}
use Rattle.sparql_syntax.proofs.TripleQuestions.{Question, literal_of, property_of, is_literal_node, asks_literal, asks_verb, asks_property_of, asks_node_of, asks_node, asks_property, asks_subject, asks_triples, asks_name}

-- ---- names, literals and verbs

abbrev name_value : Name → Value
name_value name q = q.name name

abbrev literal_value : Literal → Value
literal_value x q = asks_literal q x

abbrev verb_value : Verb → Value
verb_value x q = asks_verb q x

abbrev pub place_value : VarOrIri → Value
place_value x q = asks_name q x

iri_gives : (s : Bool) → Gives s false start words.Iri name_value
iri_gives s = or_gives s false _ _ start name_value
    (map_gives s false Full _ start (λ text q. q.name (Full text)) name_value (word_gives s w.Iri (λ text q. q.name (Full text)) (λ j e q text next. ap (λ (z : Terminal). asked q s z text next) (iri_only j e))) (λ a q. refl))
    (map_gives s false productions.prefixed _ start (λ text q. q.name (productions.prefixed text)) name_value
    (word_gives s w.Pname (λ text q. q.name (productions.prefixed text)) (λ j e q text next. ap (λ (z : Terminal). asked q s z text next) (pname_only j e))) (λ a q. refl))

suffix_gives : (form : Slice) → Gives false false start (productions.Suffix word form) literal_value
suffix_gives form = or_gives false false _ _ start literal_value (map_gives false false (l.Tagged form) _ start (λ _. start) literal_value (sign_word_gives false w.Tag refl) (λ a q. refl))
    (or_gives false false _ _ start literal_value
    (then_gives false false false (productions.the word w.Caret) _ start (λ _. start) literal_value (the_word_gives false w.Caret refl) (λ _. map_gives false false (l.Typed form) _ start name_value literal_value (iri_gives false) (λ a q. refl)))
    (pure_gives false (l.Plain form) start literal_value (λ q. refl)))

-- where a subject may stand or not
abbrev literal_at : Bool → Literal → Value
literal_at s x q = (q.literal || not s) && asks_literal q x

number_gives : (s : Bool) (k : Word) (f : Slice → Literal) → ((text : Slice) (q : Question) → asks_literal q (f text) ≡ true) → (h : Gives s false start (productions.value word k) (λ _ q. q.literal || not s))
    → Gives s false start (grammar.◌<$>◌ f (productions.value word k)) (literal_at s)
number_gives s k f plain h = map_gives s false f _ start (λ _ q. q.literal || not s) (literal_at s) h (λ a q. sym (and_true (q.literal || not s)) ∙ ap (λ (b : Bool). (q.literal || not s) && b) (sym (plain a q)))

literal_gives : (s : Bool) → Gives s false start words.ALiteral (literal_at s)
literal_gives s = or_gives s false _ _ start (literal_at s)
    (then_gives s false false (productions.value word w.Text) _ start (λ _ q. q.literal || not s) (literal_at s) (literal_word_gives s w.Text refl) (λ form. later_gives false false _ (λ q. q.literal || not s) literal_value (suffix_gives form)))
    (or_gives s false _ _ start (literal_at s)
    (or_gives s false _ _ start (literal_at s) (number_gives s w.Integer l.Integer (λ a q. refl) (literal_word_gives s w.Integer refl))
    (or_gives s false _ _ start (literal_at s) (number_gives s w.Decimal l.Decimal (λ a q. refl) (literal_word_gives s w.Decimal refl)) (number_gives s w.Double l.Double (λ a q. refl) (literal_word_gives s w.Double refl))))
    (or_gives s false _ _ start (literal_at s) (number_gives s w.True (l.Boolean true) (λ a q. refl) (literal_word_gives s w.True refl)) (number_gives s w.False (l.Boolean false) (λ a q. refl) (literal_word_gives s w.False refl))))

variable_gives : (s : Bool) → Gives s false start g.Var (λ _ q. q.variable)
variable_gives s = value_gives s false terminal.Variable (λ _ q. q.variable) refl (λ q text next. refl)

pub place_gives : (s : Bool) → Gives s false start g.AVarOrIri place_value
place_gives s = or_gives s false _ _ start place_value (map_gives s false i.Variable _ start (λ _ q. q.variable) place_value (variable_gives s) (λ a q. refl)) (map_gives s false i.Name _ start name_value place_value (iri_gives s) (λ a q. refl))

verb_gives : Gives false false start g.AVerb verb_value
verb_gives = or_gives false false _ _ start verb_value (map_gives false false v.Variable _ start (λ _ q. q.variable) verb_value (variable_gives false) (λ a q. refl))
    (or_gives false false _ _ start verb_value (map_gives false false v.Name _ start name_value verb_value (iri_gives false) (λ a q. refl))
    (closed_gives false false terminal.A v.Type start verb_value refl (λ q s text next. refl) (λ q. refl)))

-- ---- nodes by what they are

abbrev pub node_value : Node → Value
node_value x q = asks_node q x

abbrev pub property_value : Property → Value
property_value x q = asks_property q x

abbrev pub triples_value : Triples → Value
triples_value x q = asks_triples q x

-- where a subject may stand, as one too
abbrev node_at : Bool → Node → Value
node_at s x q = (not s || asks_subject q x) && asks_node q x

other_at : (s : Bool) (x : Node) (q : Question) (b : Bool) → is_literal_node x ≡ false → b ≡ asks_node q x → b ≡ node_at s x q
other_at true x q b none e = e ∙ ap (λ (z : Bool). (not z || q.literal) && asks_node q x) (sym none)
other_at false x q b none e = e

variable_at : (s : Bool) (name : Slice) (q : Question) → q.variable ≡ node_at s (n.Variable name) q
variable_at s name q = other_at s (n.Variable name) q q.variable (by-Variable literal_of property_of name) (sym (by-Variable (asks_node_of q) (asks_property_of q) name))

name_at : (s : Bool) (name : Name) (q : Question) → q.name name ≡ node_at s (n.Name name) q
name_at s name q = other_at s (n.Name name) q (q.name name) (by-Name literal_of property_of name) (sym (by-Name (asks_node_of q) (asks_property_of q) name))

literal_is : (s : Bool) (x : Literal) (q : Question) → literal_at s x q ≡ node_at s (n.Literal x) q
literal_is true x q =
    ap (λ (z : Bool). z && asks_literal q x) (or_no q.literal) ∙ ap (λ (z : Bool). q.literal && z) (sym (by-Literal (asks_node_of q) (asks_property_of q) x))
    ∙ ap (λ (z : Bool). (not z || q.literal) && asks_node q (n.Literal x)) (sym (by-Literal literal_of property_of x))
literal_is false x q = ap (λ (z : Bool). z && asks_literal q x) (or_yes q.literal) ∙ sym (by-Literal (asks_node_of q) (asks_property_of q) x)

label_at : (s : Bool) (label : Slice) (q : Question) → q.label label ≡ node_at s (n.Label label) q
label_at s label q = other_at s (n.Label label) q (q.label label) (by-Label literal_of property_of label) (sym (by-Label (asks_node_of q) (asks_property_of q) label))

blank_at : (s : Bool) (bracket : Slice) (ps : List Property) (q : Question) → q.blank && lists property_value ps q ≡ node_at s (n.Blank bracket ps) q
blank_at s bracket ps q = other_at s (n.Blank bracket ps) q (q.blank && lists property_value ps q) (by-Blank literal_of property_of bracket ps) (sym (by-Blank (asks_node_of q) (asks_property_of q) bracket ps))

nil_at : (s : Bool) (bracket : Slice) (q : Question) → true ≡ node_at s (n.Collection bracket []) q
nil_at s bracket q = other_at s (n.Collection bracket []) q true (by-Collection literal_of property_of bracket []) (sym (by-Collection (asks_node_of q) (asks_property_of q) bracket []))

list_at : (s : Bool) (bracket : Slice) (x : Node) (xs : List Node) (q : Question) → (q.blank && asks_node q x) && lists node_value xs q ≡ node_at s (n.Collection bracket (x ∷ xs)) q
list_at s bracket x xs q =
    and_assoc q.blank (asks_node q x) (lists node_value xs q)
    ∙ other_at s (n.Collection bracket (x ∷ xs)) q (q.blank && lists node_value (x ∷ xs) q) (by-Collection literal_of property_of bracket (x ∷ xs)) (sym (by-Collection (asks_node_of q) (asks_property_of q) bracket (x ∷ xs)))

-- ---- terms

bracket_gives : (s : Bool) → Gives s false start (grammar.value terminal.OpenBracket) (λ _ q. q.blank)
bracket_gives s = value_gives s false terminal.OpenBracket (λ _ q. q.blank) refl (λ q text next. refl)

anon_gives : (s : Bool) → Gives s false start g.Anon (node_at s)
anon_gives s = then_gives s false false _ _ start (λ _ q. q.blank) (node_at s) (bracket_gives s)
    (λ bracket. closed_gives false false terminal.CloseBracket (n.Blank bracket []) (λ q. q.blank) (node_at s) refl (λ q s text next. refl) (λ q. sym (and_true q.blank) ∙ blank_at s bracket [] q))

nil_gives : (s : Bool) → Gives s false start g.Nil (node_at s)
unfolding Gives
nil_gives s ts x us d =
    let t = d.reads in
    let u = d.goes.reads in
    let close : Gives false false start (grammar.◌>>◌ (grammar.the terminal.Close) (grammar.pure (n.Collection d.first []))) (node_at s) =
    closed_gives false false terminal.Close (n.Collection d.first []) start (node_at s) refl (λ q s text next. refl) (nil_at s d.first) in
    then_front s false false start (λ _. start) (node_at s) ts d.mid us d.first x
    (lexeme_front s false terminal.Open start (λ _. start) t.0 ts d.mid d.first refl t.1 t.3
    (λ q. ap (λ (z : Lexemes). opened q.blank (next_terminal z)) u.2 ∙ ap (λ (k : Terminal). opened q.blank (Some k)) u.1))
    (close d.mid x us d.goes)

term_gives : (s : Bool) → Gives s false start g.VarOrTerm (node_at s)
term_gives s = or_gives s false _ _ start (node_at s) (map_gives s false n.Variable _ start (λ _ q. q.variable) (node_at s) (variable_gives s) (variable_at s))
    (or_gives s false _ _ start (node_at s) (map_gives s false n.Name _ start name_value (node_at s) (iri_gives s) (name_at s))
    (or_gives s false _ _ start (node_at s) (map_gives s false n.Literal _ start (literal_at s) (node_at s) (literal_gives s) (literal_is s))
    (or_gives s false _ _ start (node_at s)
    (or_gives s false _ _ start (node_at s)
    (map_gives s false n.Label _ start (λ text q. q.label text) (node_at s) (value_gives s false terminal.BlankLabel (λ text q. q.label text) refl (λ q text next. refl)) (label_at s)) (anon_gives s)) (nil_gives s))))

-- ---- what begins with no `)`

unfoldable Begins : {A : Type 0} → Derives A → Type 0
Begins {A} P = (ts : Lexemes) (x : A) (us : Lexemes) → P ts x us → (b : Bool) → opened b (next_terminal ts) ≡ b

at_front : (t : Lexeme) (ts us : Lexemes) (b : Bool) → opened b (Some t.terminal) ≡ b → ts ≡ t ∷ us → opened b (next_terminal ts) ≡ b
at_front t ts us b e at = ap (λ (z : Lexemes). opened b (next_terminal z)) at ∙ e

value_begins : (k : Terminal) → ((b : Bool) → opened b (Some k) ≡ b) → Begins (grammar.value k)
unfolding Begins
value_begins k e ts x us d b = at_front d.0 ts us b (ap (λ (j : Terminal). opened b (Some j)) d.1 ∙ e b) d.3

word_begins : (b : Bool) (j : Terminal) (k : Word) → word j ≡ Some k → opened b (Some j) ≡ b
word_begins b terminal.Close k e = absurd (cc)
word_begins b _ k e = refl

word_starts : (k : Word) → Begins (productions.value word k)
unfolding Begins
word_starts k ts x us d b = at_front d.0 ts us b (word_begins b d.0.terminal k d.1) d.3

then_begins : {A B : Type 0} (P : Derives A) (F : A → Derives B) → Begins P → Begins (Then P F)
unfolding Begins
then_begins P F p ts x us d b = p ts d.first d.mid d.reads b

or_begins : {A : Type 0} (P Q : Derives A) → Begins P → Begins Q → Begins (grammar.◌∣◌ P Q)
unfolding Begins
or_begins P Q p q ts x us (inl d) b = p ts x us d b
or_begins P Q p q ts x us (inr d) b = q ts x us d b

iri_begins : Begins words.Iri
iri_begins = or_begins _ _ (then_begins _ _ (word_starts w.Iri)) (then_begins _ _ (word_starts w.Pname))

literal_begins : Begins words.ALiteral
literal_begins =
    or_begins _ _ (then_begins _ _ (word_starts w.Text))
    (or_begins _ _ (or_begins _ _ (then_begins _ _ (word_starts w.Integer)) (or_begins _ _ (then_begins _ _ (word_starts w.Decimal)) (then_begins _ _ (word_starts w.Double))))
    (or_begins _ _ (then_begins _ _ (word_starts w.True)) (then_begins _ _ (word_starts w.False))))

term_begins : Begins g.VarOrTerm
term_begins =
    or_begins _ _ (then_begins _ _ (value_begins terminal.Variable (λ b. refl)))
    (or_begins _ _ (then_begins _ _ iri_begins)
    (or_begins _ _ (then_begins _ _ literal_begins)
    (or_begins _ _ (or_begins _ _ (then_begins _ _ (value_begins terminal.BlankLabel (λ b. refl))) (then_begins _ _ (value_begins terminal.OpenBracket (λ b. refl)))) (then_begins _ _ (value_begins terminal.Open (λ b. refl))))))

node_begins : (P : Derives Node) → Begins (g.GraphNode P)
node_begins P = or_begins _ _ term_begins (or_begins _ _ (then_begins _ _ (value_begins terminal.Open (λ b. refl))) (then_begins _ _ (value_begins terminal.OpenBracket (λ b. refl))))

-- ---- lists, over a grammar of nodes

module _ (P : Derives Node) (begins : Begins P) (p : Gives false false start P node_value) where
  objects_give : Gives false false start (g.ObjectList P) (lists node_value)
  objects_give = first_gives false false P _ node_value p
      (star_gives false _ node_value (one_gives false false _ node_value (behind_gives false false false terminal.Comma P start node_value refl (λ q s text next. refl) p)))

  property_gives : Gives false false start (g.VerbObjects P) property_value
  property_gives = then_gives false false false _ _ start verb_value property_value verb_gives
      (λ verb. then_gives false false false _ _ (verb_value verb) (λ objects q. asks_verb q verb && lists node_value objects q) property_value (later_gives false false _ (verb_value verb) (lists node_value) objects_give)
      (λ objects. pure_gives false (read.property_with verb objects) _ property_value (λ q. sym (by-property (asks_node_of q) (asks_property_of q) verb objects))))

  abbrev some_property : Option Property → Value
  some_property o q = lists property_value (option_to_list o) q

  abbrev some_properties : Option (List Property) → Value
  some_properties o q = lists property_value (read.all_of o) q

  not_empty_gives : Gives false false start (g.PropertyListNotEmpty P) (lists property_value)
  not_empty_gives = first_gives false false _ _ property_value property_gives
      (star_gives false _ property_value (behind_gives false false false terminal.Semicolon _ start (lists property_value) refl (λ q s text next. refl)
      (map_gives false false option_to_list _ start some_property (lists property_value)
      (maybe_gives false _ start property_value some_property property_gives (λ q. refl) (λ x q. sym (and_true (asks_property q x)))) (λ a q. refl))))

  properties_give : Gives false false start (g.PropertyList P) (lists property_value)
  properties_give = map_gives false false read.all_of _ start some_properties (lists property_value)
      (maybe_gives false _ start (lists property_value) some_properties not_empty_gives (λ q. refl) (λ x q. refl)) (λ a q. refl)

  blank_properties_give : (s : Bool) → Gives s false start (g.BlankNodePropertyList P) (node_at s)
  blank_properties_give s = then_gives s false false _ _ start (λ _ q. q.blank) (node_at s) (bracket_gives s)
      (λ bracket. then_gives false false false _ _ (λ q. q.blank) (λ ps q. q.blank && lists property_value ps q) (node_at s) (later_gives false false _ (λ q. q.blank) (lists property_value) not_empty_gives)
      (λ ps. closed_gives false false terminal.CloseBracket (n.Blank bracket ps) _ (node_at s) refl (λ q s text next. refl) (blank_at s bracket ps)))

  -- behind `(`, where an element follows
  inner_gives : (s : Bool) (bracket : Slice) → Gives false false (λ q. q.blank)
      (grammar.◌>>=◌ P (λ first. grammar.◌>>=◌ (Star (grammar.one P)) (λ others. grammar.◌>>◌ (grammar.the terminal.Close) (grammar.pure (n.Collection bracket (first ∷ others)))))) (node_at s)
  inner_gives s bracket = then_gives false false false P _ (λ q. q.blank) (λ x q. q.blank && asks_node q x) (node_at s) (later_gives false false P (λ q. q.blank) node_value p)
      (λ x. then_gives false false false _ _ (λ q. q.blank && asks_node q x) (λ xs q. (q.blank && asks_node q x) && lists node_value xs q) (node_at s)
      (later_gives false false _ (λ q. q.blank && asks_node q x) (lists node_value) (star_gives false _ node_value (one_gives false false P node_value p)))
      (λ xs. closed_gives false false terminal.Close (n.Collection bracket (x ∷ xs)) _ (node_at s) refl (λ q s text next. refl) (list_at s bracket x xs)))

  collection_gives : (s : Bool) → Gives s false start (g.Collection P) (node_at s)
  unfolding Gives Begins
  collection_gives s ts x us d =
      let t = d.reads in
      then_front s false false start (λ _ q. q.blank) (node_at s) ts d.mid us d.first x
      (lexeme_front s false terminal.Open start (λ _ q. q.blank) t.0 ts d.mid d.first refl t.1 t.3 (λ q. begins d.mid d.goes.first d.goes.mid d.goes.reads q.blank))
      (inner_gives s d.first d.mid x us d.goes)

  triples_node_gives : (s : Bool) → Gives s false start (g.TriplesNode P) (node_at s)
  triples_node_gives s = or_gives s false _ _ start (node_at s) (collection_gives s) (blank_properties_give s)

  graph_node_gives : Gives false false start (g.GraphNode P) node_value
  graph_node_gives = or_gives false false _ _ start node_value (term_gives false) (triples_node_gives false)

-- ---- triples

module _ (inner : Derives Node) (begins : Begins inner) (p : Gives false false start inner node_value) where
  object_gives : Gives false false start (g.GraphNode inner) node_value
  object_gives = graph_node_gives inner begins p

  triples_are : (x : Node) (ps : List Property) (q : Question) → (asks_subject q x && asks_node q x) && lists property_value ps q ≡ asks_triples q (read.triples_with x ps)
  triples_are x ps q = and_assoc (asks_subject q x) (asks_node q x) (lists property_value ps q)

  about_term_gives : Gives true false start (g.AboutTerm inner) triples_value
  about_term_gives = then_gives true false false _ _ start (node_at true) triples_value (term_gives true)
      (λ x. then_gives false false false _ _ (node_at true x) (λ ps q. node_at true x q && lists property_value ps q) triples_value
      (later_gives false false _ (node_at true x) (lists property_value) (not_empty_gives (g.GraphNode inner) (node_begins inner) object_gives)) (λ ps. pure_gives false (read.triples_with x ps) _ triples_value (triples_are x ps)))

  about_node_gives : Gives true false start (g.AboutNode inner) triples_value
  about_node_gives = then_gives true false false _ _ start (node_at true) triples_value (triples_node_gives inner begins p true)
      (λ x. then_gives false false false _ _ (node_at true x) (λ ps q. node_at true x q && lists property_value ps q) triples_value
      (later_gives false false _ (node_at true x) (lists property_value) (properties_give (g.GraphNode inner) (node_begins inner) object_gives)) (λ ps. pure_gives false (read.triples_with x ps) _ triples_value (triples_are x ps)))

  same_subject_gives : Gives true false start (g.TriplesSameSubject inner) triples_value
  same_subject_gives = or_gives true false _ _ start triples_value about_term_gives about_node_gives

  others_give : Gives false false start (grammar.EachBehind terminal.Dot (g.TriplesSameSubject inner)) (lists triples_value)
  others_give = star_gives false _ triples_value (one_gives false false _ triples_value (behind_gives false true false terminal.Dot _ start triples_value refl (λ q s text next. refl) same_subject_gives))

  -- a dot may stand at the end
  template_ends : Ends true start (g.TriplesTemplate inner) (lists triples_value)
  template_ends = then_ends true false _ _ start triples_value (lists triples_value) same_subject_gives
      (λ first. then_ends false false _ _ (triples_value first) (λ xs q. asks_triples q first && lists triples_value xs q) (lists triples_value)
      (later_gives false false _ (triples_value first) (lists triples_value) others_give)
      (λ others. any_ends false _ _ (lists triples_value (first ∷ others)) (λ _. lists triples_value (first ∷ others)) (lists triples_value)
      (maybe_ends false _ (lists triples_value (first ∷ others)) (λ _. lists triples_value (first ∷ others)) (λ _. lists triples_value (first ∷ others))
      (ends_there false true _ (lists triples_value (first ∷ others)) (λ _. lists triples_value (first ∷ others)) (the_gives false true terminal.Dot (lists triples_value (first ∷ others)) refl (λ q s text next. refl))) (λ q. refl) (λ x q. refl))
      (λ _ m. pure_ends m (first ∷ others) (lists triples_value (first ∷ others)) (lists triples_value) (λ q. refl))))

nodes_begin : (depth : ℕ) → Begins (g.Nodes_at depth)
unfolding Begins
nodes_begin zero ts x us d b = absurd d
nodes_begin (suc depth) ts x us d b = node_begins (g.Nodes_at depth) ts x us d b

nodes_give : (depth : ℕ) → Gives false false start (g.Nodes_at depth) node_value
unfolding Gives
nodes_give zero ts x us d = absurd d
nodes_give (suc depth) ts x us d = graph_node_gives (g.Nodes_at depth) (nodes_begin depth) (nodes_give depth) ts x us d

pub triples_end : (depth : ℕ) → Ends true start (g.TriplesTemplate (g.Nodes_at depth)) (lists triples_value)
triples_end depth = template_ends (g.Nodes_at depth) (nodes_begin depth) (nodes_give depth)
