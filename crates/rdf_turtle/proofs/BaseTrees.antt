-- What the grammar derives from the lexemes of a text fails just where a reference lacks a base.
use Rattle.std.proofs.Common.{◌≡◌, ◌∙◌, ap, refl, sym, subst, inl, inr, ℕ, zero, suc, Bool, true, false, ◌||◌, not, List, [], ◌∷◌, ◌++◌, map, Option, Some, None, true≢false}
use Rattle.std.proofs.lemmas.Bool.{and_parts, and_from}
use Rattle.std.specs.Prelude.{option_to_list}
use Rattle.std.specs.List.{list_any, list_all, AllByRecursion}
use Rattle.std.specs.Str.{IsUtf8, encode_utf8_all}
use Rattle.rdf_terms.specs.Literal.{is_tag}
use Rattle.rdf_tokens.specs.Values.{text_value, tag_value}
use Rattle.rdf_terms.specs.declared.term.Term.TheVariants as t
use Rattle.rdf_turtle.specs.declared.terminal.Terminal.{Terminal}
use Rattle.rdf_turtle.specs.declared.terminal.Terminal.TheVariants as terminal
use Rattle.rdf_turtle.specs.Lexemes.{Lexeme, Lexemes, Derives}
use Rattle.rdf_grammar.specs.declared.tree.Name.{Name}
use Rattle.rdf_grammar.specs.declared.tree.Name.TheVariants.{Full, Prefixed}
use Rattle.rdf_turtle.specs.declared.tree.Verb.{Verb}
use Rattle.rdf_turtle.specs.declared.tree.Verb.TheVariants as v
use Rattle.rdf_grammar.specs.declared.tree.Literal.{Literal}
use Rattle.rdf_grammar.specs.declared.tree.Literal.TheVariants as l
use Rattle.rdf_turtle.specs.declared.tree.Node.{Node}
use Rattle.rdf_turtle.specs.declared.tree.Node.TheVariants as n
use Rattle.rdf_turtle.specs.declared.tree.Node.TheOpen.{Node-F, Property-F}
use Rattle.rdf_turtle.specs.declared.tree.Node.TheFolds.{fold-Node, fold-Property, fold-roll-Node, fold-roll-Property}
use Rattle.rdf_turtle.specs.declared.tree.Property.{Property}
use Rattle.rdf_turtle.specs.declared.tree.Statement.{Statement}
use Rattle.rdf_turtle.specs.declared.tree.Statement.TheVariants as s
use Rattle.rdf_turtle.specs.Bases.{lacks_name, lacks_literal, lacks_property_of, lacks_node_of, lacks_node, lacks_property}
use Rattle.rdf_grammar.specs.Literals.{known_literal, proper_literal}
use Rattle.rdf_turtle.specs.Known.{holds, known_property_of, known_node_of, known_node, known_property}
use Rattle.rdf_turtle.specs.Meaning.{Meaning, Says, iri, node_of, property_of, meaning, property, has_properties, is_some_property}
use Rattle.rdf_grammar.specs.Keys.{key_of}
use Rattle.rdf_grammar.specs.Prologue.{knows, is_proper}
use Rattle.rdf_turtle.specs.Inside.Proper.{is_filled, proper_verb, proper_property_of, proper_node_of, proper_node, proper_property, is_literal, proper_statement}
use Rattle.rdf_grammar.specs.Terminals.{Slice}
use Rattle.rdf_grammar.specs.Derivations as grammar
use Rattle.rdf_grammar.specs.Derivations.{Then, Star, stop, more}
use Rattle.rdf_turtle.specs.Grammar as g
use Rattle.rdf_turtle.specs.Terminals.{word}
use Rattle.rdf_grammar.specs.Productions as productions
use Rattle.rdf_grammar.specs.declared.word.Word.{Word}
use Rattle.rdf_grammar.specs.declared.word.Word.TheVariants as w
use Rattle.rdf_turtle.proofs.GrammarWords.{IsJust, Tag, is_iri, is_pname, is_text, is_caret, is_integer, is_decimal, is_double, is_true, is_false, value_is, behind_is, tag_is}
use Rattle.rdf_turtle.specs.Inside.Formed.{Formed}
use Rattle.rdf_turtle.proofs.BaseLeaves.{is_tag_terminal, iri_utf8, local_formed, tag_formed, text_utf8}
use Rattle.rdf_tokens.proofs.CallerLemmas.{local_allowed}
use Rattle.rdf_turtle.proofs.BaseSteps.{NameFormed, VerbFormed, LiteralFormed, Any, IsIri, WellTerm, SubjectTerm, Fits, IsMore, NodeGoes, SomeGoes, SaysGoes, AllGo, AllSay, pure_goes, map_goes, wide_goes, iri_goes, literal_goes, labelled_goes, fresh_goes, each_goes, list_term_goes, list_inside_goes, property_goes}

-- ---- trees by what they are

module _ {A B : Type 0} (f : Node-F A B → A) (h : Property-F A B → B) where
  by-Name : (name : Name) → fold-Node A B f h (n.Name name) ≡ f (Node-F.Name name)
  by-Name name = ap (fold-Node A B f h) (sym (n.rolls-Name name)) ∙ fold-roll-Node A B f h (Node-F.Name name)

  by-Label : (label : Slice) → fold-Node A B f h (n.Label label) ≡ f (Node-F.Label label)
  by-Label label = ap (fold-Node A B f h) (sym (n.rolls-Label label)) ∙ fold-roll-Node A B f h (Node-F.Label label)

  by-Blank : (ps : List Property) → fold-Node A B f h (n.Blank ps) ≡ f (Node-F.Blank (map (fold-Property A B f h) ps))
  by-Blank ps = ap (fold-Node A B f h) (sym (n.rolls-Blank ps)) ∙ fold-roll-Node A B f h (Node-F.Blank ps)

  by-Collection : (xs : List Node) → fold-Node A B f h (n.Collection xs) ≡ f (Node-F.Collection (map (fold-Node A B f h) xs))
  by-Collection xs = ap (fold-Node A B f h) (sym (n.rolls-Collection xs)) ∙ fold-roll-Node A B f h (Node-F.Collection xs)

  by-Literal : (x : Literal) → fold-Node A B f h (n.Literal x) ≡ f (Node-F.Literal x)
  by-Literal x = ap (fold-Node A B f h) (sym (n.rolls-Literal x)) ∙ fold-roll-Node A B f h (Node-F.Literal x)

  by-property : (verb : Verb) (objects : List Node) → fold-Property A B f h (g.property_with verb objects) ≡ h (record { verb = verb; objects = map (fold-Node A B f h) objects })
  by-property verb objects = fold-roll-Property A B f h (record { verb = verb; objects = objects })

-- ---- what is good

abbrev NodeSays : Node → Type 0
NodeSays x = (based : Bool) (declared : List (List ℕ)) → known_node declared x ≡ true → SomeGoes based declared (meaning x) (lacks_node based x)

abbrev SubjectSays : Node → Type 0
SubjectSays x = (based : Bool) (declared : List (List ℕ)) → known_node declared x ≡ true → NodeGoes based declared true (meaning x) (lacks_node based x)

abbrev PropertySays : Property → Type 0
PropertySays p = (based : Bool) (declared : List (List ℕ)) → known_property declared p ≡ true → SaysGoes based declared (property p) (lacks_property based p)

pub record GoodNode (x : Node) : Type 0 where
  pub proper : proper_node x ≡ true
  pub says : NodeSays x

pub record GoodSubject (x : Node) : Type 0 where
  pub proper : proper_node x ≡ true
  pub subject : is_literal x ≡ false
  pub says : SubjectSays x

pub record GoodProperty (p : Property) : Type 0 where
  pub proper : proper_property p ≡ true
  pub says : PropertySays p

subject_good : (x : Node) → GoodSubject x → GoodNode x
subject_good x h = record { proper = h.proper; says = λ based declared k. (true, h.says based declared k) }

name_proper : (name : Name) → NameFormed name → is_proper name ≡ true
name_proper (Full reference) form = refl
name_proper (Prefixed prefix local) form = ap not (local_allowed local form)

verb_proper : (verb : Verb) → VerbFormed verb → proper_verb verb ≡ true
verb_proper (v.Name name) form = name_proper name form
verb_proper v.Type form = refl

literal_proper : (x : Literal) → LiteralFormed x → proper_literal x ≡ true
literal_proper (l.Plain text) form = refl
literal_proper (l.Tagged text tag) form = form.1
literal_proper (l.Typed text name) form = name_proper name form.1
literal_proper (l.Integer text) form = refl
literal_proper (l.Decimal text) form = refl
literal_proper (l.Double text) form = refl
literal_proper (l.Boolean value word) form = refl

nodes_proper : (xs : List Node) → AllByRecursion GoodNode xs → list_all holds (map proper_node xs) ≡ true
nodes_proper [] all = refl
nodes_proper (x ∷ xs) all = and_from (proper_node x) (list_all holds (map proper_node xs)) all.0.proper (nodes_proper xs all.1)

properties_proper : (ps : List Property) → AllByRecursion GoodProperty ps → list_all holds (map proper_property ps) ≡ true
properties_proper [] all = refl
properties_proper (p ∷ ps) all = and_from (proper_property p) (list_all holds (map proper_property ps)) all.0.proper (properties_proper ps all.1)

node_by : (based : Bool) (declared : List (List ℕ)) (plain : Bool) (m w : Meaning) (b c : Bool) → m ≡ w → b ≡ c → NodeGoes based declared plain w c → NodeGoes based declared plain m b
node_by based declared plain m w b c e f h = subst (λ (x : Meaning). NodeGoes based declared plain x b) (sym e) (subst (λ (x : Bool). NodeGoes based declared plain w x) (sym f) h)

or-false : (b : Bool) → (b || false) ≡ b
or-false true = refl
or-false false = refl

pub all_say : (based : Bool) (declared : List (List ℕ)) (ps : List Property) → AllByRecursion GoodProperty ps → list_all holds (map (known_property declared) ps) ≡ true
    → AllSay based declared (map property ps) (map (lacks_property based) ps)
all_say based declared [] all k = tt
all_say based declared (p ∷ ps) all k =
    let both = and_parts (known_property declared p) (list_all holds (map (known_property declared) ps)) k in
    (all.0.says based declared both.0, all_say based declared ps all.1 both.1)

all_go : (based : Bool) (declared : List (List ℕ)) (xs : List Node) → AllByRecursion GoodNode xs → list_all holds (map (known_node declared) xs) ≡ true
    → AllGo based declared (map meaning xs) (map (lacks_node based) xs)
all_go based declared [] all k = tt
all_go based declared (x ∷ xs) all k =
    let both = and_parts (known_node declared x) (list_all holds (map (known_node declared) xs)) k in
    (all.0.says based declared both.0, all_go based declared xs all.1 both.1)

name_says : (name : Name) → NameFormed name → SubjectSays (n.Name name)
name_says name form based declared k =
    let in_scope : knows declared name ≡ true = sym (by-Name (known_node_of declared) (known_property_of declared) name) ∙ k in
    node_by based declared true _ _ _ _ (by-Name node_of property_of name) (by-Name (lacks_node_of based) (lacks_property_of based) name) (record {
      term_flag = lacks_name based name;
      inside_flag = false;
      both = or-false (lacks_name based name);
      term = map_goes based declared (lacks_name based name) (iri name) t.Iri IsIri (Fits true) (iri_goes based declared name form in_scope) (λ i h. (h, λ e. refl));
      inside = λ x h. pure_goes based declared tt Any tt;
    })

label_says : (label : Slice) → SubjectSays (n.Label label)
label_says label based declared k =
    node_by based declared true _ _ _ _ (by-Label node_of property_of label) (by-Label (lacks_node_of based) (lacks_property_of based) label) (record {
      term_flag = false;
      inside_flag = false;
      both = refl;
      term = wide_goes based declared false _ SubjectTerm (Fits true) (labelled_goes based declared (key_of label)) (λ x h. (h.1, λ e. h.0));
      inside = λ x h. pure_goes based declared tt Any tt;
    })

blank_says : (ps : List Property) → AllByRecursion GoodProperty ps → SubjectSays (n.Blank ps)
blank_says ps all based declared k =
    let in_scope : list_all holds (map (known_property declared) ps) ≡ true = sym (by-Blank (known_node_of declared) (known_property_of declared) ps) ∙ k in
    node_by based declared true _ _ _ _ (by-Blank node_of property_of ps) (by-Blank (lacks_node_of based) (lacks_property_of based) ps) (record {
      term_flag = false;
      inside_flag = list_any holds (map (lacks_property based) ps);
      both = refl;
      term = wide_goes based declared false _ SubjectTerm (Fits true) (fresh_goes based declared) (λ x h. (h.1, λ e. h.0));
      inside = λ x h. each_goes based declared (map property ps) (map (lacks_property based) ps) (all_say based declared ps all in_scope) x (h.1 refl, h.0);
    })

collection_says : (xs : List Node) → AllByRecursion GoodNode xs → SubjectSays (n.Collection xs)
collection_says xs all based declared k =
    let in_scope : list_all holds (map (known_node declared) xs) ≡ true = sym (by-Collection (known_node_of declared) (known_property_of declared) xs) ∙ k in
    node_by based declared true _ _ _ _ (by-Collection node_of property_of xs) (by-Collection (lacks_node_of based) (lacks_property_of based) xs) (record {
      term_flag = false;
      inside_flag = list_any holds (map (lacks_node based) xs);
      both = refl;
      term = wide_goes based declared false _ SubjectTerm (Fits true) (list_term_goes based declared (map meaning xs)) (λ x h. (h.1, λ e. h.0));
      inside = λ x h. list_inside_goes based declared (map meaning xs) (map (lacks_node based) xs) (all_go based declared xs all in_scope) x (h.1 refl, h.0);
    })

literal_says : (x : Literal) → LiteralFormed x → NodeSays (n.Literal x)
literal_says x form based declared k =
    let in_scope : known_literal declared x ≡ true = sym (by-Literal (known_node_of declared) (known_property_of declared) x) ∙ k in (
      false,
      node_by based declared false _ _ _ _ (by-Literal node_of property_of x) (by-Literal (lacks_node_of based) (lacks_property_of based) x) (record {
        term_flag = lacks_literal based x;
        inside_flag = false;
        both = or-false (lacks_literal based x);
        term = wide_goes based declared (lacks_literal based x) _ WellTerm (Fits false) (literal_goes based declared x form in_scope) (λ y h. (h, λ e. absurd (true≢false (sym e))));
        inside = λ y h. pure_goes based declared tt Any tt;
      }),
    )

some_map : {A B : Type 0} (f : A → B) (xs : List A) → IsMore xs → IsMore (map f xs)
some_map f [] h = h
some_map f (x ∷ xs) h = tt

property_says : (verb : Verb) (objects : List Node) → VerbFormed verb → AllByRecursion GoodNode objects × IsMore objects → PropertySays (g.property_with verb objects)
property_says verb objects form all based declared k =
    let both = and_parts _ _ (sym (by-property (known_node_of declared) (known_property_of declared) verb objects) ∙ k) in
    subst (λ (f : Says). SaysGoes based declared f (lacks_property based (g.property_with verb objects))) (sym (by-property node_of property_of verb objects))
    (subst (λ (b : Bool). SaysGoes based declared (property_of (record { verb = verb; objects = map meaning objects })) b) (sym (by-property (lacks_node_of based) (lacks_property_of based) verb objects))
    (property_goes based declared verb (map meaning objects) (map (lacks_node based) objects) form both.0 (some_map meaning objects all.1) (all_go based declared objects all.0 both.1)))

-- ---- good trees

good_name : (name : Name) → NameFormed name → GoodSubject (n.Name name)
good_name name form = record { proper = by-Name proper_node_of proper_property_of name ∙ name_proper name form; subject = refl; says = name_says name form }

good_label : (label : Slice) → GoodSubject (n.Label label)
good_label label = record { proper = by-Label proper_node_of proper_property_of label; subject = refl; says = label_says label }

good_blank : (ps : List Property) → AllByRecursion GoodProperty ps → GoodSubject (n.Blank ps)
good_blank ps all = record { proper = by-Blank proper_node_of proper_property_of ps ∙ properties_proper ps all; subject = refl; says = blank_says ps all }

good_collection : (xs : List Node) → AllByRecursion GoodNode xs → GoodSubject (n.Collection xs)
good_collection xs all = record { proper = by-Collection proper_node_of proper_property_of xs ∙ nodes_proper xs all; subject = refl; says = collection_says xs all }

good_literal : (x : Literal) → LiteralFormed x → GoodNode (n.Literal x)
good_literal x form = record { proper = by-Literal proper_node_of proper_property_of x ∙ literal_proper x form; says = literal_says x form }

filled_map : (xs : List Node) → IsMore xs → is_filled (map proper_node xs) ≡ true
filled_map [] h = absurd h
filled_map (x ∷ xs) h = refl

good_property : (verb : Verb) (objects : List Node) → VerbFormed verb → AllByRecursion GoodNode objects × IsMore objects → GoodProperty (g.property_with verb objects)
good_property verb objects form all = record {
  proper = by-property proper_node_of proper_property_of verb objects
      ∙ and_from (proper_verb verb) _ (verb_proper verb form)
      (and_from (is_filled (map proper_node objects)) (list_all holds (map proper_node objects)) (filled_map objects all.1) (nodes_proper objects all.0));
  says = property_says verb objects form all;
}

-- ---- derivations

AllFormed : Lexemes → Type 0
AllFormed ts = AllByRecursion Formed ts

-- what is derived there is good, and leaves lexemes that have their forms
Gives : {A : Type 0} → Derives A → (A → Type 0) → Type 0
Gives {A} P Good = (ts : Lexemes) (x : A) (us : Lexemes) → P ts x us → AllFormed ts → Good x × AllFormed us

then_gives : {A B : Type 0} (P : Derives A) (F : A → Derives B) (Good : A → Type 0) (Best : B → Type 0) → Gives P Good → ((a : A) → Good a → Gives (F a) Best) → Gives (Then P F) Best
unfolding Gives
then_gives P F Good Best p f ts x us d w = let r = p ts d.first d.mid d.reads w in f d.first r.0 d.mid x us d.goes r.1

pure_gives : {A : Type 0} (a : A) (Good : A → Type 0) → Good a → Gives (grammar.pure a) Good
unfolding Gives
pure_gives a Good h ts x us d w = (rw (← d.0) h, rw (← d.1) w)

or_gives : {A : Type 0} (P Q : Derives A) (Good : A → Type 0) → Gives P Good → Gives Q Good → Gives (grammar.◌∣◌ P Q) Good
unfolding Gives
or_gives P Q Good p q ts x us (inl d) w = p ts x us d w
or_gives P Q Good p q ts x us (inr d) w = q ts x us d w

-- the slice is the text of such a lexeme
record IsOf (k : Terminal) (text : Slice) : Type 0 where
  lexeme : Lexeme
  formed : Formed lexeme
  terminal : lexeme.terminal ≡ k
  is : lexeme.text ≡ text

front_formed : (ts us : Lexemes) (t : Lexeme) → ts ≡ t ∷ us → AllFormed ts → Formed t × AllFormed us
unfolding AllFormed
front_formed ts us t e w = let both : AllByRecursion Formed (t ∷ us) = subst (λ (x : Lexemes). AllByRecursion Formed x) e w in (both.0, both.1)

the_gives : (k : Terminal) → Gives (grammar.the k) Any
unfolding Gives
the_gives k ts x us d w = (tt, (front_formed ts us d.0 d.2 w).1)

value_gives : (k : Terminal) → Gives (grammar.value k) (IsOf k)
unfolding Gives
value_gives k ts x us d w =
    let f = front_formed ts us d.0 d.3 w in (record { lexeme = d.0; formed = f.0; terminal = d.1; is = d.2 }, f.1)

map_gives : {A B : Type 0} (f : A → B) (P : Derives A) (Good : A → Type 0) (Best : B → Type 0) → Gives P Good → ((a : A) → Good a → Best (f a)) → Gives (grammar.◌<$>◌ f P) Best
map_gives f P Good Best p h = then_gives P _ Good Best p (λ a x. pure_gives (f a) Best (h a x))

behind_gives : {A : Type 0} (k : Terminal) (P : Derives A) (Good : A → Type 0) → Gives P Good → Gives (grammar.◌>>◌ (grammar.the k) P) Good
behind_gives k P Good p = then_gives (grammar.the k) _ Any Good (the_gives k) (λ _ _. p)

closed_gives : {A : Type 0} (k : Terminal) (x : A) (Good : A → Type 0) → Good x → Gives (grammar.◌>>◌ (grammar.the k) (grammar.pure x)) Good
closed_gives k x Good h = behind_gives k _ Good (pure_gives x Good h)

abbrev IsGoodOption : {A : Type 0} → (A → Type 0) → Option A → Type 0
IsGoodOption Good None = Unit {0}
IsGoodOption Good (Some x) = Good x

maybe_gives : {A : Type 0} (P : Derives A) (Good : A → Type 0) → Gives P Good → Gives (grammar.maybe P) (IsGoodOption Good)
unfolding Gives
maybe_gives P Good p ts None us d w = (tt, rw (← d) w)
maybe_gives P Good p ts (Some x) us d w = p ts x us d w

good_joined : {A : Type 0} (Good : A → Type 0) (xs ys : List A) → AllByRecursion Good xs → AllByRecursion Good ys → AllByRecursion Good (xs ++ ys)
good_joined Good [] ys a b = b
good_joined Good (x ∷ xs) ys a b = (a.0, good_joined Good xs ys a.1 b)

star_gives : {A : Type 0} (P : Derives (List A)) (Good : A → Type 0) → Gives P (AllByRecursion Good) → Gives (Star P) (AllByRecursion Good)
unfolding Gives
star_gives P Good p ts xs us stop w = (tt, w)
star_gives P Good p ts xs us (more {mid = mid} {x = x} {xs = ys} r s) w =
    let a = p ts x mid r w in
    let b = star_gives P Good p mid ys us s a.1 in
    (good_joined Good x ys a.0 b.0, b.1)

one_gives : {A : Type 0} (P : Derives A) (Good : A → Type 0) → Gives P Good → Gives (grammar.one P) (AllByRecursion Good)
one_gives P Good p = map_gives (λ x. x ∷ []) P Good (AllByRecursion Good) p (λ a h. (h, tt))

-- ---- productions

reference_formed : (r : Slice) → IsOf terminal.Iri r → NameFormed (Full r)
reference_formed r h = subst (λ (x : Slice). NameFormed (Full x)) h.is (iri_utf8 h.lexeme h.formed h.terminal)

prefixed_formed : (text : Slice) → IsOf terminal.Pname text → NameFormed (productions.prefixed text)
prefixed_formed text h = subst (λ (x : Slice). NameFormed (productions.prefixed x)) h.is (local_formed h.lexeme h.formed h.terminal)

abbrev IsTag : Slice → Type 0
IsTag tag = is_tag (tag_value tag) ≡ true

tag_at : (k : Terminal) (tag : Slice) → is_tag_terminal k ≡ true → IsOf k tag → IsTag tag
tag_at k tag e h = subst IsTag h.is (tag_formed h.lexeme h.formed (ap is_tag_terminal h.terminal ∙ e))

text_formed : (form : Slice) → IsOf terminal.Text form → IsUtf8 (text_value form)
text_formed form h = subst (λ (x : Slice). IsUtf8 (text_value x)) h.is (text_utf8 h.lexeme h.formed h.terminal)

-- the characters of a lexeme are a text
own_formed : (k : Terminal) (form : Slice) → IsOf k form → IsUtf8 (encode_utf8_all form)
own_formed k form h = subst (λ (x : Slice). IsUtf8 (encode_utf8_all x)) h.is (h.lexeme.text, (h.formed.scalar, refl))

-- what derives no more gives the same
by_gives : {A : Type 0} (P Q : Derives A) (Good : A → Type 0) → ((ts : Lexemes) (x : A) (us : Lexemes) → P ts x us → Q ts x us) → Gives Q Good → Gives P Good
unfolding Gives
by_gives P Q Good there q ts x us d w = q ts x us (there ts x us d) w

word_gives : (w : Word) (k : Terminal) → IsJust w k → Gives (productions.value word w) (IsOf k)
word_gives w k is = by_gives _ _ (IsOf k) (value_is w k is) (value_gives k)

behind_word : {A : Type 0} (w : Word) (k : Terminal) → IsJust w k → (P : Derives A) (Good : A → Type 0) → Gives P Good → Gives (grammar.◌>>◌ (productions.the word w) P) Good
behind_word w k is P Good p = by_gives _ _ Good (behind_is w k P is) (behind_gives k P Good p)

iri_gives : Gives g.Iri NameFormed
iri_gives = or_gives _ _ NameFormed (map_gives Full _ _ NameFormed (word_gives w.Iri terminal.Iri is_iri) reference_formed) (map_gives productions.prefixed _ _ NameFormed (word_gives w.Pname terminal.Pname is_pname) prefixed_formed)

verb_gives : Gives g.AVerb VerbFormed
verb_gives = or_gives _ _ VerbFormed (map_gives v.Name _ NameFormed VerbFormed iri_gives (λ a h. h)) (closed_gives terminal.A v.Type VerbFormed tt)

tag_of : (k : Terminal) → is_tag_terminal k ≡ true → Gives (grammar.value k) IsTag
unfolding Gives
tag_of k e ts x us d w = let r = value_gives k ts x us d w in (tag_at k x e r.0, r.1)

tag_gives : Gives Tag IsTag
tag_gives = or_gives _ _ IsTag (tag_of terminal.AtWord refl) (or_gives _ _ IsTag (tag_of terminal.AtPrefix refl) (tag_of terminal.AtBase refl))

suffix_gives : (form : Slice) → IsUtf8 (text_value form) → Gives (productions.Suffix word form) LiteralFormed
suffix_gives form text =
    or_gives _ _ LiteralFormed (map_gives (l.Tagged form) _ IsTag LiteralFormed (by_gives _ Tag IsTag tag_is tag_gives) (λ a h. (text, h)))
    (or_gives _ _ LiteralFormed (behind_word w.Caret terminal.Caret is_caret _ LiteralFormed (map_gives (l.Typed form) _ NameFormed LiteralFormed iri_gives (λ a h. (text, h)))) (pure_gives (l.Plain form) LiteralFormed text))

text_gives : Gives (productions.RDFLiteral word) LiteralFormed
text_gives = then_gives _ _ _ LiteralFormed (word_gives w.Text terminal.Text is_text) (λ form h. suffix_gives form (text_formed form h))

number_gives : Gives (productions.NumericLiteral word) LiteralFormed
number_gives =
    or_gives _ _ LiteralFormed (map_gives l.Integer _ _ LiteralFormed (word_gives w.Integer terminal.Integer is_integer) (own_formed terminal.Integer))
    (or_gives _ _ LiteralFormed (map_gives l.Decimal _ _ LiteralFormed (word_gives w.Decimal terminal.Decimal is_decimal) (own_formed terminal.Decimal))
    (map_gives l.Double _ _ LiteralFormed (word_gives w.Double terminal.Double is_double) (own_formed terminal.Double)))

truth_gives : Gives (productions.BooleanLiteral word) LiteralFormed
truth_gives =
    or_gives _ _ LiteralFormed (map_gives (l.Boolean true) _ _ LiteralFormed (word_gives w.True terminal.True is_true) (λ a h. tt))
    (map_gives (l.Boolean false) _ _ LiteralFormed (word_gives w.False terminal.False is_false) (λ a h. tt))

literal_gives : Gives g.ALiteral LiteralFormed
literal_gives = or_gives _ _ LiteralFormed text_gives (or_gives _ _ LiteralFormed number_gives truth_gives)

abbrev SomeNodes : List Node → Type 0
SomeNodes xs = AllByRecursion GoodNode xs × IsMore xs

abbrev AllProperties : List Property → Type 0
AllProperties ps = AllByRecursion GoodProperty ps

abbrev pub SomeProperties : List Property → Type 0
SomeProperties ps = AllByRecursion GoodProperty ps × IsMore ps

some_property : (o : Option Property) → IsGoodOption GoodProperty o → AllProperties (option_to_list o)
some_property None h = tt
some_property (Some x) h = (h, tt)

module _ (P : Derives Node) (p : Gives P GoodNode) where
  objects_give : Gives (g.Objects P) SomeNodes
  objects_give = then_gives _ _ GoodNode _ p (λ first h. then_gives _ _ (AllByRecursion GoodNode) _ (star_gives _ GoodNode (one_gives _ GoodNode (behind_gives terminal.Comma P GoodNode p)))
      (λ others hs. pure_gives (first ∷ others) SomeNodes ((h, hs), tt)))

  property_gives : Gives (g.VerbObjects P) GoodProperty
  property_gives = then_gives _ _ VerbFormed _ verb_gives (λ verb h. then_gives _ _ SomeNodes _ objects_give (λ objects hs. pure_gives (g.property_with verb objects) GoodProperty (good_property verb objects h hs)))

  predicate_object_list_gives : Gives (g.PredicateObjectList P) SomeProperties
  predicate_object_list_gives = then_gives _ _ GoodProperty _ property_gives (λ first h. then_gives _ _ AllProperties _
      (star_gives _ GoodProperty (behind_gives terminal.Semicolon _ AllProperties (map_gives option_to_list _ (IsGoodOption GoodProperty) AllProperties (maybe_gives _ GoodProperty property_gives) some_property)))
      (λ others hs. pure_gives (first ∷ others) SomeProperties ((h, hs), tt)))

  anonymous_gives : Gives (g.Anonymous P) AllProperties
  anonymous_gives = behind_gives terminal.OpenBracket _ AllProperties (closed_gives terminal.CloseBracket [] AllProperties tt)

  blank_node_property_list_gives : Gives (g.BlankNodePropertyList P) SomeProperties
  blank_node_property_list_gives = behind_gives terminal.OpenBracket _ SomeProperties (then_gives _ _ SomeProperties _ predicate_object_list_gives (λ ps h. closed_gives terminal.CloseBracket ps SomeProperties h))

  collection_gives : Gives (g.Collection P) (AllByRecursion GoodNode)
  collection_gives = behind_gives terminal.Open _ (AllByRecursion GoodNode) (then_gives _ _ (AllByRecursion GoodNode) _ (star_gives _ GoodNode (one_gives P GoodNode p)) (λ items h. closed_gives terminal.Close items (AllByRecursion GoodNode) h))

  subject_gives : Gives (g.Subject P) GoodSubject
  subject_gives =
      or_gives _ _ GoodSubject (map_gives n.Name _ NameFormed GoodSubject iri_gives good_name)
      (or_gives _ _ GoodSubject (or_gives _ _ GoodSubject (map_gives n.Label _ _ GoodSubject (value_gives terminal.BlankLabel) (λ a h. good_label a)) (map_gives n.Blank _ AllProperties GoodSubject anonymous_gives good_blank))
      (map_gives n.Collection _ (AllByRecursion GoodNode) GoodSubject collection_gives good_collection))

  object_gives : Gives (g.Object P) GoodNode
  object_gives =
      or_gives _ _ GoodNode (map_gives n.Name _ NameFormed GoodNode iri_gives (λ a h. subject_good (n.Name a) (good_name a h)))
      (or_gives _ _ GoodNode (or_gives _ _ GoodNode (map_gives n.Label _ _ GoodNode (value_gives terminal.BlankLabel) (λ a h. subject_good (n.Label a) (good_label a))) (map_gives n.Blank _ AllProperties GoodNode anonymous_gives (λ ps h. subject_good (n.Blank ps) (good_blank ps h))))
      (or_gives _ _ GoodNode (map_gives n.Collection _ (AllByRecursion GoodNode) GoodNode collection_gives (λ xs h. subject_good (n.Collection xs) (good_collection xs h)))
      (or_gives _ _ GoodNode (map_gives n.Blank _ SomeProperties GoodNode blank_node_property_list_gives (λ ps h. subject_good (n.Blank ps) (good_blank ps h.0))) (map_gives n.Literal _ LiteralFormed GoodNode literal_gives good_literal))))

objects_at_give : (depth : ℕ) → Gives (g.Objects_at depth) GoodNode
unfolding Gives
objects_at_give zero ts x us d w = absurd d
objects_at_give (suc depth) ts x us d w = object_gives (g.Objects_at depth) (objects_at_give depth) ts x us d w

-- ---- statements

-- a subject that may stand with these properties
pub record GoodTriples (node : Node) (ps : List Property) : Type 0 where
  pub subject : GoodSubject node
  pub properties : AllByRecursion GoodProperty ps
  pub some : has_properties (meaning node).alone ps ≡ true

abbrev pub GoodStatement : Statement → Type 0
GoodStatement (s.Prefix prefix reference) = NameFormed (Full reference)
GoodStatement (s.Base reference) = NameFormed (Full reference)
GoodStatement (s.Triples subject ps) = GoodTriples subject ps

namespace_gives : Gives (productions.namespace word) Any
unfolding Gives
namespace_gives ts x us d w = (tt, (front_formed ts us d.0 d.4 w).1)

abbrev GoodBound : Slice × Slice → Type 0
GoodBound b = GoodStatement (g.bound b)

binding_gives : Gives g.Binding GoodStatement
binding_gives = map_gives g.bound _ GoodBound GoodStatement
    (then_gives _ _ Any GoodBound namespace_gives (λ prefix h. then_gives _ _ (IsOf terminal.Iri) GoodBound (word_gives w.Iri terminal.Iri is_iri)
    (λ reference i. pure_gives (prefix, reference) GoodBound (reference_formed reference i))))
    (λ b h. h)

base_gives : Gives g.Base GoodStatement
base_gives = map_gives s.Base _ (IsOf terminal.Iri) GoodStatement (value_gives terminal.Iri) reference_formed

dotted_gives : (P : Derives Statement) → Gives P GoodStatement → Gives (g.Dotted P) GoodStatement
dotted_gives P p = then_gives _ _ GoodStatement _ p (λ x h. closed_gives terminal.Dot x GoodStatement h)

directive_gives : Gives g.Directive GoodStatement
directive_gives =
    or_gives _ _ GoodStatement (behind_gives terminal.AtPrefix _ GoodStatement (dotted_gives _ binding_gives)) (or_gives _ _ GoodStatement (behind_gives terminal.AtBase _ GoodStatement (dotted_gives _ base_gives))
    (or_gives _ _ GoodStatement (behind_gives terminal.Prefix _ GoodStatement binding_gives) (behind_gives terminal.Base _ GoodStatement base_gives)))

some_behind : (alone : Bool) (ps : List Property) → IsMore ps → has_properties alone ps ≡ true
some_behind alone [] h = absurd h
some_behind alone (p ∷ ps) h = refl

some_inside : (ps : List Property) → IsMore ps → is_some_property (map property ps) ≡ true
some_inside [] h = absurd h
some_inside (p ∷ ps) h = refl

alone_or_behind : (ps : List Property) → has_properties true ps ≡ true
alone_or_behind [] = refl
alone_or_behind (p ∷ ps) = refl

some_either : (inside ps : List Property) → IsMore inside → has_properties (meaning (n.Blank inside)).alone ps ≡ true
some_either inside ps h =
    ap (λ (m : Meaning). has_properties m.alone ps) (by-Blank node_of property_of inside) ∙ ap (λ (b : Bool). has_properties b ps) (some_inside inside h) ∙ alone_or_behind ps

some_properties : (o : Option (List Property)) → IsGoodOption SomeProperties o → AllProperties (g.all_of o)
some_properties None h = tt
some_properties (Some ps) h = h.0

module _ (I P : Derives Node) (i : Gives I GoodNode) (p : Gives P GoodNode) where
  about_gives : Gives (g.About I P) GoodStatement
  about_gives = then_gives _ _ GoodSubject _ (subject_gives I i) (λ subject h. then_gives _ _ SomeProperties _ (predicate_object_list_gives P p)
      (λ ps hs. pure_gives (s.Triples subject ps) GoodStatement (record { subject = h; properties = hs.0; some = some_behind (meaning subject).alone ps hs.1 })))

  about_blank_gives : Gives (g.AboutBlank I P) GoodStatement
  about_blank_gives = then_gives _ _ SomeProperties _ (blank_node_property_list_gives I i) (λ inside h. then_gives _ _ (IsGoodOption SomeProperties) _ (maybe_gives _ SomeProperties (predicate_object_list_gives P p))
      (λ ps hs. pure_gives (s.Triples (n.Blank inside) (g.all_of ps)) GoodStatement (record { subject = good_blank inside h.0; properties = some_properties ps hs; some = some_either inside (g.all_of ps) h.1 })))

  statement_gives : Gives (g.AStatement I P) GoodStatement
  statement_gives = or_gives _ _ GoodStatement directive_gives (dotted_gives _ (or_gives _ _ GoodStatement about_gives about_blank_gives))

document_gives : (depth : ℕ) → Gives (g.Document depth) (AllByRecursion GoodStatement)
document_gives depth = star_gives _ GoodStatement (one_gives _ GoodStatement (statement_gives (g.Objects_at depth) (g.Objects_at (suc depth)) (objects_at_give depth) (objects_at_give (suc depth))))

statement_proper : (w : Statement) → GoodStatement w → proper_statement w ≡ true
statement_proper (s.Prefix prefix reference) h = refl
statement_proper (s.Base reference) h = refl
statement_proper (s.Triples node ps) h =
    and_from (not (is_literal node)) _ (ap not h.subject.subject)
    (and_from (proper_node node) _ h.subject.proper (and_from (list_all holds (map proper_property ps)) _ (properties_proper ps h.properties) h.some))

pub statement_of_formed : (depth : ℕ) (ts : Lexemes) (x : Statement) (us : Lexemes) → AllByRecursion Formed ts → g.AStatement (g.Objects_at depth) (g.Objects_at (suc depth)) ts x us
    → (proper_statement x ≡ true) × AllByRecursion Formed us
unfolding Gives AllFormed
statement_of_formed depth ts x us w d =
    let r = statement_gives (g.Objects_at depth) (g.Objects_at (suc depth)) (objects_at_give depth) (objects_at_give (suc depth)) ts x us d w in
    (statement_proper x r.0, r.1)

pub good_document : (ts : Lexemes) (ss : List Statement) → AllByRecursion Formed ts → g.IsDocument ts ss → AllByRecursion GoodStatement ss
unfolding Gives AllFormed
good_document ts ss w d = (document_gives d.0 ts ss [] d.1 w).0
