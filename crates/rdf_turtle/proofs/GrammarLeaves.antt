-- The leaves of a tree are the lexemes that carry content, in order, and its subjects are no literals.
use Rattle.std.proofs.Common.{◌≡◌, ℕ, zero, suc, Bool, List, [], ◌∷◌, ◌++◌, map, Option, Some, None, refl, sym, subst, ◌∙◌, ap, inl, inr, append_assoc, append-nil, true, false}
use Rattle.std.specs.Prelude.{option_to_list}
use Rattle.std.specs.List.{AllByRecursion}
use Rattle.rdf_turtle.specs.declared.terminal.Terminal.{Terminal}
use Rattle.rdf_turtle.specs.declared.terminal.Terminal.TheVariants as terminal
use Rattle.rdf_turtle.specs.Lexemes.{Lexeme, Lexemes, Derives}
use Rattle.rdf_grammar.specs.declared.tree.Name.{Name}
use Rattle.rdf_grammar.specs.declared.tree.Name.TheVariants.{Full}
use Rattle.rdf_turtle.specs.declared.tree.Verb.{Verb}
use Rattle.rdf_turtle.specs.declared.tree.Verb.TheVariants as v
use Rattle.rdf_grammar.specs.declared.tree.Literal.{Literal}
use Rattle.rdf_grammar.specs.declared.tree.Literal.TheVariants as l
use Rattle.rdf_turtle.specs.declared.tree.Node.{Node}
use Rattle.rdf_turtle.specs.declared.tree.Node.TheVariants as n
use Rattle.rdf_turtle.specs.declared.tree.Node.TheOpen.{Node-F}
use Rattle.rdf_turtle.specs.declared.tree.Node.TheFolds.{fold-roll-Node, fold-roll-Property}
use Rattle.rdf_turtle.specs.declared.tree.Property.{Property}
use Rattle.rdf_turtle.specs.declared.tree.Statement.{Statement}
use Rattle.rdf_turtle.specs.declared.tree.Statement.TheVariants as s
use Rattle.rdf_tokens.specs.Values.{prefix_part, local_part}
use Rattle.rdf_grammar.specs.Terminals.{Slice}
use Rattle.rdf_grammar.specs.Derivations as grammar
use Rattle.rdf_grammar.specs.Derivations.{Then, Star, stop, more}
use Rattle.rdf_turtle.specs.Grammar as g
use Rattle.rdf_turtle.specs.Terminals.{word}
use Rattle.rdf_grammar.specs.Productions as productions
use Rattle.rdf_grammar.specs.declared.word.Word.{Word}
use Rattle.rdf_grammar.specs.declared.word.Word.TheVariants as w
use Rattle.rdf_turtle.proofs.GrammarWords.{IsJust, Tag, is_iri, is_pname, is_text, is_caret, is_integer, is_decimal, is_double, is_true, is_false, value_is, behind_is, tag_is}
use Rattle.rdf_turtle.specs.Leaves.{Leaf, leaf, directive, content, takes_tag, contents, joined, name_leaves, verb_leaves, literal_leaves, node_leaves_of, property_leaves_of, node_leaves, property_leaves, statement_leaves, document_leaves, IsSubject, HasSubject}

-- ---- what lexemes carry

-- whether the last lexeme is a text; without one, whether one stands before
abbrev last : Bool → Lexemes → Bool
last b [] = b
last b (t ∷ ts) = last (takes_tag t.terminal) ts

contents-append : (f h : Lexemes) (b : Bool) → contents b (f ++ h) ≡ contents b f ++ contents (last b f) h
contents-append [] h b = refl
contents-append (t ∷ f) h b =
    ap (λ (xs : List Leaf). content b t.terminal t.text ++ xs) (contents-append f h (takes_tag t.terminal))
    ∙ sym (append_assoc (content b t.terminal t.text) (contents (takes_tag t.terminal) f) (contents (last (takes_tag t.terminal) f) h))

last-append : (f h : Lexemes) (b : Bool) → last b (f ++ h) ≡ last (last b f) h
last-append [] h b = refl
last-append (t ∷ f) h b = last-append f h (takes_tag t.terminal)

-- the lexemes carry these, behind a text or not
abbrev Says : List Leaf → Lexemes → Type 0
Says xs f = (b : Bool) → contents b f ≡ xs

both_say : (xs ys : List Leaf) (f h : Lexemes) → Says xs f → Says ys h → Says (xs ++ ys) (f ++ h)
both_say xs ys f h p q = λ b. contents-append f h b ∙ ap (λ (zs : List Leaf). zs ++ contents (last b f) h) (p b) ∙ ap (λ (zs : List Leaf). xs ++ zs) (q (last b f))

say_by : (xs ys : List Leaf) (f : Lexemes) → xs ≡ ys → Says ys f → Says xs f
say_by xs ys f e h = λ b. h b ∙ sym e

-- a terminal that carries nothing
abbrev Sign : Terminal → Type 0
Sign k = (b : Bool) (text : Slice) → content b k text ≡ []

sign_before : (k : Terminal) (t : Lexeme) (xs : List Leaf) (f : Lexemes) → Sign k → t.terminal ≡ k → Says xs f → Says xs (t ∷ f)
sign_before k t xs f sign is h = λ b. ap (λ (j : Terminal). content b j t.text ++ contents (takes_tag t.terminal) f) is ∙ ap (λ (zs : List Leaf). zs ++ contents (takes_tag t.terminal) f) (sign b t.text) ∙ h (takes_tag t.terminal)

sign_behind : (k : Terminal) (t : Lexeme) (xs : List Leaf) (f : Lexemes) → Sign k → t.terminal ≡ k → Says xs f → Says xs (f ++ t ∷ [])
sign_behind k t xs f sign is h = say_by xs (xs ++ []) (f ++ t ∷ []) (sym (append-nil xs)) (both_say xs [] f (t ∷ []) h (sign_before k t [] [] sign is (λ b. refl)))

-- the one lexeme, of this terminal and with these characters
record IsValue (k : Terminal) (slice : Slice) (f : Lexemes) : Type 0 where
  lexeme : Lexeme
  terminal : lexeme.terminal ≡ k
  text : lexeme.text ≡ slice
  is : f ≡ lexeme ∷ []

value_carries : (k : Terminal) (text : Slice) (f : Lexemes) → IsValue k text f → (b : Bool) → contents b f ≡ content b k text
value_carries k text f h = λ b. ap (λ (x : Lexemes). contents b x) h.is ∙ append-nil (content b h.lexeme.terminal h.lexeme.text) ∙ ap (λ (j : Terminal). content b j h.lexeme.text) h.terminal ∙ ap (λ (x : Slice). content b k x) h.text

value_says : (k : Terminal) (text : Slice) (xs : List Leaf) (f : Lexemes) → IsValue k text f → ((b : Bool) → content b k text ≡ xs) → Says xs f
value_says k text xs f h carries = λ b. value_carries k text f h b ∙ carries b

-- ---- derivations

-- the lexemes of a tree, before the rest
record Found {A : Type 0} (Good : A → Lexemes → Type 0) (ts : Lexemes) (x : A) (us : Lexemes) : Type 0 where
  front : Lexemes
  is : ts ≡ front ++ us
  good : Good x front

Gives : {A : Type 0} → Derives A → (A → Lexemes → Type 0) → Type 0
Gives {A} P Good = (ts : Lexemes) (x : A) (us : Lexemes) → P ts x us → Found Good ts x us

wide_gives : {A : Type 0} (P : Derives A) (Good Best : A → Lexemes → Type 0) → Gives P Good → ((x : A) (f : Lexemes) → Good x f → Best x f) → Gives P Best
unfolding Gives
wide_gives P Good Best p h ts x us d = let r = p ts x us d in record { front = r.front; is = r.is; good = h x r.front r.good }

pure_gives : {A : Type 0} (a : A) (Good : A → Lexemes → Type 0) → Good a [] → Gives (grammar.pure a) Good
unfolding Gives
pure_gives {A} a Good h ts x us d = record { front = []; is = d.1; good = subst (λ (y : A). Good y []) d.0 h }

or_gives : {A : Type 0} (P Q : Derives A) (Good : A → Lexemes → Type 0) → Gives P Good → Gives Q Good → Gives (grammar.◌∣◌ P Q) Good
unfolding Gives
or_gives P Q Good p q ts x us (inl d) = p ts x us d
or_gives P Q Good p q ts x us (inr d) = q ts x us d

value_gives : (k : Terminal) → Gives (grammar.value k) (IsValue k)
unfolding Gives
value_gives k ts x us d = record { front = d.0 ∷ []; is = d.3; good = record { lexeme = d.0; terminal = d.1; text = d.2; is = refl } }

map_gives : {A B : Type 0} (f : A → B) (P : Derives A) (Good : A → Lexemes → Type 0) (Best : B → Lexemes → Type 0) → Gives P Good
    → ((a : A) (front : Lexemes) → Good a front → Best (f a) front) → Gives (grammar.◌<$>◌ f P) Best
unfolding Gives
map_gives {A} {B} f P Good Best p h ts x us d =
    let r = p ts d.first d.mid d.reads in
    record { front = r.front; is = r.is ∙ ap (λ (z : Lexemes). r.front ++ z) d.goes.1; good = subst (λ (y : B). Best y r.front) d.goes.0 (h d.first r.front r.good) }

-- behind a lexeme of this terminal
behind_gives : {A : Type 0} (k : Terminal) (P : Derives A) (Good Best : A → Lexemes → Type 0) → Gives P Good
    → ((x : A) (t : Lexeme) (front : Lexemes) → t.terminal ≡ k → Good x front → Best x (t ∷ front)) → Gives (grammar.◌>>◌ (grammar.the k) P) Best
unfolding Gives
behind_gives k P Good Best p h ts x us d =
    let t = d.reads.0 in
    let r = p d.mid x us d.goes in
    record { front = t ∷ r.front; is = d.reads.2 ∙ ap (λ (z : Lexemes). t ∷ z) r.is; good = h x t r.front d.reads.1 r.good }

-- with a lexeme of this terminal behind it
closed_gives : {A : Type 0} (k : Terminal) (P : Derives A) (Good Best : A → Lexemes → Type 0) → Gives P Good
    → ((x : A) (t : Lexeme) (front : Lexemes) → t.terminal ≡ k → Good x front → Best x (front ++ t ∷ []))
    → Gives (Then P (λ x. grammar.◌>>◌ (grammar.the k) (grammar.pure x))) Best
unfolding Gives
closed_gives {A} k P Good Best p h ts x us d =
    let r = p ts d.first d.mid d.reads in
    let t = d.goes.reads.0 in
    let whole : ts ≡ r.front ++ t ∷ us = r.is ∙ ap (λ (z : Lexemes). r.front ++ z) (d.goes.reads.2 ∙ ap (λ (z : Lexemes). t ∷ z) d.goes.goes.1) in
    record {
      front = r.front ++ t ∷ [];
      is = whole ∙ sym (append_assoc r.front (t ∷ []) us);
      good = subst (λ (y : A). Best y (r.front ++ t ∷ [])) d.goes.goes.0 (h d.first t r.front d.goes.reads.1 r.good);
    }

-- one after the other
then_gives : {A B C : Type 0} (P : Derives A) (Q : Derives B) (f : A → B → C) (Good : A → Lexemes → Type 0) (Fine : B → Lexemes → Type 0) (Best : C → Lexemes → Type 0) → Gives P Good → Gives Q Fine
    → ((a : A) (b : B) (front behind : Lexemes) → Good a front → Fine b behind → Best (f a b) (front ++ behind)) → Gives (Then P (λ a. Then Q (λ b. grammar.pure (f a b)))) Best
unfolding Gives
then_gives {C = C} P Q f Good Fine Best p q h ts x us d =
    let r = p ts d.first d.mid d.reads in
    let e = d.goes in
    let s = q d.mid e.first e.mid e.reads in
    let whole : ts ≡ r.front ++ (s.front ++ us) = r.is ∙ ap (λ (z : Lexemes). r.front ++ z) (s.is ∙ ap (λ (z : Lexemes). s.front ++ z) e.goes.1) in
    record {
      front = r.front ++ s.front;
      is = whole ∙ sym (append_assoc r.front s.front us);
      good = subst (λ (y : C). Best y (r.front ++ s.front)) e.goes.0 (h d.first e.first r.front s.front r.good s.good);
    }

abbrev IsOption : {A : Type 0} → (A → Lexemes → Type 0) → Option A → Lexemes → Type 0
IsOption Good None f = f ≡ []
IsOption Good (Some x) f = Good x f

maybe_gives : {A : Type 0} (P : Derives A) (Good : A → Lexemes → Type 0) → Gives P Good → Gives (grammar.maybe P) (IsOption Good)
unfolding Gives
maybe_gives P Good p ts None us d = record { front = []; is = d; good = refl }
maybe_gives P Good p ts (Some x) us d = let r = p ts x us d in record { front = r.front; is = r.is; good = r.good }

star_gives : {A : Type 0} (P : Derives (List A)) (Good : List A → Lexemes → Type 0) → Good [] [] → ((xs ys : List A) (f h : Lexemes) → Good xs f → Good ys h → Good (xs ++ ys) (f ++ h))
    → Gives P Good → Gives (Star P) Good
unfolding Gives
star_gives P Good none both p ts xs us stop = record { front = []; is = refl; good = none }
star_gives P Good none both p ts xs us (more {mid = mid} {x = x} {xs = ys} r s) =
    let a = p ts x mid r in
    let b = star_gives P Good none both p mid ys us s in
    record {
      front = a.front ++ b.front;
      is = a.is ∙ ap (λ (z : Lexemes). a.front ++ z) b.is ∙ sym (append_assoc a.front b.front us);
      good = both x ys a.front b.front a.good b.good;
    }

-- what derives no more gives the same
by_gives : {A : Type 0} (P Q : Derives A) (Good : A → Lexemes → Type 0) → ((ts : Lexemes) (x : A) (us : Lexemes) → P ts x us → Q ts x us) → Gives Q Good → Gives P Good
unfolding Gives
by_gives P Q Good there q ts x us d = q ts x us (there ts x us d)

word_gives : (w : Word) (k : Terminal) → IsJust w k → Gives (productions.value word w) (IsValue k)
word_gives w k is = by_gives _ _ (IsValue k) (value_is w k is) (value_gives k)

-- ---- the leaves of a node, by what it is

leaves-Name : (name : Name) → node_leaves (n.Name name) ≡ name_leaves name
leaves-Name name = ap node_leaves (sym (n.rolls-Name name)) ∙ fold-roll-Node (List Leaf) (List Leaf) node_leaves_of property_leaves_of (Node-F.Name name)

leaves-Label : (label : Slice) → node_leaves (n.Label label) ≡ leaf terminal.BlankLabel label ∷ []
leaves-Label label = ap node_leaves (sym (n.rolls-Label label)) ∙ fold-roll-Node (List Leaf) (List Leaf) node_leaves_of property_leaves_of (Node-F.Label label)

leaves-Blank : (ps : List Property) → node_leaves (n.Blank ps) ≡ joined (map property_leaves ps)
leaves-Blank ps = ap node_leaves (sym (n.rolls-Blank ps)) ∙ fold-roll-Node (List Leaf) (List Leaf) node_leaves_of property_leaves_of (Node-F.Blank ps)

leaves-Collection : (xs : List Node) → node_leaves (n.Collection xs) ≡ joined (map node_leaves xs)
leaves-Collection xs = ap node_leaves (sym (n.rolls-Collection xs)) ∙ fold-roll-Node (List Leaf) (List Leaf) node_leaves_of property_leaves_of (Node-F.Collection xs)

leaves-Literal : (x : Literal) → node_leaves (n.Literal x) ≡ literal_leaves x
leaves-Literal x = ap node_leaves (sym (n.rolls-Literal x)) ∙ fold-roll-Node (List Leaf) (List Leaf) node_leaves_of property_leaves_of (Node-F.Literal x)

leaves-property : (verb : Verb) (objects : List Node) → property_leaves (g.property_with verb objects) ≡ verb_leaves verb ++ joined (map node_leaves objects)
leaves-property verb objects = fold-roll-Property (List Leaf) (List Leaf) node_leaves_of property_leaves_of (record { verb = verb; objects = objects })

-- ---- names and literals

abbrev SaysName : Name → Lexemes → Type 0
SaysName x f = Says (name_leaves x) f

abbrev SaysVerb : Verb → Lexemes → Type 0
SaysVerb x f = Says (verb_leaves x) f

abbrev SaysLiteral : Literal → Lexemes → Type 0
SaysLiteral x f = Says (literal_leaves x) f

iri_gives : Gives g.Iri SaysName
iri_gives =
    or_gives _ _ SaysName (map_gives Full _ (IsValue terminal.Iri) SaysName (word_gives w.Iri terminal.Iri is_iri) (λ a f h. value_says terminal.Iri a _ f h (λ b. refl)))
    (map_gives productions.prefixed _ (IsValue terminal.Pname) SaysName (word_gives w.Pname terminal.Pname is_pname) (λ a f h. value_says terminal.Pname a _ f h (λ b. refl)))

-- `a`
a_says : (t : Lexeme) → t.terminal ≡ terminal.A → Says (verb_leaves v.Type) (t ∷ [])
a_says t is = λ b. ap (λ (j : Terminal). content b j t.text ++ []) is

verb_gives : Gives g.AVerb SaysVerb
verb_gives =
    or_gives _ _ SaysVerb (map_gives v.Name _ SaysName SaysVerb iri_gives (λ a f h. h))
    (behind_gives terminal.A _ (λ x f. (x ≡ v.Type) × (f ≡ [])) SaysVerb (pure_gives v.Type (λ x f. (x ≡ v.Type) × (f ≡ [])) (refl, refl))
    (λ x t f is h. subst (λ (y : Verb). SaysVerb y (t ∷ f)) (sym h.0) (subst (λ (z : Lexemes). SaysVerb v.Type (t ∷ z)) (sym h.1) (a_says t is))))

-- the tag behind a text
abbrev IsTagOf : Slice → Lexemes → Type 0
IsTagOf tag f = contents true f ≡ leaf terminal.AtWord tag ∷ []

tag_gives : Gives Tag IsTagOf
tag_gives =
    or_gives _ _ IsTagOf (wide_gives _ (IsValue terminal.AtWord) IsTagOf (value_gives terminal.AtWord) (λ x f h. value_carries terminal.AtWord x f h true))
    (or_gives _ _ IsTagOf (wide_gives _ (IsValue terminal.AtPrefix) IsTagOf (value_gives terminal.AtPrefix) (λ x f h. value_carries terminal.AtPrefix x f h true))
    (wide_gives _ (IsValue terminal.AtBase) IsTagOf (value_gives terminal.AtBase) (λ x f h. value_carries terminal.AtBase x f h true)))

-- the leaves behind the text of a literal
abbrev rest_leaves : Literal → List Leaf
rest_leaves (l.Tagged form tag) = leaf terminal.AtWord tag ∷ []
rest_leaves (l.Typed form datatype) = name_leaves datatype
rest_leaves _ = []

abbrev SaysBehind : Slice → Literal → Lexemes → Type 0
SaysBehind form x f = (contents true f ≡ rest_leaves x) × (literal_leaves x ≡ leaf terminal.Text form ∷ rest_leaves x)

abbrev SaysType : Slice → Literal → Lexemes → Type 0
SaysType form x f = Says (rest_leaves x) f × (literal_leaves x ≡ leaf terminal.Text form ∷ rest_leaves x)

caret_gives : (form : Slice) → Gives (grammar.◌>>◌ (productions.the word w.Caret) (grammar.◌<$>◌ (l.Typed form) g.Iri)) (SaysBehind form)
caret_gives form =
    by_gives _ _ (SaysBehind form) (behind_is w.Caret terminal.Caret _ is_caret) (behind_gives terminal.Caret _ (SaysType form) (SaysBehind form)
    (map_gives (l.Typed form) _ SaysName (SaysType form) iri_gives (λ a f h. (h, refl)))
    (λ x t f is h. (sign_before terminal.Caret t (rest_leaves x) f (λ b text. refl) is h.0 true, h.1)))

suffix_gives : (form : Slice) → Gives (productions.Suffix word form) (SaysBehind form)
suffix_gives form =
    or_gives _ _ (SaysBehind form) (map_gives (l.Tagged form) _ IsTagOf (SaysBehind form) (by_gives _ Tag IsTagOf tag_is tag_gives) (λ a f h. (h, refl)))
    (or_gives _ _ (SaysBehind form) (caret_gives form) (pure_gives (l.Plain form) (SaysBehind form) (refl, refl)))

text_says : (form : Slice) (x : Literal) (f h : Lexemes) → IsValue terminal.Text form f → SaysBehind form x h → SaysLiteral x (f ++ h)
text_says form x f h v rest = λ b.
    ap (λ (z : Lexemes). contents b (z ++ h)) v.is ∙ ap (λ (j : Terminal). content b j v.lexeme.text ++ contents (takes_tag j) h) v.terminal
    ∙ ap (λ (p : Slice). leaf terminal.Text p ∷ contents true h) v.text ∙ ap (λ (xs : List Leaf). leaf terminal.Text form ∷ xs) rest.0 ∙ sym rest.1

text_gives : Gives (productions.RDFLiteral word) SaysLiteral
unfolding Gives
text_gives ts x us d =
    let r = word_gives w.Text terminal.Text is_text ts d.first d.mid d.reads in
    let s = suffix_gives d.first d.mid x us d.goes in
    record {
      front = r.front ++ s.front;
      is = r.is ∙ ap (λ (z : Lexemes). r.front ++ z) s.is ∙ sym (append_assoc r.front s.front us);
      good = text_says d.first x r.front s.front r.good s.good;
    }

number_gives : Gives (productions.NumericLiteral word) SaysLiteral
number_gives =
    or_gives _ _ SaysLiteral (map_gives l.Integer _ (IsValue terminal.Integer) SaysLiteral (word_gives w.Integer terminal.Integer is_integer) (λ a f h. value_says terminal.Integer a _ f h (λ b. refl)))
    (or_gives _ _ SaysLiteral (map_gives l.Decimal _ (IsValue terminal.Decimal) SaysLiteral (word_gives w.Decimal terminal.Decimal is_decimal) (λ a f h. value_says terminal.Decimal a _ f h (λ b. refl)))
    (map_gives l.Double _ (IsValue terminal.Double) SaysLiteral (word_gives w.Double terminal.Double is_double) (λ a f h. value_says terminal.Double a _ f h (λ b. refl))))

truth_gives : Gives (productions.BooleanLiteral word) SaysLiteral
truth_gives =
    or_gives _ _ SaysLiteral (map_gives (l.Boolean true) _ (IsValue terminal.True) SaysLiteral (word_gives w.True terminal.True is_true) (λ a f h. value_says terminal.True a _ f h (λ b. refl)))
    (map_gives (l.Boolean false) _ (IsValue terminal.False) SaysLiteral (word_gives w.False terminal.False is_false) (λ a f h. value_says terminal.False a _ f h (λ b. refl)))

literal_gives : Gives g.ALiteral SaysLiteral
literal_gives = or_gives _ _ SaysLiteral text_gives (or_gives _ _ SaysLiteral number_gives truth_gives)

-- ---- nodes

abbrev SaysNode : Node → Lexemes → Type 0
SaysNode x f = Says (node_leaves x) f

abbrev SaysNodes : List Node → Lexemes → Type 0
SaysNodes xs f = Says (joined (map node_leaves xs)) f

abbrev SaysProperty : Property → Lexemes → Type 0
SaysProperty x f = Says (property_leaves x) f

abbrev SaysProperties : List Property → Lexemes → Type 0
SaysProperties ps f = Says (joined (map property_leaves ps)) f

joined-append : {A : Type 0} (leaves : A → List Leaf) (xs ys : List A) → joined (map leaves (xs ++ ys)) ≡ joined (map leaves xs) ++ joined (map leaves ys)
joined-append leaves [] ys = refl
joined-append leaves (x ∷ xs) ys =
    ap (λ (zs : List Leaf). leaves x ++ zs) (joined-append leaves xs ys) ∙ sym (append_assoc (leaves x) (joined (map leaves xs)) (joined (map leaves ys)))

lists_say : {A : Type 0} (leaves : A → List Leaf) (xs ys : List A) (f h : Lexemes) → Says (joined (map leaves xs)) f → Says (joined (map leaves ys)) h → Says (joined (map leaves (xs ++ ys))) (f ++ h)
lists_say leaves xs ys f h p q = say_by _ _ (f ++ h) (joined-append leaves xs ys) (both_say (joined (map leaves xs)) (joined (map leaves ys)) f h p q)

one_says : {A : Type 0} (leaves : A → List Leaf) (x : A) (f : Lexemes) → Says (leaves x) f → Says (joined (map leaves (x ∷ []))) f
one_says leaves x f h = say_by _ (leaves x) f (append-nil (leaves x)) h

module _ (P : Derives Node) (p : Gives P SaysNode) where
  objects_give : Gives (g.Objects P) SaysNodes
  objects_give =
      then_gives P _ (λ first others. first ∷ others) SaysNode SaysNodes SaysNodes p
      (star_gives _ SaysNodes (λ b. refl) (lists_say node_leaves)
      (map_gives (λ x. x ∷ []) _ SaysNode SaysNodes (behind_gives terminal.Comma P SaysNode SaysNode p (λ x t f is h. sign_before terminal.Comma t _ f (λ b text. refl) is h)) (one_says node_leaves)))
      (λ first others f h q r. both_say (node_leaves first) _ f h q r)

  property_gives : Gives (g.VerbObjects P) SaysProperty
  property_gives =
      then_gives g.AVerb (g.Objects P) g.property_with SaysVerb SaysNodes SaysProperty verb_gives objects_give
      (λ verb objects f h q r. say_by _ _ (f ++ h) (leaves-property verb objects) (both_say (verb_leaves verb) _ f h q r))

  some_property : (o : Option Property) (f : Lexemes) → IsOption SaysProperty o f → SaysProperties (option_to_list o) f
  some_property None f h = λ b. ap (λ (z : Lexemes). contents b z) h
  some_property (Some x) f h = one_says property_leaves x f h

  predicate_object_list_gives : Gives (g.PredicateObjectList P) SaysProperties
  predicate_object_list_gives =
      then_gives (g.VerbObjects P) _ (λ first others. first ∷ others) SaysProperty SaysProperties SaysProperties property_gives
      (star_gives _ SaysProperties (λ b. refl) (lists_say property_leaves)
      (behind_gives terminal.Semicolon _ SaysProperties SaysProperties (map_gives option_to_list _ (IsOption SaysProperty) SaysProperties (maybe_gives _ SaysProperty property_gives) some_property)
      (λ x t f is h. sign_before terminal.Semicolon t _ f (λ b text. refl) is h)))
      (λ first others f h q r. both_say (property_leaves first) _ f h q r)

  -- brackets round something
  anonymous_gives : Gives (g.Anonymous P) SaysProperties
  anonymous_gives =
      behind_gives terminal.OpenBracket _ SaysProperties SaysProperties
      (behind_gives terminal.CloseBracket _ SaysProperties SaysProperties (pure_gives [] SaysProperties (λ b. refl)) (λ x t f is h. sign_before terminal.CloseBracket t _ f (λ b text. refl) is h))
      (λ x t f is h. sign_before terminal.OpenBracket t _ f (λ b text. refl) is h)

  blank_node_property_list_gives : Gives (g.BlankNodePropertyList P) SaysProperties
  blank_node_property_list_gives =
      behind_gives terminal.OpenBracket _ SaysProperties SaysProperties
      (closed_gives terminal.CloseBracket _ SaysProperties SaysProperties predicate_object_list_gives (λ x t f is h. sign_behind terminal.CloseBracket t _ f (λ b text. refl) is h))
      (λ x t f is h. sign_before terminal.OpenBracket t _ f (λ b text. refl) is h)

  collection_gives : Gives (g.Collection P) SaysNodes
  collection_gives =
      behind_gives terminal.Open _ SaysNodes SaysNodes
      (closed_gives terminal.Close _ SaysNodes SaysNodes (star_gives _ SaysNodes (λ b. refl) (lists_say node_leaves) (map_gives (λ x. x ∷ []) P SaysNode SaysNodes p (one_says node_leaves)))
      (λ x t f is h. sign_behind terminal.Close t _ f (λ b text. refl) is h))
      (λ x t f is h. sign_before terminal.Open t _ f (λ b text. refl) is h)

  name_says : (name : Name) (f : Lexemes) → SaysName name f → SaysNode (n.Name name) f
  name_says name f h = say_by _ _ f (leaves-Name name) h

  label_says : (label : Slice) (f : Lexemes) → IsValue terminal.BlankLabel label f → SaysNode (n.Label label) f
  label_says label f h = say_by _ _ f (leaves-Label label) (value_says terminal.BlankLabel label _ f h (λ b. refl))

  blank_says : (ps : List Property) (f : Lexemes) → SaysProperties ps f → SaysNode (n.Blank ps) f
  blank_says ps f h = say_by _ _ f (leaves-Blank ps) h

  collection_says : (xs : List Node) (f : Lexemes) → SaysNodes xs f → SaysNode (n.Collection xs) f
  collection_says xs f h = say_by _ _ f (leaves-Collection xs) h

  literal_says : (x : Literal) (f : Lexemes) → SaysLiteral x f → SaysNode (n.Literal x) f
  literal_says x f h = say_by _ _ f (leaves-Literal x) h

  abbrev SaysSubject : Node → Lexemes → Type 0
  SaysSubject x f = SaysNode x f × IsSubject x

  subject_gives : Gives (g.Subject P) SaysSubject
  subject_gives =
      or_gives _ _ SaysSubject (map_gives n.Name _ SaysName SaysSubject iri_gives (λ a f h. (name_says a f h, tt)))
      (or_gives _ _ SaysSubject (or_gives _ _ SaysSubject (map_gives n.Label _ (IsValue terminal.BlankLabel) SaysSubject (value_gives terminal.BlankLabel) (λ a f h. (label_says a f h, tt)))
      (map_gives n.Blank _ SaysProperties SaysSubject anonymous_gives (λ ps f h. (blank_says ps f h, tt))))
      (map_gives n.Collection _ SaysNodes SaysSubject collection_gives (λ xs f h. (collection_says xs f h, tt))))

  object_gives : Gives (g.Object P) SaysNode
  object_gives =
      or_gives _ _ SaysNode (map_gives n.Name _ SaysName SaysNode iri_gives name_says)
      (or_gives _ _ SaysNode (or_gives _ _ SaysNode (map_gives n.Label _ (IsValue terminal.BlankLabel) SaysNode (value_gives terminal.BlankLabel) label_says) (map_gives n.Blank _ SaysProperties SaysNode anonymous_gives blank_says))
      (or_gives _ _ SaysNode (map_gives n.Collection _ SaysNodes SaysNode collection_gives collection_says)
      (or_gives _ _ SaysNode (map_gives n.Blank _ SaysProperties SaysNode blank_node_property_list_gives blank_says) (map_gives n.Literal _ SaysLiteral SaysNode literal_gives literal_says))))

objects_at_give : (depth : ℕ) → Gives (g.Objects_at depth) SaysNode
unfolding Gives
objects_at_give zero ts x us d = absurd d
objects_at_give (suc depth) ts x us d = object_gives (g.Objects_at depth) (objects_at_give depth) ts x us d

-- ---- statements

-- behind no text they carry the leaves, and a text isn't the last
record SaysStatement (x : Statement) (f : Lexemes) : Type 0 where
  says : contents false f ≡ statement_leaves x
  ends : last false f ≡ false
  subject : HasSubject x

-- behind these leaves they carry the rest, wherever they stand
record SaysRest (words : List Leaf) (x : Statement) (f : Lexemes) : Type 0 where
  rest : List Leaf
  says : Says rest f
  whole : words ++ rest ≡ statement_leaves x
  subject : HasSubject x

-- the same, and a text isn't the last
record SaysBound (words : List Leaf) (x : Statement) (f : Lexemes) : Type 0 where
  rest : List Leaf
  says : Says rest f
  whole : words ++ rest ≡ statement_leaves x
  ends : last false f ≡ false
  subject : HasSubject x

-- the word of a directive
directive_says : (k : Terminal) (words : List Leaf) (x : Statement) (t : Lexeme) (f : Lexemes) → ((text : Slice) → content false k text ≡ words) → takes_tag k ≡ false → t.terminal ≡ k → SaysBound words x f
    → SaysStatement x (t ∷ f)
directive_says k words x t f sign plain is h = record {
  says = ap (λ (j : Terminal). content false j t.text ++ contents (takes_tag t.terminal) f) is ∙ ap (λ (zs : List Leaf). zs ++ contents (takes_tag t.terminal) f) (sign t.text)
      ∙ ap (λ (zs : List Leaf). words ++ zs) (h.says (takes_tag t.terminal)) ∙ h.whole;
  ends = ap (λ (b : Bool). last b f) (ap takes_tag is ∙ plain) ∙ h.ends;
  subject = h.subject;
}

-- a dot ends a statement
dot_says : (words : List Leaf) (x : Statement) (t : Lexeme) (f : Lexemes) → t.terminal ≡ terminal.Dot → SaysRest words x f → SaysBound words x (f ++ t ∷ [])
dot_says words x t f is h = record {
  rest = h.rest;
  says = sign_behind terminal.Dot t h.rest f (λ b text. refl) is h.says;
  whole = h.whole;
  ends = last-append f (t ∷ []) false ∙ ap takes_tag is;
  subject = h.subject;
}

bound_says : (x : Statement) (f : Lexemes) → SaysBound [] x f → SaysStatement x f
bound_says x f h = record { says = h.says false ∙ h.whole; ends = h.ends; subject = h.subject }

abbrev SaysPrefix : Slice → Lexemes → Type 0
SaysPrefix prefix f = Says ((terminal.Pname, prefix ∷ [] ∷ []) ∷ []) f

prefix_says : (t : Lexeme) (x : Slice) → word t.terminal ≡ Some w.Pname → local_part t.text ≡ [] → prefix_part t.text ≡ x → SaysPrefix x (t ∷ [])
prefix_says t x is none prefix = λ b.
    ap (λ (k : Terminal). content b k t.text ++ []) (is_pname t.terminal is) ∙ ap (λ (p : Slice). (terminal.Pname, p ∷ local_part t.text ∷ []) ∷ []) prefix
    ∙ ap (λ (p : Slice). (terminal.Pname, x ∷ p ∷ []) ∷ []) none

namespace_gives : Gives (productions.namespace word) SaysPrefix
unfolding Gives
namespace_gives ts x us d = record { front = d.0 ∷ []; is = d.4; good = prefix_says d.0 x d.1 d.2 d.3 }

-- a reference is the last
reference_ends : (f h : Lexemes) (reference : Slice) → IsValue terminal.Iri reference h → last false (f ++ h) ≡ false
reference_ends f h reference v = last-append f h false ∙ ap (λ (z : Lexemes). last (last false f) z) v.is ∙ ap takes_tag v.terminal

-- behind the word of a prefix's declaration, and of a base's
abbrev SaysBinding : Statement → Lexemes → Type 0
SaysBinding = SaysBound (directive terminal.Prefix ∷ [])

abbrev SaysBase : Statement → Lexemes → Type 0
SaysBase = SaysBound (directive terminal.Base ∷ [])

binding_gives : Gives g.Binding SaysBinding
binding_gives = map_gives g.bound _ (λ b f. SaysBinding (g.bound b) f) SaysBinding
    (then_gives _ _ (λ prefix reference. (prefix, reference)) SaysPrefix (IsValue terminal.Iri) (λ b f. SaysBinding (g.bound b) f) namespace_gives (word_gives w.Iri terminal.Iri is_iri)
    (λ prefix reference f h q r. record {
      rest = (terminal.Pname, prefix ∷ [] ∷ []) ∷ leaf terminal.Iri reference ∷ [];
      says = both_say ((terminal.Pname, prefix ∷ [] ∷ []) ∷ []) (leaf terminal.Iri reference ∷ []) f h q (value_says terminal.Iri reference _ h r (λ b. refl));
      whole = refl;
      ends = reference_ends f h reference r;
      subject = tt;
    }))
    (λ b f h. h)

base_gives : Gives g.Base SaysBase
base_gives = map_gives s.Base _ (IsValue terminal.Iri) SaysBase (value_gives terminal.Iri)
    (λ a f h. record { rest = leaf terminal.Iri a ∷ []; says = value_says terminal.Iri a _ f h (λ b. refl); whole = refl; ends = reference_ends [] f a h; subject = tt })

dotted_gives : (words : List Leaf) (P : Derives Statement) → Gives P (SaysRest words) → Gives (g.Dotted P) (SaysBound words)
dotted_gives words P p = closed_gives terminal.Dot P (SaysRest words) (SaysBound words) p (λ x t f is h. dot_says words x t f is h)

bound_dotted : (words : List Leaf) (P : Derives Statement) → Gives P (SaysBound words) → Gives (g.Dotted P) (SaysBound words)
bound_dotted words P p = dotted_gives words P (wide_gives P (SaysBound words) _ p (λ x f h. record { rest = h.rest; says = h.says; whole = h.whole; subject = h.subject }))

directive_gives : Gives g.Directive SaysStatement
directive_gives =
    or_gives _ _ SaysStatement (behind_gives terminal.AtPrefix _ SaysBinding SaysStatement (bound_dotted _ _ binding_gives) (λ x t f is h. directive_says terminal.AtPrefix _ x t f (λ text. refl) refl is h))
    (or_gives _ _ SaysStatement (behind_gives terminal.AtBase _ SaysBase SaysStatement (bound_dotted _ _ base_gives) (λ x t f is h. directive_says terminal.AtBase _ x t f (λ text. refl) refl is h))
    (or_gives _ _ SaysStatement (behind_gives terminal.Prefix _ SaysBinding SaysStatement binding_gives (λ x t f is h. directive_says terminal.Prefix _ x t f (λ text. refl) refl is h))
    (behind_gives terminal.Base _ SaysBase SaysStatement base_gives (λ x t f is h. directive_says terminal.Base _ x t f (λ text. refl) refl is h))))

some_properties : (o : Option (List Property)) (f : Lexemes) → IsOption SaysProperties o f → SaysProperties (g.all_of o) f
some_properties None f h = λ b. ap (λ (z : Lexemes). contents b z) h
some_properties (Some ps) f h = h

abbrev SaysTriples : Statement → Lexemes → Type 0
SaysTriples x f = Says (statement_leaves x) f × HasSubject x

module _ (I P : Derives Node) (i : Gives I SaysNode) (p : Gives P SaysNode) where
  about_gives : Gives (g.About I P) SaysTriples
  about_gives = then_gives _ _ (λ subject ps. s.Triples subject ps) (SaysSubject I i) SaysProperties SaysTriples (subject_gives I i) (predicate_object_list_gives P p)
      (λ subject ps f h q r. (both_say (node_leaves subject) _ f h q.0 r, q.1))

  about_blank_gives : Gives (g.AboutBlank I P) SaysTriples
  about_blank_gives = then_gives _ _ (λ inside ps. s.Triples (n.Blank inside) (g.all_of ps)) SaysProperties (IsOption SaysProperties) SaysTriples (blank_node_property_list_gives I i)
      (maybe_gives _ SaysProperties (predicate_object_list_gives P p))
      (λ inside ps f h q r. (both_say (node_leaves (n.Blank inside)) _ f h (blank_says I i inside f q) (some_properties ps h r), tt))

  statement_gives : Gives (g.AStatement I P) SaysStatement
  statement_gives =
      or_gives _ _ SaysStatement directive_gives
      (wide_gives _ (SaysBound []) SaysStatement
      (dotted_gives [] _ (wide_gives _ SaysTriples (SaysRest []) (or_gives _ _ SaysTriples about_gives about_blank_gives) (λ x f h. record { rest = statement_leaves x; says = h.0; whole = refl; subject = h.1 })))
      bound_says)

-- ---- documents

record SaysDocument (xs : List Statement) (f : Lexemes) : Type 0 where
  says : contents false f ≡ document_leaves xs
  ends : last false f ≡ false
  subjects : AllByRecursion HasSubject xs

subjects_joined : (xs ys : List Statement) → AllByRecursion HasSubject xs → AllByRecursion HasSubject ys → AllByRecursion HasSubject (xs ++ ys)
subjects_joined [] ys a b = b
subjects_joined (x ∷ xs) ys a b = (a.0, subjects_joined xs ys a.1 b)

documents_say : (xs ys : List Statement) (f h : Lexemes) → SaysDocument xs f → SaysDocument ys h → SaysDocument (xs ++ ys) (f ++ h)
documents_say xs ys f h a b = record {
  says = contents-append f h false ∙ ap (λ (c : Bool). contents false f ++ contents c h) a.ends ∙ ap (λ (zs : List Leaf). zs ++ contents false h) a.says
      ∙ ap (λ (zs : List Leaf). document_leaves xs ++ zs) b.says ∙ sym (joined-append statement_leaves xs ys);
  ends = last-append f h false ∙ ap (λ (c : Bool). last c h) a.ends ∙ b.ends;
  subjects = subjects_joined xs ys a.subjects b.subjects;
}

document_gives : (depth : ℕ) → Gives (g.Document depth) SaysDocument
document_gives depth =
    star_gives _ SaysDocument (record { says = refl; ends = refl; subjects = tt }) documents_say
    (map_gives (λ x. x ∷ []) _ SaysStatement SaysDocument (statement_gives (g.Objects_at depth) (g.Objects_at (suc depth)) (objects_at_give depth) (objects_at_give (suc depth)))
    (λ x f h. record { says = h.says ∙ sym (append-nil (statement_leaves x)); ends = h.ends; subjects = (h.subject, tt) }))

whole_document : (ts : Lexemes) (ss : List Statement) → g.IsDocument ts ss → SaysDocument ss ts
unfolding Gives
whole_document ts ss d =
    let r = document_gives d.0 ts ss [] d.1 in
    subst (SaysDocument ss) (sym (r.is ∙ append-nil r.front)) r.good

pub documents_have_subjects : (ts : Lexemes) (ss : List Statement) → g.IsDocument ts ss → AllByRecursion HasSubject ss
documents_have_subjects ts ss d = (whole_document ts ss d).subjects

pub leaves_are_lexemes : (ts : Lexemes) (ss : List Statement) → g.IsDocument ts ss → document_leaves ss ≡ contents false ts
leaves_are_lexemes ts ss d = sym (whole_document ts ss d).says
