-- The triples of the tree of written triples are these very triples.
use Rattle.std.proofs.Common.{◌≡◌, ◌∙◌, ap, refl, sym, subst, inl, ℕ, Bool, true, false, List, [], ◌∷◌, ◌++◌, map, chars, nat_eq, append_assoc, append-nil, true≢false, Option, Some, None, Ok}
use Rattle.std.specs.Cmp.Lexicographic.{pointwise, bytes_decides}
use Rattle.std.specs.List.{flat_map, AllByRecursion}
use Rattle.std.specs.Str.{str_to_ascii_lowercase, IsUtf8}
use Rattle.std.proofs.lemmas.Bool.{ltb-true, and_from}
use Rattle.std.proofs.lemmas.Str.{encodes-chars, encodes-IsAscii}
use Rattle.rdf_terms.specs.Iri.{is_iri}
use Rattle.rdf_terms.specs.Literal.{xsd_string, lang_string, is_tag, tag_fits}
use Rattle.rdf_terms.specs.Quad.{has_right_kinds}
use Rattle.rdf_terms.specs.Reading.{expect}
use Rattle.rdf_terms.specs.Term.{is_term, is_iri_term}
use Rattle.rdf_terms.specs.TermText.{escaped}
use Rattle.rdf_terms.specs.declared.term.Term.{Term}
use Rattle.rdf_terms.specs.declared.term.Term.TheVariants as t
use Rattle.rdf_terms.specs.declared.quad.GraphName.TheVariants.{Default}
use Rattle.rdf_terms.specs.declared.quad.Quad.{Quad}
use Rattle.rdf_terms.proofs.CallerLemmas.{QuadTests, quad_tests, tag_name, tag_low, ascii_from, iri_scheme, iri_allowed, iri_form, lower_stays, tag_parts, literal_parts, string_body}
use Rattle.rdf_grammar.specs.declared.tree.Name.{Name}
use Rattle.rdf_grammar.specs.declared.tree.Name.TheVariants.{Full}
use Rattle.rdf_turtle.specs.declared.tree.Verb.{Verb}
use Rattle.rdf_turtle.specs.declared.tree.Verb.TheVariants as v
use Rattle.rdf_grammar.specs.declared.tree.Literal.{Literal}
use Rattle.rdf_grammar.specs.declared.tree.Literal.TheVariants as l
use Rattle.rdf_turtle.specs.declared.tree.Node.{Node}
use Rattle.rdf_turtle.specs.declared.tree.Node.TheVariants as n
use Rattle.rdf_turtle.specs.declared.tree.Node.TheOpen.{Node-F, Property-F}
use Rattle.rdf_turtle.specs.declared.tree.Node.TheFolds.{fold-Node, fold-Property, fold-roll-Node, fold-roll-Property}
use Rattle.rdf_turtle.specs.declared.tree.Property.{Property}
use Rattle.rdf_turtle.specs.declared.tree.Statement.TheVariants as s
use Rattle.rdf_terms.specs.Blanks.{blanks_in, blanks_in_graph, blanks_of}
use Rattle.rdf_grammar.specs.Literals.{known_literal, literal_of}
use Rattle.rdf_turtle.specs.Known.{known_verb, known_property_of, known_node_of, known_node, known_property, known_statement, declares_first}
use Rattle.rdf_turtle.specs.Meaning.{Meaning, Says, only, iri, verb, literal, object, node_of, property_of, meaning, property, statement, document, triples_of, answer}
use Rattle.rdf_turtle.specs.Grammar.{property_with}
use Rattle.rdf_grammar.specs.Prologue.{resolved}
use Rattle.rdf_grammar.specs.References.{resolve}
use Rattle.rdf_turtle.specs.ParserState.{ParserState, Does, start, labelled, triple, says}
use Rattle.rdf_grammar.specs.Steps.{◌>>=◌, ◌>>◌, ◌<$>◌, each}
use Rattle.rdf_tokens.specs.Values.{iri_value, text_value, tag_value}
use Rattle.rdf_turtle.specs.WrittenLaws.{IsDefaultQuad}
use Rattle.rdf_tokens.proofs.CallerLemmas.{iri_value_is, text_value_is}
use Rattle.rdf_turtle.proofs.WrittenTerms.{iri_slice, text_slice, label_slice, tag_slice}
use Rattle.rdf_turtle.proofs.WrittenTrees as tree
use Rattle.rdf_turtle.proofs.WrittenTrees.{datatype_tree, literal_tree, verb_of, statement_of}
use Rattle.rdf_turtle.proofs.WrittenNumbers.{Follows, follows_split, Names, key, starts, label_goes}

-- ---- values

resolves : (base : Option (List ℕ)) (i : List ℕ) → is_iri i ≡ true → resolve base (iri_value (iri_slice i)) ≡ Some i
unfolding resolve
resolves base i h =
    let e : iri_value (iri_slice i) ≡ i = sym (iri_value_is (iri_slice i) i (iri_form i h)) in
    rw (e, iri_allowed i h, iri_scheme i h) refl

iri_goes : (i : List ℕ) (st : ParserState) → is_iri i ≡ true → iri (Full (iri_slice i)) st ≡ Some (i, st)
unfolding iri resolved
iri_goes i st h = rw (resolves st.prologue.base i h) refl

text_is : (text : List ℕ) → IsUtf8 text → text_value (text_slice text) ≡ text
text_is text u =
    sym (text_value_is (text_slice text) (chars text) (inl (inl (flat_map escaped (chars text), refl, string_body (chars text))))) ∙ encodes-chars text u

tag_is : (tag : List ℕ) → is_tag tag ≡ true → tag_value (tag_slice tag) ≡ tag
unfolding tag_value expect
tag_is tag h = encodes-IsAscii tag (ascii_from tag (tag_low tag (tag_name tag h)))

-- ---- literals

abbrev literal_term : List ℕ → List ℕ → Option (List ℕ) → Term
literal_term lexical datatype tag = t.Literal (record { lexical = lexical; datatype = datatype; tag = tag })

abbrev literal_term_of : Literal → Does Term
literal_term_of w = t.Literal <$> literal w

tagged_goes : (lexical datatype tag : List ℕ) (st : ParserState) → IsUtf8 lexical → tag_fits datatype (Some tag) ≡ true
    → literal_term_of (l.Tagged (text_slice lexical) (tag_slice tag)) st ≡ Some (literal_term lexical datatype (Some tag), st)
unfolding literal literal_of
tagged_goes lexical datatype tag st u k =
    let p = tag_parts datatype tag k in
    let same : literal_term (text_value (text_slice lexical)) lang_string (Some (str_to_ascii_lowercase tag)) ≡ literal_term lexical datatype (Some tag) =
    λ i. literal_term (text_is lexical u i) (sym p.0 i) (Some (lower_stays tag p.2 i)) in
    rw (tag_is tag p.1, p.1) (ap (λ (x : Term). Some (x, st)) same)

datatype_goes : (b : Bool) (lexical datatype : List ℕ) (st : ParserState) → IsUtf8 lexical → is_iri datatype ≡ true → pointwise nat_eq datatype xsd_string ≡ b
    → literal_term_of (datatype_tree b lexical datatype) st ≡ Some (literal_term lexical datatype None, st)
unfolding literal literal_of resolved
datatype_goes true lexical datatype st u h is =
    let same : literal_term (text_value (text_slice lexical)) xsd_string None ≡ literal_term lexical datatype None =
    λ i. literal_term (text_is lexical u i) (sym ((bytes_decides datatype xsd_string).0 is) i) None in
    ap (λ (x : Term). Some (x, st)) same
datatype_goes false lexical datatype st u h is = rw (resolves st.prologue.base datatype h, text_is lexical u) refl

literal_goes : (lexical datatype : List ℕ) (tag : Option (List ℕ)) (st : ParserState) → IsUtf8 lexical → is_iri datatype ≡ true → tag_fits datatype tag ≡ true
    → literal_term_of (literal_tree lexical datatype tag) st ≡ Some (literal_term lexical datatype tag, st)
literal_goes lexical datatype (Some tag) st u h k = tagged_goes lexical datatype tag st u k
literal_goes lexical datatype None st u h k = datatype_goes (pointwise nat_eq datatype xsd_string) lexical datatype st u h refl

-- ---- terms

module _ {A B : Type 0} (f : Node-F A B → A) (h : Property-F A B → B) where
  by-Name : (name : Name) → fold-Node A B f h (n.Name name) ≡ f (Node-F.Name name)
  by-Name name = ap (fold-Node A B f h) (sym (n.rolls-Name name)) ∙ fold-roll-Node A B f h (Node-F.Name name)

  by-Label : (label : List ℕ) → fold-Node A B f h (n.Label label) ≡ f (Node-F.Label label)
  by-Label label = ap (fold-Node A B f h) (sym (n.rolls-Label label)) ∙ fold-roll-Node A B f h (Node-F.Label label)

  by-Literal : (x : Literal) → fold-Node A B f h (n.Literal x) ≡ f (Node-F.Literal x)
  by-Literal x = ap (fold-Node A B f h) (sym (n.rolls-Literal x)) ∙ fold-roll-Node A B f h (Node-F.Literal x)

  by-property : (w : Verb) (xs : List Node) → fold-Property A B f h (property_with w xs) ≡ h (record { verb = w; objects = map (fold-Node A B f h) xs })
  by-property w xs = fold-roll-Property A B f h (record { verb = w; objects = xs })

abbrev means : Term → Does Term
means (t.Blank number) = labelled (key number)
means (t.Iri i) = t.Iri <$> iri (Full (iri_slice i))
means (t.Literal w) = literal_term_of (literal_tree w.lexical w.datatype w.tag)

node_means : (x : Term) → meaning (tree.node_of x) ≡ only (means x)
node_means (t.Blank number) = by-Label node_of property_of (label_slice number)
node_means (t.Iri i) = by-Name node_of property_of (Full (iri_slice i))
node_means (t.Literal w) = by-Literal node_of property_of (literal_tree w.lexical w.datatype w.tag)

-- a term stands for itself, and no triple is said
record Goes (x : Term) (before : ParserState) (m : ℕ) : Type 0 where
  after : ParserState
  goes : means x before ≡ Some (x, after)
  names : Names after m
  same : after.quads ≡ before.quads

unmoved : (x : Term) (st : ParserState) (n m : ℕ) → means x st ≡ Some (x, st) → n ≡ m → Names st n → Goes x st m
unmoved x st n m e is names = record { after = st; goes = e; names = subst (Names st) is names; same = refl }

term_goes : (x : Term) (st : ParserState) (n m : ℕ) → is_term x ≡ true → Names st n → Follows n (blanks_in x) m → Goes x st m
term_goes (t.Blank number) st n m h names f =
    let g = label_goes number n m st (ltb-true number 18446744073709551616 h) names f in
    record { after = g.0; goes = g.1; names = g.2; same = g.3 }
term_goes (t.Iri i) st n m h names f = unmoved (t.Iri i) st n m (rw (iri_goes i st h) refl) f names
term_goes (t.Literal w) st n m h names f =
    let p = literal_parts w h in
    unmoved (t.Literal w) st n m (literal_goes w.lexical w.datatype w.tag st p.0 p.1 p.2) f names

-- ---- statements

-- a subject's node, and what is said of it
abbrev about : Meaning → List Says → Does (Unit {0})
about node sayings = do
  subject ← node.term
  node.inside subject
  each (λ p. p subject) sayings

statement_about : (node : Node) (p : Property) → statement (s.Triples node (p ∷ [])) ≡ about (meaning node) (property p ∷ [])
unfolding statement
statement_about node p = refl

abbrev saying : Verb → Meaning → Says
saying w object = property_of (record { verb = w; objects = object ∷ [] })

property_means : (w : Verb) (x : Term) → property (property_with w (tree.node_of x ∷ [])) ≡ saying w (only (means x))
property_means w x = by-property node_of property_of w (tree.node_of x ∷ []) ∙ ap (saying w) (node_means x)

statement_means : (q : Quad) → statement (statement_of q) ≡ about (only (means q.subject)) (saying (verb_of q.predicate) (only (means q.object)) ∷ [])
statement_means q =
    statement_about (tree.node_of q.subject) (property_with (verb_of q.predicate) (tree.node_of q.object ∷ []))
    ∙ λ i. about (node_means q.subject i) (property_means (verb_of q.predicate) q.object i ∷ [])

abbrev grown : ParserState → Quad → ParserState
grown st q = record st { quads = st.quads ++ q ∷ [] }

says_goes : (subject : Term) (p : List ℕ) (object : Term) (st : ParserState) → has_right_kinds (triple subject p object) ≡ true
    → says subject p object st ≡ Some (tt, grown st (triple subject p object))
unfolding says
says_goes subject p object st h = rw h refl

verb_goes : (i : List ℕ) (st : ParserState) → is_iri i ≡ true → verb (v.Name (Full (iri_slice i))) st ≡ Some (i, st)
unfolding verb
verb_goes i st h = iri_goes i st h

about_goes : (x : Term) (i : List ℕ) (y : Term) (a b c : ParserState) → means x a ≡ Some (x, b) → is_iri i ≡ true → means y b ≡ Some (y, c) → has_right_kinds (triple x i y) ≡ true
    → about (only (means x)) (saying (v.Name (Full (iri_slice i))) (only (means y)) ∷ []) a ≡ Some (tt, grown c (triple x i y))
unfolding object
about_goes x i y a b c first h second k = rw (first, verb_goes i b h, second, says_goes x i y c k) refl

-- a triple is said, and no other
record Said (q : Quad) (before : ParserState) (m : ℕ) : Type 0 where
  after : ParserState
  goes : statement (statement_of q) before ≡ Some (tt, after)
  names : Names after m
  more : after.quads ≡ before.quads ++ q ∷ []

statement_goes : (q : Quad) (st : ParserState) (n m : ℕ) → QuadTests q → q.graph ≡ Default → Names st n → Follows n (blanks_of q) m → Said q st m
statement_goes q st n m h d names f = by q.predicate refl
  where
    by : (p : Term) → q.predicate ≡ p → Said q st m
    by (t.Blank number) e = absurd (true≢false (sym h.predicate_kind ∙ ap is_iri_term e))
    by (t.Literal w) e = absurd (true≢false (sym h.predicate_kind ∙ ap is_iri_term e))
    by (t.Iri i) e =
        let numbers : Follows n ((blanks_in q.subject ++ blanks_in q.object) ++ []) m = subst (λ g. Follows n ((blanks_in q.subject ++ blanks_in q.object) ++ blanks_in_graph g) m) d f in
        let outer = follows_split (blanks_in q.subject ++ blanks_in q.object) [] n m numbers in
        let inner = follows_split (blanks_in q.subject) (blanks_in q.object) n outer.0 outer.1 in
        let first = term_goes q.subject st n inner.0 h.subject names inner.1 in
        let second = term_goes q.object first.after inner.0 outer.0 h.object first.names inner.2 in
        let is_predicate : is_iri i ≡ true = sym (ap is_term e) ∙ h.predicate in
        let same : triple q.subject i q.object ≡ q = λ j. record { graph = sym d j; subject = q.subject; predicate = sym e j; object = q.object } in
        let kinds : has_right_kinds (triple q.subject i q.object) ≡ true = ap has_right_kinds same ∙ h.right_kinds in
        record {
          after = grown second.after q;
          goes = ap (λ f. f st) (statement_means q ∙ ap (λ (p : Term). about (only (means q.subject)) (saying (verb_of p) (only (means q.object)) ∷ [])) e)
              ∙ about_goes q.subject i q.object st first.after second.after first.goes is_predicate second.goes kinds
              ∙ ap (λ (r : Quad). Some (tt, grown second.after r)) same;
          names = record { next = second.names.next ∙ outer.2; known = (subst (Names second.after) outer.2 second.names).known; new = (subst (Names second.after) outer.2 second.names).new };
          more = ap (λ (qs : List Quad). qs ++ q ∷ []) (second.same ∙ first.same);
        }

-- ---- documents

document_goes : (quads : List Quad) (st : ParserState) (n m : ℕ) → AllByRecursion IsDefaultQuad quads → Names st n → Follows n (flat_map blanks_of quads) m
    → (u : ParserState) × (document (map statement_of quads) st ≡ Some (tt, u)) × (u.quads ≡ st.quads ++ quads)
document_goes [] st n m h names f = (st, refl, sym (append-nil st.quads))
document_goes (q ∷ quads) st n m h names f =
    let parts = follows_split (blanks_of q) (flat_map blanks_of quads) n m f in
    let first = statement_goes q st n parts.0 (quad_tests q h.0.0) h.0.1 names parts.1 in
    let rest = document_goes quads first.after parts.0 m h.1 first.names parts.2 in (
      rest.0,
      rw first.goes rest.1,
      rest.2 ∙ ap (λ (qs : List Quad). qs ++ quads) first.more ∙ append_assoc st.quads (q ∷ []) quads,
    )

-- ---- no prefix is used

node_known : (x : Term) → known_node [] (tree.node_of x) ≡ true
node_known (t.Blank number) = by-Label (known_node_of []) (known_property_of []) (label_slice number)
node_known (t.Iri i) = by-Name (known_node_of []) (known_property_of []) (Full (iri_slice i))
node_known (t.Literal w) = by-Literal (known_node_of []) (known_property_of []) (literal_tree w.lexical w.datatype w.tag) ∙ literal_known w.tag
  where
    datatype_known : (b : Bool) → known_literal [] (datatype_tree b w.lexical w.datatype) ≡ true
    datatype_known true = refl
    datatype_known false = refl

    literal_known : (tag : Option (List ℕ)) → known_literal [] (literal_tree w.lexical w.datatype tag) ≡ true
    literal_known (Some tag) = refl
    literal_known None = datatype_known (pointwise nat_eq w.datatype xsd_string)

verb_known : (p : Term) → known_verb [] (verb_of p) ≡ true
verb_known (t.Blank number) = refl
verb_known (t.Iri i) = refl
verb_known (t.Literal w) = refl

property_known : (p x : Term) → known_property [] (property_with (verb_of p) (tree.node_of x ∷ [])) ≡ true
property_known p x =
    by-property (known_node_of []) (known_property_of []) (verb_of p) (tree.node_of x ∷ [])
    ∙ and_from (known_verb [] (verb_of p)) _ (verb_known p) (and_from (known_node [] (tree.node_of x)) true (node_known x) refl)

statement_known : (q : Quad) → known_statement [] (statement_of q) ≡ true
unfolding known_statement
statement_known q =
    and_from (known_node [] (tree.node_of q.subject)) _ (node_known q.subject)
    (and_from (known_property [] (property_with (verb_of q.predicate) (tree.node_of q.object ∷ []))) true (property_known q.predicate q.object) refl)

all_known : (quads : List Quad) → declares_first [] (map statement_of quads) ≡ true
all_known [] = refl
all_known (q ∷ quads) = rw (statement_known q) (all_known quads)

-- ---- the answer

triples_are : (base : Option (List ℕ)) (quads : List Quad) (m : ℕ) → AllByRecursion IsDefaultQuad quads → Follows 0 (flat_map blanks_of quads) m
    → triples_of base (map statement_of quads) ≡ Some quads
unfolding triples_of
triples_are base quads m h f =
    let g = document_goes quads (start base) 0 m h (starts base) f in
    rw g.1 (ap (λ (qs : List Quad). Some qs) g.2)

pub answer_is : (base : Option (List ℕ)) (quads : List Quad) (m : ℕ) → AllByRecursion IsDefaultQuad quads → Follows 0 (flat_map blanks_of quads) m
    → answer base (map statement_of quads) ≡ Ok quads
answer_is base quads m h f = rw (all_known quads, triples_are base quads m h f) refl
