-- Statements and documents are read just as they are derived.
use Rattle.std.proofs.Common.{◌≡◌, ℕ, suc, ◌<◌, ◌≤◌, true, false, List, [], ◌∷◌, length, Option, Some, refl, ◌∙◌, ap, arith, inl, inr, ◌⊎◌}
use Rattle.rdf_turtle.specs.declared.terminal.Terminal.{Terminal}
use Rattle.rdf_turtle.specs.declared.terminal.Terminal.TheVariants as terminal
use Rattle.rdf_turtle.specs.Lexemes.{Lexeme, Lexemes, Reading, Outcome, sees, Derives, Test}
use Rattle.rdf_turtle.specs.declared.tree.Node.{Node}
use Rattle.rdf_turtle.specs.declared.tree.Node.TheVariants as n
use Rattle.rdf_turtle.specs.declared.tree.Property.{Property}
use Rattle.rdf_turtle.specs.declared.tree.Statement.{Statement}
use Rattle.rdf_turtle.specs.declared.tree.Statement.TheVariants as s
use Rattle.rdf_grammar.specs.Steps as steps
use Rattle.rdf_turtle.specs.Lexemes as lexemes
use Rattle.rdf_grammar.specs.Readings as reading
use Rattle.rdf_grammar.specs.Terminals.{next_terminal}
use Rattle.rdf_turtle.specs.Terminals.{same_terminal, apart, word}
use Rattle.rdf_grammar.specs.Readings.{any, is_nil, is_more}
use Rattle.rdf_grammar.specs.Derivations as grammar
use Rattle.rdf_grammar.specs.Derivations.{Then, Star, stop, more}
use Rattle.rdf_turtle.specs.Inside.Reading as read
use Rattle.rdf_turtle.specs.Grammar as g
use Rattle.rdf_grammar.proofs.CallerLemmas.{always, Decides, then_decides, pure_decides, repeat_decides, the_decides, value_decides, after_terminal, the_terminal, value_terminal, any_the, one_decides, seq, last}
use Rattle.rdf_grammar.proofs.CallerLemmas as shared
use Rattle.rdf_turtle.proofs.GrammarProductions.{iri_terminal}
use Rattle.rdf_turtle.proofs.GrammarNodes.{ends_list, IsNodeRule, node_rule, Bracketed, bracketed_decides, OptionalPredicateObjectList, optional_predicate_object_list_decides, predicate_object_list_decides, AnySubject, subject_decides, bracketed_is, anonymous_is, blank_node_property_list_is}

-- ---- directives

binding_decides : Decides read.binding g.Binding always
unfolding read.binding
binding_decides = last g.bound _ _ always (shared.binding_decides word)

base_decides : Decides read.base g.Base always
unfolding read.base
base_decides = last s.Base _ _ always (value_decides same_terminal apart terminal.Iri)

dotted_decides : {A : Type 0} (p : Reading A) (P : Derives A) (ends : Test) → ((us : Lexemes) → next_terminal us ≡ Some terminal.Dot → ends us ≡ true) → Decides p P ends → Decides (read.dotted p) (g.Dotted P) always
dotted_decides p P ends goes d = then_decides p P _ _ ends always d (λ x. seq _ _ _ _ always (the_decides same_terminal apart terminal.Dot) (λ _. pure_decides x always))
    (λ a mid b us h e. goes mid (the_terminal terminal.Dot mid h.mid h.first h.reads))

at_prefix : Decides (steps.◌>>◌ (lexemes.the terminal.AtPrefix) (read.dotted read.binding)) (grammar.◌>>◌ (grammar.the terminal.AtPrefix) (g.Dotted g.Binding)) always
at_prefix = after_terminal same_terminal apart terminal.AtPrefix _ _ always (dotted_decides _ _ always (λ us h. refl) binding_decides)

at_base : Decides (steps.◌>>◌ (lexemes.the terminal.AtBase) (read.dotted read.base)) (grammar.◌>>◌ (grammar.the terminal.AtBase) (g.Dotted g.Base)) always
at_base = after_terminal same_terminal apart terminal.AtBase _ _ always (dotted_decides _ _ always (λ us h. refl) base_decides)

prefix : Decides (steps.◌>>◌ (lexemes.the terminal.Prefix) read.binding) (grammar.◌>>◌ (grammar.the terminal.Prefix) g.Binding) always
prefix = after_terminal same_terminal apart terminal.Prefix _ _ always binding_decides

base : Decides (steps.◌>>◌ (lexemes.the terminal.Base) read.base) (grammar.◌>>◌ (grammar.the terminal.Base) g.Base) always
base = after_terminal same_terminal apart terminal.Base _ _ always base_decides

-- no lexeme is left
abbrev pub ended : Test
ended [] = true
ended (t ∷ ts) = false

-- ---- triples, over rules for the nodes inside brackets and outside

module _ (inner node : Reading Node) (Inner Node' : Derives Node) (ri : IsNodeRule inner Inner) (r : IsNodeRule node Node') where
  abbrev Behind : List Property → Derives (List Property)
  Behind [] = g.PredicateObjectList Node'
  Behind (p ∷ ps) = OptionalPredicateObjectList node Node' r

  behind_decides : (inside : List Property) → Decides (read.predicate_object_list_behind node inside) (Behind inside) ends_list
  behind_decides [] = predicate_object_list_decides node Node' r
  behind_decides (p ∷ ps) = optional_predicate_object_list_decides node Node' r

  behind_empty : (inside : List Property) → [] ≡ inside → (mid : Lexemes) (ps : List Property) (us : Lexemes) → Behind inside mid ps us → g.PredicateObjectList Node' mid ps us
  behind_empty [] e mid ps us d = d
  behind_empty (x ∷ xs) e mid ps us d = absurd (cc)

  empty_behind : (inside : List Property) → [] ≡ inside → (mid : Lexemes) (ps : List Property) (us : Lexemes) → g.PredicateObjectList Node' mid ps us → Behind inside mid ps us
  empty_behind [] e mid ps us d = d
  empty_behind (x ∷ xs) e mid ps us d = absurd (cc)

  behind_some : (inside : List Property) (p : Property) (qs : List Property) → p ∷ qs ≡ inside → (mid : Lexemes) (ps : List Property) (us : Lexemes) → Behind inside mid ps us → OptionalPredicateObjectList node Node' r mid ps us
  behind_some [] p qs e mid ps us d = absurd (cc)
  behind_some (x ∷ xs) p qs e mid ps us d = d

  some_behind : (inside : List Property) (p : Property) (qs : List Property) → p ∷ qs ≡ inside → (mid : Lexemes) (ps : List Property) (us : Lexemes) → OptionalPredicateObjectList node Node' r mid ps us → Behind inside mid ps us
  some_behind [] p qs e mid ps us d = absurd (cc)
  some_behind (x ∷ xs) p qs e mid ps us d = d

  abbrev AboutBracketed : Derives Statement
  AboutBracketed = grammar.◌>>=◌ (Bracketed inner Inner ri) (λ inside. grammar.◌>>=◌ (Behind inside) (λ ps. grammar.pure (s.Triples (n.Blank inside) ps)))

  about_blank_decides : Decides (read.about_blank inner node) AboutBracketed ends_list
  unfolding read.about_blank
  about_blank_decides = seq _ _ _ _ ends_list (bracketed_decides inner Inner ri)
      (λ inside. then_decides _ _ _ _ ends_list ends_list (behind_decides inside) (λ ps. pure_decides (s.Triples (n.Blank inside) ps) ends_list) (λ a mid b us h e. rw h.1 e))

  abbrev AboutSubject : Derives Statement
  AboutSubject = grammar.◌>>=◌ (AnySubject inner Inner ri) (λ subject. grammar.◌>>=◌ (g.PredicateObjectList Node') (λ ps. grammar.pure (s.Triples subject ps)))

  about_subject_decides : Decides (read.about_subject inner node) AboutSubject ends_list
  unfolding read.about_subject
  about_subject_decides = seq _ _ _ _ ends_list (subject_decides inner Inner ri)
      (λ subject. then_decides _ _ _ _ ends_list ends_list (predicate_object_list_decides node Node' r) (λ ps. pure_decides (s.Triples subject ps) ends_list) (λ a mid b us h e. rw h.1 e))

  abbrev Rest : Node → Derives Statement
  Rest subject = grammar.◌>>=◌ (g.PredicateObjectList Node') (λ ps. grammar.pure (s.Triples subject ps))

  abbrev MaybeRest : List Property → Derives Statement
  MaybeRest inside = grammar.◌>>=◌ (grammar.maybe (g.PredicateObjectList Node')) (λ ps. grammar.pure (s.Triples (n.Blank inside) (g.all_of ps)))

  -- a propList isn't empty
  blank_node_property_list_some : (ts : Lexemes) (inside : List Property) (mid : Lexemes) → g.BlankNodePropertyList Inner ts inside mid → (p : Property) × (qs : List Property) × (p ∷ qs ≡ inside)
  blank_node_property_list_some ts inside mid h = let l = h.goes.reads in (l.first, l.goes.first, l.goes.goes.0 ∙ h.goes.goes.goes.0)

  maybe_rest : (inside : List Property) (ts : Lexemes) (x : Statement) (us : Lexemes) → Rest (n.Blank inside) ts x us → MaybeRest inside ts x us
  maybe_rest inside ts x us h = record { first = Some h.first; mid = h.mid; reads = h.reads; goes = h.goes }

  bracketed_there : (ts : Lexemes) (x : Statement) (us : Lexemes) (inside : List Property) (mid : Lexemes) → (g.Anonymous Inner ts inside mid) ⊎ (g.BlankNodePropertyList Inner ts inside mid)
      → grammar.◌>>=◌ (Behind inside) (λ ps. grammar.pure (s.Triples (n.Blank inside) ps)) mid x us → g.Triples Inner Node' ts x us
  bracketed_there ts x us inside mid (inl a) d =
      inl (record {
        first = n.Blank inside;
        mid = mid;
        reads = inr (inl (inr (record { first = inside; mid = mid; reads = a; goes = (refl, refl) })));
        goes = record { first = d.first; mid = d.mid; reads = behind_empty inside a.goes.goes.0 mid d.first d.mid d.reads; goes = d.goes };
      })
  bracketed_there ts x us inside mid (inr a) d =
      let e = blank_node_property_list_some ts inside mid a in
      let m = behind_some inside e.0 e.1 e.2 mid d.first d.mid d.reads in
      inr (record {
        first = inside;
        mid = mid;
        reads = a;
        goes = record { first = m.first; mid = m.mid; reads = m.reads; goes = (ap (s.Triples (n.Blank inside)) m.goes.0 ∙ d.goes.0, m.goes.1 ∙ d.goes.1) };
      })

  subject_there : (ts : Lexemes) (x : Statement) (us : Lexemes) (inside : List Property) (mid : Lexemes) → (g.Anonymous Inner ts inside mid) ⊎ (g.BlankNodePropertyList Inner ts inside mid)
      → Rest (n.Blank inside) mid x us → g.Triples Inner Node' ts x us
  subject_there ts x us inside mid (inl a) d = inl (record { first = n.Blank inside; mid = mid; reads = inr (inl (inr (record { first = inside; mid = mid; reads = a; goes = (refl, refl) }))); goes = d })
  subject_there ts x us inside mid (inr a) d = inr (record { first = inside; mid = mid; reads = a; goes = maybe_rest inside mid x us d })

  -- the rest, where the subject is given by an equation
  rest_of : (a b : Node) (ts mid us : Lexemes) (x : Statement) → a ≡ b → ts ≡ mid → Rest b mid x us → Rest a ts x us
  rest_of a b ts mid us x e f d = rw (e, f) d

  about_there : (ts : Lexemes) (x : Statement) (us : Lexemes) (subject : Node) (mid : Lexemes) → AnySubject inner Inner ri ts subject mid → Rest subject mid x us → g.Triples Inner Node' ts x us
  about_there ts x us subject mid (inl h) d = inl (record { first = subject; mid = mid; reads = inl h; goes = d })
  about_there ts x us subject mid (inr (inl h)) d = inl (record { first = subject; mid = mid; reads = inr (inl (inl h)); goes = d })
  about_there ts x us subject mid (inr (inr (inl h))) d =
      subject_there ts x us h.first h.mid (bracketed_is inner Inner ri ts h.first h.mid h.reads) (rest_of (n.Blank h.first) subject h.mid mid us x h.goes.0 h.goes.1 d)
  about_there ts x us subject mid (inr (inr (inr h))) d = inl (record { first = subject; mid = mid; reads = inr (inr h); goes = d })

  triples_sound : (k : Option Terminal) (ts : Lexemes) (x : Statement) (us : Lexemes) → read.triples_by inner node k ts ≡ Some (x, us) → g.Triples Inner Node' ts x us
  triples_sound (Some terminal.OpenBracket) ts x us h =
      let d = about_blank_decides.sound ts x us h in
      bracketed_there ts x us d.first d.mid (bracketed_is inner Inner ri ts d.first d.mid d.reads) d.goes
  triples_sound _ ts x us h = let d = about_subject_decides.sound ts x us h in about_there ts x us d.first d.mid d.reads d.goes

  about_complete : (ts : Lexemes) (x : Statement) (us : Lexemes) (subject : Node) (mid : Lexemes) → g.Subject Inner ts subject mid → Rest subject mid x us → ends_list us ≡ true
      → read.triples_by inner node (next_terminal ts) ts ≡ Some (x, us)
  about_complete ts x us subject mid (inl h) d e = named (iri_terminal ts h.first h.mid h.reads)
    where
      done : read.about_subject inner node ts ≡ Some (x, us)
      done = about_subject_decides.complete ts x us (record { first = subject; mid = mid; reads = inl h; goes = d }) e

      named : (next_terminal ts ≡ Some terminal.Iri) ⊎ (next_terminal ts ≡ Some terminal.Pname) → read.triples_by inner node (next_terminal ts) ts ≡ Some (x, us)
      named (inl q) = rw q done
      named (inr q) = rw q done
  about_complete ts x us subject mid (inr (inl (inl h))) d e =
      rw (value_terminal terminal.BlankLabel ts h.mid h.first h.reads) (about_subject_decides.complete ts x us (record { first = subject; mid = mid; reads = inr (inl h); goes = d }) e)
  about_complete ts x us subject mid (inr (inl (inr h))) d e =
      let z = rest_of (n.Blank h.first) subject h.mid mid us x h.goes.0 h.goes.1 d in
      rw (the_terminal terminal.OpenBracket ts h.reads.mid h.reads.first h.reads.reads)
      (about_blank_decides.complete ts x us (record {
        first = h.first;
        mid = h.mid;
        reads = anonymous_is inner Inner ri ts h.first h.mid h.reads;
        goes = record { first = z.first; mid = z.mid; reads = empty_behind h.first h.reads.goes.goes.0 h.mid z.first z.mid z.reads; goes = z.goes };
      }) e)
  about_complete ts x us subject mid (inr (inr h)) d e =
      rw (the_terminal terminal.Open ts h.reads.mid h.reads.first h.reads.reads) (about_subject_decides.complete ts x us (record { first = subject; mid = mid; reads = inr (inr (inr h)); goes = d }) e)

  triples_complete : (ts : Lexemes) (x : Statement) (us : Lexemes) → g.Triples Inner Node' ts x us → ends_list us ≡ true → read.triples_by inner node (next_terminal ts) ts ≡ Some (x, us)
  triples_complete ts x us (inl h) e = about_complete ts x us h.first h.mid h.reads h.goes e
  triples_complete ts x us (inr h) e =
      let p = blank_node_property_list_some ts h.first h.mid h.reads in
      let z = h.goes in
      let m = some_behind h.first p.0 p.1 p.2 h.mid (g.all_of z.first) z.mid (record { first = z.first; mid = z.mid; reads = z.reads; goes = (refl, refl) }) in
      rw (the_terminal terminal.OpenBracket ts h.reads.mid h.reads.first h.reads.reads)
      (about_blank_decides.complete ts x us (record {
        first = h.first;
        mid = h.mid;
        reads = blank_node_property_list_is inner Inner ri ts h.first h.mid h.reads;
        goes = record { first = g.all_of z.first; mid = z.mid; reads = m; goes = z.goes };
      }) e)

  iri_begins : (ts : Lexemes) → (next_terminal ts ≡ Some terminal.Iri) ⊎ (next_terminal ts ≡ Some terminal.Pname) → read.begins_subject (next_terminal ts) ≡ true
  iri_begins ts (inl q) = rw q refl
  iri_begins ts (inr q) = rw q refl

  subject_begins : (ts : Lexemes) (x : Node) (us : Lexemes) → g.Subject Inner ts x us → read.begins_subject (next_terminal ts) ≡ true
  subject_begins ts x us (inl h) = iri_begins ts (iri_terminal ts h.first h.mid h.reads)
  subject_begins ts x us (inr (inl (inl h))) = rw (value_terminal terminal.BlankLabel ts h.mid h.first h.reads) refl
  subject_begins ts x us (inr (inl (inr h))) = rw (the_terminal terminal.OpenBracket ts h.reads.mid h.reads.first h.reads.reads) refl
  subject_begins ts x us (inr (inr h)) = rw (the_terminal terminal.Open ts h.reads.mid h.reads.first h.reads.reads) refl

  triples_begin : (ts : Lexemes) (x : Statement) (us : Lexemes) → g.Triples Inner Node' ts x us → read.begins_subject (next_terminal ts) ≡ true
  triples_begin ts x us (inl h) = subject_begins ts h.first h.mid h.reads
  triples_begin ts x us (inr h) = rw (the_terminal terminal.OpenBracket ts h.reads.mid h.reads.first h.reads.reads) refl

  -- a derivation is one of those that are read
  triples_back : (ts : Lexemes) (x : Statement) (us : Lexemes) → g.Triples Inner Node' ts x us → AboutSubject ts x us ⊎ AboutBracketed ts x us
  triples_back ts x us (inl h) = at h.reads
    where
      at : g.Subject Inner ts h.first h.mid → AboutSubject ts x us ⊎ AboutBracketed ts x us
      at (inl a) = inl (record { first = h.first; mid = h.mid; reads = inl a; goes = h.goes })
      at (inr (inl (inl a))) = inl (record { first = h.first; mid = h.mid; reads = inr (inl a); goes = h.goes })
      at (inr (inl (inr a))) = inl (record { first = h.first; mid = h.mid; reads = inr (inr (inl (record { first = a.first; mid = a.mid; reads = anonymous_is inner Inner ri ts a.first a.mid a.reads; goes = a.goes }))); goes = h.goes })
      at (inr (inr a)) = inl (record { first = h.first; mid = h.mid; reads = inr (inr (inr a)); goes = h.goes })
  triples_back ts x us (inr h) =
      let p = blank_node_property_list_some ts h.first h.mid h.reads in
      let z = h.goes in
      inr (record {
        first = h.first;
        mid = h.mid;
        reads = blank_node_property_list_is inner Inner ri ts h.first h.mid h.reads;
        goes = record { first = g.all_of z.first; mid = z.mid; reads = some_behind h.first p.0 p.1 p.2 h.mid (g.all_of z.first) z.mid (record { first = z.first; mid = z.mid; reads = z.reads; goes = (refl, refl) }); goes = z.goes };
      })

  either_shorter : (ts : Lexemes) (x : Statement) (us : Lexemes) → AboutSubject ts x us ⊎ AboutBracketed ts x us → length us ≤ length ts
  either_shorter ts x us (inl h) = about_subject_decides.shorter ts x us h
  either_shorter ts x us (inr h) = about_blank_decides.shorter ts x us h

  triples_decides : Decides (read.triples inner node) (g.Triples Inner Node') ends_list
  unfolding read.triples
  triples_decides = record {
    sound = λ ts x us h. triples_sound (next_terminal ts) ts x us h;
    complete = triples_complete;
    shorter = λ ts x us h. either_shorter ts x us (triples_back ts x us h);
  }

  -- ---- statements

  dotted_triples : Decides (read.dotted (read.triples inner node)) (g.Dotted (g.Triples Inner Node')) always
  dotted_triples = dotted_decides _ _ ends_list (λ us h. rw h refl) triples_decides

  statement_sound : (k : Option Terminal) (ts : Lexemes) (x : Statement) (us : Lexemes) → next_terminal ts ≡ k → read.statement_by inner node k ts ≡ Some (x, us) → g.AStatement Inner Node' ts x us
  statement_sound (Some terminal.AtPrefix) ts x us q h = inl (inl (at_prefix.sound ts x us (rw (any_the same_terminal apart terminal.AtPrefix ts q) at h)))
  statement_sound (Some terminal.AtBase) ts x us q h = inl (inr (inl (at_base.sound ts x us (rw (any_the same_terminal apart terminal.AtBase ts q) at h))))
  statement_sound (Some terminal.Prefix) ts x us q h = inl (inr (inr (inl (prefix.sound ts x us (rw (any_the same_terminal apart terminal.Prefix ts q) at h)))))
  statement_sound (Some terminal.Base) ts x us q h = inl (inr (inr (inr (base.sound ts x us (rw (any_the same_terminal apart terminal.Base ts q) at h)))))
  statement_sound _ ts x us q h = inr (dotted_triples.sound ts x us h)

  by_triples : (k : Option Terminal) → read.begins_subject k ≡ true → read.statement_by inner node k ≡ read.dotted (read.triples inner node)
  by_triples (Some terminal.AtPrefix) h = absurd (cc)
  by_triples (Some terminal.AtBase) h = absurd (cc)
  by_triples (Some terminal.Prefix) h = absurd (cc)
  by_triples (Some terminal.Base) h = absurd (cc)
  by_triples _ h = refl

  statement_complete : (ts : Lexemes) (x : Statement) (us : Lexemes) → g.AStatement Inner Node' ts x us → read.statement_by inner node (next_terminal ts) ts ≡ Some (x, us)
  statement_complete ts x us (inl (inl h)) = let q = the_terminal terminal.AtPrefix ts h.mid h.first h.reads in rw q (rw (any_the same_terminal apart terminal.AtPrefix ts q) (at_prefix.complete ts x us h refl))
  statement_complete ts x us (inl (inr (inl h))) = let q = the_terminal terminal.AtBase ts h.mid h.first h.reads in rw q (rw (any_the same_terminal apart terminal.AtBase ts q) (at_base.complete ts x us h refl))
  statement_complete ts x us (inl (inr (inr (inl h)))) = let q = the_terminal terminal.Prefix ts h.mid h.first h.reads in rw q (rw (any_the same_terminal apart terminal.Prefix ts q) (prefix.complete ts x us h refl))
  statement_complete ts x us (inl (inr (inr (inr h)))) = let q = the_terminal terminal.Base ts h.mid h.first h.reads in rw q (rw (any_the same_terminal apart terminal.Base ts q) (base.complete ts x us h refl))
  statement_complete ts x us (inr h) = rw (by_triples (next_terminal ts) (triples_begin ts h.first h.mid h.reads)) (dotted_triples.complete ts x us h refl)

  strict_behind : {A : Type 0} (k : Terminal) (p : Reading A) (P : Derives A) → Decides p P always → (ts : Lexemes) (x : A) (us : Lexemes) → grammar.◌>>◌ (grammar.the k) P ts x us → length us < length ts
  strict_behind k p P d ts x us h = let a = d.shorter h.mid x us h.goes in omega (arith, ap length h.reads.2)

  statement_strict : (ts : Lexemes) (x : Statement) (us : Lexemes) → g.AStatement Inner Node' ts x us → length us < length ts
  statement_strict ts x us (inl (inl h)) = strict_behind terminal.AtPrefix _ _ (dotted_decides _ _ always (λ us h. refl) binding_decides) ts x us h
  statement_strict ts x us (inl (inr (inl h))) = strict_behind terminal.AtBase _ _ (dotted_decides _ _ always (λ us h. refl) base_decides) ts x us h
  statement_strict ts x us (inl (inr (inr (inl h)))) = strict_behind terminal.Prefix _ _ binding_decides ts x us h
  statement_strict ts x us (inl (inr (inr (inr h)))) = strict_behind terminal.Base _ _ base_decides ts x us h
  statement_strict ts x us (inr h) =
      let a = triples_decides.shorter ts h.first h.mid h.reads in
      let z = h.goes in
      omega (arith, ap length z.reads.2, ap length z.goes.1)

  pub statement_decides : Decides (read.statement inner node) (g.AStatement Inner Node') always
  unfolding read.statement
  statement_decides = record {
    sound = λ ts x us h. statement_sound (next_terminal ts) ts x us refl h;
    complete = λ ts x us h _. statement_complete ts x us h;
    shorter = λ ts x us h. let e = statement_strict ts x us h in omega arith;
  }

  -- ---- documents

  some_more : (ts us : Lexemes) → length us < length ts → is_more ts ≡ true
  some_more [] us h = absurd (omega arith)
  some_more (t ∷ ts) us h = refl

  statements_start : (ts : Lexemes) (x : List Statement) (us : Lexemes) → grammar.one (g.AStatement Inner Node') ts x us → (is_more ts ≡ true) × (length us < length ts)
  statements_start ts x us h = let l = statement_strict ts h.first h.mid h.reads in (some_more ts h.mid l, omega (arith, ap length h.goes.1))

  ended_stops : (us : Lexemes) → ended us ≡ true → is_more us ≡ false
  ended_stops [] h = refl
  ended_stops (t ∷ ts) h = absurd (cc)

  pub statements_decide : Decides (reading.repeat is_more (reading.one (read.statement inner node))) (Star (grammar.one (g.AStatement Inner Node'))) ended
  statements_decide = repeat_decides is_more _ _ always ended (one_decides _ _ always statement_decides)
      statements_start ended_stops (λ us h. refl) (λ us h. refl)

-- The reading of a document is its grammar, at each depth.
pub document_decides : (depth : ℕ) → Decides (read.document depth) (g.Document depth) ended
unfolding read.document
document_decides depth = statements_decide (read.node depth) (read.node (suc depth)) (g.Objects_at depth) (g.Objects_at (suc depth)) (node_rule depth) (node_rule (suc depth))

-- A statement that is read is one of the grammar.
pub statement_derived : (depth : ℕ) (ts us : Lexemes) (x : Statement) → read.statement (read.node depth) (read.node (suc depth)) ts ≡ Some (x, us) → g.AStatement (g.Objects_at depth) (g.Objects_at (suc depth)) ts x us
statement_derived depth ts us x h = (statement_decides (read.node depth) (read.node (suc depth)) (g.Objects_at depth) (g.Objects_at (suc depth)) (node_rule depth) (node_rule (suc depth))).sound ts x us h
