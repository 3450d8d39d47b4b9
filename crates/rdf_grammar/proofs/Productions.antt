-- The productions that Turtle and SPARQL share are read just as they are derived.
use Rattle.std.proofs.Common.{◌≡◌, ◌<◌, ◌≤◌, true, false, length, Option, Some, refl, ap, arith, inl, inr, ◌⊎◌}
use Rattle.rdf_grammar.specs.declared.lexeme.Lexeme.{Lexeme}
use Rattle.rdf_grammar.specs.declared.tree.Name.{Name}
use Rattle.rdf_grammar.specs.declared.tree.Name.TheVariants.{Full}
use Rattle.rdf_grammar.specs.declared.tree.Literal.{Literal}
use Rattle.rdf_grammar.specs.declared.tree.Literal.TheVariants as l
use Rattle.rdf_grammar.specs.declared.word.Word.{Word}
use Rattle.rdf_grammar.specs.declared.word.Word.TheVariants as w
use Rattle.rdf_grammar.specs.Steps as steps
use Rattle.rdf_grammar.specs.Readings.{Test}
use Rattle.rdf_grammar.specs.Terminals.{Slice, Lexemes}
use Rattle.rdf_grammar.specs.Words as front
use Rattle.rdf_grammar.specs.Words.{next_word}
use Rattle.rdf_grammar.specs.Derivations as grammar
use Rattle.rdf_grammar.specs.Derivations.{Then}
use Rattle.rdf_grammar.specs.ProductionReadings as read
use Rattle.rdf_grammar.specs.ProductionReadings.{ends_literal, begins_literal}
use Rattle.rdf_grammar.specs.Productions as g
use Rattle.rdf_grammar.specs.ProductionLaws.{IrisAreRead, LiteralsAreRead, BindingsAreRead}
use Rattle.rdf_grammar.proofs.Decides.{always, Decides, pure_decides, some_pair}
use Rattle.rdf_grammar.proofs.WordLemmas.{the_word, value_word, value_decides, namespace_decides, behind_sound, behind_complete, behind_strict}
use Rattle.rdf_grammar.proofs.Combinators.{seq, last}

module _ {T : Type 0} (word : T → Option Word) where
  -- a lexeme of this word, made into something
  leaf : {A : Type 0} (f : Slice → A) (w : Word) → Decides (steps.◌<$>◌ f (front.value word w)) (grammar.◌<$>◌ f (g.value word w)) always
  leaf f w = last f _ _ always (value_decides word w)

  -- ---- iri

  iri_sound : (next : Option Word) (ts : Lexemes T) (x : Name) (us : Lexemes T) → read.iri_by word next ts ≡ Some (x, us) → g.Iri word ts x us
  iri_sound (Some w.Iri) ts x us h = inl ((leaf Full w.Iri).sound ts x us h)
  iri_sound (Some w.Pname) ts x us h = inr ((leaf g.prefixed w.Pname).sound ts x us h)
  iri_sound _ ts x us h = absurd (cc)

  iri_complete : (ts : Lexemes T) (x : Name) (us : Lexemes T) → g.Iri word ts x us → read.iri_by word (next_word word ts) ts ≡ Some (x, us)
  iri_complete ts x us (inl h) = rw (value_word word w.Iri ts h.mid h.first h.reads) ((leaf Full w.Iri).complete ts x us h refl)
  iri_complete ts x us (inr h) = rw (value_word word w.Pname ts h.mid h.first h.reads) ((leaf g.prefixed w.Pname).complete ts x us h refl)

  pub iri_begins : (ts : Lexemes T) (x : Name) (us : Lexemes T) → g.Iri word ts x us → (next_word word ts ≡ Some w.Iri) ⊎ (next_word word ts ≡ Some w.Pname)
  iri_begins ts x us (inl h) = inl (value_word word w.Iri ts h.mid h.first h.reads)
  iri_begins ts x us (inr h) = inr (value_word word w.Pname ts h.mid h.first h.reads)

  pub iri_strict : (ts : Lexemes T) (x : Name) (us : Lexemes T) → g.Iri word ts x us → length us < length ts
  iri_strict ts x us (inl h) = omega (arith, ap length h.reads.3, ap length h.goes.1)
  iri_strict ts x us (inr h) = omega (arith, ap length h.reads.3, ap length h.goes.1)

  pub iri_decides : Decides (read.iri word) (g.Iri word) always
  unfolding read.iri
  iri_decides = record {
    sound = λ ts x us h. iri_sound (next_word word ts) ts x us h;
    complete = λ ts x us h _. iri_complete ts x us h;
    shorter = λ ts x us h. let e = iri_strict ts x us h in omega arith;
  }

  -- ---- literals

  abbrev pub after_literal : Test (Lexeme T)
  after_literal us = ends_literal (next_word word us)

  typed : (form : Slice) → Decides (steps.◌<$>◌ (l.Typed form) (read.iri word)) (grammar.◌<$>◌ (l.Typed form) (g.Iri word)) always
  typed form = last (l.Typed form) _ _ always iri_decides

  suffix_sound : (form : Slice) (next : Option Word) (ts : Lexemes T) (x : Literal) (us : Lexemes T) → next_word word ts ≡ next → read.suffix_by word form next ts ≡ Some (x, us) → g.Suffix word form ts x us
  suffix_sound form (Some w.Tag) ts x us q h = inl ((leaf (l.Tagged form) w.Tag).sound ts x us h)
  suffix_sound form (Some w.Caret) ts x us q h = inr (inl (behind_sound word w.Caret _ _ always (typed form) ts x us q h))
  suffix_sound form _ ts x us q h = inr (inr (some_pair (l.Plain form) x ts us h))

  plain_at : (form : Slice) (next : Option Word) → ends_literal next ≡ true → read.suffix_by word form next ≡ steps.pure (l.Plain form)
  plain_at form (Some w.Tag) h = absurd (cc)
  plain_at form (Some w.Caret) h = absurd (cc)
  plain_at form _ h = refl

  suffix_complete : (form : Slice) (ts : Lexemes T) (x : Literal) (us : Lexemes T) → g.Suffix word form ts x us → after_literal us ≡ true → read.suffix_by word form (next_word word ts) ts ≡ Some (x, us)
  suffix_complete form ts x us (inl h) e = rw (value_word word w.Tag ts h.mid h.first h.reads) ((leaf (l.Tagged form) w.Tag).complete ts x us h refl)
  suffix_complete form ts x us (inr (inl h)) e = rw (the_word word w.Caret ts h.mid h.first h.reads) (behind_complete word w.Caret _ _ always (typed form) ts x us h refl)
  suffix_complete form ts x us (inr (inr h)) e = rw (h.1, plain_at form (next_word word us) e, h.0) refl

  suffix_shorter : (form : Slice) (ts : Lexemes T) (x : Literal) (us : Lexemes T) → g.Suffix word form ts x us → length us ≤ length ts
  suffix_shorter form ts x us (inl h) = (leaf (l.Tagged form) w.Tag).shorter ts x us h
  suffix_shorter form ts x us (inr (inl h)) = let e = behind_strict word w.Caret _ _ always (typed form) ts x us h in omega arith
  suffix_shorter form ts x us (inr (inr h)) = omega (arith, ap length h.1)

  suffix_decides : (form : Slice) → Decides (steps.◌>>=◌ (front.peek word) (read.suffix_by word form)) (g.Suffix word form) after_literal
  suffix_decides form = record {
    sound = λ ts x us h. suffix_sound form (next_word word ts) ts x us refl h;
    complete = suffix_complete form;
    shorter = suffix_shorter form;
  }

  text_decides : Decides (read.text word) (g.RDFLiteral word) after_literal
  unfolding read.text
  text_decides = seq _ _ _ _ after_literal (value_decides word w.Text) suffix_decides

  literal_sound : (next : Option Word) (ts : Lexemes T) (x : Literal) (us : Lexemes T) → next_word word ts ≡ next → read.literal_by word next ts ≡ Some (x, us) → g.ALiteral word ts x us
  literal_sound (Some w.Integer) ts x us q h = inr (inl (inl ((leaf l.Integer w.Integer).sound ts x us h)))
  literal_sound (Some w.Decimal) ts x us q h = inr (inl (inr (inl ((leaf l.Decimal w.Decimal).sound ts x us h))))
  literal_sound (Some w.Double) ts x us q h = inr (inl (inr (inr ((leaf l.Double w.Double).sound ts x us h))))
  literal_sound (Some w.True) ts x us q h = inr (inr (inl ((leaf (l.Boolean true) w.True).sound ts x us h)))
  literal_sound (Some w.False) ts x us q h = inr (inr (inr ((leaf (l.Boolean false) w.False).sound ts x us h)))
  literal_sound _ ts x us q h = inl (text_decides.sound ts x us h)

  literal_complete : (ts : Lexemes T) (x : Literal) (us : Lexemes T) → g.ALiteral word ts x us → after_literal us ≡ true → read.literal_by word (next_word word ts) ts ≡ Some (x, us)
  literal_complete ts x us (inl h) e = rw (value_word word w.Text ts h.mid h.first h.reads) (text_decides.complete ts x us h e)
  literal_complete ts x us (inr (inl (inl h))) e = rw (value_word word w.Integer ts h.mid h.first h.reads) ((leaf l.Integer w.Integer).complete ts x us h refl)
  literal_complete ts x us (inr (inl (inr (inl h)))) e = rw (value_word word w.Decimal ts h.mid h.first h.reads) ((leaf l.Decimal w.Decimal).complete ts x us h refl)
  literal_complete ts x us (inr (inl (inr (inr h)))) e = rw (value_word word w.Double ts h.mid h.first h.reads) ((leaf l.Double w.Double).complete ts x us h refl)
  literal_complete ts x us (inr (inr (inl h))) e = rw (value_word word w.True ts h.mid h.first h.reads) ((leaf (l.Boolean true) w.True).complete ts x us h refl)
  literal_complete ts x us (inr (inr (inr h))) e = rw (value_word word w.False ts h.mid h.first h.reads) ((leaf (l.Boolean false) w.False).complete ts x us h refl)

  pub literal_strict : (ts : Lexemes T) (x : Literal) (us : Lexemes T) → g.ALiteral word ts x us → length us < length ts
  literal_strict ts x us (inl h) = let e = suffix_shorter h.first h.mid x us h.goes in omega (arith, ap length h.reads.3)
  literal_strict ts x us (inr (inl (inl h))) = omega (arith, ap length h.reads.3, ap length h.goes.1)
  literal_strict ts x us (inr (inl (inr (inl h)))) = omega (arith, ap length h.reads.3, ap length h.goes.1)
  literal_strict ts x us (inr (inl (inr (inr h)))) = omega (arith, ap length h.reads.3, ap length h.goes.1)
  literal_strict ts x us (inr (inr (inl h))) = omega (arith, ap length h.reads.3, ap length h.goes.1)
  literal_strict ts x us (inr (inr (inr h))) = omega (arith, ap length h.reads.3, ap length h.goes.1)

  pub literal_begins : (ts : Lexemes T) (x : Literal) (us : Lexemes T) → g.ALiteral word ts x us → begins_literal (next_word word ts) ≡ true
  literal_begins ts x us (inl h) = rw (value_word word w.Text ts h.mid h.first h.reads) refl
  literal_begins ts x us (inr (inl (inl h))) = rw (value_word word w.Integer ts h.mid h.first h.reads) refl
  literal_begins ts x us (inr (inl (inr (inl h)))) = rw (value_word word w.Decimal ts h.mid h.first h.reads) refl
  literal_begins ts x us (inr (inl (inr (inr h)))) = rw (value_word word w.Double ts h.mid h.first h.reads) refl
  literal_begins ts x us (inr (inr (inl h))) = rw (value_word word w.True ts h.mid h.first h.reads) refl
  literal_begins ts x us (inr (inr (inr h))) = rw (value_word word w.False ts h.mid h.first h.reads) refl

  pub literal_decides : Decides (read.literal word) (g.ALiteral word) after_literal
  unfolding read.literal
  literal_decides = record {
    sound = λ ts x us h. literal_sound (next_word word ts) ts x us refl h;
    complete = literal_complete;
    shorter = λ ts x us h. let e = literal_strict ts x us h in omega arith;
  }

  -- ---- what the declaration of a prefix binds

  pub binding_decides : Decides (read.binding word) (g.Binding word) always
  unfolding read.binding
  binding_decides = seq _ _ _ _ always (namespace_decides word) (λ prefix. seq _ _ _ _ always (value_decides word w.Iri) (λ reference. pure_decides (prefix, reference) always))

  pub binding_strict : (ts : Lexemes T) (b : Slice × Slice) (us : Lexemes T) → g.Binding word ts b us → length us < length ts
  binding_strict ts b us h = omega (arith, ap length h.reads.4, ap length h.goes.reads.3, ap length h.goes.goes.1)

  -- ---- what is read is what is derived

  pub iris_are_read : IrisAreRead word
  iris_are_read ts name us = (iri_decides.sound ts name us, λ d. iri_decides.complete ts name us d refl)

  pub literals_are_read : LiteralsAreRead word
  literals_are_read ts x us = (literal_decides.sound ts x us, literal_decides.complete ts x us)

  pub bindings_are_read : BindingsAreRead word
  bindings_are_read ts bound us = (binding_decides.sound ts bound us, λ d. binding_decides.complete ts bound us d refl)
