-- Each production is read just as it is derived.
use Rattle.std.proofs.Common.{◌≡◌, ◌<◌, Bool, true, length, Option, Some, refl, ap, arith, inl, inr, ◌⊎◌}
use Rattle.std.specs.Option.{option_and_then}
use Rattle.rdf_turtle.specs.declared.terminal.Terminal.{Terminal}
use Rattle.rdf_turtle.specs.declared.terminal.Terminal.TheVariants as terminal
use Rattle.rdf_grammar.specs.declared.tree.Name.{Name}
use Rattle.rdf_turtle.specs.declared.tree.Verb.{Verb}
use Rattle.rdf_turtle.specs.declared.tree.Verb.TheVariants as v
use Rattle.rdf_grammar.specs.declared.tree.Literal.{Literal}
use Rattle.rdf_grammar.specs.declared.word.Word.TheVariants as w
use Rattle.rdf_grammar.specs.Steps as steps
use Rattle.rdf_grammar.specs.Terminals.{next_terminal}
use Rattle.rdf_grammar.specs.Words.{next_word}
use Rattle.rdf_turtle.specs.Lexemes.{Lexemes, Test}
use Rattle.rdf_turtle.specs.Terminals.{same_terminal, apart, word}
use Rattle.rdf_grammar.specs.Derivations as grammar
use Rattle.rdf_grammar.specs.Derivations.{Then}
use Rattle.rdf_grammar.specs.ProductionReadings as productions
use Rattle.rdf_grammar.specs.ProductionReadings.{ends_literal}
use Rattle.rdf_turtle.specs.Inside.Reading as read
use Rattle.rdf_turtle.specs.Grammar as g
use Rattle.rdf_grammar.proofs.CallerLemmas.{always, Decides, the_terminal, word_sound, word_complete, word_strict, last}
use Rattle.rdf_grammar.proofs.CallerLemmas as shared
use Rattle.rdf_turtle.proofs.GrammarWords.{is_iri, is_pname, next_is}

-- ---- iri

either_terminal : (ts : Lexemes) → (next_word word ts ≡ Some w.Iri) ⊎ (next_word word ts ≡ Some w.Pname) → (next_terminal ts ≡ Some terminal.Iri) ⊎ (next_terminal ts ≡ Some terminal.Pname)
either_terminal ts (inl q) = inl (next_is w.Iri terminal.Iri is_iri ts q)
either_terminal ts (inr q) = inr (next_is w.Pname terminal.Pname is_pname ts q)

pub iri_terminal : (ts : Lexemes) (x : Name) (us : Lexemes) → g.Iri ts x us → (next_terminal ts ≡ Some terminal.Iri) ⊎ (next_terminal ts ≡ Some terminal.Pname)
iri_terminal ts x us h = either_terminal ts (shared.iri_begins word ts x us h)

pub iri_strict : (ts : Lexemes) (x : Name) (us : Lexemes) → g.Iri ts x us → length us < length ts
iri_strict = shared.iri_strict word

pub iri_decides : Decides read.iri g.Iri always
iri_decides = shared.iri_decides word

-- ---- verb

named : Decides (steps.◌<$>◌ v.Name read.iri) (grammar.◌<$>◌ v.Name g.Iri) always
named = last v.Name _ _ always iri_decides

verb_sound : (k : Option Terminal) (ts : Lexemes) (x : Verb) (us : Lexemes) → next_terminal ts ≡ k → read.verb_by k ts ≡ Some (x, us) → g.AVerb ts x us
verb_sound (Some terminal.A) ts x us q h = inr (word_sound same_terminal apart terminal.A v.Type x ts us q h)
verb_sound _ ts x us q h = inl (named.sound ts x us h)

verb_named : (ts : Lexemes) (x : Verb) (us : Lexemes) → grammar.◌<$>◌ v.Name g.Iri ts x us → (next_terminal ts ≡ Some terminal.Iri) ⊎ (next_terminal ts ≡ Some terminal.Pname) → read.verb_by (next_terminal ts) ts ≡ Some (x, us)
verb_named ts x us h (inl q) = rw q (named.complete ts x us h refl)
verb_named ts x us h (inr q) = rw q (named.complete ts x us h refl)

verb_complete : (ts : Lexemes) (x : Verb) (us : Lexemes) → g.AVerb ts x us → read.verb_by (next_terminal ts) ts ≡ Some (x, us)
verb_complete ts x us (inl h) = verb_named ts x us h (iri_terminal ts h.first h.mid h.reads)
verb_complete ts x us (inr h) = let q = the_terminal terminal.A ts h.mid h.first h.reads in rw q (word_complete same_terminal apart terminal.A v.Type x ts us q h)

begins_iri : (ts : Lexemes) → (next_terminal ts ≡ Some terminal.Iri) ⊎ (next_terminal ts ≡ Some terminal.Pname) → read.sees_verb ts ≡ true
begins_iri ts (inl q) = rw q refl
begins_iri ts (inr q) = rw q refl

pub verb_begins : (ts : Lexemes) (x : Verb) (us : Lexemes) → g.AVerb ts x us → read.sees_verb ts ≡ true
verb_begins ts x us (inl h) = begins_iri ts (iri_terminal ts h.first h.mid h.reads)
verb_begins ts x us (inr h) = rw (the_terminal terminal.A ts h.mid h.first h.reads) refl

pub verb_strict : (ts : Lexemes) (x : Verb) (us : Lexemes) → g.AVerb ts x us → length us < length ts
verb_strict ts x us (inl h) = let e = iri_strict ts h.first h.mid h.reads in omega (arith, ap length h.goes.1)
verb_strict ts x us (inr h) = word_strict terminal.A v.Type x ts us h

pub verb_decides : Decides read.verb g.AVerb always
unfolding read.verb
verb_decides = record {
  sound = λ ts x us h. verb_sound (next_terminal ts) ts x us refl h;
  complete = λ ts x us h _. verb_complete ts x us h;
  shorter = λ ts x us h. let e = verb_strict ts x us h in omega arith;
}

-- ---- literals, behind which stands no tag and no "^^"

abbrev pub ends_node : Option Terminal → Bool
ends_node k = ends_literal (option_and_then word k)

abbrev pub after_node : Test
after_node us = ends_node (next_terminal us)

pub literal_strict : (ts : Lexemes) (x : Literal) (us : Lexemes) → g.ALiteral ts x us → length us < length ts
literal_strict = shared.literal_strict word

-- the terminals that begin a literal
abbrev pub begins_literal : Option Terminal → Bool
begins_literal k = productions.begins_literal (option_and_then word k)

pub literal_begins : (ts : Lexemes) (x : Literal) (us : Lexemes) → g.ALiteral ts x us → begins_literal (next_terminal ts) ≡ true
literal_begins = shared.literal_begins word

pub literal_decides : Decides read.literal g.ALiteral after_node
literal_decides = shared.literal_decides word
