-- Names and literals that are derived of formed lexemes are whole, and behind these and a bound prefix formed lexemes are left.
use Rattle.std.proofs.Common.{◌≡◌, ap, refl, subst, Bool, true, false, not}
use Rattle.rdf_tokens.proofs.CallerLemmas.{local_allowed}
use Rattle.rdf_grammar.specs.declared.tree.Name.TheVariants.{Full}
use Rattle.rdf_grammar.specs.declared.tree.Literal.TheVariants as l
use Rattle.rdf_grammar.specs.declared.word.Word.{Word}
use Rattle.rdf_grammar.specs.declared.word.Word.TheVariants as w
use Rattle.rdf_grammar.specs.Derivations as grammar
use Rattle.rdf_grammar.specs.Literals.{proper_literal}
use Rattle.rdf_grammar.specs.Productions as productions
use Rattle.rdf_grammar.specs.Prologue.{is_proper}
use Rattle.rdf_grammar.specs.Terminals.{Slice}
use Rattle.sparql_terminals.specs.declared.terminal.Terminal.{Terminal}
use Rattle.sparql_terminals.specs.declared.terminal.Terminal.TheVariants as terminal
use Rattle.sparql_terminals.specs.Lexemes.{Lexemes, Derives}
use Rattle.sparql_terminals.specs.Terminals.{word}
use Rattle.sparql_terminals.specs.WordGrammar as words
use Rattle.sparql_terminals.proofs.FormedSlices.{local_formed, tag_formed}
use Rattle.sparql_terminals.proofs.Yields.{Yields, Any, IsOf, then_gives, pure_gives, or_gives, value_gives, map_gives, behind_gives, front_formed}
use Rattle.sparql_terminals.proofs.GrammarWords.{IsJust, is_iri, is_pname, is_text, is_tag, is_caret, value_is, behind_is}

-- it passes the test
abbrev pub Passes : {A : Type 0} → (A → Bool) → A → Type 0
Passes test x = test x ≡ true

-- ---- lexemes by their words

by_gives : {A : Type 0} (P Q : Derives A) (Good : A → Type 0) → ((ts : Lexemes) (x : A) (us : Lexemes) → P ts x us → Q ts x us) → Yields Q Good → Yields P Good
unfolding Yields
by_gives P Q Good there q ts x us d w = q ts x us (there ts x us d) w

word_gives : (w : Word) (k : Terminal) → IsJust w k → Yields (productions.value word w) (IsOf k)
word_gives w k is = by_gives _ _ (IsOf k) (value_is w k is) (value_gives k)

behind_word : {A : Type 0} (w : Word) (k : Terminal) → IsJust w k → (P : Derives A) (Good : A → Type 0) → Yields P Good → Yields (grammar.◌>>◌ (productions.the word w) P) Good
behind_word w k is P Good p = by_gives _ _ Good (behind_is w k P is) (behind_gives k P Good p)

-- of a word that is several terminals
any_gives : (w : Word) → Yields (productions.value word w) Any
unfolding Yields
any_gives w ts x us d formed = (tt, (front_formed ts us d.0 d.3 formed).1)

-- ---- names

prefixed_proper : (text : Slice) → IsOf terminal.Pname text → is_proper (productions.prefixed text) ≡ true
prefixed_proper text h = subst (λ (x : Slice). is_proper (productions.prefixed x) ≡ true) h.is (ap not (local_allowed _ (local_formed h.lexeme h.formed h.terminal)))

pub iri_gives : Yields words.Iri (Passes is_proper)
iri_gives = or_gives _ _ (Passes is_proper) (map_gives Full _ _ (Passes is_proper) (word_gives w.Iri terminal.Iri is_iri) (λ a h. refl))
    (map_gives productions.prefixed _ _ (Passes is_proper) (word_gives w.Pname terminal.Pname is_pname) prefixed_proper)

-- ---- literals

tagged_proper : (form tag : Slice) → IsOf terminal.AtWord tag → proper_literal (l.Tagged form tag) ≡ true
tagged_proper form tag h = subst (λ (x : Slice). proper_literal (l.Tagged form x) ≡ true) h.is (tag_formed h.lexeme h.formed h.terminal)

suffix_gives : (form : Slice) → Yields (productions.Suffix word form) (Passes proper_literal)
suffix_gives form = or_gives _ _ (Passes proper_literal) (map_gives (l.Tagged form) _ _ (Passes proper_literal) (word_gives w.Tag terminal.AtWord is_tag) (tagged_proper form))
    (or_gives _ _ (Passes proper_literal) (behind_word w.Caret terminal.Caret is_caret _ (Passes proper_literal) (map_gives (l.Typed form) _ _ (Passes proper_literal) iri_gives (λ a h. h))) (pure_gives (l.Plain form) (Passes proper_literal) refl))

text_gives : Yields (productions.RDFLiteral word) (Passes proper_literal)
text_gives = then_gives _ _ _ (Passes proper_literal) (word_gives w.Text terminal.Text is_text) (λ form h. suffix_gives form)

number_gives : Yields (productions.NumericLiteral word) (Passes proper_literal)
number_gives = or_gives _ _ (Passes proper_literal) (map_gives l.Integer _ _ (Passes proper_literal) (any_gives w.Integer) (λ a h. refl))
    (or_gives _ _ (Passes proper_literal) (map_gives l.Decimal _ _ (Passes proper_literal) (any_gives w.Decimal) (λ a h. refl)) (map_gives l.Double _ _ (Passes proper_literal) (any_gives w.Double) (λ a h. refl)))

boolean_gives : Yields (productions.BooleanLiteral word) (Passes proper_literal)
boolean_gives = or_gives _ _ (Passes proper_literal) (map_gives (l.Boolean true) _ _ (Passes proper_literal) (any_gives w.True) (λ a h. refl)) (map_gives (l.Boolean false) _ _ (Passes proper_literal) (any_gives w.False) (λ a h. refl))

pub literal_gives : Yields words.ALiteral (Passes proper_literal)
literal_gives = or_gives _ _ (Passes proper_literal) text_gives (or_gives _ _ (Passes proper_literal) number_gives boolean_gives)

-- ---- bindings of prefixes

namespace_gives : Yields (productions.namespace word) Any
unfolding Yields
namespace_gives ts x us d formed = (tt, (front_formed ts us d.0 d.4 formed).1)

pub binding_gives : Yields words.Binding Any
binding_gives = then_gives _ _ Any Any namespace_gives (λ prefix _. then_gives _ _ Any Any (any_gives w.Iri) (λ reference _. pure_gives (prefix, reference) Any tt))
