-- What SPARQL's terminals are in names and literals, which are read just as they are derived.
use Rattle.std.proofs.Common.{◌≡◌, ◌<◌, Bool, true, [], ◌∷◌, length, Option, Some, refl, ap, inl, inr, ◌⊎◌}
use Rattle.std.specs.Option.{option_and_then}
use Rattle.rdf_grammar.specs.declared.bracket.Bracket.TheVariants.{Neither}
use Rattle.rdf_grammar.specs.declared.tree.Name.{Name}
use Rattle.rdf_grammar.specs.declared.tree.Literal.{Literal}
use Rattle.rdf_grammar.specs.declared.word.Word.{Word}
use Rattle.rdf_grammar.specs.declared.word.Word.TheVariants as w
use Rattle.rdf_grammar.specs.Derivations as grammar
use Rattle.rdf_grammar.specs.Derivations.{◌>>◌}
use Rattle.rdf_grammar.specs.ProductionReadings as readings
use Rattle.rdf_grammar.specs.ProductionReadings.{ends_literal}
use Rattle.rdf_grammar.specs.Productions as productions
use Rattle.rdf_grammar.specs.Terminals.{Slice, next_terminal}
use Rattle.rdf_grammar.specs.Words.{next_word}
use Rattle.rdf_grammar.proofs.CallerLemmas.{always, Decides}
use Rattle.rdf_grammar.proofs.CallerLemmas as shared
use Rattle.sparql_terminals.specs.declared.terminal.Terminal.{Terminal}
use Rattle.sparql_terminals.specs.declared.terminal.Terminal.TheVariants as terminal
use Rattle.sparql_terminals.specs.Lexemes.{Lexemes, Derives, Test}
use Rattle.sparql_terminals.specs.Terminals.{word, bracket}
use Rattle.sparql_terminals.specs.WordReading as read
use Rattle.sparql_terminals.specs.WordGrammar as g

-- only this terminal is the word
abbrev pub IsJust : Word → Terminal → Type 0
IsJust w k = (j : Terminal) → word j ≡ Some w → j ≡ k

pub is_iri : IsJust w.Iri terminal.Iri
is_iri terminal.Iri h = refl
is_iri _ h = absurd (cc)

pub is_pname : IsJust w.Pname terminal.Pname
is_pname terminal.Pname h = refl
is_pname _ h = absurd (cc)

pub is_text : IsJust w.Text terminal.Text
is_text terminal.Text h = refl
is_text _ h = absurd (cc)

pub is_tag : IsJust w.Tag terminal.AtWord
is_tag terminal.AtWord h = refl
is_tag _ h = absurd (cc)

pub is_caret : IsJust w.Caret terminal.Caret
is_caret terminal.Caret h = refl
is_caret _ h = absurd (cc)

-- a lexeme of the word is one of that terminal

the_is : (w : Word) (k : Terminal) → IsJust w k → (ts : Lexemes) (u : Unit {0}) (us : Lexemes) → productions.the word w ts u us → grammar.the k ts u us
the_is w k is ts u us d = (d.0, is d.0.terminal d.1, d.2)

pub value_is : (w : Word) (k : Terminal) → IsJust w k → (ts : Lexemes) (v : Slice) (us : Lexemes) → productions.value word w ts v us → grammar.value k ts v us
value_is w k is ts v us d = (d.0, is d.0.terminal d.1, d.2, d.3)

pub behind_is : {A : Type 0} (w : Word) (k : Terminal) (P : Derives A) → IsJust w k → (ts : Lexemes) (x : A) (us : Lexemes) → (productions.the word w >> P) ts x us → (grammar.the k >> P) ts x us
behind_is w k P is ts x us d = record { first = d.first; mid = d.mid; reads = the_is w k is ts d.first d.mid d.reads; goes = d.goes }

next_is : (w : Word) (k : Terminal) → IsJust w k → (ts : Lexemes) → next_word word ts ≡ Some w → next_terminal ts ≡ Some k
next_is w k is [] h = absurd (cc)
next_is w k is (t ∷ ts) h = ap Some (is t.terminal h)

-- no bracket is one
pub plain : (k : Terminal) (w : Word) → word k ≡ Some w → bracket k ≡ Neither
plain terminal.OpenBracket w h = absurd (cc)
plain terminal.CloseBracket w h = absurd (cc)
plain terminal.Open w h = absurd (cc)
plain terminal.Close w h = absurd (cc)
plain terminal.OpenBrace w h = absurd (cc)
plain terminal.CloseBrace w h = absurd (cc)
plain _ w h = refl

-- ---- iri

either_terminal : (ts : Lexemes) → (next_word word ts ≡ Some w.Iri) ⊎ (next_word word ts ≡ Some w.Pname) → (next_terminal ts ≡ Some terminal.Iri) ⊎ (next_terminal ts ≡ Some terminal.Pname)
either_terminal ts (inl q) = inl (next_is w.Iri terminal.Iri is_iri ts q)
either_terminal ts (inr q) = inr (next_is w.Pname terminal.Pname is_pname ts q)

pub iri_terminal : (ts : Lexemes) (x : Name) (us : Lexemes) → g.Iri ts x us → (next_terminal ts ≡ Some terminal.Iri) ⊎ (next_terminal ts ≡ Some terminal.Pname)
iri_terminal ts x us h = either_terminal ts (shared.iri_begins word ts x us h)

either_passes : (test : Option Terminal → Bool) → test (Some terminal.Iri) ≡ true → test (Some terminal.Pname) ≡ true
    → (k : Option Terminal) → (k ≡ Some terminal.Iri) ⊎ (k ≡ Some terminal.Pname) → test k ≡ true
either_passes test a b k (inl q) = rw q a
either_passes test a b k (inr q) = rw q b

-- what names begin with passes the tests that both its terminals pass
pub iri_passes : (test : Option Terminal → Bool) → test (Some terminal.Iri) ≡ true → test (Some terminal.Pname) ≡ true
    → (ts : Lexemes) (x : Name) (us : Lexemes) → g.Iri ts x us → test (next_terminal ts) ≡ true
iri_passes test a b ts x us h = either_passes test a b (next_terminal ts) (iri_terminal ts x us h)

pub iri_strict : (ts : Lexemes) (x : Name) (us : Lexemes) → g.Iri ts x us → length us < length ts
iri_strict = shared.iri_strict word

pub iri_decides : Decides read.iri g.Iri always
iri_decides = shared.iri_decides word

-- ---- bindings of prefixes

pub binding_decides : Decides read.binding g.Binding always
binding_decides = shared.binding_decides word

-- ---- literals, behind which stands no tag and no "^^"

abbrev pub ends_node : Option Terminal → Bool
ends_node k = ends_literal (option_and_then word k)

abbrev pub after_node : Test
after_node us = ends_node (next_terminal us)

pub literal_strict : (ts : Lexemes) (x : Literal) (us : Lexemes) → g.ALiteral ts x us → length us < length ts
literal_strict = shared.literal_strict word

-- the terminals that begin a literal
abbrev pub begins_literal : Option Terminal → Bool
begins_literal k = readings.begins_literal (option_and_then word k)

pub literal_begins : (ts : Lexemes) (x : Literal) (us : Lexemes) → g.ALiteral ts x us → begins_literal (next_terminal ts) ≡ true
literal_begins = shared.literal_begins word

pub literal_decides : Decides read.literal g.ALiteral after_node
literal_decides = shared.literal_decides word
