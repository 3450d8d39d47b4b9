-- What Turtle's terminals are in IRIs and literals.
use Rattle.std.proofs.Common.{◌≡◌, [], ◌∷◌, Some, refl, ap, inl, inr}
use Rattle.rdf_turtle.specs.declared.terminal.Terminal.{Terminal}
use Rattle.rdf_turtle.specs.declared.terminal.Terminal.TheVariants as terminal
use Rattle.rdf_turtle.specs.Lexemes.{Lexemes, Derives}
use Rattle.rdf_turtle.specs.Terminals.{word, bracket}
use Rattle.rdf_grammar.specs.declared.bracket.Bracket.TheVariants.{Neither}
use Rattle.rdf_grammar.specs.declared.word.Word.{Word}
use Rattle.rdf_grammar.specs.declared.word.Word.TheVariants as w
use Rattle.rdf_grammar.specs.Derivations as grammar
use Rattle.rdf_grammar.specs.Derivations.{◌∣◌, ◌>>◌}
use Rattle.rdf_grammar.specs.Productions as productions
use Rattle.rdf_grammar.specs.Terminals.{Slice, next_terminal}
use Rattle.rdf_grammar.specs.Words.{next_word}

-- only this terminal is the word
abbrev pub IsJust : Word → Terminal → Type 0
IsJust w k = (j : Terminal) → word j ≡ Some w → j ≡ k

pub is_iri : IsJust w.Iri terminal.Iri
is_iri terminal.Iri h = refl
is_iri _ h = absurd (cc)

pub is_pname : IsJust w.Pname terminal.Pname
is_pname terminal.Pname h = refl
is_pname _ h = absurd (cc)

pub is_text : IsJust w.Text terminal.Text
is_text terminal.Text h = refl
is_text _ h = absurd (cc)

pub is_caret : IsJust w.Caret terminal.Caret
is_caret terminal.Caret h = refl
is_caret _ h = absurd (cc)

pub is_integer : IsJust w.Integer terminal.Integer
is_integer terminal.Integer h = refl
is_integer _ h = absurd (cc)

pub is_decimal : IsJust w.Decimal terminal.Decimal
is_decimal terminal.Decimal h = refl
is_decimal _ h = absurd (cc)

pub is_double : IsJust w.Double terminal.Double
is_double terminal.Double h = refl
is_double _ h = absurd (cc)

pub is_true : IsJust w.True terminal.True
is_true terminal.True h = refl
is_true _ h = absurd (cc)

pub is_false : IsJust w.False terminal.False
is_false terminal.False h = refl
is_false _ h = absurd (cc)

-- a lexeme of the word is one of that terminal

pub the_is : (w : Word) (k : Terminal) → IsJust w k → (ts : Lexemes) (u : Unit {0}) (us : Lexemes) → productions.the word w ts u us → grammar.the k ts u us
the_is w k is ts u us d = (d.0, is d.0.terminal d.1, d.2)

pub value_is : (w : Word) (k : Terminal) → IsJust w k → (ts : Lexemes) (v : Slice) (us : Lexemes) → productions.value word w ts v us → grammar.value k ts v us
value_is w k is ts v us d = (d.0, is d.0.terminal d.1, d.2, d.3)

pub behind_is : {A : Type 0} (w : Word) (k : Terminal) (P : Derives A) → IsJust w k → (ts : Lexemes) (x : A) (us : Lexemes) → (productions.the word w >> P) ts x us → (grammar.the k >> P) ts x us
behind_is w k P is ts x us d = record { first = d.first; mid = d.mid; reads = the_is w k is ts d.first d.mid d.reads; goes = d.goes }

pub next_is : (w : Word) (k : Terminal) → IsJust w k → (ts : Lexemes) → next_word word ts ≡ Some w → next_terminal ts ≡ Some k
next_is w k is [] h = absurd (cc)
next_is w k is (t ∷ ts) h = ap Some (is t.terminal h)

-- at a tag's place the words of directives are tags
abbrev pub Tag : Derives Slice
Tag = grammar.value terminal.AtWord ∣ grammar.value terminal.AtPrefix ∣ grammar.value terminal.AtBase

tag_by : (k : Terminal) → word k ≡ Some w.Tag → (ts : Lexemes) (v : Slice) (us : Lexemes) → grammar.value k ts v us → Tag ts v us
tag_by terminal.AtWord h ts v us d = inl d
tag_by terminal.AtPrefix h ts v us d = inr (inl d)
tag_by terminal.AtBase h ts v us d = inr (inr d)
tag_by _ h ts v us d = absurd (cc)

pub tag_is : (ts : Lexemes) (v : Slice) (us : Lexemes) → productions.value word w.Tag ts v us → Tag ts v us
tag_is ts v us d = tag_by d.0.terminal d.1 ts v us (d.0, refl, d.2, d.3)

-- no bracket is one
pub plain : (k : Terminal) (w : Word) → word k ≡ Some w → bracket k ≡ Neither
plain terminal.OpenBracket w h = absurd (cc)
plain terminal.CloseBracket w h = absurd (cc)
plain terminal.Open w h = absurd (cc)
plain terminal.Close w h = absurd (cc)
plain terminal.OpenBrace w h = absurd (cc)
plain terminal.CloseBrace w h = absurd (cc)
plain _ w h = refl
