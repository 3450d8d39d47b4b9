-- What is derived before lexemes that the grammar has a use for is such lexemes too.
use Rattle.std.proofs.Common.{◌≡◌, true, false, List, [], ◌∷◌, Some, None, refl, sym, ap, subst, ◌∙◌, inl, inr}
use Rattle.rdf_grammar.specs.Derivations as grammar
use Rattle.rdf_grammar.specs.Derivations.{Then, Star, stop, more}
use Rattle.rdf_grammar.specs.Productions as productions
use Rattle.rdf_grammar.specs.Terminals.{Slice}
use Rattle.rdf_grammar.specs.declared.tree.Name.TheVariants.{Full}
use Rattle.rdf_grammar.specs.declared.tree.Literal.TheVariants as l
use Rattle.rdf_grammar.specs.declared.word.Word.{Word}
use Rattle.rdf_grammar.specs.declared.word.Word.TheVariants as w
use Rattle.sparql_terminals.specs.declared.terminal.Terminal.{Terminal}
use Rattle.sparql_terminals.specs.declared.terminal.Terminal.TheVariants as terminal
use Rattle.sparql_terminals.specs.Lexemes.{Lexeme, Lexemes, Derives}
use Rattle.sparql_terminals.specs.Terminals.{word}
use Rattle.sparql_terminals.specs.Useful.{AreUseful, is_other}
use Rattle.sparql_terminals.specs.WordGrammar as words

unfoldable pub Uses : {A : Type 0} → Derives A → Type 0
Uses {A} P = (ts : Lexemes) (x : A) (us : Lexemes) → P ts x us → AreUseful us → AreUseful ts

pub then_uses : {A B : Type 0} (P : Derives A) (F : A → Derives B) → Uses P → ((a : A) → Uses (F a)) → Uses (Then P F)
unfolding Uses
then_uses P F p f ts x us d h = p ts d.first d.mid d.reads (f d.first d.mid x us d.goes h)

pub pure_uses : {A : Type 0} (a : A) → Uses (grammar.pure a)
unfolding Uses
pure_uses a ts x us d h = subst (λ (z : Lexemes). AreUseful z) (sym d.1) h

pub or_uses : {A : Type 0} (P Q : Derives A) → Uses P → Uses Q → Uses (grammar.◌∣◌ P Q)
unfolding Uses
or_uses P Q p q ts x us (inl d) h = p ts x us d h
or_uses P Q p q ts x us (inr d) h = q ts x us d h

front : (ts us : Lexemes) (t : Lexeme) → ts ≡ t ∷ us → is_other t.terminal ≡ false → AreUseful us → AreUseful ts
front ts us t e used h = subst (λ (z : Lexemes). AreUseful z) (sym e) (used, h)

pub the_uses : (k : Terminal) → is_other k ≡ false → Uses (grammar.the k)
unfolding Uses
the_uses k used ts x us d h = front ts us d.0 d.2 (ap is_other d.1 ∙ used) h

pub value_uses : (k : Terminal) → is_other k ≡ false → Uses (grammar.value k)
unfolding Uses
value_uses k used ts x us d h = front ts us d.0 d.3 (ap is_other d.1 ∙ used) h

pub map_uses : {A B : Type 0} (f : A → B) (P : Derives A) → Uses P → Uses (grammar.◌<$>◌ f P)
map_uses f P p = then_uses P _ p (λ a. pure_uses (f a))

pub behind_uses : {A : Type 0} (k : Terminal) (P : Derives A) → is_other k ≡ false → Uses P → Uses (grammar.◌>>◌ (grammar.the k) P)
behind_uses k P used p = then_uses _ _ (the_uses k used) (λ _. p)

-- a lexeme, and a tree behind it
pub closed_uses : {A : Type 0} (k : Terminal) (x : A) → is_other k ≡ false → Uses (grammar.◌>>◌ (grammar.the k) (grammar.pure x))
closed_uses k x used = behind_uses k _ used (pure_uses x)

pub leaf_uses : {A : Type 0} (f : Slice → A) (k : Terminal) → is_other k ≡ false → Uses (grammar.◌<$>◌ f (grammar.value k))
leaf_uses f k used = map_uses f _ (value_uses k used)

pub maybe_uses : {A : Type 0} (P : Derives A) → Uses P → Uses (grammar.maybe P)
unfolding Uses
maybe_uses P p ts None us d h = subst (λ (z : Lexemes). AreUseful z) (sym d) h
maybe_uses P p ts (Some x) us d h = p ts x us d h

pub star_uses : {A : Type 0} (P : Derives (List A)) → Uses P → Uses (Star P)
unfolding Uses
star_uses P p ts xs us stop h = h
star_uses P p ts xs us (more {mid = mid} {x = x} {xs = ys} r s) h = p ts x mid r (star_uses P p mid ys us s h)

pub one_uses : {A : Type 0} (P : Derives A) → Uses P → Uses (grammar.one P)
one_uses P p = map_uses (λ x. x ∷ []) P p

-- ( k P )*
pub each_uses : {A : Type 0} (k : Terminal) (P : Derives A) → is_other k ≡ false → Uses P → Uses (Star (grammar.one (grammar.◌>>◌ (grammar.the k) P)))
each_uses k P used p = star_uses _ (one_uses _ (behind_uses k P used p))

-- ---- names, literals and the bindings of prefixes

useful_word : (k : Terminal) (u : Word) → word k ≡ Some u → is_other k ≡ false
useful_word terminal.Other u h = absurd (cc)
useful_word _ u h = refl

a_word_uses : (u : Word) → Uses (productions.the word u)
unfolding Uses
a_word_uses u ts x us d h = front ts us d.0 d.2 (useful_word d.0.terminal u d.1) h

word_uses : (u : Word) → Uses (productions.value word u)
unfolding Uses
word_uses u ts x us d h = front ts us d.0 d.3 (useful_word d.0.terminal u d.1) h

namespace_uses : Uses (productions.namespace word)
unfolding Uses
namespace_uses ts x us d h = front ts us d.0 d.4 (useful_word d.0.terminal w.Pname d.1) h

word_leaf : {A : Type 0} (f : Slice → A) (u : Word) → Uses (grammar.◌<$>◌ f (productions.value word u))
word_leaf f u = map_uses f _ (word_uses u)

pub iri_uses : Uses words.Iri
iri_uses = or_uses _ _ (word_leaf Full w.Iri) (word_leaf productions.prefixed w.Pname)

suffix_uses : (form : Slice) → Uses (productions.Suffix word form)
suffix_uses form =
    or_uses _ _ (word_leaf (l.Tagged form) w.Tag) (or_uses _ _ (then_uses _ _ (a_word_uses w.Caret) (λ _. map_uses (l.Typed form) _ iri_uses)) (pure_uses (l.Plain form)))

pub literal_uses : Uses words.ALiteral
literal_uses =
    or_uses _ _ (then_uses _ _ (word_uses w.Text) suffix_uses)
    (or_uses _ _ (or_uses _ _ (word_leaf l.Integer w.Integer) (or_uses _ _ (word_leaf l.Decimal w.Decimal) (word_leaf l.Double w.Double)))
    (or_uses _ _ (word_leaf (l.Boolean true) w.True) (word_leaf (l.Boolean false) w.False)))

pub binding_uses : Uses words.Binding
binding_uses = then_uses _ _ namespace_uses (λ prefix. then_uses _ _ (word_uses w.Iri) (λ reference. pure_uses (prefix, reference)))
