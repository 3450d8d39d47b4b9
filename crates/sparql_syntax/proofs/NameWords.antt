-- Names and literals, and the names that their lexemes carry.
use Rattle.std.proofs.Common.{refl, Bool, true, false}
use Rattle.rdf_grammar.specs.Productions as productions
use Rattle.rdf_grammar.specs.Terminals.{Slice}
use Rattle.rdf_grammar.specs.declared.tree.Literal.{Literal}
use Rattle.rdf_grammar.specs.declared.tree.Literal.TheVariants as l
use Rattle.rdf_grammar.specs.declared.tree.Name.{Name}
use Rattle.rdf_grammar.specs.declared.tree.Name.TheVariants.{Full}
use Rattle.rdf_grammar.specs.declared.word.Word.TheVariants as w
use Rattle.sparql_terminals.specs.Terminals.{word}
use Rattle.sparql_terminals.specs.WordGrammar as words
use Rattle.sparql_syntax.proofs.NameFronts.{Ask, Value, Gives, start, then_gives, pure_gives, or_gives, map_gives, word_gives, the_word_gives, reference_gives, pname_gives}

-- of the name of a literal's datatype
abbrev pub each_literal : Ask → Literal → Bool
each_literal q (l.Typed text name) = q.name name
each_literal q _ = true

abbrev pub name_value : Name → Value
name_value name q = q.name name

abbrev pub literal_value : Literal → Value
literal_value x q = each_literal q x

pub iri_gives : Gives start words.Iri name_value
iri_gives = or_gives _ _ start name_value (map_gives Full _ start _ name_value reference_gives (λ a q. refl)) (map_gives productions.prefixed _ start _ name_value pname_gives (λ a q. refl))

suffix_gives : (form : Slice) → Gives start (productions.Suffix word form) literal_value
suffix_gives form = or_gives _ _ start literal_value (map_gives (l.Tagged form) _ start (λ _. start) literal_value (word_gives w.Tag start refl) (λ a q. refl))
    (or_gives _ _ start literal_value
    (then_gives (productions.the word w.Caret) _ start (λ _. start) literal_value (the_word_gives w.Caret start refl) (λ _. map_gives (l.Typed form) _ start name_value literal_value iri_gives (λ a q. refl)))
    (pure_gives (l.Plain form) start literal_value (λ q. refl)))

text_gives : Gives start (productions.RDFLiteral word) literal_value
text_gives = then_gives _ _ start (λ _. start) literal_value (word_gives w.Text start refl) suffix_gives

number_gives : Gives start (productions.NumericLiteral word) literal_value
number_gives = or_gives _ _ start literal_value (map_gives l.Integer _ start (λ _. start) literal_value (word_gives w.Integer start refl) (λ a q. refl))
    (or_gives _ _ start literal_value (map_gives l.Decimal _ start (λ _. start) literal_value (word_gives w.Decimal start refl) (λ a q. refl))
    (map_gives l.Double _ start (λ _. start) literal_value (word_gives w.Double start refl) (λ a q. refl)))

boolean_gives : Gives start (productions.BooleanLiteral word) literal_value
boolean_gives = or_gives _ _ start literal_value (map_gives (l.Boolean true) _ start (λ _. start) literal_value (word_gives w.True start refl) (λ a q. refl))
    (map_gives (l.Boolean false) _ start (λ _. start) literal_value (word_gives w.False start refl) (λ a q. refl))

pub literal_gives : Gives start words.ALiteral literal_value
literal_gives = or_gives _ _ start literal_value text_gives (or_gives _ _ start literal_value number_gives boolean_gives)
