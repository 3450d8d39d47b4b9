use Rattle.rdf_grammar.proofs.LexemeLemmas.{lexemes_have_forms}
use Rattle.rdf_grammar.proofs.lexeme_list.lexemes_have_forms.Goals as goal

pub returns : goal.returns
returns g c = lexemes_have_forms g.T.Terminal.of
