use Rattle.std.proofs.Common.{refl, sym}
use Rattle.rdf_grammar.proofs.LexemeReadings.{made_of_token, made_of_none, made_of_end}
use Rattle.rdf_grammar.proofs.rest.read_lexeme.Goals as goal

pub returns-in-Token : goal.returns-in-Token
returns-in-Token g c =
    made_of_token g.T.Terminal.of c.args.text.now c.next.new.self c.in-Token.slice c.as_str.result.now c.in-Token.kind c.of.result _
    c.in-Token.ensures (sym c.as_str.ensures) c.as_str.utf8 c.of.ensures refl

pub returns-in-End : goal.returns-in-End
returns-in-End g c = made_of_end g.T.Terminal.of c.args.text.now c.next.new.self c.in-End.ensures

pub returns-in-NoToken : goal.returns-in-NoToken
returns-in-NoToken g c = made_of_none g.T.Terminal.of c.args.text.now c.next.new.self c.unread.result c.in-NoToken.ensures c.unread.ensures
