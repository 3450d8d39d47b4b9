use Rattle.std.proofs.Common.{sym, rules}
use Rattle.rdf_keeper.proofs.ScriptLemmas.Words.{ended_word, last_word, no_word}
use Rattle.rdf_keeper.proofs.script.line.next_word.Goals as goal

pub returns-in_default : goal.returns-in_default
returns-in_default c = no_word c.args.text.now (search rules)

pub returns-in-Some-word_len : goal.returns-in-Some-word_len
returns-in-Some-word_len c =
    ended_word _ _ _ _ _ _ (sym c.in-Some.ensures.place) c.split_at.ensures.back (sym c.in-Some-word_len.ensures.place) c.split_at-in-Some-word_len.ensures.front c.split_at-in-Some-word_len.ensures.back

pub returns-in-None : goal.returns-in-None
returns-in-None c =
    last_word _ _ _ _ _ (sym c.in-Some.ensures.place) c.split_at.ensures.back (sym c.in-None.ensures.place) c.split_at-in-None.ensures.front c.split_at-in-None.ensures.back
