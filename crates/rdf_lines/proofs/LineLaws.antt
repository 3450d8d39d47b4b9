-- Each line says just one thing.
use Rattle.rdf_lines.specs.Line.{OneAnswer, SomeAnswer}
use Rattle.rdf_lines.proofs.AnswerLemmas.{answers_agree, answer_of_line}

pub one_answer : OneAnswer
one_answer format line a b = answers_agree format line a b

pub some_answer : SomeAnswer
some_answer format line = answer_of_line format line
