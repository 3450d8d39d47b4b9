-- A text says one thing: a request, or a fault.
use Rattle.std.proofs.Common.{◌≡◌, List, ap}
use Rattle.sparql_grammar.specs.OperationGrammar.{IsRequest}
use Rattle.sparql_grammar.proofs.CallerLemmas.{request_unique}
use Rattle.sparql_syntax.specs.Update.{meaning}
use Rattle.sparql_syntax.specs.UpdateLaws.{OneRequest, NeverBoth, OneFault}
use Rattle.sparql_trees.specs.declared.operation.Operation.{Operation}
use Rattle.sparql_trees.specs.declared.operation.Request.{Request}
use Rattle.sparql_syntax.proofs.PhaseLemmas as language

one_by_operations : (a b : Request) → a.operations ≡ b.operations → a ≡ b
one_by_operations a b e = let made : List Operation → Request = λ operations. record { operations = operations } in ap made e

pub one_request : OneRequest
one_request base text a b h k = one_by_operations a b (language.one_said IsRequest meaning request_unique base text a.operations b.operations h k)

pub never_both : NeverBoth
never_both base text request f h i = language.never_both IsRequest meaning request_unique base text request.operations f h i

pub one_fault : OneFault
one_fault base text a b h i = language.one_fault IsRequest meaning request_unique base text a b h i
