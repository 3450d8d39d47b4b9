-- The refusals of the text of an update.
use Rattle.std.proofs.Common.{ℕ, List, Option}
use Rattle.sparql_syntax.specs.Update as update
use Rattle.sparql_syntax.specs.declared.fault.SyntaxFault.{SyntaxFault}
use Rattle.sparql_syntax.specs.declared.fault.SyntaxFaultKind.{SyntaxFaultKind}
use Rattle.sparql_syntax.specs.declared.fault.SyntaxFaultKind.TheVariants as kind
use Rattle.rdf_session.specs.Inside.Staging.{TellsSyntaxFault, syntax_refusal}

pub no_request : (base : Option (List ℕ)) (text : List ℕ) (f : SyntaxFault) (k : SyntaxFaultKind) → update.TellsFault base text f k → TellsSyntaxFault base text (syntax_refusal f k)
no_request base text f kind.NotUtf8 h = h
no_request base text f kind.Token h = h
no_request base text f kind.NotInProfile h = h
no_request base text f kind.TooDeep h = h
no_request base text f kind.Syntax h = h
no_request base text f kind.UnknownPrefix h = h
no_request base text f kind.Relative h = h
no_request base text f kind.BlankInDelete h = h
no_request base text f kind.VariableInData h = h
no_request base text f kind.LiteralSubject h = h
no_request base text f kind.BlankReused h = h
no_request base text f (kind.NoMemory refused) h = tt
