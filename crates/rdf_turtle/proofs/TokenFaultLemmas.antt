-- A fault of tokens means that there is no token list.
use Rattle.std.proofs.Common.{◌≡◌, ℕ, List, Ok, Err}
use Rattle.std.specs.Str.{chars}
use Rattle.rdf_tokens.specs.declared.token.Token.{Token}
use Rattle.rdf_tokens.specs.Tokens.{Tokenizes}
use Rattle.rdf_tokens.proofs.CallerLemmas.{one_token_list}
use Rattle.rdf_turtle.specs.declared.fault.TurtleFaultKind.{TurtleFaultKind}
use Rattle.rdf_turtle.specs.declared.fault.TurtleFaultKind.TheVariants as fault
use Rattle.rdf_turtle.specs.TokenFaults.{IsFault}

never : (tokens : List Token) (place : ℕ) → Ok tokens ≡ Err place → ⊥
never tokens place e = cc

pub no_list : (text : List ℕ) (kind : TurtleFaultKind) (line : ℕ) → IsFault text kind line → kind ≡ fault.Token → (tokens : List Token) → ¬ Tokenizes (chars text) (Ok tokens)
no_list text fault.Token line h e tokens says = never tokens h.0 (one_token_list (chars text) (Ok tokens) (Err h.0) says h.1)
no_list text (fault.NoMemory _) line h e tokens says = absurd cc
no_list text fault.NotUtf8 line h e tokens says = h
no_list text fault.TooDeep line h e tokens says = h
no_list text fault.Syntax line h e tokens says = h
no_list text fault.UnknownPrefix line h e tokens says = h
no_list text fault.Relative line h e tokens says = h
