use Rattle.std.proofs.Common.{length}
use Rattle.std.specs.Str.{chars}
use Rattle.rdf_tokens.specs.Tokens.{AreTokens}
use Rattle.rdf_tokens.specs.Inside.TokenReading.{NoPnameBefore}
use Rattle.rdf_tokens.proofs.TokenLists.{Within}
use Rattle.rdf_tokens.proofs.tokenizer.tokens.Given as goal

abbrev pub invariant-loop-start : goal.invariant-loop-start
invariant-loop-start l = record {
  runs : AreTokens (chars l.text) (chars l.text) l.list.items l.rest;
  within : Within (chars l.text) l.rest;
  nameless : NoPnameBefore l.rest l.nameless;
}

abbrev pub decreases-loop-start : goal.decreases-loop-start
decreases-loop-start l = length l.rest
