use Rattle.std.proofs.Common.{sym, ◌∙◌}
use Rattle.std.proofs.lemmas.Str.{chars-nil}
use Rattle.rdf_tokens.proofs.ReaderLemmas.{at_the_end, ends_there, nameless_there, leads_behind, at_the_next, token_there, none_there}
use Rattle.rdf_tokens.proofs.reader.TokenReader.next.Goals as goal

pub invariant_of-self : goal.invariant_of-self
invariant_of-self c = at_the_end c.skip_gap-start.result c.self.inside.nameless c.if-is_end.ensures

pub returns-then-is_end : goal.returns-then-is_end
returns-then-is_end c = ends_there c.self.inside.rest c.args.self.now c.skip_gap-start.result c.self.view_is c.skip_gap-start.ensures c.if-is_end.ensures

pub token-requires : goal.token-requires
token-requires c = nameless_there c.self.inside.rest c.skip_gap-start.result c.self.inside.nameless c.if-is_end.ensures.0 c.if-is_end.ensures.1 c.self.invariant c.skip_gap-start.ensures c.if-is_end.ensures.2

pub text_up_to-text-requires : goal.text_up_to-text-requires
text_up_to-text-requires c = leads_behind c.skip_gap-start.result c.in-Some.kind c.in-Some.behind (sym c.in-Some.ensures.token)

pub invariant_of-self-in-Some : goal.invariant_of-self-in-Some
invariant_of-self-in-Some c =
    at_the_next c.self.inside.rest c.skip_gap-start.result c.self.inside.nameless c.token.new.nameless c.if-is_end.ensures.0 c.if-is_end.ensures.1 c.in-Some.kind c.in-Some.behind
    c.self.invariant c.skip_gap-start.ensures c.if-is_end.ensures.2 (sym c.in-Some.ensures.token) c.in-Some.ensures.nameless

pub invariant_of-self-in-None : goal.invariant_of-self-in-None
invariant_of-self-in-None c = at_the_end c.new-self-inside.result c.self.inside.nameless (c.new-self-inside.ensures ∙ chars-nil)

pub returns-in-Some : goal.returns-in-Some
returns-in-Some c =
    let there = token_there c.self.inside.rest c.args.self.now c.skip_gap-start.result c.self.inside.nameless c.if-is_end.ensures.0 c.if-is_end.ensures.1 c.in-Some.kind c.in-Some.behind
    c.text_up_to-text.result.now c.new-slice.result c.self.view_is c.self.invariant c.skip_gap-start.ensures c.if-is_end.ensures.2 (sym c.in-Some.ensures.token) c.text_up_to-text.ensures c.new-slice.ensures in
    (c.skip_gap-start.result, there.0, there.1, there.2)

pub returns-in-None : goal.returns-in-None
returns-in-None c =
    let there = none_there c.self.inside.rest c.args.self.now c.skip_gap-start.result c.if-is_end.ensures.0 c.if-is_end.ensures.1 c.self.view_is c.skip_gap-start.ensures c.if-is_end.ensures.2 (sym c.in-None.ensures.token) in
    (c.skip_gap-start.result, there.0, there.1, c.new-self-inside.ensures ∙ chars-nil)
