use Rattle.std.proofs.Common.{sym, ◌∙◌, string_bytes}
use Rattle.std.specs.Str.{chars}
use Rattle.rdf_terms.proofs.UnescapeLemmas.{read_next, read_end, read_fails, shorter, peek_some, peek_none}
use Rattle.rdf_terms.proofs.escape.unescape.Goals as goal

pub returns-in_default : goal.returns-in_default
returns-in_default c =
    read_fails (chars c.args.text.now) c.loop-rest.rest (string_bytes c.loop-rest.value) (sym c.in_default.ensures)
    (peek_some c.peek.result c.loop-rest.rest c.peek.ensures (sym c.is_some.ensures ∙ c.loop-rest-test.true)) c.loop-rest.invariant

pub loop-rest-smaller : goal.loop-rest-smaller
loop-rest-smaller c = shorter c.loop-rest.rest c.in-Some.behind c.in-Some.c (sym c.in-Some.ensures)

pub loop-rest-preserved : goal.loop-rest-preserved
loop-rest-preserved c =
    rw c.in_ok-push.ensures.bytes
    (read_next (chars c.args.text.now) c.loop-rest.rest c.in-Some.behind (string_bytes c.loop-rest.value) c.in-Some.c (sym c.in-Some.ensures) c.loop-rest.invariant)

pub returns : goal.returns
returns c =
    read_end (chars c.args.text.now) c.loop-rest.rest (string_bytes c.loop-rest.value)
    (peek_none c.peek.result c.loop-rest.rest c.peek.ensures (sym c.is_some.ensures ∙ c.loop-rest-test.false)) c.loop-rest.invariant
