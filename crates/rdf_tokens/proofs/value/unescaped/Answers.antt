use Rattle.std.proofs.Common.{string_bytes}
use Rattle.rdf_tokens.proofs.ValueEscapes.{unescaped_plain, unescaped_by}
use Rattle.rdf_tokens.proofs.value.unescaped.Goals as goal

pub returns-then-not-contains : goal.returns-then-not-contains
returns-then-not-contains c = rw (unescaped_plain c.args.body.now c.utf8.body c.if-not-contains.ensures.cases) c.new.ensures

pub returns-in-Some : goal.returns-in-Some
returns-in-Some c =
    let meant = rw c.in-Some.is at (unescaped_by string_bytes c.args.body.now c.in_ok-text.field-0 c.in_ok-text.ensures) in
    rw meant c.from_string.ensures

pub returns-in-None : goal.returns-in-None
returns-in-None c =
    let meant = rw c.in-None.is at (unescaped_by string_bytes c.args.body.now c.in_ok-text.field-0 c.in_ok-text.ensures) in
    rw meant c.new-in-None.ensures
