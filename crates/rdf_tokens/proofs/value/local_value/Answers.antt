use Rattle.std.proofs.Common.{◌≡◌, ℕ, List, IfOk, subst, string_bytes, ◌∙◌, arith}
use Rattle.std.proofs.lemmas.Bool.{ne_eqb, eq-eqb}
use Rattle.rdf_tokens.proofs.ValueNames.{local_plain, read_start, read_backslash, read_other, read_all}
use Rattle.rdf_tokens.proofs.value.local_value.Goals as goal

pub returns-then-not-contains : goal.returns-then-not-contains
returns-then-not-contains c = rw (local_plain c.as_str-part.result.now c.args.slice.now c.as_str-part.utf8 c.as_str-part.ensures c.if-not-contains.ensures.cases) c.new.ensures

pub loop-c-init : goal.loop-c-init
loop-c-init c = read_start c.args.slice.now _ _ c.new-value.ensures.bytes (c.new-rest.ensures ∙ c.as_str-part.ensures)

pub loop-c-preserved-in-Continue-1 : goal.loop-c-preserved-in-Continue-1
loop-c-preserved-in-Continue-1 c =
    rw c.in_ok-push.ensures.bytes
    (read_other c.args.slice.now (string_bytes c.loop-c.value) c.loop-c.rest _ c.in-Some.c c.in-Some.ensures (ne_eqb c.in-Some.c 92 (λ e. omega arith)) c.loop-c.invariant)

pub loop-c-preserved : goal.loop-c-preserved
loop-c-preserved c =
    read_backslash c.args.slice.now (string_bytes c.loop-c.value) c.loop-c.rest _ c.in-Some.c c.in-Some.ensures (eq-eqb c.in-Some.c 92 (omega arith)) c.loop-c.invariant

pub returns : goal.returns
returns c =
    subst (λ (b : List ℕ). IfOk c.from_string.result (λ v. v ≡ b)) (read_all c.args.slice.now (string_bytes c.loop-c.value) c.loop-c.rest c.in_default.ensures.0 c.loop-c.invariant)
    c.from_string.ensures
