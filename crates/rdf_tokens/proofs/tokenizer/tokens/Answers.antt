use Rattle.std.proofs.Common.{◌-◌, ℕ, length, ap, sym, ◌∙◌, refl}
use Rattle.std.proofs.lemmas.Str.{encodes-chars}
use Rattle.std.specs.Str.{chars}
use Rattle.rdf_terms.specs.Reading.{byte_count}
use Rattle.rdf_tokens.proofs.TokenLists.{at_start, says_end, says_fault, start_bytes, after_bytes, goes_on, gets_less}
use Rattle.rdf_tokens.proofs.TokenLaws.{first_state}
use Rattle.rdf_tokens.proofs.TokenNameless.{nameless_first, nameless_start, nameless_after}
use Rattle.rdf_tokens.proofs.tokenizer.tokens.Goals as goal

pub loop-start-init : goal.loop-start-init
loop-start-init c =
    let first = first_state (chars c.args.text.now) c.new-list.result.items c.new-rest.result c.new-list.ensures.items c.new-rest.ensures in
    record {
      runs = first.0;
      within = first.1;
      nameless = nameless_first c.new-rest.result (length c.args.text.now) (ap length (sym (encodes-chars c.args.text.now c.utf8.text)) ∙ ap byte_count (sym c.new-rest.ensures));
    }

pub returns-then-is_end-clause-said : goal.returns-then-is_end-clause-said
returns-then-is_end-clause-said c =
    says_end (chars c.args.text.now) c.loop-start.list.items c.loop-start.rest c.skip_gap-start.result c.loop-start.invariant.runs c.skip_gap-start.ensures c.if-is_end.ensures

pub overflow_sub-place : goal.overflow_sub-place
overflow_sub-place c =
    let starts = at_start (chars c.args.text.now) c.loop-start.rest c.skip_gap-start.result c.if-is_end.ensures.0 c.if-is_end.ensures.1 c.loop-start.invariant.within c.skip_gap-start.ensures c.if-is_end.ensures.2 in
    rw c.left.ensures (start_bytes (chars c.args.text.now) c.loop-start.rest c.skip_gap-start.result (length c.args.text.now) starts (ap length (sym (encodes-chars c.args.text.now c.utf8.text))))

pub token-requires : goal.token-requires
token-requires c =
    let starts = at_start (chars c.args.text.now) c.loop-start.rest c.skip_gap-start.result c.if-is_end.ensures.0 c.if-is_end.ensures.1 c.loop-start.invariant.within c.skip_gap-start.ensures c.if-is_end.ensures.2 in
    nameless_start c.loop-start.rest c.skip_gap-start.result c.loop-start.nameless starts.gap c.loop-start.invariant.nameless

pub returns-in_default-clause-fault : goal.returns-in_default-clause-fault
returns-in_default-clause-fault c =
    let starts = at_start (chars c.args.text.now) c.loop-start.rest c.skip_gap-start.result c.if-is_end.ensures.0 c.if-is_end.ensures.1 c.loop-start.invariant.within c.skip_gap-start.ensures c.if-is_end.ensures.2 in
    says_fault (chars c.args.text.now) c.loop-start.list.items c.loop-start.rest c.skip_gap-start.result c.if-is_end.ensures.0 c.if-is_end.ensures.1 (length c.args.text.now) _ c.loop-start.invariant.runs
    starts c.if-is_end.ensures.2 (sym c.in_default.ensures.token) (ap length (sym (encodes-chars c.args.text.now c.utf8.text))) (ap (λ (n : ℕ). length c.args.text.now - n) c.left.ensures)

pub overflow_sub-text : goal.overflow_sub-text
overflow_sub-text c =
    let starts = at_start (chars c.args.text.now) c.loop-start.rest c.skip_gap-start.result c.if-is_end.ensures.0 c.if-is_end.ensures.1 c.loop-start.invariant.within c.skip_gap-start.ensures c.if-is_end.ensures.2 in
    rw c.left-in-loop-start.ensures (after_bytes (chars c.args.text.now) c.loop-start.rest c.skip_gap-start.result c.in-Some.kind c.in-Some.behind (length c.args.text.now) starts (sym c.in-Some.ensures.token) (ap length (sym (encodes-chars c.args.text.now c.utf8.text))))

pub loop-start-smaller : goal.loop-start-smaller
loop-start-smaller c =
    let starts = at_start (chars c.args.text.now) c.loop-start.rest c.skip_gap-start.result c.if-is_end.ensures.0 c.if-is_end.ensures.1 c.loop-start.invariant.within c.skip_gap-start.ensures c.if-is_end.ensures.2 in
    gets_less (chars c.args.text.now) c.loop-start.rest c.skip_gap-start.result c.in-Some.kind c.in-Some.behind starts (sym c.in-Some.ensures.token)

pub loop-start-preserved : goal.loop-start-preserved
loop-start-preserved c =
    let starts = at_start (chars c.args.text.now) c.loop-start.rest c.skip_gap-start.result c.if-is_end.ensures.0 c.if-is_end.ensures.1 c.loop-start.invariant.within c.skip_gap-start.ensures c.if-is_end.ensures.2 in
    let n = goes_on (chars c.args.text.now) c.loop-start.list.items c.push.new.self.items c.loop-start.rest c.skip_gap-start.result c.in-Some.kind c.in-Some.behind (length c.args.text.now)
    (record { kind = c.in-Some.kind; start = length c.args.text.now - c.left.result; stop = length c.args.text.now - c.left-in-loop-start.result })
    c.loop-start.invariant.runs starts (sym c.in-Some.ensures.token) (ap length (sym (encodes-chars c.args.text.now c.utf8.text))) (rw (c.left.ensures, c.left-in-loop-start.ensures) refl)
    c.in_ok-push.ensures.items in
    record {
      runs = n.0;
      within = n.1;
      nameless = nameless_after c.skip_gap-start.result c.in-Some.kind c.in-Some.behind c.token.new.nameless (sym c.in-Some.ensures.token) c.in-Some.ensures.nameless;
    }
