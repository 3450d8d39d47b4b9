use Rattle.std.proofs.Common.{subst, sym}
use Rattle.rdf_session.specs.Inside.Spans.{IsSpan}
use Rattle.rdf_session.proofs.SpanLemmas.{leads_behind}
use Rattle.rdf_session.proofs.span.Span.leave.Goals as goal

pub returns-in-Ok-put_last-clause-span : goal.returns-in-Ok-put_last-clause-span
returns-in-Ok-put_last-clause-span c = λ base nets is span.
    rw c.in-Ok-put_last.ensures (record { within = c.requires.to_within; leads = leads_behind _ _ _ _ _ (subst (IsSpan base c.args.entries.now.items) (sym c.self.view_is) span).leads (c.in-Ok.ensures base nets is) })
