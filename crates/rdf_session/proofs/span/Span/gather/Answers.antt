use Rattle.std.proofs.Common.{◌∙◌, ap, refl, subst, sym, [], ◌∷◌, ◌++◌, List}
use Rattle.rdf_dataset.specs.State.{Change}
use Rattle.rdf_session.specs.Inside.Spans.{IsSpan}
use Rattle.rdf_session.proofs.span.Span.gather.Goals as goal

pub returns-in-Ok-put_last : goal.returns-in-Ok-put_last
returns-in-Ok-put_last c = λ base nets is span.
    rw (c.in-Ok-put_last.ensures ∙ ap (λ (ns : List Change). ns ++ c.in-Ok.net ∷ []) c.clear.ensures.items)
    (record { within = c.requires.to_within; leads = (_, c.in-Ok.ensures base nets (subst (IsSpan base c.args.entries.now.items) (sym c.self.view_is) span) is, refl) })
