use Rattle.std.proofs.Common.{◌+◌, ◌∙◌, ap, sym}
use Rattle.rdf_session.proofs.BehindLemmas.{marks_behind_both, marks_behind_from, marks_behind_nothing}
use Rattle.rdf_session.specs.History.{marks_behind, marks_lower}
use Rattle.rdf_session.proofs.marks.Marks.fall.Goals as goal

pub returns-then-self-eq-MOST_GONE : goal.returns-then-self-eq-MOST_GONE
returns-then-self-eq-MOST_GONE c =
    let gone = c.self.inside.gone in
    marks_behind_nothing c.lower.new.self ∙ c.lower.ensures ∙ ap (marks_lower (gone + 1)) c.keep_from.ensures
    ∙ sym (marks_behind_both gone c.self.inside.places) ∙ ap (marks_behind 1) c.self.view_is

pub returns-else-self-eq-MOST_GONE : goal.returns-else-self-eq-MOST_GONE
returns-else-self-eq-MOST_GONE c =
    let gone = c.self.inside.gone in
    ap (marks_behind (gone + 1)) c.keep_from.ensures ∙ marks_behind_from (gone + 1) c.self.inside.places
    ∙ sym (marks_behind_both gone c.self.inside.places) ∙ ap (marks_behind 1) c.self.view_is
