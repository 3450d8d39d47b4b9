use Rattle.std.proofs.Common.{◌∙◌, ap, ◌++◌, codes, ℕ, List, length, take}
use Rattle.rdf_terms.specs.TermText.{term_text}
use Rattle.rdf_terms.proofs.CallerLemmas.{kept_on}
use Rattle.rdf_lines.specs.QuadText.{graph_text}
use Rattle.rdf_lines.proofs.WriteSteps.{kept_before, line_kept, line_written}
use Rattle.rdf_lines.proofs.write.append_quad.Goals as goal

pub returns-in_err-append_term-2-clause-kept : goal.returns-in_err-append_term-2-clause-kept
returns-in_err-append_term-2-clause-kept c = kept_on _ _ _ _ c.in_ok-append_term.ensures.ok c.append_term-2.ensures.kept

pub returns-in_err-append_term-3-clause-kept : goal.returns-in_err-append_term-3-clause-kept
returns-in_err-append_term-3-clause-kept c =
    kept_on _ _ _ _ c.in_ok-append_term.ensures.ok (kept_on _ _ _ _ c.in_ok-append_term-2.ensures.ok c.append_term-3.ensures.kept)

pub returns-in_err-append_graph-clause-kept : goal.returns-in_err-append_graph-clause-kept
returns-in_err-append_graph-clause-kept c =
    kept_on _ _ _ _ c.in_ok-append_term.ensures.ok
    (kept_on _ _ _ _ c.in_ok-append_term-2.ensures.ok (kept_on _ _ _ _ c.in_ok-append_term-3.ensures.ok c.append_graph.ensures.kept))

pub returns-in_err-extend_from_slice-clause-kept : goal.returns-in_err-extend_from_slice-clause-kept
returns-in_err-extend_from_slice-clause-kept c =
    kept_on _ _ _ _ c.in_ok-append_term.ensures.ok
    (kept_on _ _ _ _ c.in_ok-append_term-2.ensures.ok
    (kept_on _ _ _ _ c.in_ok-append_term-3.ensures.ok
    (ap (λ (t : List ℕ). take (length c.append_term-3.new.out.items) t) c.in_err-extend_from_slice.ensures.items ∙ c.append_graph.ensures.kept)))

pub returns-clause-kept : goal.returns-clause-kept
returns-clause-kept c =
    line_kept _ _ _ _ _ _ _ _ _ _ c.in_ok-append_term.ensures.ok c.in_ok-append_term-2.ensures.ok c.in_ok-append_term-3.ensures.ok c.in_ok-append_graph.ensures.ok
    (kept_before _ _ _ c.in_ok-extend_from_slice.ensures.items)

pub returns-clause-ok : goal.returns-clause-ok
returns-clause-ok c =
    line_written _ _ _ _ _ _ _ _ _ _ c.in_ok-append_term.ensures.ok c.in_ok-append_term-2.ensures.ok c.in_ok-append_term-3.ensures.ok c.in_ok-append_graph.ensures.ok
    c.in_ok-extend_from_slice.ensures.items
    ∙ (λ i. c.args.out.now.items
    ++ (term_text (c.subject.ensures.value i) ++ codes " " ++ term_text (c.predicate.ensures.value i) ++ codes " " ++ term_text (c.object.ensures.value i) ++ codes " "
    ++ graph_text (c.graph.ensures.value i) ++ codes ".\n"))
