use Rattle.std.proofs.Common.{◌≡◌, ◌+◌, ℕ, List, ◌++◌, codes, ◌∙◌, ap, refl, sym, length, arith, append_assoc, rules}
use Rattle.std.specs.Option.{option_copied}
use Rattle.rdf_terms.specs.Reference.{marked}
use Rattle.rdf_terms.proofs.MovingLemmas.{kept_front, moved_path, no_authority, laid_alike}
use Rattle.rdf_terms.proofs.moving.with_path.Goals as goal

pub overflow_add-path_end : goal.overflow_add-path_end
overflow_add-path_end c =
    let kept = (kept_front c.args.base.now c.args.front.now c.args.layout c.in_ok-output.output.kept c.requires.scheme c.requires.layout c.requires.front c.in_ok-output.ensures.kept).1 in
    omega arith

pub overflow_add-query_end : goal.overflow_add-query_end
overflow_add-query_end c =
    let kept = (kept_front c.args.base.now c.args.front.now c.args.layout c.in_ok-output.output.kept c.requires.scheme c.requires.layout c.requires.front c.in_ok-output.ensures.kept).1 in
    omega arith

pub returns : goal.returns
returns c =
    moved_path c.args.base.now c.args.reference.now c.args.front.now c.args.path.now _ c.args.layout c.in_ok-output.output _ c.requires.scheme c.requires.layout (c.parts.view_is ∙ c.of-parts.ensures)
    c.requires.path c.requires.front c.in_ok-output.ensures.kept c.in_ok-output.ensures.value (no_authority c.args.layout.has_authority _ (sym c.reads_as_authority.ensures ∙ c.if-reads_as_authority.false)) refl
    (c.in_ok-push_marked-2.ensures ∙ ap (λ (x : List ℕ). x ++ marked (codes "#") (option_copied c.parts.inside.fragment)) c.in_ok-push_marked.ensures
    ∙ append_assoc c.in_ok-output.output.added.items (marked (codes "?") (option_copied c.parts.inside.query)) (marked (codes "#") (option_copied c.parts.inside.fragment)))
    (let path : c.len.result ≡ length c.in_ok-output.output.added.items = search rules in
    let query : c.len-2.result ≡ length (c.in_ok-output.output.added.items ++ marked (codes "?") (option_copied c.parts.inside.query)) = search rules in
    laid_alike c.args.layout.has_authority c.args.layout.path_start (c.args.layout.path_start + c.in_ok-output.output.kept) c.len.result c.len-2.result _ _ path query)
