use Rattle.std.proofs.Common.{◌≡◌, ◌≤◌, ◌++◌, ℕ, List, ◌∙◌, ap, length, take, arith}
use Rattle.rdf_terms.specs.Reference.{Components}
use Rattle.rdf_terms.specs.Rewriting.{components_of}
use Rattle.rdf_terms.proofs.MovingLemmas.{directory_takes, layout_path, layout_within}
use Rattle.rdf_terms.proofs.moving.with_merged.Goals as goal

pub slice_bounds-path-end : goal.slice_bounds-path-end
slice_bounds-path-end c =
    let w = layout_within c.args.base.now c.args.layout c.requires.scheme c.requires.layout in
    let within : c.args.layout.path_end ≤ length c.args.base.now = omega arith in
    within

pub directory-requires : goal.directory-requires
directory-requires c = λ plain. rw (layout_path c.args.base.now c.args.layout c.requires.scheme c.requires.layout) (c.requires.layout.plain plain)

pub with_path-requires-clause-front : goal.with_path-requires-clause-front
with_path-requires-clause-front c = c.directory.ensures.front ∙ ap (take (length c.directory.result.0.now)) (layout_path c.args.base.now c.args.layout c.requires.scheme c.requires.layout)

pub with_path-requires-clause-path : goal.with_path-requires-clause-path
with_path-requires-clause-path c =
    let path : c.parts.inside.path.now ≡ (components_of c.args.reference.now).path = ap (λ (p : Components). p.path) (c.parts.view_is ∙ c.of-parts.ensures) in
    directory_takes c.args.base.now (components_of c.args.reference.now) c.args.layout _ c.directory.result.0.now c.directory.result.1.now c.deref.result.now c.requires.layout
    (layout_path c.args.base.now c.args.layout c.requires.scheme c.requires.layout) c.directory.ensures.value
    (c.deref.ensures.value ∙ c.in_ok-extend_from_slice.ensures.items ∙ ap (λ (t : List ℕ). t ++ c.parts.inside.path.now) c.in_ok-rest.ensures.items ∙ ap (λ (t : List ℕ). c.directory.result.1.now ++ t) path) c.requires.path
