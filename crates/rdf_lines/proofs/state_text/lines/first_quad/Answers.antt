use Rattle.std.proofs.Common.{◌≡◌, ◌∙◌, sym, ap, List, ℕ, ◌++◌, Option, Some, None}
use Rattle.rdf_terms.specs.declared.quad.Quad.{Quad}
use Rattle.rdf_lines.specs.QuadText.{quad_text}
use Rattle.rdf_lines.proofs.StateLineLemmas.{line_there}
use Rattle.rdf_lines.proofs.state_text.lines.first_quad.Goals as goal

some_quad : (a b : Quad) → ◌≡◌ {A = Option Quad} (Some a) (Some b) → a ≡ b
some_quad a b e = cc

none_some : (a : Quad) → ◌≡◌ {A = Option Quad} None (Some a) → ⊥
none_some a e = cc

pub returns-in_default-2 : goal.returns-in_default-2
returns-in_default-2 c = λ q more h e.
    none_some q (sym c.in_default-2.is ∙ c.in_ok-quad.ensures q h (line_there c.args.text.now c.in-Some.line.now c.in-Some.field-0-1.now q more c.in-Some.ensures h e))

pub returns : goal.returns
returns c = λ q more h e.
    let same = some_quad c.in-Some-2.quad q (sym c.in-Some-2.is ∙ c.in_ok-quad.ensures q h (line_there c.args.text.now c.in-Some.line.now c.in-Some.field-0-1.now q more c.in-Some.ensures h e)) in
    let written : c.deref.result.now ≡ quad_text q = c.deref.ensures.value ∙ c.in_ok-write_quad.ensures.ok ∙ ap (λ (l : List ℕ). l ++ quad_text c.in-Some-2.quad) c.clear.ensures.items ∙ ap quad_text same in
    c.in-None.ensures more (e ∙ ap (λ (l : List ℕ). l ++ more) (sym written))
