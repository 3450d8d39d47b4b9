-- A quad made of equal terms.
use Rattle.std.proofs.Common.{◌≡◌, ap, ◌∙◌, Bool, true, false, ◌&&◌, refl}
use Rattle.std.specs.Prelude.{Option, Some, None, if◌then◌else◌}
use Rattle.rdf_terms.specs.Quad.{QuadParts, is_quad, has_right_kinds}
use Rattle.rdf_terms.specs.declared.term.Term.{Term}
use Rattle.rdf_terms.specs.declared.quad.GraphName.{GraphName}

first_true : (a b : Bool) → (a && b) ≡ true → a ≡ true
first_true true b h = refl
first_true false b h = h

-- what `Quad::new` answers of terms equal to a quad's
pub made_again : (q : QuadParts) (g : GraphName) (s p o : Term) (r : Option QuadParts) → g ≡ q.graph → s ≡ q.subject → p ≡ q.predicate → o ≡ q.object
    → r ≡ (let parts : QuadParts = record { graph = g; subject = s; predicate = p; object = o } in if has_right_kinds parts then Some parts else None)
    → is_quad q ≡ true → r ≡ Some q
made_again q g s p o r eg es ep eo e sound =
    e ∙ (λ i. let parts : QuadParts = record { graph = eg i; subject = es i; predicate = ep i; object = eo i } in if has_right_kinds parts then Some parts else None)
    ∙ ap (λ b. if b then Some q else None) (first_true (has_right_kinds q) _ sound)
