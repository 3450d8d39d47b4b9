-- Laws on states that callers use.
use Rattle.std.specs.Prelude.{◌≡◌, true, false, ◌&&◌, List, [], ◌++◌, None}
use mathlib.Core.Path.{sym, ap, ◌∙◌}
use mathlib.Core.Bool.{true≢false}
use Rattle.std.specs.Ordering.{eq_by_cmp, is_eq}
use Rattle.std.specs.Cmp.{tied_itself}
use Rattle.std.specs.FinSet as set
use Rattle.std.specs.FinSet.{contains, contains-empty, contains-retain}
use Rattle.rdf_terms.specs.declared.quad.GraphName.{GraphName}
use Rattle.rdf_terms.specs.Quad.{QuadParts}
use Rattle.rdf_terms.specs.Order.{graph_cmp, quad_cmp}
use Rattle.rdf_terms.specs.OrderLaws.{graph_cmp_total, quad_cmp-IsAntisymmetric}
use Rattle.rdf_dataset.specs.State.{State, IsEmptyGraph, matches}
use Rattle.rdf_terms.specs.Lists.{AppendsOnce}

no_front : {A : Type 0} (xs ys : List A) → xs ≡ [] → xs ++ ys ≡ ys
no_front xs ys e = ap (λ l. l ++ ys) e

-- a graph of which no quad is listed is empty
pub none_listed : (s : State) (g : GraphName) (old new : List QuadParts) → old ≡ [] → new ≡ []
    → AppendsOnce (set.retain s.quads (matches g None None None)) old new → IsEmptyGraph s g
none_listed s g old new e f l q here same =
    let test = matches g None None None in
    let nothing : l.found ≡ [] = sym (l.appended ∙ no_front old l.found e) ∙ f in
    let kept : contains (set.retain s.quads test) q ≡ false =
    ap (λ z. contains z q) (sym l.each_once.all ∙ ap set.from_list nothing) ∙ contains-empty quad_cmp q in
    let fits : test q ≡ true = ap (λ b. b && true) (ap (eq_by_cmp graph_cmp g) same ∙ ap is_eq (tied_itself graph_cmp_total g)) in
    true≢false (sym (λ i. here i && fits i) ∙ sym (contains-retain s.quads test q (λ x t. ap test (sym (quad_cmp-IsAntisymmetric q x t)))) ∙ kept)
