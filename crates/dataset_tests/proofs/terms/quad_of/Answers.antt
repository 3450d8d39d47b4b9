use Rattle.std.proofs.Common.{◌≡◌, IfSome, Bool, true, false, Option, Some, None, if◌then◌else◌, sym, subst}
use Rattle.dataset_tests.proofs.terms.quad_of.Goals as goal

of_some : {A : Type 0} (P : A → Type 0) (kind : Bool) (x : A) (r : Option A) → r ≡ (if kind then Some x else None) → P x → IfSome r P
of_some P true x r e p = subst (λ z. IfSome z P) (sym e) p
of_some P false x r e p = subst (λ z. IfSome z P) (sym e) tt

pub returns-in-Some-term : goal.returns-in-Some-term
returns-in-Some-term c = of_some _ _ _ _ c.new.ensures (λ next four. record {
  graph = c.requires.graph next four;
  subject = c.requires.subject next four;
  predicate = c.in-Some.ensures next four;
  object = c.in-Some-term.ensures next four;
})
