use Rattle.std.proofs.Common.{◌≡◌, IfSome, Bool, true, false, Option, Some, None, if◌then◌else◌, sym, subst}
use Rattle.refusals.proofs.datasets.quad_of.Goals as goal

of_some : {A : Type 0} (P : A → Type 0) (kind : Bool) (x : A) (r : Option A) → r ≡ (if kind then Some x else None) → P x → IfSome r P
of_some P true x r e p = subst (λ z. IfSome z P) (sym e) p
of_some P false x r e p = subst (λ z. IfSome z P) (sym e) tt

pub returns-in-Some-iri : goal.returns-in-Some-iri
returns-in-Some-iri c = of_some _ _ _ _ c.new.ensures (λ next. record {
  graph = c.requires.name next;
  subject = c.requires.subject next;
  predicate = c.in-Some.ensures next;
  object = c.in-Some-iri.ensures next;
})
