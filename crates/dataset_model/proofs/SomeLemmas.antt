-- What holds where there is a value.
use Rattle.std.proofs.Common.{◌≡◌, IfSome, Bool, true, false, Option, Some, None, if◌then◌else◌, sym, subst}

pub of_some : {A : Type 0} (P : A → Type 0) (kind : Bool) (x : A) (r : Option A) → r ≡ (if kind then Some x else None) → P x → IfSome r P
of_some P true x r e p = subst (λ z. IfSome z P) (sym e) p
of_some P false x r e p = subst (λ z. IfSome z P) (sym e) tt
