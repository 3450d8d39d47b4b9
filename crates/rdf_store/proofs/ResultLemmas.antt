-- What holds of one outcome or the other.
use Rattle.std.specs.Prelude.{Result, Ok, Err, OnOk, OnErr, IfOk, Option, None, Some, IfSome, IfNone}

module _ {A E : Type 0} where
  pub on_ok_to : {P Q : Type 0} (r : Result A E) → (P → Q) → OnOk r P → OnOk r Q
  on_ok_to (Ok x) f h = f h
  on_ok_to (Err e) f h = tt

  pub on_err_to : {P Q : Type 0} (r : Result A E) → (P → Q) → OnErr r P → OnErr r Q
  on_err_to (Ok x) f h = tt
  on_err_to (Err e) f h = f h

  pub if_ok_to : {P Q : A → Type 0} (r : Result A E) → ((x : A) → P x → Q x) → IfOk r P → IfOk r Q
  if_ok_to (Ok x) f h = f x h
  if_ok_to (Err e) f h = tt

  pub on_err_of : {Q : Type 0} (r : Result A E) → Q → OnErr r Q
  on_err_of (Ok x) q = tt
  on_err_of (Err e) q = q

  -- what follows from either outcome
  pub either_way : {P Q S : Type 0} (r : Result A E) → (P → S) → (Q → S) → OnOk r P → OnErr r Q → S
  either_way (Ok x) f g h k = f h
  either_way (Err e) f g h k = g k

module _ {A : Type 0} where
  pub if_some_to : {P Q : A → Type 0} (o : Option A) → ((x : A) → P x → Q x) → IfSome o P → IfSome o Q
  if_some_to None f h = tt
  if_some_to (Some x) f h = f x h

  pub if_none_to : {P Q : Type 0} (o : Option A) → (P → Q) → IfNone o P → IfNone o Q
  if_none_to None f h = f h
  if_none_to (Some x) f h = tt
