-- Steps that did not fail.
use Rattle.std.proofs.Common.{◌≡◌, ◌⊎◌, inl, inr, Bool, true, false, cond, Option, Some, None, option_map, refl, ap}
use Rattle.rdf_terms.specs.Reading.{◌>>=◌}

pub bind_some : {A B : Type 0} (o : Option A) (f : A → Option B) (y : B) → (o >>= f) ≡ Some y → (x : A) × (o ≡ Some x) × (f x ≡ Some y)
bind_some None f y e = absurd cc
bind_some (Some x) f y e = (x, refl, e)

abbrev found : {A : Type 0} → A → Option A
found x = Some x

pub some_is : {A : Type 0} (x y : A) → found x ≡ found y → x ≡ y
some_is x y e = cc

pub some_pair : {A B : Type 0} (a c : A) (b d : B) → found {A = A × B} (a, b) ≡ found {A = A × B} (c, d) → (a ≡ c) × (b ≡ d)
some_pair {A} {B} a c b d e =
    let h = some_is {A = A × B} (a, b) (c, d) e in
    (ap (λ (p : A × B). p.0) h, ap (λ (p : A × B). p.1) h)

pub none_is : {A : Type 0} {P : Type 0} (y : A) → None ≡ found y → P
none_is y e = absurd cc

-- a test whose yes is the only way
pub guard_some : {A : Type 0} (b : Bool) (x : Option A) (y : A) → cond b x None ≡ Some y → (b ≡ true) × (x ≡ Some y)
guard_some true x y e = (refl, e)
guard_some false x y e = absurd cc

pub guard_none : {A : Type 0} (b : Bool) (x : Option A) (y : A) → cond b None x ≡ Some y → (b ≡ false) × (x ≡ Some y)
guard_none true x y e = absurd cc
guard_none false x y e = (refl, e)

pub map_some : {A B : Type 0} (f : A → B) (o : Option A) (y : B) → option_map f o ≡ Some y → (x : A) × (o ≡ Some x) × (f x ≡ y)
map_some f None y e = none_is y e
map_some f (Some x) y e = (x, refl, some_is (f x) y e)

pub cases_Option : {A : Type 0} (o : Option A) → (o ≡ None) ⊎ ((x : A) × (o ≡ Some x))
cases_Option None = inl refl
cases_Option (Some x) = inr (x, refl)
