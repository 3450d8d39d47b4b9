-- Events one behind another.
use Rattle.std.proofs.Common.{◌≡◌, ◌≢◌, ◌⊎◌, ℕ, ◌+◌, Bool, true, false, ◌||◌, List, [], ◌∷◌, ◌++◌, refl, sym, ap, ◌∙◌, subst, append_assoc, arith, length, nat_eq, take, ◌≤◌, inl, inr}
use Rattle.std.proofs.lemmas.List.{length-take-le}
use Rattle.rdf_streams.specs.Devices.{Event, Gave, ReadFault, Took, WriteFault, Leads, given, taken, has_end, has_failed, is_end, is_failure, read_calls}

pub Leads-append : {D : Type 0} (step : D → Event → D → Type 0) (a : D) (xs : List Event) (b : D) (ys : List Event) (c : D) → Leads step a xs b → Leads step b ys c → Leads step a (xs ++ ys) c
Leads-append step a [] b ys c p q = subst (λ d. Leads step d ys c) p q
Leads-append step a (x ∷ xs) b ys c p q = (p.0, p.1, Leads-append step p.0 xs b ys c p.2 q)

-- one more call
pub Leads-one : {D : Type 0} (step : D → Event → D → Type 0) (a : D) (xs : List Event) (b : D) (e : Event) (c : D) → Leads step a xs b → step b e c → Leads step a (xs ++ e ∷ []) c
Leads-one step a xs b e c p q = Leads-append step a xs b (e ∷ []) c p (c, q, refl)

pub given-append : (xs ys : List Event) → given (xs ++ ys) ≡ given xs ++ given ys
given-append [] ys = refl
given-append (Gave bs ∷ xs) ys = ap (λ t. bs ++ t) (given-append xs ys) ∙ sym (append_assoc bs (given xs) (given ys))
given-append (ReadFault ∷ xs) ys = given-append xs ys
given-append (Took bs ∷ xs) ys = given-append xs ys
given-append (WriteFault ∷ xs) ys = given-append xs ys

pub taken-append : (xs ys : List Event) → taken (xs ++ ys) ≡ taken xs ++ taken ys
taken-append [] ys = refl
taken-append (Gave bs ∷ xs) ys = taken-append xs ys
taken-append (ReadFault ∷ xs) ys = taken-append xs ys
taken-append (Took bs ∷ xs) ys = ap (λ t. bs ++ t) (taken-append xs ys) ∙ sym (append_assoc bs (taken xs) (taken ys))
taken-append (WriteFault ∷ xs) ys = taken-append xs ys

or_assoc : (a b c : Bool) → (a || (b || c)) ≡ ((a || b) || c)
or_assoc true b c = refl
or_assoc false b c = refl

pub end-append : (xs ys : List Event) → has_end (xs ++ ys) ≡ (has_end xs || has_end ys)
end-append [] ys = refl
end-append (x ∷ xs) ys = ap (λ v. is_end x || v) (end-append xs ys) ∙ or_assoc (is_end x) (has_end xs) (has_end ys)

pub failed-append : (xs ys : List Event) → has_failed (xs ++ ys) ≡ (has_failed xs || has_failed ys)
failed-append [] ys = refl
failed-append (x ∷ xs) ys = ap (λ v. is_failure x || v) (failed-append xs ys) ∙ or_assoc (is_failure x) (has_failed xs) (has_failed ys)

pub calls-append : (xs ys : List Event) → read_calls (xs ++ ys) ≡ read_calls xs + read_calls ys
calls-append [] ys = omega arith
calls-append (Gave bs ∷ xs) ys = let h = calls-append xs ys in omega (arith, h)
calls-append (ReadFault ∷ xs) ys = let h = calls-append xs ys in omega (arith, h)
calls-append (Took bs ∷ xs) ys = calls-append xs ys
calls-append (WriteFault ∷ xs) ys = calls-append xs ys

pub true_false : true ≡ false → ⊥
true_false h = cc

pub or_false : (a b : Bool) → a ≡ false → b ≡ false → (a || b) ≡ false
or_false true b p q = p
or_false false b p q = q

pub or_none : (a b : Bool) → (a || b) ≡ false → (a ≡ false) × (b ≡ false)
or_none true b p = absurd (true_false p)
or_none false b p = (refl, p)

pub true_or_false : (b : Bool) → (b ≡ true) ⊎ (b ≡ false)
true_or_false true = inl refl
true_or_false false = inr refl

-- ---- the bytes of a call

pub some_left : (n : ℕ) (xs : List ℕ) → n ≢ 0 → n ≤ length xs → take n xs ≢ []
some_left n xs h b e = h (let l = length-take-le n xs b in let z = ap length e in sym l ∙ z)

pub none_left : (n : ℕ) (xs : List ℕ) → n ≡ 0 → take n xs ≡ []
none_left n xs h = ap (λ k. take k xs) h

pub some_given : (bs : List ℕ) → bs ≢ [] → is_end (Gave bs) ≡ false
some_given [] h = absurd (h refl)
some_given (b ∷ bs) h = refl

pub not_none : (xs : List ℕ) → nat_eq (length xs) 0 ≡ false → xs ≢ []
not_none xs h e = true_false (subst (λ z. nat_eq (length z) 0 ≡ false) e h)
