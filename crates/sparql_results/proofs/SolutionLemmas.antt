-- The object of a row is written member by member.
use Rattle.std.proofs.Common.{◌≡◌, ◌∙◌, ap, sym, subst, refl, inl, inr, ◌⊎◌, ℕ, Bool, true, false, if◌then◌else◌, List, [], ◌∷◌, ◌++◌, codes, append_assoc, append-nil, Option, Some, None}
use Rattle.std.specs.List.{flat_map, join_by, zip}
use Rattle.rdf_terms.specs.declared.term.Term.{Term}
use Rattle.sparql_results.specs.JsonText.{bound, json_member}

-- the members that are left to write, where one is the first or is not
abbrev pub continued : Bool → List (List ℕ × Term) → List ℕ
continued true members = join_by json_member (codes ",") members
continued false members = flat_map (λ member. codes "," ++ json_member member) members

-- what has been written of all members, where some are left
pub record Written (start whole now : List ℕ) (is_first : Bool) (left : List (List ℕ × Term)) : Type 0 where
  pub done : List ℕ
  pub so_far : now ≡ start ++ done
  pub more : done ++ continued is_first left ≡ whole

pub none_written : (start whole : List ℕ) (left : List (List ℕ × Term)) → continued true left ≡ whole → Written start whole start true left
none_written start whole left e = record { done = []; so_far = sym (append-nil start); more = e }

abbrev comma : Bool → List ℕ
comma is_first = if is_first then [] else codes ","

continued_step : (is_first : Bool) (member : List ℕ × Term) (left : List (List ℕ × Term))
    → continued is_first (member ∷ left) ≡ (comma is_first ++ json_member member) ++ continued false left
continued_step true member left = refl
continued_step false member left = refl

member_written : (start whole now new : List ℕ) (is_first : Bool) (member : List ℕ × Term) (left : List (List ℕ × Term))
    → Written start whole now is_first (member ∷ left) → new ≡ now ++ (comma is_first ++ json_member member) → Written start whole new false left
member_written start whole now new is_first member left w e =
    let text = comma is_first ++ json_member member in
    record {
      done = w.done ++ text;
      so_far = e ∙ ap (λ (t : List ℕ). t ++ text) w.so_far ∙ append_assoc start w.done text;
      more = append_assoc w.done text (continued false left) ∙ ap (λ (t : List ℕ). w.done ++ t) (sym (continued_step is_first member left)) ∙ w.more;
    }

-- a variable that is bound
pub bound_written : (start whole now new : List ℕ) (is_first : Bool) (names others : List (List ℕ)) (values more : List (Option Term)) (name : List ℕ)
    (value : Option Term) (term : Term) → Written start whole now is_first (flat_map bound (zip names values)) → names ≡ name ∷ others → values ≡ value ∷ more
    → value ≡ Some term → new ≡ now ++ (comma is_first ++ json_member (name, term)) → Written start whole new false (flat_map bound (zip others more))
bound_written start whole now new is_first names others values more name value term w is_names is_values is_some e =
    member_written start whole now new is_first (name, term) (flat_map bound (zip others more))
    (subst (λ (v : Option Term). Written start whole now is_first (flat_map bound (zip (name ∷ others) (v ∷ more)))) is_some
    (subst (λ (vs : List (Option Term)). Written start whole now is_first (flat_map bound (zip (name ∷ others) vs))) is_values
    (subst (λ (ns : List (List ℕ)). Written start whole now is_first (flat_map bound (zip ns values))) is_names w))) e

-- one that is not
pub unbound_passed : (start whole now : List ℕ) (is_first : Bool) (names others : List (List ℕ)) (values more : List (Option Term)) (name : List ℕ)
    (value : Option Term) → Written start whole now is_first (flat_map bound (zip names values)) → names ≡ name ∷ others → values ≡ value ∷ more
    → value ≡ None → Written start whole now is_first (flat_map bound (zip others more))
unbound_passed start whole now is_first names others values more name value w is_names is_values is_none =
    subst (λ (v : Option Term). Written start whole now is_first (flat_map bound (zip (name ∷ others) (v ∷ more)))) is_none
    (subst (λ (vs : List (Option Term)). Written start whole now is_first (flat_map bound (zip (name ∷ others) vs))) is_values
    (subst (λ (ns : List (List ℕ)). Written start whole now is_first (flat_map bound (zip ns values))) is_names w))

zip_none : {A B : Type 0} (xs : List A) (ys : List B) → ys ≡ [] → zip xs ys ≡ []
zip_none [] ys e = refl
zip_none (x ∷ xs) [] e = refl
zip_none (x ∷ xs) (y ∷ ys) e = cc

nothing_left : (is_first : Bool) → continued is_first [] ≡ []
nothing_left true = refl
nothing_left false = refl

none_left : (start whole now : List ℕ) (is_first : Bool) (left : List (List ℕ × Term)) → Written start whole now is_first left → left ≡ [] → now ≡ start ++ whole
none_left start whole now is_first left w e =
    w.so_far ∙ ap (λ (t : List ℕ). start ++ t)
    (sym (append-nil w.done) ∙ ap (λ (t : List ℕ). w.done ++ t) (sym (nothing_left is_first) ∙ ap (continued is_first) (sym e)) ∙ w.more)

-- all of them
pub all_written : (start whole now : List ℕ) (is_first : Bool) (names : List (List ℕ)) (values : List (Option Term))
    → Written start whole now is_first (flat_map bound (zip names values)) → (names ≡ []) ⊎ (values ≡ []) → now ≡ start ++ whole
all_written start whole now is_first names values w (inl none) =
    none_left start whole now is_first (flat_map bound (zip names values)) w (ap (λ (ns : List (List ℕ)). flat_map bound (zip ns values)) none)
all_written start whole now is_first names values w (inr none) =
    none_left start whole now is_first (flat_map bound (zip names values)) w (ap (flat_map bound) (zip_none names values none))
