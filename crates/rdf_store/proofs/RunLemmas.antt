-- What is appended of a run so far, and what is left of it.
use Rattle.std.proofs.Common.{◌≡◌, ℕ, ◌+◌, ◌<◌, ◌≤◌, Bool, true, false, List, [], ◌∷◌, ◌++◌, map, length, take, refl, sym, ap, subst, ◌∙◌, arith, append_assoc, append-nil, length-append}
use mathlib.Core.Bool.{true≢false}
use Rattle.std.specs.Prelude.{All}
use Rattle.std.proofs.Math.Seq.{get_or-append_seam}
use Rattle.std.proofs.lemmas.List.{get_or-append-add, get_or_append_left, map-append, take_all}
use Rattle.rdf_terms.specs.declared.term.Term.{Term}
use Rattle.rdf_terms.specs.Quad.{QuadParts}
use Rattle.rdf_store.specs.Inside.Numbers.{parts_of}
use Rattle.rdf_store.specs.Inside.Runs.{GivesFront}

module _ {X : Type 0} (P : X → Type 0) (run keys : List X) where
  pub next_held : (t : List X) (k : X) → run ≡ keys ++ k ∷ t → All P run → P k
  next_held t k e all =
      let long = length-append keys (k ∷ t) in
      let within : length keys < length (keys ++ k ∷ t) = omega arith in
      subst P (get_or-append_seam keys k t k) (subst (All P) e all (length keys) k within)

  pub left_held : (left : List X) → run ≡ keys ++ left → All P run → All P left
  left_held left e all i d lt =
      let long = length-append keys left in
      let within : length keys + i < length (keys ++ left) = omega arith in
      subst P (get_or-append-add keys left i d) (subst (All P) e all (length keys + i) d within)

module _ (table : List Term) (run : List (List ℕ)) (old : List QuadParts) where
  pub front_none : GivesFront table false run run old old
  front_none = record { keys = []; parted = refl; appended = sym (append-nil old); whole = λ no. absurd (true≢false (sym no)) }

  module _ (left : List (List ℕ)) (now : List QuadParts) where
    pub front_push : (k : List ℕ) (t : List (List ℕ)) (new : List QuadParts) → GivesFront table false run left old now → left ≡ k ∷ t → new ≡ now ++ parts_of table k ∷ [] → GivesFront table false run t old new
    front_push k t new g e pushed = record {
      keys = g.keys ++ k ∷ [];
      parted = g.parted ∙ ap (λ (ks : List (List ℕ)). g.keys ++ ks) e ∙ sym (append_assoc g.keys (k ∷ []) t);
      appended = pushed ∙ ap (λ (qs : List QuadParts). qs ++ parts_of table k ∷ []) g.appended ∙ append_assoc old (map (parts_of table) g.keys) (parts_of table k ∷ []) ∙ ap (λ (qs : List QuadParts). old ++ qs) (sym (map-append (parts_of table) g.keys (k ∷ [])));
      whole = λ no. absurd (true≢false (sym no));
    }

    pub front_ends : (left' : List (List ℕ)) → GivesFront table false run left old now → left ≡ [] → left' ≡ [] → GivesFront table true run left' old now
    front_ends left' g e none = record { keys = g.keys; parted = g.parted ∙ ap (λ (ks : List (List ℕ)). g.keys ++ ks) (e ∙ sym none); appended = g.appended; whole = λ _. none }

    pub whole_run : (all : Bool) (new : List QuadParts) → GivesFront table all run left old now → new ≡ now ++ map (parts_of table) left → new ≡ old ++ map (parts_of table) run
    whole_run all new g e =
        e ∙ ap (λ (qs : List QuadParts). qs ++ map (parts_of table) left) g.appended ∙ append_assoc old (map (parts_of table) g.keys) (map (parts_of table) left)
        ∙ ap (λ (qs : List QuadParts). old ++ qs) (sym (map-append (parts_of table) g.keys left) ∙ ap (map (parts_of table)) (sym g.parted))

-- one key more of those that are left
pub rest_push : (keys left t run keys' : List (List ℕ)) (k : List ℕ) → keys ++ left ≡ run → left ≡ k ∷ t → keys' ≡ keys ++ k ∷ [] → keys' ++ t ≡ run
rest_push keys left t run keys' k parted e pushed =
    ap (λ (ks : List (List ℕ)). ks ++ t) pushed ∙ append_assoc keys (k ∷ []) t ∙ ap (λ (ks : List (List ℕ)). keys ++ ks) (sym e) ∙ parted

pub rest_ends : (keys left run : List (List ℕ)) → keys ++ left ≡ run → left ≡ [] → keys ≡ run
rest_ends keys left run parted none = sym (append-nil keys) ∙ ap (λ (ks : List (List ℕ)). keys ++ ks) (sym none) ∙ parted

pub front_held : {X : Type 0} (P : X → Type 0) (run keys left : List X) → run ≡ keys ++ left → All P run → All P keys
front_held P run keys left e all i d lt =
    let long = length-append keys left in
    let within : i < length (keys ++ left) = omega arith in
    subst P (get_or_append_left keys left d i lt) (subst (All P) e all i d within)

-- the keys of a run that were held without a list, and further ones
pub further_parted : {X : Type 0} (run few keys more left rest : List X) (many : ℕ) → run ≡ take many few ++ left → length few ≤ many → keys ≡ few → keys ++ left ≡ more ++ rest →
    run ≡ more ++ rest
further_parted run few keys more left rest many e long k f =
    e ∙ ap (λ xs. xs ++ left) (take_all many few long ∙ sym k) ∙ f
