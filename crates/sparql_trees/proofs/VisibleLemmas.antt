-- Names put to others, list by list.
use Rattle.std.proofs.Common.{◌≡◌, ◌∙◌, ap, refl, sym, map, ℕ, suc, ◌+◌, ◌<◌, List, [], ◌∷◌, ◌++◌, drop, length, get_or, drop-cons, add-one}
use Rattle.std.specs.List.{flat_map}
use Rattle.std.specs.BTreeSet.{insert_key}
use Rattle.rdf_terms.specs.Order.{text_cmp}
use Rattle.sparql_trees.specs.Visible.{Names, with_names, joined}

pub with_names-append : (known ns ms : Names) → with_names known (ns ++ ms) ≡ with_names (with_names known ns) ms
with_names-append known [] ms = refl
with_names-append known (n ∷ ns) ms = with_names-append (insert_key text_cmp known n) ns ms

drop_is : {A : Type 0} (xs : List A) (i : ℕ) (x : A) → i < length xs → x ≡ get_or xs i x → drop i xs ≡ x ∷ drop (suc i) xs
drop_is {A = A} xs i x l is = drop-cons xs i x l ∙ ap (λ (y : A). y ∷ drop (suc i) xs) (sym is)

-- the names of the next item of a list, and those of the items behind it
pub next_names : {A : Type 0} (f : A → Names) (xs : List A) (i : ℕ) (x : A) (known now : Names) → i < length xs → x ≡ get_or xs i x → now ≡ with_names known (f x)
    → with_names known (flat_map f (drop i xs)) ≡ with_names now (flat_map f (drop (i + 1) xs))
next_names {A = A} f xs i x known now l is h =
    rw add-one (ap (λ (ys : List A). with_names known (flat_map f ys)) (drop_is xs i x l is) ∙ with_names-append known (f x) (flat_map f (drop (suc i) xs))
    ∙ ap (λ k. with_names k (flat_map f (drop (suc i) xs))) (sym h))

-- the same where the names of the items are listed first
pub next_joined : {A : Type 0} (f : A → Names) (xs : List A) (i : ℕ) (x : A) (known now : Names) → i < length xs → x ≡ get_or xs i x → now ≡ with_names known (f x)
    → with_names known (joined (map f (drop i xs))) ≡ with_names now (joined (map f (drop (i + 1) xs)))
next_joined {A = A} f xs i x known now l is h =
    rw add-one (ap (λ (ys : List A). with_names known (joined (map f ys))) (drop_is xs i x l is) ∙ with_names-append known (f x) (joined (map f (drop (suc i) xs)))
    ∙ ap (λ k. with_names k (joined (map f (drop (suc i) xs)))) (sym h))
