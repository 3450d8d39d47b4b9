-- Labels in lists that stand one behind the other.
use Rattle.std.proofs.Common.{◌≡◌, ◌∙◌, ◌+◌, ◌<◌, ℕ, Bool, true, false, ◌||◌, List, [], ◌∷◌, ◌++◌, drop, get_or, length, refl, sym, ap}
use Rattle.std.proofs.lemmas.List.{at_drop_more}
use Rattle.std.specs.List.{flat_map, list_any}
use Rattle.sparql_queries.specs.Groups.{Labels}
use Rattle.sparql_syntax.specs.Labels.{all_known_behind, is_among, known_behind, repeats_label}

or_assoc : (a b c : Bool) → ((a || b) || c) ≡ (a || (b || c))
or_assoc true b c = refl
or_assoc false b c = refl

repeats_behind : (known : List (List ℕ)) (lists more : Labels)
    → repeats_label known (lists ++ more) ≡ (repeats_label known lists || repeats_label (all_known_behind known lists) more)
repeats_behind known [] more = refl
repeats_behind known (labels ∷ lists) more =
    ap (λ b. list_any (is_among known) labels || b) (repeats_behind (known_behind known labels) lists more)
    ∙ sym (or_assoc (list_any (is_among known) labels) (repeats_label (known_behind known labels) lists) (repeats_label (all_known_behind (known_behind known labels) lists) more))

-- the labels of the member of a list that stands there, and then those behind it
next : {A : Type 0} (f : A → Labels) (xs : List A) (i : ℕ) (x : A) (known : List (List ℕ)) → i < length xs → x ≡ get_or xs i x
    → repeats_label known (flat_map f (drop i xs)) ≡ (repeats_label known (f x) || repeats_label (all_known_behind known (f x)) (flat_map f (drop (i + 1) xs)))
next f xs i x known lt is =
    ap (repeats_label known) (at_drop_more (flat_map f) xs i x lt) ∙ ap (λ y. repeats_label known (f y ++ flat_map f (drop (i + 1) xs))) (sym is)
    ∙ repeats_behind known (f x) (flat_map f (drop (i + 1) xs))

pub repeats_there : {A : Type 0} (f : A → Labels) (xs : List A) (i : ℕ) (x : A) (known : List (List ℕ)) → i < length xs → x ≡ get_or xs i x → repeats_label known (f x) ≡ true
    → repeats_label known (flat_map f (drop i xs)) ≡ true
repeats_there f xs i x known lt is e = next f xs i x known lt is ∙ ap (λ b. b || repeats_label (all_known_behind known (f x)) (flat_map f (drop (i + 1) xs))) e

pub repeats_later : {A : Type 0} (f : A → Labels) (xs : List A) (i : ℕ) (x : A) (known new : List (List ℕ)) → i < length xs → x ≡ get_or xs i x → repeats_label known (f x) ≡ false
    → new ≡ all_known_behind known (f x) → repeats_label known (flat_map f (drop i xs)) ≡ repeats_label new (flat_map f (drop (i + 1) xs))
repeats_later f xs i x known new lt is e h =
    next f xs i x known lt is ∙ ap (λ b. b || repeats_label (all_known_behind known (f x)) (flat_map f (drop (i + 1) xs))) e
    ∙ ap (λ k. repeats_label k (flat_map f (drop (i + 1) xs))) (sym h)
