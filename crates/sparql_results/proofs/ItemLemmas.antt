-- What was written of a list, item by item.
use Rattle.std.proofs.Common.{◌≡◌, ◌∙◌, ap, sym, arith, ℕ, ◌+◌, ◌-◌, ◌<◌, ◌≤◌, List, [], ◌∷◌, ◌++◌, length, get_or, take, drop, append-nil}
use Rattle.std.specs.List.{flat_map, join_by}
use Rattle.std.proofs.lemmas.List.{drop_more, flat_map_more, take_all, take_more, take_rest}
use Rattle.sparql_results.proofs.KeptLemmas.{in_two}

-- one more item
pub next_written : {X : Type 0} (text : X → List ℕ) (old : List ℕ) (items : List X) (i : ℕ) (d : X) (now new : List ℕ) → i < length items
    → now ≡ old ++ flat_map text (take i items) → new ≡ now ++ text (get_or items i d) → new ≡ old ++ flat_map text (take (i + 1) items)
next_written text old items i d now new inside so_far e =
    e ∙ ap (λ (t : List ℕ). t ++ text (get_or items i d)) so_far ∙ flat_map_more text old (take i items) (get_or items i d)
    ∙ ap (λ l. old ++ flat_map text l) (sym (take_more items i d inside))

-- the same, where a separator came before it
pub next_joined : {X : Type 0} (text : X → List ℕ) (separator old : List ℕ) (items : List X) (i : ℕ) (item : X) (now mid new : List ℕ) → i < length items
    → item ≡ get_or items i item → now ≡ old ++ flat_map (λ x. separator ++ text x) (take i items) → mid ≡ now ++ separator → new ≡ mid ++ text item
    → new ≡ old ++ flat_map (λ x. separator ++ text x) (take (i + 1) items)
next_joined text separator old items i item now mid new inside is so_far first second =
    next_written (λ x. separator ++ text x) old items i item now new inside so_far
    (in_two now separator (text item) mid new first second ∙ ap (λ x. now ++ (separator ++ text x)) is)

-- all of them
pub all_written : {X : Type 0} (text : X → List ℕ) (old : List ℕ) (items : List X) (i : ℕ) (now : List ℕ) → length items ≤ i
    → now ≡ old ++ flat_map text (take i items) → now ≡ old ++ flat_map text items
all_written text old items i now past so_far = so_far ∙ ap (λ l. old ++ flat_map text l) (take_all i items past)

-- the first item, and all behind it
abbrev pub behind_first : {X : Type 0} → List X → List X
behind_first items = take (length items - 1) (drop 1 items)

is_opened : {X : Type 0} (items : List X) (item : X) → 1 ≤ length items → item ≡ get_or items 0 item → items ≡ item ∷ behind_first items
is_opened items item some is =
    drop_more items 0 item (omega (arith, some)) ∙ ap (λ x. x ∷ drop 1 items) (sym is) ∙ ap (λ l. item ∷ l) (sym (take_rest items 1))

pub all_joined : {X : Type 0} (text : X → List ℕ) (separator old : List ℕ) (items : List X) (item : X) (i : ℕ) (first now : List ℕ) → 1 ≤ length items
    → item ≡ get_or items 0 item → first ≡ old ++ text item → length (behind_first items) ≤ i
    → now ≡ first ++ flat_map (λ x. separator ++ text x) (take i (behind_first items)) → now ≡ old ++ join_by text separator items
all_joined text separator old items item i first now some is begun past so_far =
    let others = flat_map (λ x. separator ++ text x) (behind_first items) in
    in_two old (text item) others first now begun (all_written (λ x. separator ++ text x) first (behind_first items) i now past so_far)
    ∙ ap (λ l. old ++ join_by text separator l) (sym (is_opened items item some is))

-- of none
pub none_joined : {X : Type 0} (text : X → List ℕ) (separator old : List ℕ) (items : List X) → items ≡ [] → old ≡ old ++ join_by text separator items
none_joined text separator old items none = sym (append-nil old) ∙ ap (λ l. old ++ join_by text separator l) (sym none)
