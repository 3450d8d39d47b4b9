-- Nets one after another, and two neighbours composed.
use Rattle.std.proofs.Common.{◌≡◌, ℕ, ◌<◌, List, [], ◌∷◌, ◌++◌, length, take, get_or, refl, sym, ap, ◌∙◌, subst, ◌+◌}
use Rattle.std.proofs.lemmas.List.{take_more}
use Rattle.rdf_dataset.specs.Chains.{Leads}
use Rattle.rdf_dataset.specs.State.{State, Change, net_between}

-- the net from the beginning of a to the end of b, wherever these two lie
abbrev pub Joins : Change → Change → Change → Type 0
Joins a b both = (s t u : State) → a ≡ net_between s t → b ≡ net_between t u → both ≡ net_between s u

pub leads_on : (s t u : State) (ns ms : List Change) → Leads s ns t → Leads t ms u → Leads s (ns ++ ms) u
leads_on s t u [] ms l m = subst (λ x. Leads x ms u) (sym l) m
leads_on s t u (n ∷ ns) ms l m = (l.0, l.1, leads_on l.0 t u ns ms l.2 m)

-- where the first nets end and the others begin
pub led_through : (s u : State) (ns ms : List Change) → Leads s (ns ++ ms) u → (t : State) × Leads s ns t × Leads t ms u
led_through s u [] ms l = (s, refl, l)
led_through s u (n ∷ ns) ms l = let r = led_through l.0 u ns ms l.2 in (r.0, (l.0, l.1, r.1), r.2)

pub leads_one : (s t : State) (n : Change) → Leads s (n ∷ []) t → n ≡ net_between s t
leads_one s t n l = l.1 ∙ ap (net_between s) l.2

pub one_leads : (s t : State) (n : Change) → n ≡ net_between s t → Leads s (n ∷ []) t
one_leads s t n e = (t, e, refl)

-- a last net and the one before it, composed
pub two_led : (s t : State) (old new : List Change) (a b both : Change) → old ≡ new ++ a ∷ [] → Joins a b both → Leads s (old ++ b ∷ []) t → Leads s (new ++ both ∷ []) t
two_led s t old new a b both e joins l =
    let last = led_through s t old (b ∷ []) l in
    let before = led_through s last.0 new (a ∷ []) (subst (λ xs. Leads s xs last.0) e last.1) in
    leads_on s before.0 t new (both ∷ []) before.1
    (one_leads before.0 t both (joins before.0 last.0 t (leads_one before.0 last.0 a before.2) (leads_one last.0 t b last.2)))

-- one net more of a list
pub leads_more : (s u : State) (nets : List Change) (i : ℕ) (n : Change) → i < length nets → n ≡ get_or nets i n → Leads s (take (i + 1) nets) u → (t : State) × Leads s (take i nets) t × (n ≡ net_between t u)
leads_more s u nets i n h is l =
    let parts = led_through s u (take i nets) (n ∷ []) (subst (λ xs. Leads s xs u) (take_more nets i n h ∙ ap (λ x. take i nets ++ x ∷ []) (sym is)) l) in
    (parts.0, parts.1, leads_one parts.0 u n parts.2)

-- a net behind the others, composed with what these come to
pub behind_led : (s t : State) (old end new : List Change) (a b both : Change) → ((x y : State) → Leads x old y → Leads x (new ++ a ∷ []) y) → end ≡ new → Joins a b both → Leads s (old ++ b ∷ []) t → Leads s (end ++ both ∷ []) t
behind_led s t old end new a b both to e joins l =
    let last = led_through s t old (b ∷ []) l in
    subst (λ xs. Leads s (xs ++ both ∷ []) t) (sym e)
    (two_led s t (new ++ a ∷ []) new a b both refl joins (leads_on s last.0 t (new ++ a ∷ []) (b ∷ []) (to s last.0 last.1) last.2))

-- of no nets
pub leads_nowhere : (s t : State) (runs : List Change) (n : Change) (counter : ℕ) → runs ≡ [] → Leads s runs t → counter ≡ t.next → ((x : State) → x.next ≡ counter → n ≡ net_between x x) → n ≡ net_between s t
leads_nowhere s t runs n counter none l is empty =
    let here : s ≡ t = subst (λ xs. Leads s xs t) none l in
    empty s (ap (λ (x : State). x.next) here ∙ sym is) ∙ ap (net_between s) here

-- of one
pub leads_alone : (s t : State) (runs : List Change) (n : Change) → runs ≡ [] → Leads s (runs ++ n ∷ []) t → n ≡ net_between s t
leads_alone s t runs n none l = leads_one s t n (subst (λ xs. Leads s (xs ++ n ∷ []) t) none l)
