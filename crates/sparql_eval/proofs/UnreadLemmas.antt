-- Operations one after another, the last of which act on no view.
use Rattle.std.proofs.Common.{arith, ◌≡◌, ℕ, ◌+◌, ◌<◌, ◌≤◌, ◌||◌, List, [], ◌∷◌, ◌++◌, drop, get_or, length, Result, Ok, Err, refl, sym, ap, ◌∙◌, subst, IsTrue, Option, Some, None, IfNone, IfSome}
use Rattle.std.proofs.lemmas.List.{drop_all}
use Rattle.rdf_terms.specs.Below.{AreBelow}
use Rattle.rdf_terms.specs.Quad.{QuadParts}
use Rattle.rdf_dataset.specs.Exchange.{exchanged}
use Rattle.rdf_dataset.specs.Insertion.{with_all, with_data}
use Rattle.rdf_dataset.specs.Staging.{Staging, staged}
use Rattle.rdf_dataset.specs.State.{State, Change, IsSound, last_number, net_between, with_blanks}
use Rattle.sparql_eval.specs.Inside.Exchanges.{Exchanges}
use Rattle.sparql_eval.specs.Inside.Staging.{has_pattern}
use Rattle.sparql_eval.specs.Inside.Unread.{AreData, AreUnread, is_data, may_begin}
use Rattle.sparql_eval.specs.Nets.{IsNetOf}
use Rattle.sparql_eval.specs.Operations.{Tells, go_on, step, steps, without_all}
use Rattle.sparql_eval.specs.declared.fault.ApplyFault.{ApplyFault}
use Rattle.sparql_eval.specs.declared.fault.ApplyFault.TheVariants.{MissingGraph, GraphExists, BlankNumbers, NoMemory}
use Rattle.sparql_eval.proofs.NetLemmas.{exchange_leads, room}
use Rattle.sparql_eval.proofs.SetLemmas.{next_of}
use Rattle.sparql_trees.specs.Data.{DataParts}
use Rattle.sparql_trees.specs.declared.operation.Operation.{Operation}
use Rattle.sparql_trees.specs.declared.operation.Operation.TheVariants.{InsertData, DeleteData, Modify}
use Rattle.sparql_trees.specs.declared.template.Modify.{Modify as Modification}

-- ---- in a row

-- some operations, and then others
behind : (xs ys : List Operation) → ((t : State) → steps t (xs ++ ys) ≡ go_on (steps t xs) (λ u. steps u ys)) → (r : Result State ApplyFault)
    → go_on r (λ t. steps t (xs ++ ys)) ≡ go_on (go_on r (λ t. steps t xs)) (λ t. steps t ys)
behind xs ys f (Ok t) = f t
behind xs ys f (Err fault) = refl

in_a_row : (s : State) (xs ys : List Operation) → steps s (xs ++ ys) ≡ go_on (steps s xs) (λ t. steps t ys)
in_a_row s [] ys = refl
in_a_row s (x ∷ xs) ys = behind xs ys (λ t. in_a_row t xs ys) (step s x)

pub goes_on : (s t : State) (xs ys : List Operation) → steps s xs ≡ Ok t → steps s (xs ++ ys) ≡ steps t ys
goes_on s t xs ys e = in_a_row s xs ys ∙ ap (λ r. go_on r (λ t. steps t ys)) e

stops : (s : State) (xs ys : List Operation) (fault : ApplyFault) → steps s xs ≡ Err fault → steps s (xs ++ ys) ≡ Err fault
stops s xs ys fault e = in_a_row s xs ys ∙ ap (λ r. go_on r (λ t. steps t ys)) e

-- the first refusal is the answer
pub tells_sooner : (s : State) (xs ys : List Operation) (fault : ApplyFault) → Tells (steps s xs) fault → Tells (steps s (xs ++ ys)) fault
tells_sooner s xs ys (NoMemory refused) h = tt
tells_sooner s xs ys MissingGraph h = stops s xs ys MissingGraph h
tells_sooner s xs ys GraphExists h = stops s xs ys GraphExists h
tells_sooner s xs ys BlankNumbers h = stops s xs ys BlankNumbers h

pub tells_later : (s t : State) (xs ys : List Operation) (fault : ApplyFault) → steps s xs ≡ Ok t → Tells (steps t ys) fault → Tells (steps s (xs ++ ys)) fault
tells_later s t xs ys fault e h = subst (λ r. Tells r fault) (sym (goes_on s t xs ys e)) h

-- ---- nets

pub composed : (s t : State) (xs ys : List Operation) (first last both : Change) → steps s xs ≡ Ok t → first ≡ net_between s t → IsNetOf t ys last
    → ((s t u : State) → first ≡ net_between s t → last ≡ net_between t u → both ≡ net_between s u) → IsNetOf s (xs ++ ys) both
composed s t xs ys first last both e is h f = (h.0, goes_on s t xs ys e ∙ h.1, h.2, f s t h.0 is h.3)

pub unread_net : (s : State) (operations : List Operation) (u : Staging) (net : Change) → u.under ≡ s → steps s operations ≡ Ok u.now → IsSound u.now → net ≡ net_between u.under u.now → IsNetOf s operations net
unread_net s operations u net beneath leads sound is = (u.now, leads, sound, is ∙ ap (λ x. net_between x u.now) beneath)

-- no operation
pub nothing_net : (s : State) (operations : List Operation) (u : Staging) (net : Change) → length operations < 1 → u ≡ record { under = s; now = s } → IsSound u.now → net ≡ net_between u.under u.now → IsNetOf s operations net
nothing_net s [] u net h begins sound is = unread_net s [] u net (ap (λ (v : Staging). v.under) begins) (ap Ok (sym (ap (λ (v : Staging). v.now) begins))) sound is
nothing_net s (x ∷ xs) u net h begins sound is = absurd (omega (arith, h))

-- ---- over a view that begins as the state

pub view_leads : (s : State) (v w : Staging) (xs : List Operation) → v ≡ record { under = s; now = s } → steps v.now xs ≡ Ok w.now → steps s xs ≡ Ok w.now
view_leads s v w xs begins h = ap (λ (x : Staging). steps x.now xs) (sym begins) ∙ h

pub view_refused : (s : State) (v : Staging) (xs ys : List Operation) (fault : ApplyFault) → v ≡ record { under = s; now = s } → Tells (steps v.now xs) fault → Tells (steps s (xs ++ ys)) fault
view_refused s v xs ys fault begins h = tells_sooner s xs ys fault (subst (λ (x : Staging). Tells (steps x.now xs) fault) begins h)

-- between what lies beneath and what the operations left
view_between : (s : State) (v w : Staging) (net : Change) → v ≡ record { under = s; now = s } → w.under ≡ v.under → net ≡ net_between w.under w.now → net ≡ net_between s w.now
view_between s v w net begins beneath is = is ∙ ap (λ u. net_between u w.now) (beneath ∙ ap (λ (x : Staging). x.under) begins)

-- none follows
pub view_net : (s : State) (v w : Staging) (xs ys : List Operation) (net : Change) → v ≡ record { under = s; now = s } → steps v.now xs ≡ Ok w.now → w.under ≡ v.under → ys ≡ [] → IsSound w.now → net ≡ net_between w.under w.now → IsNetOf s (xs ++ ys) net
view_net s v w xs ys net begins h beneath e sound is =
    (w.now, goes_on s w.now xs ys (view_leads s v w xs begins h) ∙ ap (steps w.now) e, sound, view_between s v w net begins beneath is)

-- others follow
pub view_composed : (s : State) (v w : Staging) (xs ys : List Operation) (first last both : Change) → v ≡ record { under = s; now = s } → steps v.now xs ≡ Ok w.now → w.under ≡ v.under → first ≡ net_between w.under w.now → IsNetOf w.now ys last
    → ((s t u : State) → first ≡ net_between s t → last ≡ net_between t u → both ≡ net_between s u) → IsNetOf s (xs ++ ys) both
view_composed s v w xs ys first last both begins h beneath is made f =
    composed s w.now xs ys first last both (view_leads s v w xs begins h) (view_between s v w first begins beneath is) made f

-- others follow, or none
pub view_joined : (s : State) (v w : Staging) (xs ys : List Operation) (first : Change) (after : Option Change) (net : Change) → v ≡ record { under = s; now = s } → steps v.now xs ≡ Ok w.now → w.under ≡ v.under
    → IsSound w.now → first ≡ net_between w.under w.now → IfNone after (ys ≡ []) → IfSome after (IsNetOf w.now ys) → IfNone after (net ≡ first)
    → IfSome after (λ last. (s t u : State) → first ≡ net_between s t → last ≡ net_between t u → net ≡ net_between s u) → IsNetOf s (xs ++ ys) net
view_joined s v w xs ys first None net begins h beneath sound is none made alone both = view_net s v w xs ys net begins h beneath none sound (alone ∙ is)
view_joined s v w xs ys first (Some last) net begins h beneath sound is none made alone both = view_composed s v w xs ys first last net begins h beneath is made both

-- ---- a view whose state is known

pub same_staging : (s t : Staging) (now : State) → s.under ≡ t.under → s.now ≡ now → s ≡ staged t now
same_staging s t now u n = λ i. record { under = u i; now = n i }

-- numbers are taken, quads go, and others come
module _ (u n r : Staging) (gone come : List QuadParts) (blanks : ℕ) (numbered : n ≡ staged u (with_blanks u.now blanks)) (removed : r ≡ staged n (without_all n.now gone)) where
  gone_from : r ≡ staged u (without_all (with_blanks u.now blanks) gone)
  gone_from = removed ∙ ap (λ (s : Staging). staged s (without_all s.now gone)) numbered

  pub exchange_below : AreBelow (u.now.next + blanks) come → AreBelow r.now.next come
  exchange_below b = subst (λ k. AreBelow k come) (sym (ap (λ (s : Staging). s.now.next) gone_from)) b

  pub exchange_comes : (m : Staging) → m ≡ staged r (with_all r.now come) → m ≡ staged u (exchanged u.now gone blanks come)
  exchange_comes m e = e ∙ ap (λ (s : Staging). staged s (with_all s.now come)) gone_from

-- ---- operations

-- INSERT DATA
pub data_leads : (u m : Staging) (d : DataParts) (quads : List QuadParts) (blanks : ℕ) → quads ≡ d.quads → blanks ≡ d.blanks → u.now.next + blanks ≤ last_number → m ≡ staged u (with_data u.now quads blanks)
    → (m.under ≡ u.under) × (step u.now (InsertData d) ≡ Ok m.now)
data_leads u m d quads blanks q b h e =
    let all : m.now ≡ with_data u.now d.quads d.blanks = ap (λ (s : Staging). s.now) e ∙ (λ i. with_data u.now (q i) (b i)) in (
      ap (λ (s : Staging). s.under) e,
      room u.now (with_data u.now d.quads d.blanks) d.blanks (subst (λ k. u.now.next + k ≤ last_number) b h) ∙ ap Ok (sym all),
    )

-- DELETE DATA
pub deletion_leads : (u m : Staging) (quads gone : List QuadParts) → gone ≡ quads → m ≡ staged u (without_all u.now gone) → (m.under ≡ u.under) × (step u.now (DeleteData quads) ≡ Ok m.now)
deletion_leads u m quads gone q e = (ap (λ (s : Staging). s.under) e, ap Ok (sym (ap (λ (s : Staging). s.now) e ∙ ap (without_all u.now) q)))

-- DELETE/INSERT, over a view that begins as the state
pub modification_leads : (s : State) (u b : Staging) (m : Modification) (gone : List QuadParts) (blanks : ℕ) (come : List QuadParts) → Exchanges s m gone blanks come → u ≡ record { under = s; now = s } → b ≡ staged u (exchanged u.now gone blanks come)
    → (b.under ≡ s) × (step s (Modify m) ≡ Ok b.now)
modification_leads s u b m gone blanks come h begins e =
    let is : b ≡ record { under = s; now = exchanged s gone blanks come } = e ∙ ap (λ (v : Staging). staged v (exchanged v.now gone blanks come)) begins in
    (ap (λ (v : Staging). v.under) is, exchange_leads s m gone blanks come h ∙ ap Ok (sym (ap (λ (v : Staging). v.now) is)))

-- ---- which operations

-- no operation is left
pub none_behind : (xs : List Operation) (from : ℕ) → length xs ≤ from → AreData (drop from xs)
none_behind xs from h = subst AreData (sym (drop_all from xs h)) tt

-- data before data
pub one_sooner : (xs : List Operation) (from before : ℕ) (x : Operation) → from ≡ before + 1 → before < length xs → x ≡ get_or xs before x → IsTrue (is_data x) → AreData (drop from xs) → AreData (drop before xs)
one_sooner xs from before x e h is d all = subst AreData (sym (next_of xs x before h is)) (d, subst (λ n. AreData (drop n xs)) e all)

-- an operation that may begin before data
pub one_first : (xs : List Operation) (from before : ℕ) (x : Operation) → from ≡ before + 1 → before < length xs → x ≡ get_or xs before x → IsTrue (may_begin x) → AreData (drop from xs) → AreUnread (drop before xs)
one_first xs from before x e h is d all = subst AreUnread (sym (next_of xs x before h is)) (d, subst (λ n. AreData (drop n xs)) e all)

-- data alone
pub all_data : (xs : List Operation) → AreData xs → AreUnread xs
all_data [] all = tt
all_data (x ∷ xs) all = (ap (λ b. b || has_pattern x) all.0, all.1)
