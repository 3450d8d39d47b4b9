-- The net of a request of one operation on quads.
use Rattle.std.proofs.Common.{◌≡◌, ℕ, suc, ◌+◌, ◌<◌, ◌≤◌, inl, inr, not, ltb, false, refl, List, [], ◌∷◌, Some, Result, Ok, Err, sym, ap, ◌∙◌, subst, arith}
use Rattle.std.proofs.lemmas.Bool.Decides.{leb_tells}
use Rattle.std.specs.FinSet as set
use Rattle.rdf_terms.specs.Quad.{QuadParts}
use Rattle.rdf_dataset.specs.Exchange.{exchanged}
use Rattle.rdf_dataset.specs.Insertion.{with_all, with_data}
use Rattle.rdf_dataset.specs.Loading.{IsNetOfData}
use Rattle.rdf_dataset.specs.Staging.{Staging}
use Rattle.rdf_dataset.specs.State.{State, Change, IsSound, last_number, net_between}
use Rattle.rdf_dataset.proofs.CallerLemmas.{with_all-nothing}
use Rattle.sparql_eval.specs.Inside.Exchanges.{Exchanges}
use Rattle.sparql_eval.specs.Nets.{IsNetOf}
use Rattle.sparql_eval.specs.Operations.{Tells, answer, go_on, modified, step, steps, unless, without_all}
use Rattle.sparql_eval.specs.declared.fault.ApplyFault.{ApplyFault}
use Rattle.sparql_eval.specs.declared.fault.ApplyFault.TheVariants.{MissingGraph, GraphExists, BlankNumbers, NoMemory}
use Rattle.sparql_trees.specs.Data.{DataParts}
use Rattle.sparql_trees.specs.declared.operation.Operation.{Operation}
use Rattle.sparql_trees.specs.declared.operation.Operation.TheVariants.{InsertData, DeleteData, Modify}
use Rattle.sparql_trees.specs.declared.template.Modify.{Modify as Modification}

-- ---- room for blank nodes

-- what an operation answers that takes so many new blank nodes
abbrev pub taking : State → State → ℕ → Result State ApplyFault
taking s t count = answer s t false (unless (not (ltb last_number (s.next + count))) BlankNumbers)

pub room : (s t : State) (count : ℕ) → s.next + count ≤ last_number → taking s t count ≡ Ok t
room s t count h =
    elim (leb_tells (suc last_number) (s.next + count)) [
      | inl p ↦ absurd (omega (arith, p.1, h))
      | inr p ↦ ap (λ past. answer s t false (unless (not past) BlankNumbers)) p.0
    ]

pub no_room : (s t : State) (count : ℕ) → last_number < s.next + count → taking s t count ≡ Err BlankNumbers
no_room s t count h =
    elim (leb_tells (suc last_number) (s.next + count)) [
      | inl p ↦ ap (λ past. answer s t false (unless (not past) BlankNumbers)) p.0
      | inr p ↦ absurd (omega (arith, p.1, h))
    ]

-- ---- one operation

pub alone : (s : State) (operation : Operation) (r : Result State ApplyFault) → step s operation ≡ r → steps s (operation ∷ []) ≡ go_on r Ok
alone s operation r e = ap (λ x. go_on x (λ t. steps t [])) e

pub tells_alone : (s : State) (operation : Operation) (fault : ApplyFault) → Tells (step s operation) fault → Tells (steps s (operation ∷ [])) fault
tells_alone s operation (NoMemory refused) h = tt
tells_alone s operation MissingGraph h = alone s operation (Err MissingGraph) h
tells_alone s operation GraphExists h = alone s operation (Err GraphExists) h
tells_alone s operation BlankNumbers h = alone s operation (Err BlankNumbers) h

-- ---- its net

pub data_net : (s : State) (d : DataParts) (net : Change) → IsNetOfData s d.quads d.blanks (Some net) → IsNetOf s (InsertData d ∷ []) net
data_net s d net h = (
  with_data s d.quads d.blanks,
  alone s (InsertData d) (Ok (with_data s d.quads d.blanks)) (room s (with_data s d.quads d.blanks) d.blanks h.0),
  h.1.0,
  h.1.1,
)

-- quads go and none come
deleted_alone : (s : State) (quads : List QuadParts) → exchanged s quads 0 [] ≡ without_all s quads
deleted_alone s quads =
    let more : s.next + 0 ≡ s.next = omega arith in
    ap (λ next. with_all (record { quads = set.difference s.quads (set.from_list quads); names = s.names; next = next }) []) more ∙ with_all-nothing (without_all s quads)

pub deletions_net : (s : State) (quads gone come : List QuadParts) (net : Change) → gone ≡ quads → come ≡ [] → net ≡ net_between s (exchanged s gone 0 come) → IsSound (exchanged s gone 0 come) → IsNetOf s (DeleteData quads ∷ []) net
deletions_net s quads gone come net g c is sound =
    let e : exchanged s gone 0 come ≡ without_all s quads = (λ i. exchanged s (g i) 0 (c i)) ∙ deleted_alone s quads in
    (without_all s quads, alone s (DeleteData quads) (Ok (without_all s quads)) refl, subst IsSound e sound, is ∙ ap (net_between s) e)

-- what the exchange leaves is what DELETE/INSERT leaves
pub leaves : (s : State) (m : Modification) (gone : List QuadParts) (blanks : ℕ) (come : List QuadParts) → Exchanges s m gone blanks come → exchanged s gone blanks come ≡ modified s m
leaves s m gone blanks come h = λ i. exchanged s (h.gone_are i) (h.blanks_are i) (h.come_are i)

pub exchange_leads : (s : State) (m : Modification) (gone : List QuadParts) (blanks : ℕ) (come : List QuadParts) → Exchanges s m gone blanks come → step s (Modify m) ≡ Ok (exchanged s gone blanks come)
exchange_leads s m gone blanks come h =
    let e = leaves s m gone blanks come h in
    ap (taking s (modified s m)) (sym h.blanks_are) ∙ room s (modified s m) blanks h.room ∙ ap Ok (sym e)

pub modify_net : (s : State) (m : Modification) (gone : List QuadParts) (blanks : ℕ) (come : List QuadParts) (net : Change) → Exchanges s m gone blanks come → IsSound (exchanged s gone blanks come) → net ≡ net_between s (exchanged s gone blanks come)
    → IsNetOf s (Modify m ∷ []) net
modify_net s m gone blanks come net h sound is =
    (exchanged s gone blanks come, alone s (Modify m) (Ok (exchanged s gone blanks come)) (exchange_leads s m gone blanks come h), sound, is)

-- ---- a view that begins as the state, after the operations

pub staged_net : (s : State) (operations : List Operation) (before after : Staging) (net : Change) → before ≡ record { under = s; now = s } → steps before.now operations ≡ Ok after.now → after.under ≡ before.under → IsSound after.now
    → net ≡ net_between after.under after.now → IsNetOf s operations net
staged_net s operations before after net begins leads beneath sound is = (
  after.now,
  ap (λ (v : Staging). steps v.now operations) (sym begins) ∙ leads,
  sound,
  is ∙ ap (λ u. net_between u after.now) (beneath ∙ ap (λ (v : Staging). v.under) begins),
)
