-- A load is INSERT DATA of its document's quads.
use Rattle.std.proofs.Common.{◌≡◌, suc, ◌+◌, ◌<◌, ◌≤◌, inl, inr, not, false, Result, Ok, Err, sym, ap, ◌∙◌, arith}
use Rattle.std.proofs.lemmas.Bool.Decides.{leb_tells}
use Rattle.rdf_dataset.specs.Insertion.{with_data}
use Rattle.rdf_dataset.specs.State.{State, last_number}
use Rattle.sparql_eval.specs.Operations.{after, answer, step, unless}
use Rattle.sparql_eval.specs.declared.fault.ApplyFault.{ApplyFault}
use Rattle.sparql_eval.specs.declared.fault.ApplyFault.TheVariants.{BlankNumbers}
use Rattle.sparql_trees.specs.Data.{DataParts}
use Rattle.sparql_trees.specs.declared.operation.Operation.TheVariants.{InsertData}
use Rattle.rdf_session.specs.LoadLaws.{LoadInserts, LoadIsRefusedAlike}
use Rattle.rdf_session.specs.Request.{blank_limit}

abbrev Ending : Type 0
Ending = Result State ApplyFault

pub leads : (s : State) (d : DataParts) → s.next + d.blanks ≤ last_number → step s (InsertData d) ≡ Ok (after s (InsertData d))
leads s d h =
    elim (leb_tells (suc last_number) (s.next + d.blanks)) [
      | inl t ↦ absurd (omega (arith, t.1, h))
      | inr t ↦ ap (λ past. answer s (with_data s d.quads d.blanks) false (unless (not past) BlankNumbers)) t.0
    ]

stops : (s : State) (d : DataParts) → last_number < s.next + d.blanks → step s (InsertData d) ≡ Err BlankNumbers
stops s d h =
    elim (leb_tells (suc last_number) (s.next + d.blanks)) [
      | inl t ↦ ap (λ past. answer s (with_data s d.quads d.blanks) false (unless (not past) BlankNumbers)) t.0
      | inr t ↦ absurd (omega (arith, t.1, h))
    ]

same_end : (ending : Ending) (t u : State) → ending ≡ Ok t → ending ≡ Ok u → u ≡ t
same_end ending t u e f = cc

never_both : {A : Type 0} (ending : Ending) (t : State) (fault : ApplyFault) → ending ≡ Ok t → ending ≡ Err fault → A
never_both ending t fault e f = cc

-- where INSERT DATA led, or was refused, there was room, or none
room : (s t : State) (d : DataParts) → step s (InsertData d) ≡ Ok t → (s.next + d.blanks ≤ last_number) × (t ≡ after s (InsertData d))
room s t d e =
    elim (leb_tells (suc last_number) (s.next + d.blanks)) [
      | inl p ↦ never_both _ t BlankNumbers e (stops s d p.1)
      | inr p ↦ (omega (arith, p.1), same_end _ _ t (leads s d (omega (arith, p.1))) e)
    ]

no_room : (s : State) (d : DataParts) → step s (InsertData d) ≡ Err BlankNumbers → last_number < s.next + d.blanks
no_room s d e =
    elim (leb_tells (suc last_number) (s.next + d.blanks)) [
      | inl p ↦ p.1
      | inr p ↦ never_both _ (after s (InsertData d)) BlankNumbers (leads s d (omega (arith, p.1))) e
    ]

pub load_inserts : LoadInserts
load_inserts base format text s t = (
  λ a. (a.0, a.1, leads s (record { quads = a.0; blanks = blank_limit a.0 }) a.2 ∙ ap Ok (sym a.3)),
  λ b. let r = room s t (record { quads = b.0; blanks = blank_limit b.0 }) b.2 in (b.0, b.1, r.0, r.1),
)

pub load_is_refused_alike : LoadIsRefusedAlike
load_is_refused_alike base format text s = (
  λ a. (a.0, a.1, stops s (record { quads = a.0; blanks = blank_limit a.0 }) a.2),
  λ b. (b.0, b.1, no_room s (record { quads = b.0; blanks = blank_limit b.0 }) b.2),
)
