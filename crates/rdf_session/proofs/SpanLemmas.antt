-- What is held of the changes since the base, at another place and behind more entries.
use Rattle.std.proofs.Common.{◌≡◌, ℕ, suc, ◌-◌, ◌<◌, ◌≤◌, List, [], ◌∷◌, ◌++◌, length, get_or, refl, sym, ap, ◌∙◌, subst, arith}
use Rattle.rdf_dataset.specs.Chains.{Leads}
use Rattle.rdf_dataset.specs.State.{State, Change, net_between}
use Rattle.rdf_session.specs.History.{Marks}
use Rattle.rdf_session.specs.Inside.Kept.{AreNets, IsKept, base_of}
use Rattle.rdf_session.specs.Inside.Spans.{Span, IsSpan}
use Rattle.rdf_session.proofs.KeptLemmas.{at, base_of-kept, entry_is}

-- one net more behind the others
pub leads_behind : (ns : List Change) (s t u : State) (n : Change) → Leads s ns t → n ≡ net_between t u → Leads s (ns ++ n ∷ []) u
leads_behind [] s t u n l e = (u, e ∙ ap (λ x. net_between x u) (sym l), refl)
leads_behind (m ∷ ms) s t u n l e = (l.0, l.1, leads_behind ms l.0 t u n l.2 e)

-- the counter behind an entry
pub counter_behind : (base : State) (ns : List Change) (k : ℕ) (e : Change) → AreNets base ns → 0 < k → k ≤ length ns → e ≡ get_or ns (k - 1) e → e.after ≡ (at base ns k base).next
counter_behind base ns k e c h l is =
    let next : suc (k - 1) ≡ k = omega (arith, h) in
    ap (λ (x : Change). x.after) (is ∙ entry_is base ns (k - 1) base e c (omega (arith, h, l)))
    ∙ ap (λ j. (at base ns j base).next) next

-- from the base that the state at another place of the chain tells
pub span_at : (base t : State) (ns : List Change) (j : ℕ) (marks : Marks) (span : Span) → IsKept base t ns j marks → IsSpan base ns span → IsSpan (base_of t ns j) ns span
span_at base t ns j marks span c s = subst (λ b. IsSpan b ns span) (sym (base_of-kept base t ns j marks c)) s

-- the same of equal lists
pub left_held : (base : State) (ns ms : List Change) (k counter : ℕ) (old new : Span) → ms ≡ ns → ((b : State) → AreNets b ms → counter ≡ (at b ms k b).next → IsSpan b ms old → IsSpan b ms new) → AreNets base ns → counter ≡ (at base ns k base).next → IsSpan base ns old → IsSpan base ns new
left_held base ns ms k counter old new e h = subst (λ xs. AreNets base xs → counter ≡ (at base xs k base).next → IsSpan base xs old → IsSpan base xs new) e (h base)
