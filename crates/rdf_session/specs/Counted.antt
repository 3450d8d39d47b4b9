-- What the counts of an answer tell: how many quads came, and how many went (own).
use Rattle.std.specs.Prelude.{◌≡◌, ◌↔◌, List, [], ◌∷◌, length, Contains}
use Rattle.rdf_terms.specs.Quad.{QuadParts}
use Rattle.rdf_dataset.specs.ChangeLaws.{HasQuad}
use Rattle.rdf_dataset.specs.State.{State}
use Rattle.rdf_session.specs.GivesBack.{IsPlaced}
use Rattle.rdf_session.specs.Session.{Session, Command, Changed, Transition, now}
use Rattle.rdf_session.specs.declared.fault.Counts.{Counts}

-- nothing stands twice
abbrev pub StandOnce : {A : Type 0} → List A → Type 0
StandOnce [] = Unit {0}
StandOnce (x ∷ xs) = (¬ Contains xs x) × StandOnce xs

-- these are the quads that the second state has and the first hasn't, each once
pub record AreNew (s t : State) (quads : List QuadParts) : Type 0 where
  pub each : (q : QuadParts) → Contains quads q ↔ (HasQuad t q × ¬ HasQuad s q)
  pub once : StandOnce quads

-- Where a command changes the state, `added` is how many quads it has now that it hadn't before, and `removed` how many it had and hasn't now.
abbrev pub CountsAreTold : Type 0
CountsAreTold = (old new : Session) (command : Command) (c : Counts) → IsPlaced old → Transition old command (Changed c) new
    → (came gone : List QuadParts)
    × AreNew (now old) (now new) came
    × AreNew (now new) (now old) gone
    × (c.added ≡ length came)
    × (c.removed ≡ length gone)
