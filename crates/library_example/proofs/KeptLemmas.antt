-- An undo behind an update leaves what was loaded.
use Rattle.std.proofs.Common.{◌≡◌, ℕ, List, [], None, refl, sym, ap, ◌∙◌, subst, arith}
use Rattle.std.specs.List.{concat}
use Rattle.library_example.specs.Kept.{AreItsLines}
use Rattle.rdf_dataset.specs.State.{State, empty_state}
use Rattle.rdf_session.specs.GivesBack.{IsPlaced, UndoGivesBack}
use Rattle.rdf_session.specs.QuadLines.{ListsQuads}
use Rattle.rdf_session.specs.Request.{Load, Update}
use Rattle.rdf_session.specs.Session.{Session, Changed, Do, Transition, Undo, fresh, now}
use Rattle.rdf_session.specs.declared.fault.Counts.{Counts}
use Rattle.rdf_session.specs.declared.format.Format.TheVariants.{Turtle}

pub kept_lines : (old loaded mid back : Session) (document update text : List ℕ) (c d e : Counts) (lines : List (List ℕ))
    → UndoGivesBack → old ≡ fresh None (empty_state 0)
    → Transition old (Do (Load Turtle document)) (Changed c) loaded → Transition loaded (Do (Update update)) (Changed d) mid
    → Transition mid Undo (Changed e) back → ListsQuads (now back) lines → text ≡ concat lines → AreItsLines document text
kept_lines old loaded mid back document update text c d e lines law begun load change undo lists is =
    let came = subst (λ (s : Session). Transition s (Do (Load Turtle document)) (Changed c) loaded) begun load in
    let placed : IsPlaced loaded = subst IsPlaced (sym came.2) (omega arith) in
    let back_there : now back ≡ now loaded = (law loaded mid mid back (Update update) d e placed change ([], tt, refl) undo).0 in
    let there : now loaded ≡ came.0 = ap now came.2 in
    (came.0, came.1, lines, subst (λ (s : State). ListsQuads s lines) (back_there ∙ there) lists, is)
