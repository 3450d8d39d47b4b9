use Rattle.std.proofs.Common.{◌≡◌, Bool, true, false, ◌&&◌, ◌||◌, [], ◌∷◌, ◌∙◌, refl, sym, subst}
use Rattle.rdf_streams.proofs.DeviceLemmas.Written.{one_answer, wrote_err, wrote_ok}
use Rattle.rdf_keeper.proofs.ScriptLemmas.Runs.{breaks_off, stops, goes_on}
use Rattle.rdf_keeper.proofs.script.feed.answer.Goals as goal
use Rattle.rdf_keeper.proofs.script.feed.answer.Goals.{else-stop-via-then-stop+else-reply, else-stop-via-else-stop, then-refused, else-refused}

right_false : (a b : Bool) → b ≡ false → (a && b) ≡ false
right_false true b is = is
right_false false b is = refl

pub returns-then-is_err : goal.returns-then-is_err
returns-then-is_err g c =
    let step = g.D.Device.step in
    let w = wrote_err step _ _ _ c.write_answer.result (sym c.is_err.ensures.value ∙ c.if-is_err.true) c.write_answer.ensures in
    (w.0 ∷ [], one_answer step _ _ true w.0 w.4, breaks_off _ _ _ _ _ _ _ c.serve-reply.ensures w.0 w.1 w.2 w.3)

pub returns-then-reply : goal.returns-then-reply
returns-then-reply g c =
    let step = g.D.Device.step in
    let w = wrote_ok step _ _ _ c.write_answer.result (sym c.is_err.ensures.value ∙ c.if-is_err.false) c.write_answer.ensures in
    let halts : (c.args.stop && c.serve-reply.result.refused) ≡ true = subst (λ b. (b && c.serve-reply.result.refused) ≡ true) (sym c.if-stop.true) c.if-reply.true in
    (_, one_answer step _ _ false _ w, stops _ _ _ _ _ _ _ c.serve-reply.ensures halts)

pub returns : goal.returns
returns g c =
    let step = g.D.Device.step in
    let w = wrote_ok step _ _ _ c.write_answer.result (sym c.is_err.ensures.value ∙ c.if-is_err.false) c.write_answer.ensures in
    let is_no_end : (c.args.stop && c.serve-reply.result.refused) ≡ false = elim c.else-stop.branch [
      | else-stop-via-then-stop+else-reply w ↦ right_false _ _ w.if-reply.false
      | else-stop-via-else-stop w ↦ subst (λ b. (b && c.serve-reply.result.refused) ≡ false) (sym w.if-stop.false) refl
    ] in
    let any : c.if-refused.result ≡ (c.args.refused || c.serve-reply.result.refused) = elim c.if-refused.branch [
      | then-refused w ↦ w.result-is ∙ w.if-refused.true ∙ sym (subst (λ b. (b || c.serve-reply.result.refused) ≡ true) (sym w.if-refused.true) refl)
      | else-refused w ↦ w.result-is ∙ sym (subst (λ b. (b || c.serve-reply.result.refused) ≡ c.serve-reply.result.refused) (sym w.if-refused.false) refl)
    ] in
    (_, one_answer step _ _ false _ w, goes_on _ _ _ _ _ _ _ c.serve-reply.ensures _ is_no_end any)
