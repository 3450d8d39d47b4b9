-- A session that is fed its script: what lines, and pieces one after another, make of it.
use Rattle.std.proofs.Common.{◌≡◌, ℕ, Bool, true, List, [], ◌∷◌, ◌++◌, Option, refl, sym, ap, ◌∙◌, subst, append-nil, inl}
use Rattle.std.specs.Prelude.{Ok, Err}
use Rattle.rdf_session.specs.Session.{Session}
use Rattle.rdf_keeper.specs.Inside.Says.{IsWholeLine, asked_by, body_behind}
use Rattle.rdf_keeper.specs.declared.script.gathered.Says.{Says}
use Rattle.rdf_keeper.specs.Script.Commands.{Asked, commands}
use Rattle.rdf_keeper.specs.Script.Lines.{raw_lines, upto_last_end}
use Rattle.rdf_keeper.specs.Script.Pieces.{EndsWithin, Fed, GoesOn, Pending, whole_commands}
use Rattle.rdf_keeper.specs.Script.Runs.{Answered, Serves, to_end, final}
use Rattle.rdf_keeper.specs.Script.Answers.{Answers}
use Rattle.rdf_keeper.specs.declared.script.command.Body.{Body}
use Rattle.rdf_keeper.specs.declared.script.status.Status.{Status}
use Rattle.rdf_keeper.specs.declared.script.status.Status.TheVariants.{Accepted}
use Rattle.rdf_keeper.proofs.ScriptLemmas.Pieces.{leaves_append, leaves_none, leaves_front, leaves_line, line_commands, no_whole, whole-append}
use Rattle.rdf_keeper.proofs.ScriptLemmas.Runs.{serves_done, serves_ended, serves_on}

-- ---- a line

module _ (f : Fed) (line : List ℕ) (p : Pending) (open_line : upto_last_end f.pending.line ≡ []) (whole : IsWholeLine line) (pushed : p ≡ record { body = f.pending.body; line = f.pending.line ++ line })
    (says : Says) (said : (ended : Bool) (lines : List (List ℕ)) → commands ended p.body (p.line ∷ lines) ≡ asked_by p.body says ++ commands ended (body_behind p.body p.line says) lines) where
  abbrev asked : List Asked
  asked = asked_by p.body says

  abbrev body : Option (Body × List ℕ)
  body = body_behind p.body p.line says

  line_says : (ended : Bool) (lines : List (List ℕ)) → commands ended f.pending.body ((f.pending.line ++ line) ∷ lines) ≡ asked ++ commands ended body lines
  line_says ended lines = ap (λ q. commands ended q.body (q.line ∷ lines)) (sym pushed) ∙ said ended lines

  pub line_goes_on : (g f' : Fed) (s t : Session) (xs : List (List ℕ)) (r : Bool) → f ≡ f' → g ≡ record { stop = f.stop; refused = r; pending = record { body = body; line = [] } } → Answered f.stop f.refused asked s xs t (Ok r) → GoesOn f' line s xs t g
  line_goes_on g f' s t xs r same new a =
      let on : GoesOn f line s xs t (record { stop = f.stop; refused = r; pending = record { body = body; line = [] } }) = record {
        answered = subst (λ cs. Answered f.stop f.refused cs s xs t (Ok r)) (sym (line_commands f.pending line open_line whole asked body line_says)) a;
        same = refl;
        leaves = leaves_line f.pending line open_line whole asked body line_says;
      } in
      subst (λ v. GoesOn v line s xs t g) same (subst (GoesOn f line s xs t) (sym new) on)

  pub line_ends : (f' : Fed) (s t : Session) (xs : List (List ℕ)) (st : Status) → f ≡ f' → Answered f.stop f.refused asked s xs t (Err st) → (text : List ℕ) → EndsWithin f' (line ++ text) s xs t st
  line_ends f' s t xs st same a text =
      let more = whole_commands (record { body = body; line = [] }) text in
      let all : whole_commands f.pending (line ++ text) ≡ asked ++ more =
      whole-append f.pending line text _ (leaves_line f.pending line open_line whole asked body line_says)
      ∙ ap (λ cs. cs ++ more) (line_commands f.pending line open_line whole asked body line_says) in
      subst (λ v. EndsWithin v (line ++ text) s xs t st) same
      (subst (λ cs. Answered f.stop f.refused cs s xs t (Err st)) (sym all) (serves_ended f.stop (λ r. Ok r) (λ e. Err e) f.refused asked more s t xs st a))

pub front_goes_on : (f g f' : Fed) (front : List ℕ) (p : Pending) (s : Session) → upto_last_end f.pending.line ≡ [] → upto_last_end front ≡ [] → p ≡ record { body = f.pending.body; line = f.pending.line ++ front } → f ≡ f'
    → g ≡ record { stop = f.stop; refused = f.refused; pending = p } → GoesOn f' front s [] s g
front_goes_on f g f' front p s open_line none pushed same new =
    let q : Pending = record { body = f.pending.body; line = f.pending.line ++ front } in
    let on : GoesOn f front s [] s (record { stop = f.stop; refused = f.refused; pending = q }) = record {
      answered = subst (λ cs. Answered f.stop f.refused cs s [] s (Ok f.refused)) (sym (no_whole f.pending front open_line none)) (refl, refl, inl refl);
      same = refl;
      leaves = leaves_front f.pending front open_line none;
    } in
    subst (λ v. GoesOn v front s [] s g) same
    (subst (GoesOn f front s [] s) (sym (new ∙ ap (λ x. record { stop = f.stop; refused = f.refused; pending = x }) pushed)) on)

-- ---- pieces one after another

pub goes_further : (f g h : Fed) (a b : List ℕ) (s t u : Session) (xs ys : List (List ℕ)) → GoesOn f a s xs t g → GoesOn g b t ys u h → GoesOn f (a ++ b) s (xs ++ ys) u h
goes_further f g h a b s t u xs ys l m = record {
  answered = subst (λ cs. Answered f.stop f.refused cs s (xs ++ ys) u (Ok h.refused)) (sym (whole-append f.pending a b g.pending l.leaves))
      (serves_on f.stop (λ r. Ok r) (λ e. Err e) f.refused g.refused (whole_commands f.pending a) (whole_commands g.pending b) s t u xs ys (Ok h.refused) l.answered
      (subst (λ v. Answered v g.refused (whole_commands g.pending b) t ys u (Ok h.refused)) l.same m.answered));
  same = m.same ∙ l.same;
  leaves = leaves_append f.pending a b g.pending h.pending l.leaves m.leaves;
}

pub ends_further : (f g : Fed) (a b : List ℕ) (s t u : Session) (xs ys : List (List ℕ)) (st : Status) → GoesOn f a s xs t g → EndsWithin g b t ys u st → EndsWithin f (a ++ b) s (xs ++ ys) u st
ends_further f g a b s t u xs ys st l m =
    subst (λ cs. Answered f.stop f.refused cs s (xs ++ ys) u (Err st)) (sym (whole-append f.pending a b g.pending l.leaves))
    (serves_on f.stop (λ r. Ok r) (λ e. Err e) f.refused g.refused (whole_commands f.pending a) (whole_commands g.pending b) s t u xs ys (Err st) l.answered
    (subst (λ v. Answered v g.refused (whole_commands g.pending b) t ys u (Err st)) l.same m))

pub goes_nowhere : (f : Fed) (s : Session) → upto_last_end f.pending.line ≡ [] → GoesOn f [] s [] s f
goes_nowhere f s e = record {
  answered = subst (λ cs. Answered f.stop f.refused cs s [] s (Ok f.refused)) (sym (no_whole f.pending [] e refl)) (refl, refl, inl refl);
  same = refl;
  leaves = leaves_none f.pending e;
}

-- ---- the end

-- the last command
module _ (stop refused : Bool) (asked : List Asked) (s t : Session) (xs : List (List ℕ)) where
  pub last_reached : (q : Bool) (status : Status) → status ≡ final Accepted q → Answered stop refused asked s xs t (Ok q) → Serves (to_end Answers stop Accepted) refused asked s xs t status
  last_reached q status e a =
      subst (Serves (to_end Answers stop Accepted) refused asked s xs t) (sym e) (serves_done stop (final Accepted) (λ st. st) refused q asked s t xs a)

  pub last_missed : (status : Status) → Answered stop refused asked s xs t (Err status) → Serves (to_end Answers stop Accepted) refused asked s xs t status
  last_missed status a =
      subst (λ cs. Serves (to_end Answers stop Accepted) refused cs s xs t status) (append-nil asked) (serves_ended stop (final Accepted) (λ st. st) refused asked [] s t xs status a)

-- what is pending where the script ends
pub end_served : (f f' : Fed) → f ≡ f' → (asked : List Asked) → asked ≡ commands true f.pending.body (raw_lines f.pending.line) → (s t : Session) (xs : List (List ℕ)) (status : Status)
    → Serves (to_end Answers f.stop Accepted) f.refused asked s xs t status → Serves (to_end Answers f'.stop Accepted) f'.refused (commands true f'.pending.body (raw_lines f'.pending.line)) s xs t status
end_served f f' same cs last s t xs status served =
    subst (λ v. Serves (to_end Answers v.stop Accepted) v.refused (commands true v.pending.body (raw_lines v.pending.line)) s xs t status) same
    (subst (λ ds. Serves (to_end Answers f.stop Accepted) f.refused ds s xs t status) last served)
