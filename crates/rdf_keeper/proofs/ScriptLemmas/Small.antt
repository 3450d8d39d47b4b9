-- Scripts of one command with a body, and its answers.
use Rattle.std.proofs.Common.{◌≡◌, ◌∙◌, refl, sym, ap, ℕ, Bool, true, false, List, [], ◌∷◌, ◌++◌, append-nil, append_assoc, Some, None, inl}
use Rattle.std.specs.Prelude.{Result, Ok, Err, codes, if◌then◌else◌, is_err}
use Rattle.std.specs.List.{concat}
use Rattle.rdf_session.specs.Query.{Replies}
use Rattle.rdf_session.specs.Session.{Changed}
use Rattle.rdf_session.specs.declared.fault.KeeperFault.{KeeperFault}
use Rattle.rdf_session.specs.declared.query.Answer.{Answer}
use Rattle.rdf_keeper.specs.Script.Answers.{count_line, query_text}
use Rattle.rdf_keeper.specs.Script.Commands.{body_asks, commands}
use Rattle.rdf_keeper.specs.Script.LineLaws.{IsEnded}
use Rattle.rdf_keeper.specs.Script.Lines.{raw_lines}
use Rattle.rdf_keeper.specs.Script.Small.{AnswersAreReplies, AreBodyLines, ChangesAreShown, QueryScriptAsks, RepliesAreAnswers, UpdateScriptActs, body_script}
use Rattle.rdf_keeper.specs.declared.script.command.Body.{Body}
use Rattle.rdf_keeper.specs.declared.script.command.Body.TheVariants.{Update as UpdateBody, Query as QueryBody}
use Rattle.rdf_keeper.proofs.ScriptLemmas.Cuts.{cut_front}

-- ---- the lines of such a script

body_cut : (lines : List (List ℕ)) (rest : List ℕ) → AreBodyLines lines → raw_lines (concat lines ++ rest) ≡ lines ++ raw_lines rest
body_cut [] rest all = refl
body_cut (line ∷ lines) rest all =
    ap raw_lines (append_assoc line (concat lines) rest) ∙ cut_front line (concat lines ++ rest) all.0.0 ∙ ap (λ ls. line ∷ ls) (body_cut lines rest all.1)

inside : (body : Body) (acc : List ℕ) (lines : List (List ℕ)) → AreBodyLines lines → commands true (Some (body, acc)) (lines ++ codes "%end\n" ∷ []) ≡ body_asks body (acc ++ concat lines) ∷ []
inside body acc [] all = ap (λ t. body_asks body t ∷ []) (sym (append-nil acc))
inside body acc (line ∷ lines) all =
    ap (λ (b : Bool). if b then body_asks body acc ∷ commands true None (lines ++ codes "%end\n" ∷ []) else commands true (Some (body, acc ++ line)) (lines ++ codes "%end\n" ∷ [])) all.0.1
    ∙ inside body (acc ++ line) lines all.1 ∙ ap (λ t. body_asks body t ∷ []) (append_assoc acc line (concat lines))

query_opens : IsEnded (codes "%query\n")
query_opens = (codes "%query", refl, ((λ e. cc), ((λ e. cc), ((λ e. cc), ((λ e. cc), ((λ e. cc), ((λ e. cc), tt)))))))

update_opens : IsEnded (codes "%update\n")
update_opens = (codes "%update", refl, ((λ e. cc), ((λ e. cc), ((λ e. cc), ((λ e. cc), ((λ e. cc), ((λ e. cc), ((λ e. cc), tt))))))))

script_lines : (opener : List ℕ) (lines : List (List ℕ)) → IsEnded opener → AreBodyLines lines → raw_lines (body_script opener lines) ≡ opener ∷ (lines ++ codes "%end\n" ∷ [])
script_lines opener lines ended all = cut_front opener (concat lines ++ codes "%end\n") ended ∙ ap (λ ls. opener ∷ ls) (body_cut lines (codes "%end\n") all)

pub query_script_asks : QueryScriptAsks
query_script_asks lines all = ap (commands true None) (script_lines (codes "%query\n") lines query_opens all) ∙ inside QueryBody [] lines all

pub update_script_acts : UpdateScriptActs
update_script_acts lines all = ap (commands true None) (script_lines (codes "%update\n") lines update_opens all) ∙ inside UpdateBody [] lines all

-- ---- the answers

pub replies_are_answers : RepliesAreAnswers
replies_are_answers s query answer replies = (refl, record { reply = Ok answer; replies = replies; bytes = refl; refuses = refl })

pub answers_are_replies : AnswersAreReplies
answers_are_replies s t query text (same, w) = by w.reply w.replies w.bytes w.refuses
  where
    by : (r : Result Answer KeeperFault) → Replies s query r → text ≡ query_text r → false ≡ is_err r → (answer : Answer) × Replies s query (Ok answer) × (text ≡ answer.payload ++ count_line answer.rows) × (t ≡ s)
    by (Ok answer) replies bytes refuses = (answer, replies, bytes, same)
    by (Err fault) replies bytes refuses = cc

pub changes_are_shown : ChangesAreShown
changes_are_shown s end request counts topic lines made shows = ((Changed counts, made, refl, refl), (refl, inl (lines, shows, refl, refl)))
