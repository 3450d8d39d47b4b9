-- What a session answers to the bytes that its reader gives.
use Rattle.std.proofs.Common.{◌≡◌, inl, inr, ℕ, Bool, true, false, ◌||◌, not, cond, nat_eq, List, [], ◌∷◌, ◌++◌, Option, Some, None, refl, sym, ap, ◌∙◌, subst, append-nil}
use Rattle.rdf_session.specs.declared.fault.KeeperFault.{KeeperFault}
use Rattle.rdf_keeper.specs.Script.Answers.{Answers}
use Rattle.rdf_keeper.specs.Script.Commands.{Asked, Line, after_line, asks, body_asks, commands, is_end, line_of_words, opens, skipped}
use Rattle.rdf_keeper.specs.Script.LineWords.{words}
use Rattle.rdf_keeper.specs.Script.Lines.{bare, is_empty, raw_lines, upto_last_end}
use Rattle.std.specs.List.{onto_first}
use Rattle.rdf_keeper.specs.Script.OneOutput.{AreFirm, AreFull, FullAnswers, IsFree, IsWhole, OneOutput, OneOutputOfBytes, OneTextOfBytes, SameAnswer, SameAnswers}
use Rattle.rdf_keeper.specs.Script.Runs.{Serves, to_end, RunsOver}
use Rattle.rdf_session.specs.Session.{Session}
use Rattle.rdf_keeper.specs.declared.script.command.Body.{Body}
use Rattle.rdf_keeper.specs.declared.script.status.Status.{Status}
use Rattle.rdf_keeper.specs.declared.script.status.Status.TheVariants.{Accepted, ReadFailed, WriteFailed}
use Rattle.rdf_keeper.specs.Script.Statuses.{no_memory}

-- ---- the commands of a front of a text are the first of the text's

some_line : (b : ℕ) (bs : List ℕ) → (l : List ℕ) × (ls : List (List ℕ)) × (raw_lines (b ∷ bs) ≡ l ∷ ls)
some_line b bs =
    elim (nat_eq b 10) as (λ v. (l : List ℕ) × (ls : List (List ℕ)) × (cond v ((b ∷ []) ∷ raw_lines bs) (onto_first b (raw_lines bs)) ≡ l ∷ ls)) [
      | true ↦ (b ∷ [], raw_lines bs, refl)
      | false ↦ onto_some (raw_lines bs)
    ]
  where
    onto_some : (ls : List (List ℕ)) → (m : List ℕ) × (ms : List (List ℕ)) × (onto_first b ls ≡ m ∷ ms)
    onto_some [] = (b ∷ [], [], refl)
    onto_some (l ∷ ls) = (b ∷ l, ls, refl)

onto_front : (b : ℕ) (l : List ℕ) (ls rest whole : List (List ℕ)) → whole ≡ l ∷ ls → onto_first b (whole ++ rest) ≡ onto_first b whole ++ rest
onto_front b l ls rest whole e = rw e refl

-- the lines that have their ends in a front of a text are the first of the text
pub front_lines : (read more : List ℕ) → (others : List (List ℕ)) × (raw_lines (read ++ more) ≡ raw_lines (upto_last_end read) ++ others)
front_lines [] more = (raw_lines more, refl)
front_lines (b ∷ bs) more = by (nat_eq b 10) (upto_last_end bs) refl (front_lines bs more)
  where
    Front : Bool → List ℕ → Type 0
    Front v whole =
        (others : List (List ℕ)) × (cond v ((b ∷ []) ∷ raw_lines (bs ++ more)) (onto_first b (raw_lines (bs ++ more))) ≡ raw_lines (cond (v || not (is_empty whole)) (b ∷ whole) []) ++ others)

    by : (v : Bool) (whole : List ℕ) → nat_eq b 10 ≡ v → (others : List (List ℕ)) × (raw_lines (bs ++ more) ≡ raw_lines whole ++ others) → Front v whole
    by true whole e later = (later.0, rw e (ap (λ ls. (b ∷ []) ∷ ls) later.1))
    by false [] e later = (_, refl)
    by false (c ∷ cs) e later =
        let some = some_line c cs in
        (later.0, rw e (ap (onto_first b) later.1 ∙ onto_front b some.0 some.1 later.0 (raw_lines (c ∷ cs)) some.2))

-- a body that is open, and its text so far
abbrev Open : Type 0
Open = Option (Body × List ℕ)

-- the first commands of a longer list
abbrev IsFront : List Asked → List Asked → Type 0
IsFront all front = (more : List Asked) × (all ≡ front ++ more)

front_after : (line : Line) (front all : List Asked) (inside within : Body → List Asked) → IsFront all front → ((body : Body) → IsFront (within body) (inside body)) → IsFront (after_line line all within) (after_line line front inside)
front_after skipped front all inside within f g = f
front_after (opens body) front all inside within f g = g body
front_after (asks a) front all inside within f g = (f.0, ap (λ cs. a ∷ cs) f.1)

pub front_commands : (held : Open) (lines others : List (List ℕ)) → IsFront (commands true held (lines ++ others)) (commands false held lines)
front_commands None [] others = (commands true None others, refl)
front_commands (Some body) [] others = (commands true (Some body) others, refl)
front_commands None (line ∷ lines) others =
    front_after (line_of_words (words (bare line))) _ _ _ _ (front_commands None lines others) (λ body. front_commands (Some (body, [])) lines others)
front_commands (Some body) (line ∷ lines) others =
    let ends = front_commands None lines others in
    elim (is_end line) as (λ v. IsFront (cond v (body_asks body.0 body.1 ∷ commands true None (lines ++ others)) (commands true (Some (body.0, body.1 ++ line)) (lines ++ others)))
    (cond v (body_asks body.0 body.1 ∷ commands false None lines) (commands false (Some (body.0, body.1 ++ line)) lines))) [
      | true ↦ (ends.0, ap (λ cs. body_asks body.0 body.1 ∷ cs) ends.1)
      | false ↦ front_commands (Some (body.0, body.1 ++ line)) lines others
    ]

-- ---- runs that came to their end

not_whole : {A : Type 0} (status other : Status) → IsWhole status → status ≡ other → (IsWhole other → ⊥) → A
not_whole status other w e n = absurd (n (subst IsWhole e w))

-- where no answer is that memory is wanting
full_run : (stop refused : Bool) (last : Status) (cs : List Asked) (s t : Session) (answers : List (List ℕ)) (status : Status) → Serves (to_end Answers stop last) refused cs s answers t status → IsWhole status → AreFull answers → Serves (to_end FullAnswers stop last) refused cs s answers t status
full_run stop refused last [] s t answers status a w f = a
full_run stop refused last (c ∷ cs) s t answers status a w f =
    elim a [
      | inl p ↦ inl p
      | inr p ↦ elim (p.4) [
        | inl x ↦ not_whole status WriteFailed w x.6 (λ n. n)
        | inr (inl x) ↦ inr (p.0, p.1, p.2, (p.3, (subst AreFull x.1 f).0), inr (inl x))
        | inr (inr x) ↦
            let g = subst AreFull x.2 f in
            inr (p.0, p.1, p.2, (p.3, g.0), inr (inr (x.0, x.1, x.2, full_run stop (refused || p.1) last cs p.2 t x.1 status x.3 w g.1)))
      ]
    ]

-- a run that came to its end before the reader's fault counted is one over more commands
ended_run : (stop refused : Bool) (cs more : List Asked) (s t : Session) (answers : List (List ℕ)) (status : Status) → Serves (to_end FullAnswers stop ReadFailed) refused cs s answers t status → IsWhole status → Serves (to_end FullAnswers stop Accepted) refused (cs ++ more) s answers t status
ended_run stop refused [] more s t answers status a w = elim (a.2) [ inl p ↦ not_whole status ReadFailed w p (λ n. n) | inr p ↦ not_whole status no_memory w p (λ n. n) ]
ended_run stop refused (c ∷ cs) more s t answers status a w =
    elim a [
      | inl p ↦ not_whole status no_memory w p.2 (λ n. n)
      | inr p ↦ elim (p.4) [
        | inl x ↦ not_whole status WriteFailed w x.6 (λ n. n)
        | inr (inl x) ↦ inr (p.0, p.1, p.2, p.3, inr (inl x))
        | inr (inr x) ↦ inr (p.0, p.1, p.2, p.3, inr (inr (x.0, x.1, x.2, ended_run stop (refused || p.1) cs more p.2 t x.1 status x.3 w)))
      ]
    ]

-- what a whole session over bytes answers is a run over the commands of these bytes
pub run_of_bytes : (stop : Bool) (text : List ℕ) (after : Option (List ℕ)) (s t : Session) (answers : List (List ℕ)) (status : Status) → RunsOver stop (Some text) after s answers t status → IsWhole status → AreFull answers → Serves (to_end FullAnswers stop Accepted) false (commands true None (raw_lines text)) s answers t status
run_of_bytes stop text None s t answers status a w f = absurd a.consumed
run_of_bytes stop text (Some left) s t answers status a w f =
    let bytes = a.read ++ a.last in
    elim (a.ends) [
      | inl x ↦
          let all : text ≡ bytes = a.consumed ∙ ap (λ ys. bytes ++ ys) x.0 ∙ append-nil bytes in
          subst (λ bs. Serves (to_end FullAnswers stop Accepted) false (commands true None (raw_lines bs)) s answers t status) (sym all)
          (full_run stop false Accepted (commands true None (raw_lines bytes)) s t answers status x.1 w f)
      | inr x ↦
          let lines = front_lines bytes left in
          let front = front_commands None (raw_lines (upto_last_end bytes)) lines.0 in
          let all : commands true None (raw_lines text) ≡ commands false None (raw_lines (upto_last_end bytes)) ++ front.0 =
          ap (λ bs. commands true None (raw_lines bs)) a.consumed ∙ ap (commands true None) lines.1 ∙ front.1 in
          subst (λ cs. Serves (to_end FullAnswers stop Accepted) false cs s answers t status) (sym all)
          (ended_run stop false (commands false None (raw_lines (upto_last_end bytes))) front.0 s t answers status
          (full_run stop false ReadFailed (commands false None (raw_lines (upto_last_end bytes))) s t answers status x w f) w)
    ]

pub one_output_of_bytes : OneOutput → OneOutputOfBytes
one_output_of_bytes one stop text after other s t u answers others status otherwise a w f b v g =
    one stop (commands true None (raw_lines text)) s t u answers others status otherwise
    (run_of_bytes stop text after s t answers status a w f) w (run_of_bytes stop text other s u others otherwise b v g) v

same_text : (c : Asked) (text other : List ℕ) → SameAnswer c text other → ((fault : KeeperFault) → ¬ IsFree c fault text) → text ≡ other
same_text c text other same firm = elim same [ inl e ↦ e | inr free ↦ absurd (firm free.0 free.2) ]

same_texts : (cs : List Asked) (answers others : List (List ℕ)) → SameAnswers cs answers others → AreFirm cs answers → answers ≡ others
same_texts [] [] [] same firm = refl
same_texts [] [] (x ∷ xs) same firm = absurd same
same_texts [] (x ∷ xs) others same firm = absurd firm
same_texts (c ∷ cs) [] [] same firm = refl
same_texts (c ∷ cs) [] (x ∷ xs) same firm = absurd same
same_texts (c ∷ cs) (text ∷ texts) [] same firm = absurd same
same_texts (c ∷ cs) (text ∷ texts) (other ∷ others) same firm =
    let e = same_text c text other same.0 firm.0 in
    let es = same_texts cs texts others same.1 firm.1 in
    λ i. e i ∷ es i

pub one_text_of_bytes : OneOutput → OneTextOfBytes
one_text_of_bytes one stop text after other s t u answers others status otherwise a w f firm b v g =
    let same = one_output_of_bytes one stop text after other s t u answers others status otherwise a w f b v g in
    (same_texts (commands true None (raw_lines text)) answers others same.0 firm, same.1, same.2)
