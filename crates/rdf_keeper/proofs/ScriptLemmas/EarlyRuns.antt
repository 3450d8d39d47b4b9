-- What sessions answer that are given the same bytes, however they end.
use Rattle.std.proofs.Common.{◌≡◌, ◌≢◌, ◌⊎◌, inl, inr, ℕ, Bool, true, false, ◌&&◌, ◌||◌, List, [], ◌∷◌, ◌++◌, length, append-nil, Option, Some, None, refl, sym, ap, ◌∙◌, subst}
use mathlib.Core.Bool.{true≢false}
use Rattle.std.proofs.lemmas.Slice.Eq.{bytes_eq-Decides}
use Rattle.std.specs.Str.{bytes_eq}
use Rattle.rdf_session.specs.OneQueryReply.{OneQueryReply}
use Rattle.rdf_session.specs.OneReply.{OneReply}
use Rattle.rdf_session.specs.Session.{Session, Command, Reply, Changed, Done, Refused as RefusedReply, Transition}
use Rattle.rdf_session.specs.Faults.{no_memory as no_memory_fault}
use Rattle.rdf_keeper.specs.Script.Answers.{Answers, reply_line}
use Rattle.rdf_keeper.specs.Script.Commands.{Asked, act, ask, bad, commands, show, unended}
use Rattle.rdf_keeper.specs.Script.EarlyRuns.{AreFirst, EarlyRunsAgree, WrittenOf}
use Rattle.rdf_keeper.specs.Script.Lines.{raw_lines, upto_last_end}
use Rattle.rdf_keeper.specs.Script.OneOutput.{AreFull, FullAnswers, IsWhole, SameAnswer}
use Rattle.rdf_keeper.specs.Script.Runs.{Serves, final, to_end, RunsOver}
use Rattle.rdf_keeper.specs.Script.Statuses.{no_memory}
use Rattle.rdf_keeper.specs.declared.script.status.Status.{Status}
use Rattle.rdf_keeper.specs.declared.script.status.Status.TheVariants.{Accepted, NoMemory, ReadFailed, Refused, WriteFailed}
use Rattle.rdf_keeper.proofs.ScriptLemmas.Examples.{differs}
use Rattle.rdf_keeper.proofs.ScriptLemmas.OneOutput.{no_answers, one_answer}
use Rattle.rdf_keeper.proofs.ScriptLemmas.OneOutputOfBytes.{front_commands, front_lines}

-- ---- answers that were made, and all answers

-- from s the first of the commands are answered so, and lead to t
abbrev Goes : Bool → List Asked → Session → List (List ℕ) → Session → Type 0
Goes stop cs s [] t = t ≡ s
Goes stop [] s (text ∷ texts) t = ⊥
Goes stop (c ∷ cs) s (text ∷ texts) t =
    (refused : Bool) × (mid : Session) × FullAnswers c s text refused mid × Goes stop cs mid texts t × ((stop && refused) ≡ true → texts ≡ [])

-- and no other command is
abbrev Whole : Bool → List Asked → Session → List (List ℕ) → Session → Type 0
Whole stop [] s texts t = (texts ≡ []) × (t ≡ s)
Whole stop (c ∷ cs) s [] t = ⊥
Whole stop (c ∷ cs) s (text ∷ texts) t =
    (refused : Bool) × (mid : Session) × FullAnswers c s text refused mid
    × ((((stop && refused) ≡ true) × (texts ≡ [])) ⊎ (((stop && refused) ≡ false) × Whole stop cs mid texts t))

first_more : (c : Asked) (cs : List Asked) (text other : List ℕ) (texts others : List (List ℕ)) → SameAnswer c text other → AreFirst cs texts others → AreFirst (c ∷ cs) (text ∷ texts) (other ∷ others)
first_more c cs text other texts others same first = (other ∷ first.0, first.1, (same, first.2), ap (λ all. other ∷ all) first.3)

first_none : (cs : List Asked) (others : List (List ℕ)) → AreFirst cs [] others
first_none cs others = ([], others, no_answers cs, refl)

module _ (one : OneReply) (one_query : OneQueryReply) where
  -- two that go on agree
  both_go : (stop : Bool) (cs : List Asked) (s s' t u : Session) (made there : List (List ℕ)) → s ≡ s' → Goes stop cs s made t → Goes stop cs s' there u → (AreFirst cs made there ⊎ AreFirst cs there made) × (length made ≡ length there → t ≡ u)
  both_go stop cs s s' t u [] [] e a b = (inl (first_none cs []), λ n. a ∙ e ∙ sym b)
  both_go stop cs s s' t u [] (y ∷ ys) e a b = (inl (first_none cs (y ∷ ys)), λ n. cc)
  both_go stop cs s s' t u (x ∷ xs) [] e a b = (inr (first_none cs (x ∷ xs)), λ n. cc)
  both_go stop [] s s' t u (x ∷ xs) (y ∷ ys) e a b = absurd a
  both_go stop (c ∷ cs) s s' t u (x ∷ xs) (y ∷ ys) e a b =
      let there = subst (λ z. FullAnswers c z y b.0 b.1) (sym e) b.2 in
      let same = one_answer one one_query c s a.1 b.1 x y a.0 b.0 a.2 there in
      let back = one_answer one one_query c s b.1 a.1 y x b.0 a.0 there a.2 in
      let rest = both_go stop cs a.1 b.1 t u xs ys same.2 a.3 b.3 in (
        elim (rest.0) [
          | inl p ↦ inl (first_more c cs x y xs ys same.0 p)
          | inr p ↦ inr (first_more c cs y x ys xs back.0 p)
        ],
        λ n. rest.1 (let m : length xs ≡ length ys = cc in m),
      )

  -- one that goes on has the first answers of a whole one
  first_of_whole : (stop : Bool) (cs : List Asked) (s s' t u : Session) (made all : List (List ℕ)) → s ≡ s' → Goes stop cs s made t → Whole stop cs s' all u → AreFirst cs made all
  first_of_whole stop cs s s' t u [] all e a b = first_none cs all
  first_of_whole stop [] s s' t u (x ∷ xs) all e a b = absurd a
  first_of_whole stop (c ∷ cs) s s' t u (x ∷ xs) [] e a b = absurd b
  first_of_whole stop (c ∷ cs) s s' t u (x ∷ xs) (y ∷ ys) e a b =
      let same = one_answer one one_query c s a.1 b.1 x y a.0 b.0 a.2 (subst (λ z. FullAnswers c z y b.0 b.1) (sym e) b.2) in
      elim (b.3) [
        | inl p ↦
            let none : xs ≡ [] = a.4 (ap (λ r. stop && r) same.1 ∙ p.0) in
            first_more c cs x y xs ys same.0 (subst (λ texts. AreFirst cs texts ys) (sym none) (first_none cs ys))
        | inr p ↦ first_more c cs x y xs ys same.0 (first_of_whole stop cs a.1 b.1 t u xs ys same.2 a.3 p.1)
      ]

-- ---- a run has made answers

still_more : (status : Status) (text : List ℕ) (made answers written : List (List ℕ)) → WrittenOf status made answers → written ≡ text ∷ answers → WrittenOf status (text ∷ made) written
still_more WriteFailed text made answers written w e =
    (text ∷ w.0, w.1, w.2, w.3, e ∙ ap (λ all. text ∷ all) w.4, elim (w.5) [ inl p ↦ inl (ap (λ all. text ∷ all) p) | inr p ↦ inr (ap (λ all. text ∷ all) p.0, p.1) ])
still_more Accepted text made answers written w e = e ∙ ap (λ all. text ∷ all) w
still_more Refused text made answers written w e = e ∙ ap (λ all. text ∷ all) w
still_more ReadFailed text made answers written w e = e ∙ ap (λ all. text ∷ all) w
still_more (NoMemory r) text made answers written w e = e ∙ ap (λ all. text ∷ all) w

-- by another name of the status
written_as : (status other : Status) (made written : List (List ℕ)) → status ≡ other → WrittenOf other made written → WrittenOf status made written
written_as status other made written e w = subst (λ x. WrittenOf x made written) (sym e) w

not_whole : {A : Type 0} (status other : Status) → status ≡ other → (IsWhole other → ⊥) → IsWhole status → A
not_whole status other e n w = absurd (n (subst IsWhole e w))

-- an answer that memory is wanting leaves the session as it was
wanting_reply : (s t : Session) (c : Command) (r : Reply) → reply_line r ≡ reply_line (RefusedReply no_memory_fault) → Transition s c r t → t ≡ s
wanting_reply s t c (RefusedReply fault) e st = st.1
wanting_reply s t c (Changed counts) e st = absurd (differs (reply_line (Changed counts)) 0 refl e)
wanting_reply s t c Done e st = absurd (differs (reply_line Done) 0 refl e)

wanting_leaves : (c : Asked) (s t : Session) (text : List ℕ) (refused : Bool) → Answers c s text refused t → text ≡ reply_line (RefusedReply no_memory_fault) → t ≡ s
wanting_leaves (act c) s t text refused a e = wanting_reply s t c a.0 (sym a.2 ∙ e) a.1
wanting_leaves (ask query) s t text refused a e = a.0
wanting_leaves (show topic) s t text refused a e = a.0
wanting_leaves bad s t text refused a e = a.0
wanting_leaves unended s t text refused a e = a.0

-- what a run over a front of the commands has made
record Makes (stop : Bool) (all : List Asked) (s : Session) (answers : List (List ℕ)) (t : Session) (status : Status) : Type 0 where
  made : List (List ℕ)
  written : WrittenOf status made answers
  goes : Goes stop all s made t
  whole : IsWhole status → Whole stop all s made t

module _ (stop : Bool) (more : List Asked) (s t : Session) (answers : List (List ℕ)) (status : Status) where
  -- nothing is answered
  none_made : (all : List Asked) (other : Status) → answers ≡ [] → t ≡ s → status ≡ other → WrittenOf other [] [] → (IsWhole other → Whole stop all s [] s) → Makes stop all s answers t status
  none_made all other n same e w whole = record {
    made = [];
    written = written_as status other [] answers e (subst (WrittenOf other []) (sym n) w);
    goes = same;
    whole = λ v. subst (Whole stop all s []) (sym same) (whole (subst IsWhole e v));
  }

module _ (stop : Bool) (c : Asked) (cs : List Asked) (s mid : Session) (text : List ℕ) (refused : Bool) (may : Answers c s text refused mid) where
  -- an answer breaks off
  broken_made : (answers : List (List ℕ)) (t : Session) (status : Status) (front rest : List ℕ) → text ≡ front ++ rest → rest ≢ [] → answers ≡ front ∷ [] → t ≡ mid → status ≡ WriteFailed → Makes stop (c ∷ cs) s answers t status
  broken_made answers t status front rest parts some n same e = by (bytes_eq text (reply_line (RefusedReply no_memory_fault))) refl
    where
      decides : (text ≡ reply_line (RefusedReply no_memory_fault)) → bytes_eq text (reply_line (RefusedReply no_memory_fault)) ≡ true
      decides = (bytes_eq-Decides text (reply_line (RefusedReply no_memory_fault))).1

      by : (v : Bool) → bytes_eq text (reply_line (RefusedReply no_memory_fault)) ≡ v → Makes stop (c ∷ cs) s answers t status
      by true is =
          let wanting = (bytes_eq-Decides text (reply_line (RefusedReply no_memory_fault))).0 is in
          record {
            made = [];
            written = written_as status WriteFailed [] answers e ([], front, rest, some, n, inr (refl, sym parts ∙ wanting));
            goes = same ∙ wanting_leaves c s mid text refused may wanting;
            whole = not_whole status WriteFailed e (λ w. w);
          }
      by false is = record {
        made = text ∷ [];
        written = written_as status WriteFailed (text ∷ []) answers e ([], front, rest, some, n, inl (ap (λ x. x ∷ []) parts));
        goes = (refused, mid, (may, λ w. true≢false (sym (decides w) ∙ is)), same, λ h. refl);
        whole = not_whole status WriteFailed e (λ w. w);
      }

  module _ (full : text ≢ reply_line (RefusedReply no_memory_fault)) where
    -- the session ends at it
    stopped_made : (answers : List (List ℕ)) (t : Session) (status : Status) → (stop && refused) ≡ true → answers ≡ text ∷ [] → t ≡ mid → status ≡ Refused → Makes stop (c ∷ cs) s answers t status
    stopped_made answers t status halts n same e = record {
      made = text ∷ [];
      written = written_as status Refused (text ∷ []) answers e n;
      goes = (refused, mid, (may, full), same, λ h. refl);
      whole = λ w. (refused, mid, (may, full), inl (halts, refl));
    }

    -- or goes on
    further_made : (answers others : List (List ℕ)) (t : Session) (status : Status) → (stop && refused) ≡ false → answers ≡ text ∷ others → Makes stop cs mid others t status → Makes stop (c ∷ cs) s answers t status
    further_made answers others t status on n rest = record {
      made = text ∷ rest.made;
      written = still_more status text rest.made others answers rest.written n;
      goes = (refused, mid, (may, full), rest.goes, λ h. absurd (true≢false (sym h ∙ on)));
      whole = λ w. (refused, mid, (may, full), inr (on, rest.whole w));
    }

-- A run over the first of all commands, where behind the last of them it ended whole only if these are all.
module _ (stop : Bool) (last : Status) (more : List Asked) (plain : (r : Bool) → WrittenOf (final last r) [] []) (all : (r : Bool) → IsWhole (final last r) → more ≡ []) where
  run_makes : (refused : Bool) (cs : List Asked) (s t : Session) (answers : List (List ℕ)) (status : Status) → Serves (to_end Answers stop last) refused cs s answers t status → AreFull answers → Makes stop (cs ++ more) s answers t status
  run_makes refused [] s t answers status a f =
      elim (a.2) [
        | inl p ↦ none_made stop more s t answers status more (final last refused) a.0 a.1 p (plain refused) (λ w. subst (λ rest. Whole stop rest s [] s) (sym (all refused w)) (refl, refl))
        | inr p ↦ none_made stop more s t answers status more no_memory a.0 a.1 p refl (λ w. absurd w)
      ]
  run_makes refused (c ∷ cs) s t answers status a f =
      elim a [
        | inl p ↦ none_made stop more s t answers status (c ∷ (cs ++ more)) no_memory p.0 p.1 p.2 refl (λ w. absurd w)
        | inr p ↦ elim (p.4) [
          | inl x ↦ broken_made stop c (cs ++ more) s p.2 p.0 p.1 p.3 answers t status x.0 x.1 x.2 x.3 x.4 x.5 x.6
          | inr (inl x) ↦ stopped_made stop c (cs ++ more) s p.2 p.0 p.1 p.3 (subst AreFull x.1 f).0 answers t status x.0 x.1 x.2 x.3
          | inr (inr x) ↦
              let g = subst AreFull x.2 f in
              further_made stop c (cs ++ more) s p.2 p.0 p.1 p.3 g.0 answers x.1 t status x.0 x.2 (run_makes (refused || p.1) cs p.2 t x.1 status x.3 g.1)
        ]
      ]

accepted_plain : (r : Bool) → WrittenOf (final Accepted r) [] []
accepted_plain true = refl
accepted_plain false = refl

-- ---- over bytes

bytes_make : (stop : Bool) (text : List ℕ) (after : Option (List ℕ)) (s t : Session) (answers : List (List ℕ)) (status : Status) → RunsOver stop (Some text) after s answers t status → AreFull answers → Makes stop (commands true None (raw_lines text)) s answers t status
bytes_make stop text None s t answers status a f = absurd a.consumed
bytes_make stop text (Some left) s t answers status a f =
    let bytes = a.read ++ a.last in
    elim (a.ends) [
      | inl x ↦
          let all : text ≡ bytes = a.consumed ∙ ap (λ ys. bytes ++ ys) x.0 ∙ append-nil bytes in
          subst (λ cs. Makes stop cs s answers t status) (append-nil (commands true None (raw_lines bytes)) ∙ ap (λ bs. commands true None (raw_lines bs)) (sym all))
          (run_makes stop Accepted [] accepted_plain (λ r w. refl) false (commands true None (raw_lines bytes)) s t answers status x.1 f)
      | inr x ↦
          let lines = front_lines bytes left in
          let front = front_commands None (raw_lines (upto_last_end bytes)) lines.0 in
          let all : commands true None (raw_lines text) ≡ commands false None (raw_lines (upto_last_end bytes)) ++ front.0 =
          ap (λ bs. commands true None (raw_lines bs)) a.consumed ∙ ap (commands true None) lines.1 ∙ front.1 in
          subst (λ cs. Makes stop cs s answers t status) (sym all)
          (run_makes stop ReadFailed front.0 (λ r. refl) (λ r w. absurd w) false (commands false None (raw_lines (upto_last_end bytes))) s t answers status x f)
    ]

pub early_runs_agree : OneReply → OneQueryReply → EarlyRunsAgree
early_runs_agree one one_query stop text after other s t u answers others status otherwise a f b g =
    let all = commands true None (raw_lines text) in
    let p = bytes_make stop text after s t answers status a f in
    let q = bytes_make stop text other s u others otherwise b g in
    let both = both_go one one_query stop all s s t u p.made q.made refl p.goes q.goes in
    record {
      made = p.made;
      made_there = q.made;
      written = p.written;
      written_there = q.written;
      agree = both.0;
      whole = λ w. first_of_whole one one_query stop all s s u t q.made p.made refl q.goes (p.whole w);
      whole_there = λ w. first_of_whole one one_query stop all s s t u p.made q.made refl p.goes (q.whole w);
      session = both.1;
    }
