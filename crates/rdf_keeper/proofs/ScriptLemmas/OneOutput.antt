-- Where memory never lacks, each command has one answer, and a script one output, but for the lines that are a reader's own choice.
use Rattle.std.proofs.Common.{◌≡◌, ◌≢◌, ◌⊎◌, inl, inr, ℕ, Bool, true, false, ◌&&◌, ◌||◌, List, [], ◌∷◌, ◌++◌, map, length, refl, sym, ap, ◌∙◌, subst, Result, Err}
use mathlib.Core.Bool.{true≢false}
use Rattle.std.specs.Prelude.{codes, is_err}
use Rattle.rdf_lines.specs.QuadText.{quad_text}
use Rattle.std.specs.List.{concat}
use Rattle.rdf_terms.specs.OrderLaws.{term_cmp_total, term_cmp-IsAntisymmetric, quad_cmp_total, quad_cmp-IsAntisymmetric}
use Rattle.rdf_dataset.specs.State.{net_between}
use Rattle.sparql_results.specs.declared.format.ResultsFormat.TheVariants.{Tsv}
use Rattle.rdf_session.specs.OneQueryReply.{DifferInFreeLine, OneQueryReply}
use Rattle.rdf_session.specs.OneReply.{IsFull, OneReply, SameReply}
use Rattle.rdf_session.specs.Session.{Session, Command, Reply, Refused as RefusedReply, now}
use Rattle.rdf_session.specs.Faults.{no_memory as no_memory_fault}
use Rattle.rdf_session.specs.declared.fault.KeeperFault.{KeeperFault}
use Rattle.rdf_session.specs.declared.query.Answer.{Answer}
use Rattle.rdf_keeper.specs.Script.Answers.{WritesReply, count_line, is_refused, query_text, reply_line}
use Rattle.rdf_keeper.specs.Script.Commands.{Asked, act, ask, bad, show, unended}
use Rattle.rdf_keeper.specs.Script.Show.{Shows, name_line}
use Rattle.rdf_keeper.specs.Script.OneOutput.{FirmAnswers, FullAnswers, IsWhole, OneOutput, OneText, SameAnswer, SameAnswers}
use Rattle.rdf_keeper.specs.Script.Runs.{Serves, to_end, final}
use Rattle.rdf_keeper.specs.declared.script.command.Topic.{Topic}
use Rattle.rdf_keeper.specs.declared.script.command.Topic.TheVariants.{Changes, Graphs, Quads, State}
use Rattle.rdf_keeper.specs.declared.script.status.Status.{Status}
use Rattle.rdf_keeper.specs.declared.script.status.Status.TheVariants.{Accepted, WriteFailed}
use Rattle.rdf_keeper.proofs.ScriptLemmas.OneShow.{one_sorted}
use Rattle.rdf_keeper.proofs.ScriptLemmas.Saved.{one_state_text}
use Rattle.rdf_keeper.specs.Script.Lines.{raw_lines}
use Rattle.rdf_keeper.specs.Script.Statuses.{no_memory}

-- ---- one topic

lines_same : (topic : Topic) (s : Session) (lines others : List (List ℕ)) → Shows topic s lines → Shows topic s others → lines ≡ others
lines_same Quads s lines others a b =
    a.2 ∙ ap (map _) (one_sorted quad_cmp_total quad_cmp-IsAntisymmetric (now s).quads a.0 b.0 a.1 b.1) ∙ sym b.2
lines_same Graphs s lines others a b =
    a.2 ∙ ap (map _) (one_sorted term_cmp_total term_cmp-IsAntisymmetric (now s).names a.0 b.0 a.1 b.1) ∙ sym b.2
lines_same Changes s lines others a b =
    let net = net_between s.base (now s) in
    let nr = one_sorted term_cmp_total term_cmp-IsAntisymmetric net.names_removed a.0 b.0 a.4 b.4 in
    let r = one_sorted quad_cmp_total quad_cmp-IsAntisymmetric net.removed a.1 b.1 a.5 b.5 in
    let na = one_sorted term_cmp_total term_cmp-IsAntisymmetric net.names_added a.2 b.2 a.6 b.6 in
    let d = one_sorted quad_cmp_total quad_cmp-IsAntisymmetric net.added a.3 b.3 a.7 b.7 in
    a.8 ∙ (λ i. map (λ n. codes "- graph " ++ name_line n) (nr i) ++ map (λ q. codes "- " ++ quad_text q) (r i)
    ++ map (λ n. codes "+ graph " ++ name_line n) (na i) ++ map (λ q. codes "+ " ++ quad_text q) (d i)) ∙ sym b.8
lines_same State s lines others a b = a.2 ∙ ap raw_lines (one_state_text (now s) a.0 b.0 a.1 b.1) ∙ sym b.2

-- ---- one answer

-- two answers, and what they say and leave
abbrev Alike : Asked → List ℕ → Bool → Session → List ℕ → Bool → Session → Type 0
Alike c text refused t other otherwise u = SameAnswer c text other × (refused ≡ otherwise) × (t ≡ u)

full_reply : (r : Reply) (text : List ℕ) → text ≡ reply_line r → text ≢ reply_line (RefusedReply no_memory_fault) → IsFull r
full_reply r text e n f = n (e ∙ ap reply_line f)

same_reply : (c : Command) (t u : Session) (text other : List ℕ) (refused otherwise : Bool) (r q : Reply) → SameReply c r q → t ≡ u → text ≡ reply_line r → refused ≡ is_refused r → other ≡ reply_line q → otherwise ≡ is_refused q → Alike (act c) text refused t other otherwise u
same_reply c t u text other refused otherwise r q (inl e) same a b d f = (inl (a ∙ ap reply_line e ∙ sym d), b ∙ ap is_refused e ∙ sym f, same)
same_reply c t u text other refused otherwise r q (inr (x, y, p, p', free)) same a b d f = (
  inr (x, y, (free.0, a ∙ ap reply_line p), (free.1, d ∙ ap reply_line p'), free.2),
  b ∙ ap is_refused p ∙ sym (f ∙ ap is_refused p'),
  same,
)

full_query : (r : Result Answer KeeperFault) (text : List ℕ) → text ≡ query_text r → text ≢ reply_line (RefusedReply no_memory_fault) → r ≢ Err no_memory_fault
full_query r text e n f = n (e ∙ ap query_text f)

same_query : (query : List ℕ) (s t u : Session) (text other : List ℕ) (refused otherwise : Bool) (a : WritesReply s query text refused) (b : WritesReply s query other otherwise) → (a.reply ≡ b.reply) ⊎ DifferInFreeLine a.reply b.reply → t ≡ u → Alike (ask query) text refused t other otherwise u
same_query query s t u text other refused otherwise a b (inl e) same =
    (inl (a.bytes ∙ ap query_text e ∙ sym b.bytes), a.refuses ∙ ap is_err e ∙ sym b.refuses, same)
same_query query s t u text other refused otherwise a b (inr d) same = (
  inr (d.fault, d.another, (d.free, a.bytes ∙ ap query_text d.refused), (d.free_too, b.bytes ∙ ap query_text d.refused_too), d.same),
  a.refuses ∙ ap is_err d.refused ∙ sym (b.refuses ∙ ap is_err d.refused_too),
  same,
)

module _ (one : OneReply) (one_query : OneQueryReply) where
  pub one_answer : (c : Asked) (s t u : Session) (text other : List ℕ) (refused otherwise : Bool) → FullAnswers c s text refused t → FullAnswers c s other otherwise u → Alike c text refused t other otherwise u
  one_answer (act c) s t u text other refused otherwise a b =
      let same = one s t u c a.0.0 b.0.0 a.0.1 (full_reply a.0.0 text a.0.2 a.1) b.0.1 (full_reply b.0.0 other b.0.2 b.1) in
      same_reply c t u text other refused otherwise a.0.0 b.0.0 same.0 same.1 a.0.2 a.0.3 b.0.2 b.0.3
  one_answer (ask query) s t u text other refused otherwise a b =
      let x = a.0.1 in let y = b.0.1 in
      let same = one_query Tsv s query x.reply y.reply x.replies (full_query x.reply text x.bytes a.1) y.replies (full_query y.reply other y.bytes b.1) in
      same_query query s t u text other refused otherwise x y same (a.0.0 ∙ sym b.0.0)
  one_answer (show topic) s t u text other refused otherwise a b =
      elim (a.0.1) [
        | inr p ↦ absurd (a.1 p.0)
        | inl p ↦ elim (b.0.1) [
          | inr q ↦ absurd (b.1 q.0)
          | inl q ↦
              let e = lines_same topic s p.0 q.0 p.1 q.1 in
              (inl (p.2 ∙ (λ i. concat (e i) ++ count_line (length (e i))) ∙ sym q.2), p.3 ∙ sym q.3, a.0.0 ∙ sym b.0.0)
        ]
      ]
  one_answer bad s t u text other refused otherwise a b = (inl (a.0.1 ∙ sym b.0.1), a.0.2 ∙ sym b.0.2, a.0.0 ∙ sym b.0.0)
  one_answer unended s t u text other refused otherwise a b = (inl (a.0.1 ∙ sym b.0.1), a.0.2 ∙ sym b.0.2, a.0.0 ∙ sym b.0.0)

  firm_answer : (c : Asked) (s t u : Session) (text other : List ℕ) (refused otherwise : Bool) → FirmAnswers c s text refused t → FullAnswers c s other otherwise u → (text ≡ other) × (refused ≡ otherwise) × (t ≡ u)
  firm_answer c s t u text other refused otherwise a b =
      let same = one_answer c s t u text other refused otherwise a.0 b in
      elim (same.0) [
        | inl e ↦ (e, same.1, same.2)
        | inr free ↦ absurd (a.1 free.0 free.2)
      ]

-- ---- one run, where two answers to a command are related, and so are lists of related answers

not_whole : {A : Type 0} (status : Status) → IsWhole status → status ≡ no_memory → A
not_whole status w e = absurd (subst IsWhole e w)

not_written : {A : Type 0} (status : Status) → IsWhole status → status ≡ WriteFailed → A
not_written status w e = absurd (subst IsWhole e w)

true_false : {A : Type 0} (a b : Bool) → a ≡ b → a ≡ true → b ≡ false → A
true_false a b e p q = absurd (true≢false (sym p ∙ e ∙ q))

module _ (May : Asked → Session → List ℕ → Bool → Session → Type 0) (Pair : Asked → List ℕ → List ℕ → Type 0) (Pairs : List Asked → List (List ℕ) → List (List ℕ) → Type 0)
    (one : (c : Asked) (s t u : Session) (text other : List ℕ) (refused otherwise : Bool) → May c s text refused t → FullAnswers c s other otherwise u → Pair c text other × (refused ≡ otherwise) × (t ≡ u))
    (none : (cs : List Asked) → Pairs cs [] [])
    (more : (c : Asked) (cs : List Asked) (text other : List ℕ) (texts others : List (List ℕ)) → Pair c text other → Pairs cs texts others → Pairs (c ∷ cs) (text ∷ texts) (other ∷ others)) where
  abbrev SameRun : List Asked → List (List ℕ) → Session → Status → List (List ℕ) → Session → Status → Type 0
  SameRun cs answers t status others u otherwise = Pairs cs answers others × (t ≡ u) × (status ≡ otherwise)

  pairs_are : (cs : List Asked) (answers others xs ys : List (List ℕ)) → answers ≡ xs → others ≡ ys → Pairs cs xs ys → Pairs cs answers others
  pairs_are cs answers others xs ys e f p = subst (λ a. Pairs cs a others) (sym e) (subst (λ b. Pairs cs xs b) (sym f) p)

  one_run : (stop refused before : Bool) (cs : List Asked) (s s' t u : Session) (answers others : List (List ℕ)) (status otherwise : Status) → refused ≡ before → s ≡ s' → Serves (to_end May stop Accepted) refused cs s answers t status → IsWhole status → Serves (to_end FullAnswers stop Accepted) before cs s' others u otherwise → IsWhole otherwise → SameRun cs answers t status others u otherwise
  one_run stop refused before [] s s' t u answers others status otherwise e f a w b v =
      elim (a.2) [
        | inr p ↦ not_whole status w p
        | inl p ↦ elim (b.2) [
          | inr q ↦ not_whole otherwise v q
          | inl q ↦ (pairs_are [] answers others [] [] a.0 b.0 (none []), a.1 ∙ f ∙ sym b.1, p ∙ ap (final Accepted) e ∙ sym q)
        ]
      ]
  one_run stop refused before (c ∷ cs) s s' t u answers others status otherwise e f a w b v =
      elim a [
        | inl p ↦ not_whole status w p.2
        | inr p ↦ elim b [
          | inl q ↦ not_whole otherwise v q.2
          | inr q ↦
              let same = one c s p.2 q.2 p.0 q.0 p.1 q.1 p.3 (subst (λ x. FullAnswers c x q.0 q.1 q.2) (sym f) q.3) in
              let halts = ap (λ r. stop && r) same.1 in
              elim (p.4) [
                | inl x ↦ not_written status w x.6
                | inr (inl x) ↦ elim (q.4) [
                  | inl y ↦ not_written otherwise v y.6
                  | inr (inl y) ↦ (pairs_are (c ∷ cs) answers others (p.0 ∷ []) (q.0 ∷ []) x.1 y.1 (more c cs p.0 q.0 [] [] same.0 (none cs)), x.2 ∙ same.2 ∙ sym y.2, x.3 ∙ sym y.3)
                  | inr (inr y) ↦ true_false (stop && p.1) (stop && q.1) halts x.0 y.0
                ]
                | inr (inr x) ↦ elim (q.4) [
                  | inl y ↦ not_written otherwise v y.6
                  | inr (inl y) ↦ true_false (stop && q.1) (stop && p.1) (sym halts) y.0 x.0
                  | inr (inr y) ↦
                      let rest = one_run stop (refused || p.1) (before || q.1) cs p.2 q.2 t u x.1 y.1 status otherwise (λ i. e i || same.1 i) same.2 x.3 w y.3 v in
                      (pairs_are (c ∷ cs) answers others (p.0 ∷ x.1) (q.0 ∷ y.1) x.2 y.2 (more c cs p.0 q.0 x.1 y.1 same.0 rest.0), rest.1, rest.2)
                ]
              ]
        ]
      ]

pub no_answers : (cs : List Asked) → SameAnswers cs [] []
no_answers [] = tt
no_answers (c ∷ cs) = tt

pub one_output : OneReply → OneQueryReply → OneOutput
one_output one one_query stop cs s t u answers others status otherwise a w b v =
    one_run FullAnswers SameAnswer SameAnswers (one_answer one one_query) no_answers (λ c cs text other texts others same rest. (same, rest))
    stop false false cs s s t u answers others status otherwise refl refl a w b v

pub one_text : OneReply → OneQueryReply → OneText
one_text one one_query stop cs s t u answers others status otherwise a w b v =
    one_run FirmAnswers (λ c text other. text ≡ other) (λ cs texts others. texts ≡ others) (firm_answer one one_query) (λ cs. refl) (λ c cs text other texts others e f. λ i. e i ∷ f i)
    stop false false cs s s t u answers others status otherwise refl refl a w b v
