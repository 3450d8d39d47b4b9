-- A document that is read statement by statement.
use Rattle.std.proofs.Common.{◌≡◌, ℕ, suc, ◌+◌, ◌≤◌, ◌<◌, length, arith, true, false, List, [], ◌∷◌, ◌++◌, Option, Some, None, Result, Ok, Err, IfOk, MatchResult, refl, sym, ap, subst, ◌∙◌, append_assoc, add-one}
use Rattle.std.proofs.lemmas.List.{append-nil}
use Rattle.std.specs.List.{AllByRecursion}
use Rattle.rdf_terms.specs.Quad.{QuadParts}
use Rattle.rdf_turtle.specs.declared.fault.TurtleFaultKind.{TurtleFaultKind}
use Rattle.rdf_turtle.specs.declared.fault.TurtleFaultKind.TheVariants as fault
use Rattle.rdf_turtle.specs.declared.straight.Pending.{Pending}
use Rattle.rdf_turtle.specs.declared.straight.Pending.TheVariants.{Nothing, Relative, UnknownPrefix}
use Rattle.rdf_turtle.specs.declared.tree.Statement.{Statement}
use Rattle.rdf_turtle.specs.Inside.Formed.{Formed}
use Rattle.rdf_turtle.specs.Inside.Proper.{proper_statement}
use Rattle.rdf_turtle.specs.Inside.Room as rooms
use Rattle.rdf_turtle.specs.Known.{known_statement, declared_behind, declares_first}
use Rattle.rdf_turtle.specs.Meaning as meaning
use Rattle.rdf_grammar.specs.Prologue as prologue
use Rattle.rdf_grammar.specs.Readings.{is_more, one, repeat}
use Rattle.rdf_turtle.specs.Inside.Reading.{node, statement, document}
use Rattle.rdf_turtle.specs.Lexemes.{Lexemes}
use Rattle.rdf_turtle.specs.ParserState.{ParserState, longest, start}
use Rattle.rdf_grammar.specs.Steps.{and_then}
use Rattle.rdf_turtle.specs.Inside.Turns.{IfNothing, Becomes, Turn, LeavesPending, Turns, TellsPending, TellsDocument, StopsReading, StopsWith}
use Rattle.rdf_turtle.proofs.BaseTrees.{statement_of_formed}
use Rattle.rdf_grammar.proofs.CallerLemmas.{one_reads, one_fails, no_more, Going, going_starts, going_on, going_done, going_fails}
use Rattle.rdf_turtle.proofs.GrammarStatements.{statement_derived}
use Rattle.rdf_turtle.proofs.GrammarWhole.{found_within}

-- ---- what was said, behind statements that leave these prefixes

pub record Saying (before : ParserState) (whole now : Lexemes) (state : ParserState) (declared : List (List ℕ)) (tree : List Statement) : Type 0 where
  pub says : (ss : List Statement) → meaning.document (tree ++ ss) before ≡ meaning.document ss state
  pub known : (ss : List Statement) → declares_first [] (tree ++ ss) ≡ declares_first declared ss
  pub prefixes : declared ≡ prologue.declared state.prologue
  pub room : state.numbering.next + length now ≤ length state.quads + length whole

pub record Lacking (before : ParserState) (declared : List (List ℕ)) (tree : List Statement) : Type 0 where
  pub fails : (ss : List Statement) → meaning.document (tree ++ ss) before ≡ None
  pub known : (ss : List Statement) → declares_first [] (tree ++ ss) ≡ declares_first declared ss

pub record Unbound (tree : List Statement) : Type 0 where
  pub unknown : (ss : List Statement) → declares_first [] (tree ++ ss) ≡ false

abbrev pub SoFar : Pending → ParserState → Lexemes → Lexemes → ParserState → List (List ℕ) → List Statement → Type 0
SoFar Nothing before whole now state declared tree = Saying before whole now state declared tree
SoFar Relative before whole now state declared tree = Lacking before declared tree
SoFar UnknownPrefix before whole now state declared tree = Unbound tree

-- The lexemes but for those that are left were read as statements, and this is pending behind them.
pub record Read (depth : ℕ) (before : ParserState) (whole now : Lexemes) (pending : Pending) (state : ParserState) (declared : List (List ℕ)) : Type 0 where
  pub tree : List Statement
  pub going : Going is_more (one (statement (node depth) (node (depth + 1)))) (document depth whole) tree now
  pub formed : AllByRecursion Formed now
  pub so_far : SoFar pending before whole now state declared tree

-- ---- where reading begins

going_first : (depth : ℕ) (whole : Lexemes) → Going is_more (one (statement (node depth) (node (depth + 1)))) (document depth whole) [] whole
unfolding document
going_first depth whole =
    subst (λ (n : ℕ). Going is_more (one (statement (node depth) (node n))) (repeat is_more (one (statement (node depth) (node (suc depth)))) whole) [] whole) (sym (add-one depth))
    (going_starts is_more (one (statement (node depth) (node (suc depth)))) whole)

pub read_starts : (depth : ℕ) (before : ParserState) (whole : Lexemes) (declared : List (List ℕ)) → AllByRecursion Formed whole → prologue.declared before.prologue ≡ [] → before.numbering.next ≤ length before.quads
    → declared ≡ [] → Read depth before whole whole Nothing before declared
read_starts depth before whole declared formed none room p =
    let first : Read depth before whole whole Nothing before [] = record {
      tree = [];
      going = going_first depth whole;
      formed = formed;
      so_far = record { says = λ ss. refl; known = λ ss. refl; prefixes = sym none; room = omega (arith, room) };
    } in
    subst (λ (d : List (List ℕ)). Read depth before whole whole Nothing before d) (sym p) first

-- ---- one statement more

-- the next statement is proper, and the lexemes behind it have forms
pub next_proper : (depth : ℕ) (now then : Lexemes) (s : Statement) → AllByRecursion Formed now → statement (node depth) (node (depth + 1)) now ≡ Some (s, then)
    → (proper_statement s ≡ true) × AllByRecursion Formed then
next_proper depth now then s formed reads =
    statement_of_formed depth now s then formed (statement_derived depth now then s (subst (λ (n : ℕ). statement (node depth) (node n) now ≡ Some (s, then)) (add-one depth) reads))

behind : (s : Statement) (ss : List Statement) (declared : List (List ℕ)) → known_statement declared s ≡ true → declares_first declared (s ∷ ss) ≡ declares_first (declared_behind declared s) ss
behind s ss declared known = rw known refl

unknown_behind : (s : Statement) (ss : List Statement) (declared : List (List ℕ)) → known_statement declared s ≡ false → declares_first declared (s ∷ ss) ≡ false
unknown_behind s ss declared known = rw known refl

-- what holds of the statements so far with any behind them holds with one more
one_more : (tree : List Statement) (s : Statement) (P : List Statement → Type 0) → ((ss : List Statement) → P (tree ++ ss)) → (ss : List Statement) → P ((tree ++ s ∷ []) ++ ss)
one_more tree s P h ss = subst P (sym (append_assoc tree (s ∷ []) ss)) (h (s ∷ ss))

known_on : (declared more : List (List ℕ)) (tree : List Statement) (s : Statement) → ((ss : List Statement) → declares_first [] (tree ++ ss) ≡ declares_first declared ss)
    → known_statement declared s ≡ true → more ≡ declared_behind declared s → (ss : List Statement) → declares_first [] ((tree ++ s ∷ []) ++ ss) ≡ declares_first more ss
known_on declared more tree s h known declares ss =
    ap (declares_first []) (append_assoc tree (s ∷ []) ss) ∙ h (s ∷ ss) ∙ behind s ss declared known ∙ ap (λ (d : List (List ℕ)). declares_first d ss) (sym declares)

unknown_on : (declared : List (List ℕ)) (tree : List Statement) (s : Statement) → ((ss : List Statement) → declares_first [] (tree ++ ss) ≡ declares_first declared ss)
    → known_statement declared s ≡ false → Unbound (tree ++ s ∷ [])
unknown_on declared tree s h known = record {
  unknown = λ ss. ap (declares_first []) (append_assoc tree (s ∷ []) ss) ∙ h (s ∷ ss) ∙ unknown_behind s ss declared known;
}

so_far_on : (before : ParserState) (whole now then : Lexemes) (pending later : Pending) (state u : ParserState) (declared more : List (List ℕ)) (tree : List Statement) (s : Statement)
    → length then < length now → SoFar pending before whole now state declared tree → Becomes pending later s state u declared more → SoFar later before whole then u more (tree ++ s ∷ [])
so_far_on before whole now then Nothing Nothing state u declared more tree s less r b = record {
  says = λ ss. ap (λ (l : List Statement). meaning.document l before) (append_assoc tree (s ∷ []) ss) ∙ r.says (s ∷ ss) ∙ ap (λ o. and_then o (λ _. meaning.document ss)) b.says;
  known = known_on declared more tree s r.known b.known b.declares;
  prefixes = b.declares ∙ ap (λ (d : List (List ℕ)). declared_behind d s) r.prefixes ∙ sym b.prologue;
  room = omega (arith, r.room, b.room, less);
}
so_far_on before whole now then Nothing Relative state u declared more tree s less r b = record {
  fails = λ ss. ap (λ (l : List Statement). meaning.document l before) (append_assoc tree (s ∷ []) ss) ∙ r.says (s ∷ ss) ∙ ap (λ o. and_then o (λ _. meaning.document ss)) b.2;
  known = known_on declared more tree s r.known b.0 b.1;
}
so_far_on before whole now then Nothing UnknownPrefix state u declared more tree s less r b = unknown_on declared tree s r.known b
so_far_on before whole now then Relative Nothing state u declared more tree s less r b = absurd b
so_far_on before whole now then Relative Relative state u declared more tree s less r b = record {
  fails = one_more tree s (λ (l : List Statement). meaning.document l before ≡ None) r.fails;
  known = known_on declared more tree s r.known b.0 b.1;
}
so_far_on before whole now then Relative UnknownPrefix state u declared more tree s less r b = unknown_on declared tree s r.known b
so_far_on before whole now then UnknownPrefix Nothing state u declared more tree s less r b = absurd b
so_far_on before whole now then UnknownPrefix Relative state u declared more tree s less r b = absurd b
so_far_on before whole now then UnknownPrefix UnknownPrefix state u declared more tree s less r b = record {
  unknown = one_more tree s (λ (l : List Statement). declares_first [] l ≡ false) r.unknown;
}

pub read_on : {depth : ℕ} {before : ParserState} {whole now then : Lexemes} {pending later : Pending} {state u : ParserState} {declared more : List (List ℕ)}
    → Read depth before whole now pending state declared → is_more now ≡ true → Turn depth now then pending later state u declared more → Read depth before whole then later u more
read_on {depth = depth} {before = before} {whole = whole} {now = now} {then = then} {pending = pending} {later = later} {state = state} {u = u} {declared = declared} {more = more} r is_left t =
    let s = t.tree in
    record {
      tree = r.tree ++ s ∷ [];
      going = going_on (s ∷ []) then r.going is_left (one_reads (statement (node depth) (node (depth + 1))) _ _ _ t.reads) t.shorter;
      formed = (next_proper depth now then s r.formed t.reads).1;
      so_far = so_far_on before whole now then pending later state u declared more r.tree s t.shorter r.so_far t.becomes;
    }

-- ---- what a turn wants

known_so_far : (pending : Pending) (before : ParserState) (whole now : Lexemes) (state : ParserState) (declared : List (List ℕ)) (tree : List Statement)
    → SoFar pending before whole now state declared tree → IfNothing pending (declared ≡ prologue.declared state.prologue)
known_so_far Nothing before whole now state declared tree r = r.prefixes
known_so_far Relative before whole now state declared tree r = tt
known_so_far UnknownPrefix before whole now state declared tree r = tt

pub read_known : {depth : ℕ} {before : ParserState} {whole now : Lexemes} {pending : Pending} {state : ParserState} {declared : List (List ℕ)} → Read depth before whole now pending state declared
    → IfNothing pending (declared ≡ prologue.declared state.prologue)
read_known {before = before} {whole = whole} {now = now} {pending = pending} {state = state} {declared = declared} r = known_so_far pending before whole now state declared r.tree r.so_far

-- one lexeme or more is left
some_left : (now : Lexemes) → is_more now ≡ true → 1 ≤ length now
some_left [] e = absurd (cc)
some_left (t ∷ ts) e = omega arith

room_so_far : (pending : Pending) (before : ParserState) (whole now : Lexemes) (state : ParserState) (declared : List (List ℕ)) (tree : List Statement)
    → 1 ≤ length now → length whole ≤ longest → SoFar pending before whole now state declared tree → IfNothing pending (rooms.HasRoom 1 state)
room_so_far Nothing before whole now state declared tree some fits r = omega (arith, r.room, some, fits)
room_so_far Relative before whole now state declared tree some fits r = tt
room_so_far UnknownPrefix before whole now state declared tree some fits r = tt

pub read_room : {depth : ℕ} {before : ParserState} {whole now : Lexemes} {pending : Pending} {state : ParserState} {declared : List (List ℕ)} → Read depth before whole now pending state declared
    → is_more now ≡ true → length whole ≤ longest → IfNothing pending (rooms.HasRoom 1 state)
read_room {before = before} {whole = whole} {now = now} {pending = pending} {state = state} {declared = declared} r is_left fits =
    room_so_far pending before whole now state declared r.tree (some_left now is_left) fits r.so_far

pub if_nothing : {P : Type 0} (pending : Pending) → pending ≡ Nothing → IfNothing pending P → P
if_nothing {P = P} pending e h = subst (λ (p : Pending). IfNothing p P) e h

-- ---- where reading ends

leaves_so_far : (pending : Pending) (before : ParserState) (whole now : Lexemes) (state : ParserState) (declared : List (List ℕ)) (tree : List Statement)
    → SoFar pending before whole now state declared tree → LeavesPending pending tree before state
leaves_so_far Nothing before whole now state declared tree r = (
  ap (declares_first []) (sym (append-nil tree)) ∙ r.known [],
  ap (λ (l : List Statement). meaning.document l before) (sym (append-nil tree)) ∙ r.says [],
)
leaves_so_far Relative before whole now state declared tree r = (
  ap (declares_first []) (sym (append-nil tree)) ∙ r.known [],
  ap (λ (l : List Statement). meaning.document l before) (sym (append-nil tree)) ∙ r.fails [],
)
leaves_so_far UnknownPrefix before whole now state declared tree r = ap (declares_first []) (sym (append-nil tree)) ∙ r.unknown []

pub read_done : {depth : ℕ} {before : ParserState} {whole now : Lexemes} {pending : Pending} {state : ParserState} {declared : List (List ℕ)} → Read depth before whole now pending state declared
    → is_more now ≡ false → Turns depth whole pending before state
read_done {depth = depth} {before = before} {whole = whole} {now = now} {pending = pending} {state = state} {declared = declared} r no_more_left = record {
  tree = r.tree;
  reads = found_within depth whole r.tree now (going_done r.going no_more_left) (no_more now (sym no_more_left));
  leaves = leaves_so_far pending before whole now state declared r.tree r.so_far;
}

stops_by : (depth : ℕ) (whole now : Lexemes) (tree : List Statement) (kind : TurtleFaultKind) → Going is_more (one (statement (node depth) (node (depth + 1)))) (document depth whole) tree now
    → is_more now ≡ true → StopsReading (statement (node depth) (node (depth + 1)) now) kind → StopsReading (document depth whole) kind
stops_by depth whole now tree fault.Syntax g is_left h = going_fails g (omega (arith, some_left now is_left)) is_left (one_fails (statement (node depth) (node (depth + 1))) now h)
stops_by depth whole now tree (fault.NoMemory refusal) g is_left h = tt
stops_by depth whole now tree fault.NotUtf8 g is_left h = h
stops_by depth whole now tree fault.Token g is_left h = h
stops_by depth whole now tree fault.TooDeep g is_left h = h
stops_by depth whole now tree fault.UnknownPrefix g is_left h = h
stops_by depth whole now tree fault.Relative g is_left h = h

pub read_stops : {depth : ℕ} {before : ParserState} {whole now : Lexemes} {pending : Pending} {state : ParserState} {declared : List (List ℕ)} (kind : TurtleFaultKind) → Read depth before whole now pending state declared
    → is_more now ≡ true → StopsReading (statement (node depth) (node (depth + 1)) now) kind → StopsReading (document depth whole) kind
read_stops {depth = depth} {whole = whole} {now = now} kind r is_left h = stops_by depth whole now r.tree kind r.going is_left h

-- ---- what is answered

-- what is said from the start is the answer
pub said_answers : (depth : ℕ) (base b : Option (List ℕ)) (lexemes : Lexemes) (before behind : ParserState) (quads : List QuadParts)
    → Turns depth lexemes Nothing before behind → before ≡ start b → b ≡ base → quads ≡ behind.quads → TellsDocument depth lexemes base (Ok quads)
unfolding meaning.triples_of
said_answers depth base b lexemes before behind quads t s e q =
    let said : meaning.document t.tree (start base) ≡ Some (tt, behind) = ap (meaning.document t.tree) (sym (s ∙ ap start e)) ∙ t.leaves.1 in
    let known = t.leaves.0 in
    record { tree = t.tree; reads = t.reads; answers = rw (known, said, q) refl }

pub lacking_answers : (depth : ℕ) (base b : Option (List ℕ)) (lexemes : Lexemes) (before behind : ParserState)
    → Turns depth lexemes Relative before behind → before ≡ start b → b ≡ base → TellsDocument depth lexemes base (Err fault.Relative)
unfolding meaning.triples_of
lacking_answers depth base b lexemes before behind t s e =
    let fails : meaning.document t.tree (start base) ≡ None = ap (meaning.document t.tree) (sym (s ∙ ap start e)) ∙ t.leaves.1 in
    let known = t.leaves.0 in
    record { tree = t.tree; reads = t.reads; answers = rw (known, fails) refl }

pub unbound_answers : (depth : ℕ) (base : Option (List ℕ)) (lexemes : Lexemes) (before behind : ParserState)
    → Turns depth lexemes UnknownPrefix before behind → TellsDocument depth lexemes base (Err fault.UnknownPrefix)
unbound_answers depth base lexemes before behind t =
    let unknown = t.leaves in
    record { tree = t.tree; reads = t.reads; answers = rw unknown refl }

-- what is told behind all is the answer
pub told_answers : {S : Type 0} (taken : S → List QuadParts) (told : Result S TurtleFaultKind) (sink : S) (pending : Pending) (depth : ℕ)
    (base b : Option (List ℕ)) (lexemes : Lexemes) (before behind : ParserState)
    → MatchResult told (λ s. (pending ≡ Nothing) × (s ≡ sink)) (λ kind. TellsPending pending kind)
    → Turns depth lexemes pending before behind → before ≡ start b → b ≡ base → taken sink ≡ behind.quads
    → MatchResult told (λ s. TellsDocument depth lexemes base (Ok (taken s))) (λ kind. StopsWith depth lexemes base kind)
told_answers taken (Ok s) sink pending depth base b lexemes before behind h t i e q =
    said_answers depth base b lexemes before behind (taken s) (rw h.0 at t) i e (ap taken h.1 ∙ q)
told_answers taken (Err kind) sink Nothing depth base b lexemes before behind h t i e q = absurd h
told_answers taken (Err kind) sink Relative depth base b lexemes before behind h t i e q =
    rw h (lacking_answers depth base b lexemes before behind t i e)
told_answers taken (Err kind) sink UnknownPrefix depth base b lexemes before behind h t i e q =
    rw h (unbound_answers depth base lexemes before behind t)

-- a statement that has no meaning lacks a base where its prefixes are declared
pub look_lacking : {E : Type 0} (r : Result Pending E) (tree : Statement) (before behind : ParserState) (declared more : List (List ℕ))
    → IfOk r (λ later. (s u : ParserState) → Becomes Relative later tree s u declared more) → meaning.statement tree before ≡ None
    → IfOk r (λ later. Becomes Nothing later tree before behind declared more)
look_lacking (Ok Nothing) tree before behind declared more h e = absurd (h before behind)
look_lacking (Ok Relative) tree before behind declared more h e = let k = h before behind in (k.0, k.1, e)
look_lacking (Ok UnknownPrefix) tree before behind declared more h e = h before behind
look_lacking (Err x) tree before behind declared more h e = tt
