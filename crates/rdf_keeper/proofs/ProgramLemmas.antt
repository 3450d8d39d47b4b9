-- What is written of an ending.
use Rattle.std.proofs.Common.{◌≡◌, ◌≢◌, append_assoc, ◌∙◌, refl, sym, ap, subst, ℕ, true, false, List, [], ◌∷◌, ◌++◌, append-nil, Option, None}
use Rattle.std.specs.Prelude.{Result, Ok, Err, is_err}
use Rattle.std.specs.Io.KnownBytes.{Appends}
use Rattle.rdf_streams.specs.Streams.{WritesTo}
use Rattle.rdf_keeper.specs.Inside.Outcomes.{TellsEnding, status_of, error_line}
use Rattle.rdf_keeper.specs.Inside.Told.{IsShown}
use Rattle.rdf_streams.specs.declared.streams.writing.WriteFault.{WriteFault}
use Rattle.rdf_keeper.specs.declared.program.outcome.Outcome.{Outcome}
use Rattle.rdf_keeper.specs.declared.program.outcome.Outcome.TheVariants.{Done, SomeRefused, BadDocument, BadText, BadWords, BadBase, BadData, NotState, ReadFailed, WriteFailed, NoMemory, ParserNoMemory}
use Rattle.rdf_session.specs.Session.{Session, with_depth}
use Rattle.rdf_streams.proofs.StreamLemmas.{Appends-chain}

pub as_far : (before after : Option (List ℕ)) (text want : List ℕ) (r : Result (Unit {0}) WriteFault) → text ≡ want → WritesTo before text r after → (front more : List ℕ) × (want ≡ front ++ more) × Appends before after front
as_far before after text want (Ok u) e w = (text, [], sym e ∙ sym (append-nil text), w)
as_far before after text want (Err x) e w = (w.0, w.1, sym e ∙ w.2, w.4)

no_line : (o : Outcome) → status_of o ≡ 0 → error_line o ≡ []
no_line Done e = refl
no_line SomeRefused e = refl
no_line (BadDocument at) e = cc
no_line (BadText fault) e = cc
no_line BadWords e = refl
no_line BadBase e = cc
no_line (BadData fault) e = cc
no_line NotState e = cc
no_line ReadFailed e = cc
no_line WriteFailed e = cc
no_line (NoMemory _) e = cc
no_line ParserNoMemory e = cc

first_nil : (front more : List ℕ) → [] ≡ front ++ more → front ≡ []
first_nil [] more e = refl
first_nil (b ∷ bs) more e = cc

pub stays_quiet : (before mid after : Option (List ℕ)) (o : Outcome) → status_of o ≡ 0 → Appends before mid [] → (front more : List ℕ) × (error_line o ≡ front ++ more) × Appends mid after front → Appends before after []
stays_quiet before mid after o zero so_far (front, more, parts, wrote) =
    let none = first_nil front more (sym (no_line o zero) ∙ parts) in
    Appends-chain before mid after [] [] so_far (subst (Appends mid after) none wrote)

-- ---- the line of an ending, behind nothing else

pub ends_well : (o : Outcome) → status_of o ≡ 0 → o ≢ BadWords
ends_well o zero e = let bad : status_of BadWords ≡ 0 = sym (ap status_of e) ∙ zero in cc

shown_behind : (before mid after : Option (List ℕ)) (text : List ℕ) → Appends before mid [] → (front more : List ℕ) × (text ≡ front ++ more) × Appends mid after front → IsShown before text after
shown_behind before mid after text so_far (front, more, parts, wrote) = (front, more, parts, Appends-chain before mid after [] front so_far wrote)

pub ending_told : (before mid after : Option (List ℕ)) (o : Outcome) → (o ≢ BadWords → Appends before mid []) → (front more : List ℕ) × (error_line o ≡ front ++ more) × Appends mid after front → TellsEnding o before after
ending_told before mid after BadWords quiet told = tt
ending_told before mid after Done quiet told = shown_behind before mid after _ (quiet (λ e. cc)) told
ending_told before mid after SomeRefused quiet told = shown_behind before mid after _ (quiet (λ e. cc)) told
ending_told before mid after (BadDocument at) quiet told = shown_behind before mid after _ (quiet (λ e. cc)) told
ending_told before mid after (BadText fault) quiet told = shown_behind before mid after _ (quiet (λ e. cc)) told
ending_told before mid after BadBase quiet told = shown_behind before mid after _ (quiet (λ e. cc)) told
ending_told before mid after (BadData fault) quiet told = shown_behind before mid after _ (quiet (λ e. cc)) told
ending_told before mid after NotState quiet told = shown_behind before mid after _ (quiet (λ e. cc)) told
ending_told before mid after ReadFailed quiet told = shown_behind before mid after _ (quiet (λ e. cc)) told
ending_told before mid after WriteFailed quiet told = shown_behind before mid after _ (quiet (λ e. cc)) told
ending_told before mid after (NoMemory refused) quiet told = shown_behind before mid after _ (quiet (λ e. cc)) told
ending_told before mid after ParserNoMemory quiet told = shown_behind before mid after _ (quiet (λ e. cc)) told

-- ---- a line in two parts

abbrev pub CutShort : Option (List ℕ) → List ℕ → Option (List ℕ) → Type 0
CutShort before text after = (front more : List ℕ) × (text ≡ front ++ more) × (more ≢ []) × Appends before after front

not_empty : (xs ys : List ℕ) → xs ≢ [] → xs ++ ys ≢ []
not_empty [] ys h e = h refl
not_empty (x ∷ xs) ys h e = cc

-- the first part isn't written whole
pub first_cut : (before after : Option (List ℕ)) (text xs ys : List ℕ) (r : Result (Unit {0}) WriteFault) → text ≡ xs → is_err r ≡ true → WritesTo before text r after → CutShort before (xs ++ ys) after
first_cut before after text xs ys (Ok u) is e w = cc
first_cut before after text xs ys (Err f) is e (front, more, parts, some, wrote) = (front, more ++ ys, ap (λ t. t ++ ys) (sym is ∙ parts) ∙ append_assoc front more ys, not_empty more ys some, wrote)

-- or the second
pub second_cut : (before mid after : Option (List ℕ)) (text xs ys : List ℕ) (r : Result (Unit {0}) WriteFault) → text ≡ xs → is_err r ≡ false → WritesTo before text r mid → CutShort mid ys after → CutShort before (xs ++ ys) after
second_cut before mid after text xs ys (Err f) is e w cut = cc
second_cut before mid after text xs ys (Ok u) is e w (front, more, parts, some, wrote) =
    (xs ++ front, more, ap (λ t. xs ++ t) parts ∙ sym (append_assoc xs front more), some, Appends-chain before mid after xs front (subst (Appends before mid) is w) wrote)

-- ---- a session without history

pub bounded_by_none : (s : Session) → s.depth ≡ None → s ≡ with_depth None s
bounded_by_none s e = λ i. record { base_iri = s.base_iri; depth = e i; base = s.base; states = s.states }
