-- Reading characters one after the other, as a loop does, and what an IRI's text never holds.
use Rattle.std.proofs.Common.{◌≡◌, ℕ, Bool, false, eqb, List, [], ◌∷◌, ◌++◌, Option, Some, None, refl, sym, ap, ◌∙◌, inl, inr, append_assoc}
use Rattle.std.proofs.lemmas.List.{append-nil}
use Rattle.std.proofs.lemmas.Bool.{cases_Bool, or_parts}
use Rattle.std.specs.Prelude.{option_map}
use Rattle.std.specs.Char.{encode_utf8}
use Rattle.std.specs.List.{list_any}
use Rattle.std.specs.Str.{encode_utf8_all}
use Rattle.rdf_terms.specs.Reading.{between, up_to, expect}
use Rattle.rdf_terms.specs.Runs.{IsPast}
use Rattle.rdf_terms.proofs.OptionLemmas.{none_is}
use Rattle.rdf_terms.proofs.PlaceLemmas.{between_is}
use Rattle.rdf_terms.proofs.QuotedLemmas.{expect_sound}
use Rattle.rdf_terms.proofs.RunLemmas.{IsOne, with_front, run_at, run_step, run_last}

-- a character that passes no such test stands for itself
abbrev pub IsPlain : (List ℕ → Option (ℕ × List ℕ)) → (ℕ → Bool) → Type 0
IsPlain one stops = (c : ℕ) (rest : List ℕ) → stops c ≡ false → one (c ∷ rest) ≡ Some (c, rest)

regroup : (front more : List ℕ) (read : Option (List ℕ × List ℕ)) → with_front front (with_front more read) ≡ with_front (front ++ more) read
regroup front more None = refl
regroup front more (Some x) = ap (λ (t : List ℕ). Some (t, x.1)) (sym (append_assoc front more x.0))

-- a character more
pub goes_on : {Form : List ℕ → ℕ → Type 0} (one : List ℕ → Option (ℕ × List ℕ)) (last : ℕ) → IsOne Form one last
    → (front cs : List ℕ) (c : ℕ) (rest : List ℕ) (total : Option (List ℕ × List ℕ)) → one cs ≡ Some (c, rest)
    → with_front front (run_at one last cs) ≡ total → with_front (front ++ encode_utf8 c) (run_at one last rest) ≡ total
goes_on one last is front cs c rest total e so_far =
    sym (regroup front (encode_utf8 c) (run_at one last rest)) ∙ ap (with_front front) (sym (run_step one last is cs c rest e)) ∙ so_far

not_last : (last d : ℕ) (cs : List ℕ) → expect last (d ∷ cs) ≡ None → eqb d last ≡ false
unfolding expect
not_last last d cs e =
    elim (cases_Bool (eqb d last)) [ inl t ↦ none_is cs (sym (rw t at e)) | inr f ↦ f ]

run_fails : (one : List ℕ → Option (ℕ × List ℕ)) (last : ℕ) (cs : List ℕ) → one cs ≡ None → expect last cs ≡ None → run_at one last cs ≡ None
unfolding up_to
run_fails one last [] e f = refl
run_fails one last (d ∷ cs) e f = rw (not_last last d cs f, e) refl

-- what has been read, and what is read from here, are the whole
abbrev pub RunsTo : (List ℕ → Option (ℕ × List ℕ)) → ℕ → List ℕ → List ℕ → Option (List ℕ × List ℕ) → Type 0
RunsTo one last front cs total = with_front front (run_at one last cs) ≡ total

-- ---- over characters that stand for themselves

no_front : (read : Option (List ℕ × List ℕ)) → with_front [] read ≡ read
no_front None = refl
no_front (Some x) = refl

run_past : {Form : List ℕ → ℕ → Type 0} (one : List ℕ → Option (ℕ × List ℕ)) (last : ℕ) → IsOne Form one last
    → (stops : ℕ → Bool) → IsPlain one stops → (over rest : List ℕ) → list_any stops over ≡ false
    → run_at one last (over ++ rest) ≡ with_front (encode_utf8_all over) (run_at one last rest)
run_past one last is stops plain [] rest h = sym (no_front (run_at one last rest))
run_past one last is stops plain (c ∷ over) rest h =
    let parts = or_parts (stops c) (list_any stops over) h in
    run_step one last is (c ∷ (over ++ rest)) c (over ++ rest) (plain c (over ++ rest) parts.0)
    ∙ ap (with_front (encode_utf8 c)) (run_past one last is stops plain over rest parts.1)
    ∙ regroup (encode_utf8 c) (encode_utf8_all over) (run_at one last rest)

pub goes_past : {Form : List ℕ → ℕ → Type 0} (one : List ℕ → Option (ℕ × List ℕ)) (last : ℕ) → IsOne Form one last
    → (stops : ℕ → Bool) → IsPlain one stops → (front cs rest : List ℕ) (total : Option (List ℕ × List ℕ)) → IsPast stops cs rest
    → with_front front (run_at one last cs) ≡ total → with_front (front ++ encode_utf8_all (between cs rest)) (run_at one last rest) ≡ total
goes_past one last is stops plain front cs rest total past so_far =
    ap (λ (t : List ℕ). with_front (front ++ encode_utf8_all t) (run_at one last rest)) (between_is cs rest past.0 past.1)
    ∙ sym (regroup front (encode_utf8_all past.0) (run_at one last rest))
    ∙ ap (with_front front) (sym (ap (run_at one last) past.1 ∙ run_past one last is stops plain past.0 rest past.2))
    ∙ so_far

-- no character, and not the last one either
pub fails : (one : List ℕ → Option (ℕ × List ℕ)) (last : ℕ) (front cs : List ℕ) (total : Option (List ℕ × List ℕ)) → one cs ≡ None → expect last cs ≡ None
    → with_front front (run_at one last cs) ≡ total → None ≡ total
fails one last front cs total h f so_far = ap (with_front front) (sym (run_fails one last cs h f)) ∙ so_far

-- the last one
pub is_done : (one : List ℕ → Option (ℕ × List ℕ)) (last : ℕ) (front cs rest : List ℕ) (total : Option (List ℕ × List ℕ)) → expect last cs ≡ Some rest
    → with_front front (run_at one last cs) ≡ total → Some (front, rest) ≡ total
is_done one last front cs rest total e so_far =
    sym (sym so_far ∙ ap (λ (t : List ℕ). with_front front (run_at one last t)) (expect_sound last cs rest e)
    ∙ ap (with_front front) (run_last one last rest) ∙ ap (λ (t : List ℕ). Some (t, rest)) (append-nil front))

-- ---- the same, where only the place behind is kept

abbrev pub behind : Option (List ℕ × List ℕ) → Option (List ℕ)
behind read = option_map (λ read. read.1) read

behind-front : (front : List ℕ) (read : Option (List ℕ × List ℕ)) → behind (with_front front read) ≡ behind read
behind-front front None = refl
behind-front front (Some x) = refl

pub place_goes_on : {Form : List ℕ → ℕ → Type 0} (one : List ℕ → Option (ℕ × List ℕ)) (last : ℕ) → IsOne Form one last
    → (cs : List ℕ) (c : ℕ) (rest : List ℕ) → one cs ≡ Some (c, rest) → behind (run_at one last rest) ≡ behind (run_at one last cs)
place_goes_on one last is cs c rest e =
    sym (ap behind (run_step one last is cs c rest e) ∙ behind-front (encode_utf8 c) (run_at one last rest))

pub place_goes_past : {Form : List ℕ → ℕ → Type 0} (one : List ℕ → Option (ℕ × List ℕ)) (last : ℕ) → IsOne Form one last
    → (stops : ℕ → Bool) → IsPlain one stops → (cs rest : List ℕ) → IsPast stops cs rest → behind (run_at one last rest) ≡ behind (run_at one last cs)
place_goes_past one last is stops plain cs rest past =
    sym (ap (λ (t : List ℕ). behind (run_at one last t)) past.1
    ∙ ap behind (run_past one last is stops plain past.0 rest past.2)
    ∙ behind-front (encode_utf8_all past.0) (run_at one last rest))

pub place_fails : (one : List ℕ → Option (ℕ × List ℕ)) (last : ℕ) (cs : List ℕ) → one cs ≡ None → expect last cs ≡ None → None ≡ behind (run_at one last cs)
place_fails one last cs h f = sym (ap behind (run_fails one last cs h f))

pub place_done : (one : List ℕ → Option (ℕ × List ℕ)) (last : ℕ) (cs rest : List ℕ) → expect last cs ≡ Some rest → Some rest ≡ behind (run_at one last cs)
place_done one last cs rest e =
    sym (ap (λ (t : List ℕ). behind (run_at one last t)) (expect_sound last cs rest e) ∙ ap behind (run_last one last rest))
