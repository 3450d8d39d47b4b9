-- The text of an IRI holds no character that is forbidden in IRIs.
use Rattle.std.proofs.Common.{◌≡◌, ◌<◌, ℕ, suc, true, false, List, [], ◌∷◌, length, get_or, Some, refl, sym, ap, ◌∙◌, inl, inr, arith}
use Rattle.std.proofs.lemmas.List.{append-nil}
use Rattle.std.proofs.lemmas.List.Folds.{list_any-append}
use Rattle.std.proofs.lemmas.Bool.{cases_Bool, or_from, true≢false, ltb-true, eqb-true, or_cases}
use Rattle.std.proofs.lemmas.Str.{inside_one}
use Rattle.std.specs.Prelude.{nat_lt, codes, ◌==◌}
use Rattle.std.specs.List.{list_any}
use Rattle.std.specs.Char.{encode_utf8}
use Rattle.std.specs.Str.{encode_utf8_all}
use Rattle.rdf_terms.specs.Iri.{is_forbidden, has_forbidden}
use Rattle.rdf_terms.specs.Reading.{iri_at}
use Rattle.rdf_terms.specs.Escapes.{Writes}
use Rattle.rdf_terms.specs.Quoted.{IsIriCharacter}
use Rattle.rdf_terms.proofs.QuotedLemmas.{iri_sound}

abbrev AllLow : List ℕ → Type 0
AllLow [] = Unit {0}
AllLow (d ∷ ds) = (d < 128) × AllLow ds

any_low : (ds : List ℕ) (b : ℕ) → AllLow ds → list_any (λ d. b == d) ds ≡ true → b < 128
any_low [] b low e = absurd (true≢false (sym e))
any_low (d ∷ ds) b low e =
    elim (or_cases (b == d) (list_any (λ x. b == x) ds) e) [
      | inl here ↦ omega (arith, eqb-true b d here, low.0)
      | inr there ↦ any_low ds b low.1 there
    ]

-- what is forbidden is ASCII
pub forbidden_low : (b : ℕ) → is_forbidden b ≡ true → b < 128
forbidden_low b e =
    elim (or_cases (nat_lt b 33) (list_any (λ d. b == d) (codes "<>\"{}|^`\\")) e) [
      | inl control ↦ omega (arith, ltb-true b 33 control)
      | inr mark ↦ any_low (codes "<>\"{}|^`\\") b (omega arith, (omega arith, (omega arith, (omega arith, (omega arith, (omega arith, (omega arith, (omega arith, (omega arith, tt))))))))) mark
    ]

-- no byte of an allowed character is forbidden
none_of : (c : ℕ) → is_forbidden c ≡ false → (bs : List ℕ) → ((k : ℕ) → k < length bs → get_or bs k 0 < 128 → c ≡ get_or bs k 0) → has_forbidden bs ≡ false
none_of c h [] same = refl
none_of c h (b ∷ bs) same =
    let here : is_forbidden b ≡ false =
    elim (cases_Bool (is_forbidden b)) [
      | inl bad ↦ ap is_forbidden (sym (same 0 (omega arith) (forbidden_low b bad))) ∙ h
      | inr good ↦ good
    ] in
    or_from (is_forbidden b) (list_any is_forbidden bs) here (none_of c h bs (λ k lt low. same (suc k) (omega arith) low))

character_allowed : (c : ℕ) → is_forbidden c ≡ false → has_forbidden (encode_utf8 c) ≡ false
character_allowed c h = none_of c h (encode_utf8 c) (λ k lt low. inside_one c [] (encode_utf8 c) k (sym (append-nil (encode_utf8 c))) lt low)

pub written_allowed : (cs body : List ℕ) → Writes IsIriCharacter body cs → has_forbidden (encode_utf8_all cs) ≡ false
written_allowed [] body w = refl
written_allowed (c ∷ cs) body w =
    list_any-append is_forbidden (encode_utf8 c) (encode_utf8_all cs)
    ∙ or_from (has_forbidden (encode_utf8 c)) (has_forbidden (encode_utf8_all cs)) (character_allowed c w.3.0) (written_allowed cs w.1 w.4)

pub read_iri_allowed : (cs text rest : List ℕ) → iri_at cs ≡ Some (text, rest) → has_forbidden text ≡ false
read_iri_allowed cs text rest e =
    let s = iri_sound cs text rest e in
    let f = s.2 in
    ap has_forbidden f.4 ∙ written_allowed f.1 f.0 f.3
