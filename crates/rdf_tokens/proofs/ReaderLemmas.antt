-- Tokens that are read one at a time.
use Rattle.std.proofs.Common.{◌≡◌, ◌<◌, ◌≤◌, ℕ, true, false, List, [], ◌∷◌, ◌++◌, length, Some, None, refl, sym, ap, subst, ◌∙◌, arith, length-append}
use Rattle.std.proofs.lemmas.Str.{encodes-chars, scalars-chars, chars-encodes}
use Rattle.std.specs.Str.{chars, encode_utf8_all, IsUtf8}
use lib.Utf8.{scalars}
use Rattle.rdf_terms.proofs.CallerLemmas.{none_is, between_is}
use Rattle.rdf_terms.specs.Reading.{LeadsTo, between, byte_count}
use Rattle.rdf_tokens.specs.declared.token.Kind.{Kind}
use Rattle.rdf_tokens.specs.Tokens.{IsToken, HasGap, Ends, NoToken}
use Rattle.rdf_tokens.specs.Inside.Places.{IsBetweenTokens}
use Rattle.rdf_tokens.specs.Sizes.{longest}
use Rattle.rdf_tokens.specs.Inside.TokenReading.{skip_gap, token_at, NoPnameBefore}
use Rattle.rdf_tokens.proofs.SliceLemmas.{scalars_parts}
use Rattle.rdf_tokens.proofs.TokenGaps.{Stops, skip_ends, skip_starts}
use Rattle.rdf_tokens.proofs.TokenLists.{IsStart, at_start, no_token, token_is, token_less, gap_less, token_nil, within_after, within_bytes}
use Rattle.rdf_tokens.proofs.TokenNameless.{nameless_first, nameless_start, nameless_after}

end_nameless : (n : ℕ) (before later : List ℕ) → [] ≡ before ++ later → n < byte_count later → ⊥
end_nameless n before [] whole lt = omega (arith, lt)
end_nameless n before (c ∷ cs) whole lt = omega (arith, ap length whole, length-append before (c ∷ cs))

nothing_nameless : (n : ℕ) → NoPnameBefore [] n
unfolding NoPnameBefore
nothing_nameless n = λ before later whole lt. absurd (end_nameless n before later whole lt)

-- ---- where a reader stands

pub at_the_first : (bytes rest : List ℕ) → IsUtf8 bytes → length bytes ≤ longest → rest ≡ chars bytes → IsBetweenTokens rest (length bytes)
at_the_first bytes rest u fits e =
    let same : length bytes ≡ byte_count rest = ap length (sym (encodes-chars bytes u)) ∙ ap byte_count (sym e) in
    record {
      scalar = ap scalars e ∙ scalars-chars bytes u;
      names = nameless_first rest (length bytes) same;
      fits = omega (arith, same, fits);
    }

pub at_the_end : (rest : List ℕ) (n : ℕ) → rest ≡ [] → IsBetweenTokens rest n
at_the_end rest n e = subst (λ (r : List ℕ). IsBetweenTokens r n) (sym e) (record { scalar = refl; names = nothing_nameless n; fits = omega arith })

-- ---- what comes next

pub ends_there : (rest now start : List ℕ) → rest ≡ now → start ≡ skip_gap false rest → start ≡ [] → Ends now × (start ≡ [])
ends_there rest now start v e is = (subst Ends v (skip_ends rest (sym e ∙ is)), is)

starts : (rest start : List ℕ) (c : ℕ) (others : List ℕ) → start ≡ skip_gap false rest → start ≡ c ∷ others → IsStart rest rest start
starts rest start c others e is = at_start rest rest start c others ([], refl) e is

pub nameless_there : (rest start : List ℕ) (n c : ℕ) (others : List ℕ) → IsBetweenTokens rest n → start ≡ skip_gap false rest → start ≡ c ∷ others → NoPnameBefore start n
nameless_there rest start n c others h e is = nameless_start rest start n (starts rest start c others e is).gap h.names

pub leads_behind : (start : List ℕ) (k : Kind) (behind : List ℕ) → token_at start ≡ Some (k, behind) → LeadsTo start behind
leads_behind start k behind read = let is = token_is start k behind read in (is.slice, is.parts)

scalar_start : (rest start : List ℕ) (c : ℕ) (others : List ℕ) → scalars rest ≡ true → start ≡ skip_gap false rest → start ≡ c ∷ others → scalars start ≡ true
scalar_start rest start c others all e is =
    let w = (starts rest start c others e is).within in
    (scalars_parts w.0 start (ap scalars (sym w.1) ∙ all)).1

pub at_the_next : (rest start : List ℕ) (n m c : ℕ) (others : List ℕ) (k : Kind) (behind : List ℕ) → IsBetweenTokens rest n → start ≡ skip_gap false rest → start ≡ c ∷ others
    → token_at start ≡ Some (k, behind) → NoPnameBefore start m → IsBetweenTokens behind m
at_the_next rest start n m c others k behind h e is read names =
    let to = leads_behind start k behind read in
    let within = within_after rest start k behind (starts rest start c others e is).within (token_is start k behind read) in
    record {
      scalar = (scalars_parts to.0 behind (ap scalars (sym to.1) ∙ scalar_start rest start c others h.scalar e is)).1;
      names = nameless_after start k behind m read names;
      fits = omega (arith, within_bytes rest behind within, h.fits);
    }

pub token_there : (rest now start : List ℕ) (n c : ℕ) (others : List ℕ) (k : Kind) (behind bytes slice : List ℕ) → rest ≡ now → IsBetweenTokens rest n → start ≡ skip_gap false rest → start ≡ c ∷ others
    → token_at start ≡ Some (k, behind) → bytes ≡ encode_utf8_all (between start behind) → slice ≡ chars bytes
    → HasGap now start × IsToken start k behind × (start ≡ slice ++ behind)
token_there rest now start n c others k behind bytes slice v h e is read made text =
    let it = token_is start k behind read in
    let scalar = (scalars_parts it.slice behind (ap scalars (sym it.parts) ∙ scalar_start rest start c others h.scalar e is)).0 in
    let same : slice ≡ it.slice =
    text ∙ ap chars (made ∙ ap encode_utf8_all (between_is start behind it.slice it.parts)) ∙ chars-encodes it.slice scalar in
    (subst (λ (r : List ℕ). HasGap r start) v (starts rest start c others e is).gap, it, it.parts ∙ ap (λ (s : List ℕ). s ++ behind) (sym same))

pub none_there : (rest now start : List ℕ) (c : ℕ) (others : List ℕ) → rest ≡ now → start ≡ skip_gap false rest → start ≡ c ∷ others → token_at start ≡ None
    → HasGap now start × NoToken start
none_there rest now start c others v e is none =
    let s = starts rest start c others e is in
    (subst (λ (r : List ℕ). HasGap r start) v s.gap, subst NoToken (sym is) (no_token c others (subst Stops is s.stops) (ap token_at (sym is) ∙ none)))

-- ---- less is left

gap_shorter : (cs start : List ℕ) → skip_gap false cs ≡ start → length start ≤ length cs
gap_shorter cs [] e = omega arith
gap_shorter cs (c ∷ others) e = let g = (skip_starts cs c others e).0 in gap_less g.0 cs (c ∷ others) g.1

pub no_longer_behind_gap : (cs : List ℕ) → length (skip_gap false cs) ≤ length cs
no_longer_behind_gap cs = gap_shorter cs (skip_gap false cs) refl

shorter_behind : (cs start : List ℕ) (t : Kind × List ℕ) → skip_gap false cs ≡ start → token_at start ≡ Some t → length t.1 < length cs
shorter_behind cs [] t e read = none_is t (sym token_nil ∙ read)
shorter_behind cs (c ∷ others) t e read = token_less cs (c ∷ others) t.0 t.1 (skip_starts cs c others e).0 (token_is (c ∷ others) t.0 t.1 read)

pub shorter_behind_token : (cs : List ℕ) (t : Kind × List ℕ) → token_at (skip_gap false cs) ≡ Some t → length t.1 < length cs
shorter_behind_token cs t read = shorter_behind cs (skip_gap false cs) t refl read
