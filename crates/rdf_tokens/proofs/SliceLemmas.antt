-- The slices of tokens, in characters and in bytes.
use Rattle.std.proofs.Common.{◌≡◌, ◌<◌, ◌≤◌, ◌+◌, ◌-◌, ℕ, true, List, [], ◌∷◌, ◌++◌, length, take, drop, get_or, refl, sym, ap, subst, ◌∙◌, append_assoc, length-append, arith, suc, zero}
use Rattle.std.proofs.lemmas.Bool.{and_parts}
use Rattle.std.proofs.lemmas.List.{append_cancel_right, take_at, drop_at}
use Rattle.std.proofs.lemmas.Str.{encodes-chars, encodes-append, chars-encodes, scalars-chars, length-encode, len_utf8_bounds, IsCharBoundary-at_seam}
use Rattle.std.specs.Char.{encode_utf8}
use Rattle.std.specs.List.{AllByRecursion}
use Rattle.std.specs.Str.{chars, encode_utf8_all, IsUtf8, IsCharBoundary}
use lib.Utf8.{scalars, scalar}
use Rattle.rdf_terms.specs.Reading.{byte_count}
use Rattle.rdf_tokens.specs.declared.token.Token.{Token}
use Rattle.rdf_tokens.specs.Tokens.{Stands, HasItsForm}

-- ---- the bytes of a slice

pub scalars_parts : (xs ys : List ℕ) → scalars (xs ++ ys) ≡ true → (scalars xs ≡ true) × (scalars ys ≡ true)
scalars_parts [] ys h = (refl, h)
scalars_parts (x ∷ xs) ys h =
    let p = and_parts (scalar x) (scalars (xs ++ ys)) h in
    let r = scalars_parts xs ys p.1 in
    (rw p.0 r.0, r.1)

-- where a slice stands in the bytes of a text
pub record Placed (bytes : List ℕ) (start stop : ℕ) (slice : List ℕ) : Type 0 where
  pub before : List ℕ
  pub after : List ℕ
  pub whole : bytes ≡ before ++ (encode_utf8_all slice ++ after)
  pub starts : start ≡ length before
  pub stops : stop ≡ length before + length (encode_utf8_all slice)
  pub slice_utf8 : IsUtf8 (encode_utf8_all slice ++ after)
  pub after_utf8 : IsUtf8 after
  pub sound : scalars slice ≡ true

pub placed : (bytes : List ℕ) (start stop : ℕ) (slice : List ℕ) → IsUtf8 bytes → Stands (chars bytes) start stop slice → Placed bytes start stop slice
placed bytes start stop slice u h =
    let before = h.0 in
    let after = h.1 in
    let all : scalars (before ++ (slice ++ after)) ≡ true = ap scalars (sym h.2) ∙ scalars-chars bytes u in
    let back = (scalars_parts before (slice ++ after) all).1 in
    let parts = scalars_parts slice after back in
    let joined : encode_utf8_all (slice ++ after) ≡ encode_utf8_all slice ++ encode_utf8_all after = encodes-append slice after in
    record {
      before = encode_utf8_all before;
      after = encode_utf8_all after;
      whole = sym (encodes-chars bytes u) ∙ ap encode_utf8_all h.2 ∙ encodes-append before (slice ++ after) ∙ ap (λ (t : List ℕ). encode_utf8_all before ++ t) joined;
      starts = h.3;
      stops = h.4 ∙ ap length (encodes-append before slice) ∙ length-append (encode_utf8_all before) (encode_utf8_all slice);
      slice_utf8 = (slice ++ after, (back, joined));
      after_utf8 = (after, (parts.1, refl));
      sound = parts.0;
    }

pub in_order : (bytes : List ℕ) (start stop : ℕ) (slice : List ℕ) → Placed bytes start stop slice → start ≤ stop
in_order bytes start stop slice p = omega (arith, p.starts, p.stops)

pub within : (bytes : List ℕ) (start stop : ℕ) (slice : List ℕ) → Placed bytes start stop slice → stop ≤ length bytes
within bytes start stop slice p =
    omega (arith, p.stops, ap length p.whole, length-append p.before (encode_utf8_all slice ++ p.after), length-append (encode_utf8_all slice) p.after)

pub start_boundary : (bytes : List ℕ) (start stop : ℕ) (slice : List ℕ) → Placed bytes start stop slice → IsCharBoundary bytes start
start_boundary bytes start stop slice p =
    subst (IsCharBoundary bytes) (sym p.starts) (IsCharBoundary-at_seam bytes p.before (encode_utf8_all slice ++ p.after) p.whole p.slice_utf8)

pub stop_boundary : (bytes : List ℕ) (start stop : ℕ) (slice : List ℕ) → Placed bytes start stop slice → IsCharBoundary bytes stop
stop_boundary bytes start stop slice p =
    let front : List ℕ = p.before ++ encode_utf8_all slice in
    let whole : bytes ≡ front ++ p.after = p.whole ∙ sym (append_assoc p.before (encode_utf8_all slice) p.after) in
    let len : length front ≡ stop = length-append p.before (encode_utf8_all slice) ∙ sym p.stops in
    subst (IsCharBoundary bytes) len (IsCharBoundary-at_seam bytes front p.after whole p.after_utf8)

pub cut_bytes : (bytes : List ℕ) (start stop : ℕ) (slice : List ℕ) → Placed bytes start stop slice → take (stop - start) (drop start bytes) ≡ encode_utf8_all slice
cut_bytes bytes start stop slice p =
    let behind : drop start bytes ≡ encode_utf8_all slice ++ p.after =
    ap (drop start) p.whole ∙ drop_at p.before (encode_utf8_all slice ++ p.after) start (sym p.starts) in
    let len : length (encode_utf8_all slice) ≡ stop - start = omega (arith, p.starts, p.stops) in
    ap (take (stop - start)) behind ∙ take_at (encode_utf8_all slice) p.after (stop - start) len

pub cut_chars : (bytes : List ℕ) (start stop : ℕ) (slice part : List ℕ) → Placed bytes start stop slice → part ≡ take (stop - start) (drop start bytes) → chars part ≡ slice
cut_chars bytes start stop slice part p e = ap chars (e ∙ cut_bytes bytes start stop slice p) ∙ chars-encodes slice p.sound

pub stands_as : (text : List ℕ) (start stop : ℕ) (slice part : List ℕ) → part ≡ slice → Stands text start stop slice → Stands text start stop part
stands_as text start stop slice part e h = subst (Stands text start stop) (sym e) h

pub token_stands : (text : List ℕ) (token : Token) (h : HasItsForm text token) → Stands text token.start token.stop h.1
token_stands text token h = (h.0, h.2, h.3, h.4, h.5)

-- ---- one slice stands at two places

encode_some : (c : ℕ) → 0 < length (encode_utf8 c)
encode_some c = omega (arith, length-encode c, (len_utf8_bounds c).0)

fronts_same : (xs ys us vs : List ℕ) → xs ++ us ≡ ys ++ vs → byte_count xs ≡ byte_count ys → us ≡ vs
fronts_same [] [] us vs e n = e
fronts_same [] (y ∷ ys) us vs e n = absurd (omega (arith, encode_some y, length-append (encode_utf8 y) (encode_utf8_all ys)))
fronts_same (x ∷ xs) [] us vs e n = absurd (omega (arith, encode_some x, length-append (encode_utf8 x) (encode_utf8_all xs)))
fronts_same (x ∷ xs) (y ∷ ys) us vs e n =
    let p = cons_parts x y (xs ++ us) (ys ++ vs) e in
    let same : length (encode_utf8 x) ≡ length (encode_utf8 y) = ap (λ (c : ℕ). length (encode_utf8 c)) p.0 in
    fronts_same xs ys us vs p.1 (omega (arith, n, same, length-append (encode_utf8 x) (encode_utf8_all xs), length-append (encode_utf8 y) (encode_utf8_all ys)))
  where
    cons_parts : (a b : ℕ) (xs ys : List ℕ) → (a ∷ xs) ≡ (b ∷ ys) → (a ≡ b) × (xs ≡ ys)
    cons_parts a b xs ys e = (cc, cc)

pub stands_once : (text : List ℕ) (start stop : ℕ) (s t : List ℕ) → Stands text start stop s → Stands text start stop t → s ≡ t
stands_once text start stop s t h k =
    let from : s ++ h.1 ≡ t ++ k.1 = fronts_same h.0 k.0 (s ++ h.1) (t ++ k.1) (sym h.2 ∙ k.2) (sym h.3 ∙ k.3) in
    let whole : (h.0 ++ s) ++ h.1 ≡ (k.0 ++ t) ++ k.1 = append_assoc h.0 s h.1 ∙ sym h.2 ∙ k.2 ∙ sym (append_assoc k.0 t k.1) in
    let after : h.1 ≡ k.1 = fronts_same (h.0 ++ s) (k.0 ++ t) h.1 k.1 whole (sym h.4 ∙ k.4) in
    append_cancel_right s t k.1 (ap (λ (u : List ℕ). s ++ u) (sym after) ∙ from)

-- ---- the tokens of a list

pub form_at : (text : List ℕ) (tokens : List Token) (i : ℕ) (d : Token) → AllByRecursion (HasItsForm text) tokens → i < length tokens → HasItsForm text (get_or tokens i d)
form_at text [] i d h lt = absurd (omega arith)
form_at text (t ∷ ts) zero d h lt = h.0
form_at text (t ∷ ts) (suc i) d h lt = form_at text ts i d h.1 (omega arith)
