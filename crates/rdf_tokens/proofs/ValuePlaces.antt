-- Characters at the front and at the end of a text, and its bytes.
use Rattle.std.proofs.Common.{◌≡◌, ◌≢◌, ◌+◌, ◌<◌, ℕ, suc, Bool, true, false, eqb, List, [], ◌∷◌, ◌++◌, length, take, drop, drop-cons, take-append-drop, append-nil, add-one, get_or, Option, Some, None, refl, sym, ap, subst, ◌∙◌, arith, length-append, append_assoc, MatchOption}
use Rattle.std.proofs.lemmas.Bool.{eq-eqb, eqb-true, or_parts}
use Rattle.std.proofs.lemmas.List.Folds.{drop_split}
use Rattle.std.proofs.lemmas.List.Quantifiers.{position-Some}
use Rattle.std.specs.List.{list_any, position, slice_range}
use Rattle.std.proofs.lemmas.List.{take_at, drop_at, get_or_at, append_cancel_right, append_cancel_left}
use Rattle.std.proofs.lemmas.Str.{chars_past_char, chars-append, encodes-chars, encodes-append, encodes_same, encode_ascii, IsUtf8-take, IsUtf8-drop, IsCharBoundary-before_ascii, IsCharBoundary-after_ascii}
use Rattle.std.specs.Prelude.{option_map, ◌==◌}
use Rattle.std.specs.Str.{chars, encode_utf8_all, IsUtf8, IsCharBoundary, NonePass, NoCharPasses}
use denote.Ref.{Bor}
use Rattle.rdf_terms.specs.Cuts.{before, after}
use Rattle.rdf_terms.specs.Reading.{expect}
use Rattle.rdf_terms.proofs.CallerLemmas.{some_is, none_is, guard_some, may_stop, past_some, past_none, expect_sound, expect_complete}
use Rattle.rdf_tokens.specs.Inside.Shortcuts.{is_colon}
use Rattle.rdf_tokens.specs.Values.{before_end, enclosed, tag_value, prefix_part, local_part}

-- ---- an ASCII character at the front

pub front_utf8 : (xs ys : List ℕ) (c : ℕ) → c < 128 → IsUtf8 (xs ++ c ∷ ys) → IsUtf8 xs
front_utf8 xs ys c low u =
    let at : get_or (xs ++ c ∷ ys) (length xs) 0 ≡ c = get_or_at xs c ys 0 (length xs) refl in
    let within : length xs < length (xs ++ c ∷ ys) = omega (arith, length-append xs (c ∷ ys)) in
    subst IsUtf8 (take_at xs (c ∷ ys) (length xs) refl)
    (IsUtf8-take (xs ++ c ∷ ys) (length xs) u (IsCharBoundary-before_ascii (xs ++ c ∷ ys) (length xs) within (omega arith)))

pub back_utf8 : (xs ys : List ℕ) (c : ℕ) → c < 128 → IsUtf8 (xs ++ c ∷ ys) → IsUtf8 ys
back_utf8 xs ys c low u =
    let at : get_or (xs ++ c ∷ ys) (length xs) 0 ≡ c = get_or_at xs c ys 0 (length xs) refl in
    let within : length xs < length (xs ++ c ∷ ys) = omega (arith, length-append xs (c ∷ ys)) in
    let behind : drop (length xs + 1) (xs ++ c ∷ ys) ≡ ys =
    ap (drop (length xs + 1)) (sym (append_assoc xs (c ∷ []) ys)) ∙ drop_at (xs ++ c ∷ []) ys (length xs + 1) (length-append xs (c ∷ [])) in
    subst IsUtf8 behind
    (IsUtf8-drop (xs ++ c ∷ ys) (length xs + 1) u (IsCharBoundary-after_ascii (xs ++ c ∷ ys) (length xs) u within (omega arith)))

pub chars_behind : (c : ℕ) (bs : List ℕ) → c < 128 → IsUtf8 (c ∷ bs) → chars (c ∷ bs) ≡ c ∷ chars bs
chars_behind c bs low u = chars_past_char (c ∷ bs) bs c u (sym (ap (λ (t : List ℕ). t ++ bs) (encode_ascii c low)))

pub chars_around : (xs ys : List ℕ) (c : ℕ) → c < 128 → IsUtf8 (xs ++ c ∷ ys) → chars (xs ++ c ∷ ys) ≡ chars xs ++ c ∷ chars ys
chars_around xs ys c low u =
    let back : IsUtf8 (c ∷ ys) =
    subst IsUtf8 (drop_at xs (c ∷ ys) (length xs) refl)
    (IsUtf8-drop (xs ++ c ∷ ys) (length xs) u
    (IsCharBoundary-before_ascii (xs ++ c ∷ ys) (length xs) (omega (arith, length-append xs (c ∷ ys))) (omega (arith, get_or_at xs c ys 0 (length xs) refl)))) in
    chars-append xs (c ∷ ys) (front_utf8 xs ys c low u) ∙ ap (λ (t : List ℕ). chars xs ++ t) (chars_behind c ys low back)

bytes_front : (c : ℕ) (bs cs : List ℕ) → c < 128 → IsUtf8 bs → chars bs ≡ c ∷ cs → bs ≡ c ∷ encode_utf8_all cs
bytes_front c bs cs low u e = sym (encodes-chars bs u) ∙ ap encode_utf8_all e ∙ ap (λ (t : List ℕ). t ++ encode_utf8_all cs) (encode_ascii c low)

no_front_by : (c : ℕ) (bs : List ℕ) (o : Option (List ℕ)) → c < 128 → IsUtf8 bs → ((rest : List ℕ) → bs ≢ c ∷ rest) → expect c (chars bs) ≡ o → o ≡ None
no_front_by c bs None low u none e = refl
no_front_by c bs (Some rest) low u none e = absurd (none (encode_utf8_all rest) (bytes_front c bs rest low u (expect_sound c (chars bs) rest e)))

pub no_front : (c : ℕ) (bs : List ℕ) → c < 128 → IsUtf8 bs → ((rest : List ℕ) → bs ≢ c ∷ rest) → expect c (chars bs) ≡ None
no_front c bs low u none = no_front_by c bs (expect c (chars bs)) low u none refl

pub at_front : (c : ℕ) (bs rest : List ℕ) → c < 128 → IsUtf8 bs → bs ≡ c ∷ rest → expect c (chars bs) ≡ Some (chars rest)
at_front c bs rest low u e =
    ap (λ (t : List ℕ). expect c (chars t)) e ∙ ap (expect c) (chars_behind c rest low (subst IsUtf8 e u)) ∙ expect_complete c (chars rest)

pub rest_utf8 : (c : ℕ) (bs rest : List ℕ) → c < 128 → IsUtf8 bs → bs ≡ c ∷ rest → IsUtf8 rest
rest_utf8 c bs rest low u e = back_utf8 [] rest c low (subst IsUtf8 e u)

-- ---- and at the end

map_some : {A B : Type 0} (f : A → B) (o : Option A) (y : B) → option_map f o ≡ Some y → (x : A) × (o ≡ Some x) × (f x ≡ y)
map_some f None y e = none_is y e
map_some f (Some x) y e = (x, refl, some_is (f x) y e)

pub before_end_complete : (mark : ℕ) (front : List ℕ) → before_end mark (front ++ mark ∷ []) ≡ Some front
unfolding before_end
before_end_complete mark [] = rw (eq-eqb mark mark refl) refl
before_end_complete mark (c ∷ []) = ap (option_map (λ (front : List ℕ). c ∷ front)) (before_end_complete mark [])
before_end_complete mark (c ∷ d ∷ cs) = ap (option_map (λ (front : List ℕ). c ∷ front)) (before_end_complete mark (d ∷ cs))

pub before_end_sound : (mark : ℕ) (cs front : List ℕ) → before_end mark cs ≡ Some front → cs ≡ front ++ mark ∷ []
unfolding before_end
before_end_sound mark [] front e = none_is front e
before_end_sound mark (c ∷ []) front e =
    let g = guard_some {A = List ℕ} (eqb c mark) (Some []) front e in
    ap (λ (x : ℕ). x ∷ []) (eqb-true c mark g.0) ∙ ap (λ (t : List ℕ). t ++ mark ∷ []) (some_is [] front g.1)
before_end_sound mark (c ∷ d ∷ cs) front e =
    let m = map_some (λ (t : List ℕ). c ∷ t) (before_end mark (d ∷ cs)) front e in
    ap (λ (t : List ℕ). c ∷ t) (before_end_sound mark (d ∷ cs) m.0 m.1) ∙ ap (λ (t : List ℕ). t ++ mark ∷ []) m.2

encode_one : (c : ℕ) → c < 128 → encode_utf8_all (c ∷ []) ≡ c ∷ []
encode_one c low = ap (λ (t : List ℕ). t ++ []) (encode_ascii c low)

bytes_end : (c : ℕ) (bs cs : List ℕ) → c < 128 → IsUtf8 bs → chars bs ≡ cs ++ c ∷ [] → bs ≡ encode_utf8_all cs ++ c ∷ []
bytes_end c bs cs low u e =
    sym (encodes-chars bs u) ∙ ap encode_utf8_all e ∙ encodes-append cs (c ∷ []) ∙ ap (λ (t : List ℕ). encode_utf8_all cs ++ t) (encode_one c low)

no_end_by : (c : ℕ) (bs : List ℕ) (o : Option (List ℕ)) → c < 128 → IsUtf8 bs → ((front : List ℕ) → bs ≢ front ++ (c ∷ [])) → before_end c (chars bs) ≡ o → o ≡ None
no_end_by c bs None low u none e = refl
no_end_by c bs (Some front) low u none e = absurd (none (encode_utf8_all front) (bytes_end c bs front low u (before_end_sound c (chars bs) front e)))

no_end : (c : ℕ) (bs : List ℕ) → c < 128 → IsUtf8 bs → ((front : List ℕ) → bs ≢ front ++ (c ∷ [])) → before_end c (chars bs) ≡ None
no_end c bs low u none = no_end_by c bs (before_end c (chars bs)) low u none refl

chars_nil : chars [] ≡ []
unfolding chars
chars_nil = refl

at_end : (c : ℕ) (bs front : List ℕ) → c < 128 → IsUtf8 bs → bs ≡ front ++ c ∷ [] → before_end c (chars bs) ≡ Some (chars front)
at_end c bs front low u e =
    ap (λ (t : List ℕ). before_end c (chars t)) e ∙ ap (before_end c) (chars_around front [] c low (subst IsUtf8 e u) ∙ ap (λ (t : List ℕ). chars front ++ c ∷ t) chars_nil)
    ∙ before_end_complete c (chars front)

-- ---- between marks

pub no_enclosed_front : (first last : ℕ) (bs : List ℕ) → first < 128 → IsUtf8 bs → ((rest : List ℕ) → bs ≢ first ∷ rest) → enclosed first last (chars bs) ≡ None
unfolding enclosed
no_enclosed_front first last bs low u none = rw (no_front first bs low u none) refl

pub enclosed_from : (first last : ℕ) (bs rest : List ℕ) (r : Option (Bor (List ℕ))) → first < 128 → last < 128 → IsUtf8 bs → bs ≡ first ∷ rest
    → MatchOption r ((front : List ℕ) → rest ≢ front ++ (last ∷ [])) (λ x. rest ≡ x.now ++ (last ∷ []))
    → MatchOption r (enclosed first last (chars bs) ≡ None) (λ b. enclosed first last (chars bs) ≡ Some (chars b.now))
unfolding enclosed
enclosed_from first last bs rest None lf ll u e h =
    rw (at_front first bs rest lf u e) (no_end last rest ll (rest_utf8 first bs rest lf u e) h)
enclosed_from first last bs rest (Some x) lf ll u e h =
    rw (at_front first bs rest lf u e) (at_end last rest x.now ll (rest_utf8 first bs rest lf u e) h)

pub enclosed_complete : (first last : ℕ) (body : List ℕ) → enclosed first last (first ∷ (body ++ last ∷ [])) ≡ Some body
unfolding enclosed
enclosed_complete first last body = rw (expect_complete first (body ++ last ∷ [])) (before_end_complete last body)

-- ---- tags

pub tag_is : (bs tag : List ℕ) → IsUtf8 bs → bs ≡ 64 ∷ tag → tag ≡ tag_value (chars bs)
unfolding tag_value
tag_is bs tag u e = rw (at_front 64 bs tag (omega arith) u e) (sym (encodes-chars tag (rest_utf8 64 bs tag (omega arith) u e)))

pub no_tag : (bs : List ℕ) → IsUtf8 bs → ((rest : List ℕ) → bs ≢ 64 ∷ rest) → [] ≡ tag_value (chars bs)
unfolding tag_value
no_tag bs u none = rw (no_front 64 bs (omega arith) u none) refl

-- ---- a cut at the first colon

abbrev pub Colonless : List ℕ → Type 0
Colonless cs = NonePass (λ d. d == 58) cs

pub before_colon : (xs ys : List ℕ) → Colonless xs → before 58 (xs ++ 58 ∷ ys) ≡ xs
before_colon [] ys none = refl
before_colon (x ∷ xs) ys none = rw none.0 (ap (λ (t : List ℕ). x ∷ t) (before_colon xs ys none.1))

pub after_colon : (xs ys : List ℕ) → Colonless xs → after 58 (xs ++ 58 ∷ ys) ≡ Some ys
after_colon [] ys none = refl
after_colon (x ∷ xs) ys none = rw none.0 (after_colon xs ys none.1)

before_none : (xs : List ℕ) → Colonless xs → before 58 xs ≡ xs
before_none [] none = refl
before_none (x ∷ xs) none = rw none.0 (ap (λ (t : List ℕ). x ∷ t) (before_none xs none.1))

after_none : (xs : List ℕ) → Colonless xs → after 58 xs ≡ None
after_none [] none = refl
after_none (x ∷ xs) none = rw none.0 (after_none xs none.1)

-- no character of the text passes: nor does one of its characters as `chars` has them
pub none_pass : (test : ℕ → Bool) (bs : List ℕ) → IsUtf8 bs → NoCharPasses test bs → NonePass test (chars bs)
none_pass test bs u h = subst (NonePass test) (encodes_same h.0 (chars bs) (h.1 ∙ sym (encodes-chars bs u))) h.2

-- ---- the first colon by its place among the bytes

colon_low : (b : ℕ) → is_colon b ≡ true → b < 128
colon_low b e = omega (arith, eqb-true b 58 e)

colonless : (cs : List ℕ) → list_any is_colon cs ≡ false → Colonless cs
colonless [] h = tt
colonless (c ∷ cs) h = let p = or_parts (is_colon c) (list_any is_colon cs) h in (p.0, colonless cs p.1)

pub cut_there : (bs : List ℕ) (n : ℕ) → position is_colon bs ≡ Some n → (n < length bs) × (get_or bs n 0 ≡ 58)
cut_there bs n e = let p = position-Some is_colon bs n 0 e in (p.0, eqb-true (get_or bs n 0) 58 p.1)

pub front_range : (bs : List ℕ) (n : ℕ) → slice_range bs 0 n ≡ take n bs
front_range bs n = append_cancel_right (slice_range bs 0 n) (take n bs) (drop n bs) (sym (drop_split bs 0 n (omega arith)) ∙ sym (take-append-drop n bs))

pub colon_boundary : (bs : List ℕ) (n : ℕ) → position is_colon bs ≡ Some n → IsCharBoundary bs n
colon_boundary bs n e = may_stop is_colon colon_low bs n e

pub behind_boundary : (bs : List ℕ) (n : ℕ) → IsUtf8 bs → position is_colon bs ≡ Some n → IsCharBoundary bs (n + 1)
behind_boundary bs n u e = let p = cut_there bs n e in IsCharBoundary-after_ascii bs n u p.0 (omega (arith, p.1))

split_chars : (bs : List ℕ) (n : ℕ) → IsUtf8 bs → position is_colon bs ≡ Some n
    → (chars bs ≡ chars (take n bs) ++ 58 ∷ chars (drop (n + 1) bs)) × Colonless (chars (take n bs))
split_chars bs n u e =
    let p = cut_there bs n e in
    let whole : bs ≡ take n bs ++ 58 ∷ drop (n + 1) bs =
    rw add-one (sym (take-append-drop n bs) ∙ ap (λ (t : List ℕ). take n bs ++ t) (drop-cons bs n 0 p.0 ∙ ap (λ (x : ℕ). x ∷ drop (suc n) bs) p.1)) in
    let parts : chars bs ≡ chars (take n bs) ++ 58 ∷ chars (drop (n + 1) bs) =
    ap chars whole ∙ chars_around (take n bs) (drop (n + 1) bs) 58 (omega arith) (subst IsUtf8 whole u) in
    let past = past_some is_colon colon_low bs (chars bs) n u refl e in
    let behind : chars (drop n bs) ≡ 58 ∷ chars (drop (n + 1) bs) =
    append_cancel_left (chars (take n bs)) (chars (drop n bs)) (58 ∷ chars (drop (n + 1) bs))
    (sym (chars-append (take n bs) (drop n bs) (IsUtf8-take bs n u (colon_boundary bs n e))) ∙ ap chars (take-append-drop n bs) ∙ parts) in
    let same : past.0 ≡ chars (take n bs) =
    append_cancel_right past.0 (chars (take n bs)) (58 ∷ chars (drop (n + 1) bs)) (ap (λ (t : List ℕ). past.0 ++ t) (sym behind) ∙ sym past.1 ∙ parts) in
    (parts, subst Colonless same (colonless past.0 past.2))

pub prefix_is : (bs slice : List ℕ) (n : ℕ) → IsUtf8 bs → chars bs ≡ slice → position is_colon bs ≡ Some n → chars (take n bs) ≡ prefix_part slice
unfolding prefix_part
prefix_is bs slice n u e h =
    let s = split_chars bs n u h in
    sym (ap (before 58) (sym e ∙ s.0) ∙ before_colon (chars (take n bs)) (chars (drop (n + 1) bs)) s.1)

pub local_is : (bs slice : List ℕ) (n : ℕ) → IsUtf8 bs → chars bs ≡ slice → position is_colon bs ≡ Some n → chars (drop (n + 1) bs) ≡ local_part slice
unfolding local_part
local_is bs slice n u e h =
    let s = split_chars bs n u h in
    rw (sym e ∙ s.0, after_colon (chars (take n bs)) (chars (drop (n + 1) bs)) s.1) refl

no_colon : (bs : List ℕ) → IsUtf8 bs → position is_colon bs ≡ None → Colonless (chars bs)
no_colon bs u h =
    let past = past_none is_colon colon_low bs (chars bs) u refl h in
    let same : past.0 ≡ chars bs = sym (past.1 ∙ ap (λ (t : List ℕ). past.0 ++ t) chars_nil ∙ append-nil past.0) in
    subst Colonless same (colonless past.0 past.2)

pub prefix_whole : (bs slice : List ℕ) → IsUtf8 bs → chars bs ≡ slice → position is_colon bs ≡ None → slice ≡ prefix_part slice
unfolding prefix_part
prefix_whole bs slice u e h = sym (before_none slice (subst Colonless e (no_colon bs u h)))

pub no_local : (bs slice : List ℕ) → IsUtf8 bs → chars bs ≡ slice → position is_colon bs ≡ None → chars [] ≡ local_part slice
unfolding local_part
no_local bs slice u e h = rw (after_none slice (subst Colonless e (no_colon bs u h))) chars_nil
