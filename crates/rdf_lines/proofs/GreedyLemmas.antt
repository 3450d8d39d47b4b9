-- Names behind a mark: the longest one is read.
use Rattle.std.proofs.Common.{◌≡◌, ℕ, ◌≤◌, List, [], ◌∷◌, ◌++◌, length, Option, Some, refl, sym, ap, ◌∙◌, append_assoc, length-append, arith}
use Rattle.std.specs.Str.{encode_utf8_all}
use Rattle.rdf_terms.specs.Reading.{◌>>=◌, expect, between}
use Rattle.rdf_terms.specs.ReadingLaws.{IsGreedy}
use Rattle.rdf_terms.proofs.CallerLemmas.{bind_some, some_is, some_pair, expect_sound, expect_complete, between_is}
use Rattle.rdf_lines.specs.Reading.{name_at}
use Rattle.rdf_lines.specs.Grammar.{IsMarked, Takes}

-- behind the characters of a mark
abbrev pub marked_at : List ℕ → (List ℕ → Option (List ℕ × List ℕ)) → List ℕ → Option (List ℕ × List ℕ)
marked_at [] read cs = read cs
marked_at (m ∷ ms) read cs = expect m cs >>= λ rest. marked_at ms read rest

marked_sound : (mark : List ℕ) (read : List ℕ → Option (List ℕ × List ℕ)) (cs : List ℕ) (x : List ℕ × List ℕ) → marked_at mark read cs ≡ Some x
    → (body : List ℕ) × (cs ≡ mark ++ body) × (read body ≡ Some x)
marked_sound [] read cs x e = (cs, refl, e)
marked_sound (m ∷ ms) read cs x e =
    let b = bind_some (expect m cs) (λ rest. marked_at ms read rest) x e in
    let more = marked_sound ms read b.0 x b.2 in
    (more.0, expect_sound m cs b.0 b.1 ∙ ap (λ (t : List ℕ). m ∷ t) more.1, more.2)

marked_complete : (mark : List ℕ) (read : List ℕ → Option (List ℕ × List ℕ)) (body : List ℕ) → marked_at mark read (mark ++ body) ≡ read body
marked_complete [] read body = refl
marked_complete (m ∷ ms) read body = rw (expect_complete m (ms ++ body)) (marked_complete ms read body)

name_sound : (end_at : List ℕ → Option (List ℕ)) (body text rest : List ℕ) → name_at end_at body ≡ Some (text, rest)
    → (end_at body ≡ Some rest) × (text ≡ encode_utf8_all (between body rest))
unfolding name_at
name_sound end_at body text rest e =
    let b = bind_some (end_at body) _ (text, rest) e in
    let p = some_pair (encode_utf8_all (between body b.0)) text b.0 rest b.2 in
    (b.1 ∙ ap (λ (t : List ℕ). Some t) p.1, sym p.0 ∙ ap (λ (t : List ℕ). encode_utf8_all (between body t)) p.1)

name_complete : (end_at : List ℕ → Option (List ℕ)) (body rest : List ℕ) → end_at body ≡ Some rest → name_at end_at body ≡ Some (encode_utf8_all (between body rest), rest)
unfolding name_at
name_complete end_at body rest e = rw e refl

tail_is : (a b : ℕ) (xs ys : List ℕ) → (a ∷ xs) ≡ (b ∷ ys) → xs ≡ ys
tail_is a b xs ys e = cc

cancel : (mark xs ys : List ℕ) → mark ++ xs ≡ mark ++ ys → xs ≡ ys
cancel [] xs ys e = e
cancel (m ∷ ms) xs ys e = cancel ms xs ys (tail_is m m (ms ++ xs) (ms ++ ys) e)

pub same_length : (a b x y : List ℕ) → a ++ x ≡ b ++ y → length a ≡ length b → (a ≡ b) × (x ≡ y)
same_length [] [] x y e h = (refl, e)
same_length [] (b ∷ bs) x y e h = absurd (omega arith)
same_length (a ∷ more) [] x y e h = absurd (omega arith)
same_length (a ∷ xs) (b ∷ ys) x y e h =
    let heads : a ≡ b = cc in
    let tails : xs ++ x ≡ ys ++ y = cc in
    let more = same_length xs ys x y tails (omega (arith, h)) in
    (ap (λ (n : ℕ). n ∷ xs) heads ∙ ap (λ (t : List ℕ). b ∷ t) more.0, more.1)

pub greedy_sound : {IsName : List ℕ → Type 0} (end_at : List ℕ → Option (List ℕ)) → IsGreedy IsName end_at → (mark cs text rest : List ℕ)
    → marked_at mark (name_at end_at) cs ≡ Some (text, rest) → Takes (IsMarked mark IsName) cs text rest
greedy_sound {IsName} end_at is mark cs text rest e =
    let m = marked_sound mark (name_at end_at) cs (text, rest) e in
    let body = m.0 in
    let n = name_sound end_at body text rest m.2 in
    let s = is.sound body rest n.0 in
    let name = s.0 in
    record {
      slice = mark ++ name;
      form = (name, refl, s.2, n.1 ∙ ap encode_utf8_all (between_is body rest name s.1));
      parts = m.1 ∙ ap (λ (t : List ℕ). mark ++ t) s.1 ∙ sym (append_assoc mark name rest);
      longest = λ longer after other form parts.
          let whole : mark ++ body ≡ mark ++ (form.0 ++ after) = sym m.1 ∙ parts ∙ ap (λ (t : List ℕ). t ++ after) form.1 ∙ append_assoc mark form.0 after in
          let here : body ≡ form.0 ++ after = cancel mark body (form.0 ++ after) whole in
          let c = is.claims form.0 after form.2 in
          let same : rest ≡ c.0 = some_is rest c.0 (sym n.0 ∙ ap end_at here ∙ c.1) in
          omega (arith, ap length here, ap length s.1, ap length form.1, ap length same, c.2, length-append form.0 after, length-append name rest, length-append mark form.0, length-append mark name);
    }

pub greedy_complete : {IsName : List ℕ → Type 0} (end_at : List ℕ → Option (List ℕ)) → IsGreedy IsName end_at → (mark cs text rest : List ℕ)
    → Takes (IsMarked mark IsName) cs text rest → marked_at mark (name_at end_at) cs ≡ Some (text, rest)
greedy_complete end_at is mark cs text rest t =
    let name = t.form.0 in
    let body : List ℕ = name ++ rest in
    let whole : cs ≡ mark ++ body = t.parts ∙ ap (λ (x : List ℕ). x ++ rest) t.form.1 ∙ append_assoc mark name rest in
    let c = is.claims name rest t.form.2 in
    let s = is.sound body c.0 c.1 in
    let long : length (mark ++ s.0) ≤ length t.slice =
    t.longest (mark ++ s.0) c.0 (encode_utf8_all s.0) (s.0, refl, s.2, refl)
    (whole ∙ ap (λ (x : List ℕ). mark ++ x) s.1 ∙ sym (append_assoc mark s.0 c.0)) in
    let size : length name ≡ length s.0 =
    omega (arith, long, c.2, ap length s.1, ap length t.form.1, length-append mark name, length-append mark s.0, length-append name rest, length-append s.0 c.0) in
    let same = same_length name s.0 rest c.0 s.1 size in
    let value : encode_utf8_all (between body c.0) ≡ text = ap encode_utf8_all (between_is body c.0 s.0 s.1 ∙ sym same.0) ∙ sym t.form.3 in
    ap (marked_at mark (name_at end_at)) whole ∙ marked_complete mark (name_at end_at) body ∙ name_complete end_at body c.0 c.1
    ∙ ap (λ (x : List ℕ). Some (x, c.0)) value ∙ ap (λ (x : List ℕ). Some (text, x)) (sym same.1)
