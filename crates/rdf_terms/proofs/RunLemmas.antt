-- Characters up to a last one: what is read is written so, and what is written so is read.
use Rattle.std.proofs.Common.{◌≡◌, ◌≢◌, ℕ, zero, suc, ◌+◌, ◌<◌, ◌≤◌, cond, eqb, List, [], ◌∷◌, ◌++◌, length, Option, Some, None, refl, sym, ap, subst, ◌∙◌, inl, inr, append_assoc, length-append, arith}
use Rattle.std.specs.Char.{encode_utf8}
use Rattle.std.specs.Str.{encode_utf8_all}
use Rattle.std.proofs.lemmas.Bool.{cases_Bool, eqb-true, eq-eqb, ne_eqb}
use Rattle.rdf_terms.specs.Reading.{◌>>=◌, up_to}
use Rattle.rdf_terms.specs.Escapes.{Writes}
use Rattle.rdf_terms.proofs.OptionLemmas.{bind_some, some_pair, none_is}

-- A reader of one character gives just what Form has: at every front, and never where the last one stands.
pub record IsOne (Form : List ℕ → ℕ → Type 0) (one : List ℕ → Option (ℕ × List ℕ)) (last : ℕ) : Type 0 where
  pub sound : (cs : List ℕ) (c : ℕ) (rest : List ℕ) → one cs ≡ Some (c, rest) → (unit : List ℕ) × (cs ≡ unit ++ rest) × Form unit c
  pub complete : (unit : List ℕ) (c : ℕ) (rest : List ℕ) → Form unit c → one (unit ++ rest) ≡ Some (c, rest)
  pub begins : (unit : List ℕ) (c : ℕ) → Form unit c → (b : ℕ) × (bs : List ℕ) × (unit ≡ b ∷ bs) × (b ≢ last)

-- one character takes at least one
pub one_shorter : {Form : List ℕ → ℕ → Type 0} (one : List ℕ → Option (ℕ × List ℕ)) (last : ℕ) → IsOne Form one last
    → (cs : List ℕ) (c : ℕ) (rest : List ℕ) → one cs ≡ Some (c, rest) → length rest < length cs
one_shorter one last is cs c rest e =
    let s = is.sound cs c rest e in
    let b = is.begins s.0 c s.2 in
    let len : length cs ≡ length (b.0 ∷ b.1) + length rest = ap length (s.1 ∙ ap (λ (t : List ℕ). t ++ rest) b.2) ∙ length-append (b.0 ∷ b.1) rest in
    omega (arith, len)

bind_same : {A B : Type 0} (o : Option A) (f g : A → Option B) → ((x : A) → o ≡ Some x → f x ≡ g x) → (o >>= f) ≡ (o >>= g)
bind_same None f g h = refl
bind_same (Some x) f g h = h x refl

-- the count may be any that is large enough
enough : {Form : List ℕ → ℕ → Type 0} (one : List ℕ → Option (ℕ × List ℕ)) (last : ℕ) → IsOne Form one last
    → (n m : ℕ) (cs : List ℕ) → length cs ≤ n → length cs ≤ m → up_to one last n cs ≡ up_to one last m cs
unfolding up_to
enough one last is zero zero cs p q = refl
enough one last is zero (suc m) [] p q = refl
enough one last is zero (suc m) (c ∷ cs) p q = absurd (omega arith)
enough one last is (suc n) zero [] p q = refl
enough one last is (suc n) zero (c ∷ cs) p q = absurd (omega arith)
enough one last is (suc n) (suc m) [] p q = refl
enough one last is (suc n) (suc m) (c ∷ cs) p q =
    ap (λ (o : Option (List ℕ × List ℕ)). cond (eqb c last) (Some ([], cs)) o)
    (bind_same (one (c ∷ cs)) _ _ (λ x e.
    let short : length x.1 < length (c ∷ cs) = one_shorter one last is (c ∷ cs) x.0 x.1 e in
    ap (λ (o : Option (List ℕ × List ℕ)). o >>= λ others. Some (encode_utf8 x.0 ++ others.0, others.1))
    (enough one last is n m x.1 (omega (arith, short)) (omega (arith, short)))))

-- what stands at the front, with what is read behind it
abbrev pub with_front : List ℕ → Option (List ℕ × List ℕ) → Option (List ℕ × List ℕ)
with_front front read = read >>= λ others. Some (front ++ others.0, others.1)

abbrev pub run_at : (List ℕ → Option (ℕ × List ℕ)) → ℕ → List ℕ → Option (List ℕ × List ℕ)
run_at one last cs = up_to one last (length cs) cs

pub run_last : (one : List ℕ → Option (ℕ × List ℕ)) (last : ℕ) (cs : List ℕ) → run_at one last (last ∷ cs) ≡ Some ([], cs)
unfolding up_to
run_last one last cs = rw (eq-eqb last last refl) refl

head_is : (a b : ℕ) (xs ys : List ℕ) → (a ∷ xs) ≡ (b ∷ ys) → a ≡ b
head_is a b xs ys e = cc

pub run_step : {Form : List ℕ → ℕ → Type 0} (one : List ℕ → Option (ℕ × List ℕ)) (last : ℕ) → IsOne Form one last
    → (cs : List ℕ) (c : ℕ) (rest : List ℕ) → one cs ≡ Some (c, rest) → run_at one last cs ≡ with_front (encode_utf8 c) (run_at one last rest)
unfolding up_to
run_step one last is [] c rest e =
    absurd (omega (arith, one_shorter one last is [] c rest e))
run_step one last is (d ∷ cs) c rest e =
    let s = is.sound (d ∷ cs) c rest e in
    let b = is.begins s.0 c s.2 in
    let ne : d ≢ last = subst (λ (x : ℕ). x ≢ last) (head_is b.0 d (b.1 ++ rest) cs (sym (s.1 ∙ ap (λ (t : List ℕ). t ++ rest) b.2))) b.3 in
    let short : length rest < length (d ∷ cs) = one_shorter one last is (d ∷ cs) c rest e in
    rw (ne_eqb d last ne, e)
    (ap (with_front (encode_utf8 c)) (enough one last is (length cs) (length rest) rest (omega (arith, short)) (omega arith)))

-- ---- the whole run, both ways

up_to_sound : {Form : List ℕ → ℕ → Type 0} (one : List ℕ → Option (ℕ × List ℕ)) (last : ℕ) → IsOne Form one last
    → (n : ℕ) (cs text rest : List ℕ) → up_to one last n cs ≡ Some (text, rest)
    → (body vs : List ℕ) × (cs ≡ body ++ last ∷ rest) × Writes Form body vs × (text ≡ encode_utf8_all vs)
unfolding up_to
up_to_sound one last is zero cs text rest e = none_is (text, rest) e
up_to_sound one last is (suc n) [] text rest e = none_is (text, rest) e
up_to_sound one last is (suc n) (c ∷ cs) text rest e =
    elim (cases_Bool (eqb c last)) [
      | inl is-last ↦
          let p = some_pair [] text cs rest (rw is-last at e) in
          ([], [], ap (λ (x : ℕ). x ∷ cs) (eqb-true c last is-last) ∙ ap (λ (t : List ℕ). last ∷ t) p.1, refl, sym p.0)
      | inr not-last ↦
          let a = bind_some (one (c ∷ cs)) _ (text, rest) (rw not-last at e) in
          let b = bind_some (up_to one last n a.0.1) _ (text, rest) a.2 in
          let p = some_pair (encode_utf8 a.0.0 ++ b.0.0) text b.0.1 rest b.2 in
          let s = is.sound (c ∷ cs) a.0.0 a.0.1 a.1 in
          let t = up_to_sound one last is n a.0.1 b.0.0 b.0.1 b.1 in (
            s.0 ++ t.0,
            a.0.0 ∷ t.1,
            s.1 ∙ ap (λ (x : List ℕ). s.0 ++ x) (t.2 ∙ ap (λ (x : List ℕ). t.0 ++ last ∷ x) p.1) ∙ sym (append_assoc s.0 t.0 (last ∷ rest)),
            (s.0, t.0, refl, s.2, t.3),
            sym p.0 ∙ ap (λ (x : List ℕ). encode_utf8 a.0.0 ++ x) t.4,
          )
    ]

pub run_sound : {Form : List ℕ → ℕ → Type 0} (one : List ℕ → Option (ℕ × List ℕ)) (last : ℕ) → IsOne Form one last
    → (cs text rest : List ℕ) → run_at one last cs ≡ Some (text, rest)
    → (body vs : List ℕ) × (cs ≡ body ++ last ∷ rest) × Writes Form body vs × (text ≡ encode_utf8_all vs)
run_sound one last is cs text rest e = up_to_sound one last is (length cs) cs text rest e

pub run_complete : {Form : List ℕ → ℕ → Type 0} (one : List ℕ → Option (ℕ × List ℕ)) (last : ℕ) → IsOne Form one last
    → (vs body rest : List ℕ) → Writes Form body vs → run_at one last (body ++ last ∷ rest) ≡ Some (encode_utf8_all vs, rest)
run_complete one last is [] body rest w = ap (λ (t : List ℕ). run_at one last (t ++ last ∷ rest)) w ∙ run_last one last rest
run_complete one last is (v ∷ vs) body rest w =
    let first = w.0 in
    let others = w.1 in
    ap (λ (t : List ℕ). run_at one last (t ++ last ∷ rest)) w.2
    ∙ ap (run_at one last) (append_assoc first others (last ∷ rest))
    ∙ run_step one last is (first ++ (others ++ last ∷ rest)) v (others ++ last ∷ rest) (is.complete first v (others ++ last ∷ rest) w.3)
    ∙ ap (with_front (encode_utf8 v)) (run_complete one last is vs others rest w.4)
