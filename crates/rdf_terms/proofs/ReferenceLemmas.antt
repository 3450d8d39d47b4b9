-- Each text has components, and no others.
use Rattle.std.proofs.Common.{◌≡◌, ℕ, true, nat_eq, List, [], ◌∷◌, ◌++◌, codes, Option, Some, None, length, drop, refl, sym, ap, subst, ◌∙◌, inl, inr, append_assoc, IfSome, IsTrue}
use Rattle.std.specs.List.{starts_with}
use Rattle.std.proofs.lemmas.Bool.{cases_Bool, eqb-true}
use Rattle.std.proofs.lemmas.Bool.Decides.{Decides-eqb}
use Rattle.std.proofs.lemmas.Slice.Eq.{starts_is}
use Rattle.rdf_terms.specs.Cuts.{before, after}
use Rattle.rdf_terms.specs.Rewriting.{with_front, components_of}
use Rattle.rdf_terms.specs.Reference.{Components, Lacks, marked, is_rooted, PathFits, HasComponents, IsBase}
use Rattle.rdf_terms.proofs.CutLemmas.{before_marked, after_marked, before_joined, after_joined, cut_joins, before_lacks_mark, Lacks-before, Lacks-after, Lacks-append, Lacks-parts}

begins : (xs w : List ℕ) → starts_with nat_eq xs w ≡ true → xs ≡ w ++ drop (length w) xs
begins xs w e = (starts_is Decides-eqb xs w (starts_with nat_eq xs w) refl).0 e

-- ---- unique

-- a rooted path is a slash and more, or nothing
rooted_marked : (path : List ℕ) → IsTrue (is_rooted path) → (r : Option (List ℕ)) × (path ≡ marked (codes "/") r)
rooted_marked [] h = (None, refl)
rooted_marked (c ∷ cs) h = (Some cs, ap (λ (x : ℕ). x ∷ cs) (eqb-true c 47 h))

Lacks-marked : (mark : ℕ) (word : List ℕ) (o : Option (List ℕ)) → Lacks mark word → IfSome o (λ t. Lacks mark t) → Lacks mark (marked word o)
Lacks-marked mark word None w h = tt
Lacks-marked mark word (Some t) w h = Lacks-append mark word t w h

front_is : (authority : Option (List ℕ)) (path : List ℕ) (query fragment : Option (List ℕ)) → IfSome authority (λ a. Lacks 47 a × Lacks 63 a × Lacks 35 a) → PathFits authority path
    → with_front (marked (codes "//") authority ++ path) query fragment ≡ record { authority = authority; path = path; query = query; fragment = fragment }
front_is None path query fragment lacks fits = rw fits refl
front_is (Some a) path query fragment lacks fits =
    let r = rooted_marked path fits in
    let auth : before 47 (a ++ path) ≡ a = rw r.1 (before_marked 47 a r.0 lacks.0) in
    let rest : marked (codes "/") (after 47 (a ++ path)) ≡ path = ap (λ (p : List ℕ). marked (codes "/") (after 47 (a ++ p))) r.1 ∙ ap (marked (codes "/")) (after_marked 47 a r.0 lacks.0) ∙ sym r.1 in
    rw (auth, rest) refl

without_start : (mark : ℕ) (authority : Option (List ℕ)) (path : List ℕ) → Lacks mark (codes "//") → IfSome authority (λ a. Lacks mark a) → Lacks mark path → Lacks mark (marked (codes "//") authority ++ path)
without_start mark authority path w a p = Lacks-append mark (marked (codes "//") authority) path (Lacks-marked mark (codes "//") authority w a) p

second : (o : Option (List ℕ)) → IfSome o (λ a. Lacks 47 a × Lacks 63 a × Lacks 35 a) → IfSome o (λ a. Lacks 63 a)
second None h = tt
second (Some a) h = h.1

third : (o : Option (List ℕ)) → IfSome o (λ a. Lacks 47 a × Lacks 63 a × Lacks 35 a) → IfSome o (λ a. Lacks 35 a)
third None h = tt
third (Some a) h = h.2

-- the text is cut back into the components that it was made of
pub components_are : (text : List ℕ) (p : Components) → HasComponents text p → components_of text ≡ p
components_are text p h =
    let start : List ℕ = marked (codes "//") p.authority ++ p.path in
    let front : List ℕ = start ++ marked (codes "?") p.query in
    let lacks63 : Lacks 63 start = without_start 63 p.authority p.path (refl, (refl, tt)) (second p.authority h.authority) h.path.0 in
    let lacks35 : Lacks 35 front = Lacks-append 35 start (marked (codes "?") p.query)
    (without_start 35 p.authority p.path (refl, (refl, tt)) (third p.authority h.authority) h.path.1) (Lacks-marked 35 (codes "?") p.query (refl, tt) h.query) in
    let whole : text ≡ front ++ marked (codes "#") p.fragment = h.text_is
    ∙ sym (append_assoc (marked (codes "//") p.authority) p.path (marked (codes "?") p.query ++ marked (codes "#") p.fragment))
    ∙ sym (append_assoc start (marked (codes "?") p.query) (marked (codes "#") p.fragment)) in
    let e1 : before 35 text ≡ front = ap (before 35) whole ∙ before_marked 35 front p.fragment lacks35 in
    let e2 : after 35 text ≡ p.fragment = ap (after 35) whole ∙ after_marked 35 front p.fragment lacks35 in
    let e3 : before 63 (before 35 text) ≡ start = ap (before 63) e1 ∙ before_marked 63 start p.query lacks63 in
    let e4 : after 63 (before 35 text) ≡ p.query = ap (after 63) e1 ∙ after_marked 63 start p.query lacks63 in
    ap (λ (t : List ℕ). with_front t (after 63 (before 35 text)) (after 35 text)) e3 ∙ ap (λ (q : Option (List ℕ)). with_front start q (after 35 text)) e4
    ∙ ap (λ (f : Option (List ℕ)). with_front start p.query f) e2 ∙ front_is p.authority p.path p.query p.fragment h.authority h.path_fits

pub components_unique : (text : List ℕ) (p q : Components) → HasComponents text p → HasComponents text q → p ≡ q
components_unique text p q h g = sym (components_are text p h) ∙ components_are text q g

some_same : (s t : List ℕ) → Some s ≡ Some t → s ≡ t
some_same s t e = cc

pub base_unique : (text s t : List ℕ) (p q : Components) → IsBase text s p → IsBase text t q → (s ≡ t) × (p ≡ q)
base_unique text s t p q h g =
    let bs : before 58 text ≡ s = ap (before 58) h.1 ∙ before_joined 58 s h.0 h.2 in
    let bt : before 58 text ≡ t = ap (before 58) g.1 ∙ before_joined 58 t g.0 g.2 in
    let as1 : after 58 text ≡ Some h.0 = ap (after 58) h.1 ∙ after_joined 58 s h.0 h.2 in
    let at1 : after 58 text ≡ Some g.0 = ap (after 58) g.1 ∙ after_joined 58 t g.0 g.2 in
    let both : Some h.0 ≡ Some g.0 = sym as1 ∙ at1 in
    let same : h.0 ≡ g.0 = some_same h.0 g.0 both in
    (sym bs ∙ bt, sym (components_are h.0 p h.3) ∙ ap components_of same ∙ components_are g.0 q g.3)

-- ---- there

rooted_cut : (o : Option (List ℕ)) → IsTrue (is_rooted (marked (codes "/") o))
rooted_cut None = refl
rooted_cut (Some r) = refl

components_front : (front : List ℕ) (query fragment : Option (List ℕ)) → Lacks 63 front → Lacks 35 front → IfSome query (λ q. Lacks 35 q)
    → HasComponents (front ++ (marked (codes "?") query ++ marked (codes "#") fragment)) (with_front front query fragment)
components_front front query fragment l63 l35 q =
    elim (cases_Bool (starts_with nat_eq front (codes "//"))) [
      | inl is ↦
          let shape : front ≡ codes "//" ++ drop 2 front = begins front (codes "//") is in
          let rest63 : Lacks 63 (drop 2 front) = (Lacks-parts 63 (codes "//") (drop 2 front) (subst (λ (t : List ℕ). Lacks 63 t) shape l63)).1 in
          let rest35 : Lacks 35 (drop 2 front) = (Lacks-parts 35 (codes "//") (drop 2 front) (subst (λ (t : List ℕ). Lacks 35 t) shape l35)).1 in
          let cut : drop 2 front ≡ before 47 (drop 2 front) ++ marked (codes "/") (after 47 (drop 2 front)) = cut_joins 47 (drop 2 front) in
          let path63 : Lacks 63 (marked (codes "/") (after 47 (drop 2 front))) = (Lacks-parts 63 (before 47 (drop 2 front)) (marked (codes "/") (after 47 (drop 2 front))) (subst (λ (t : List ℕ). Lacks 63 t) cut rest63)).1 in
          let path35 : Lacks 35 (marked (codes "/") (after 47 (drop 2 front))) = (Lacks-parts 35 (before 47 (drop 2 front)) (marked (codes "/") (after 47 (drop 2 front))) (subst (λ (t : List ℕ). Lacks 35 t) cut rest35)).1 in
          rw is (record {
            text_is = ap (λ (t : List ℕ). t ++ (marked (codes "?") query ++ marked (codes "#") fragment)) (shape ∙ ap (λ (t : List ℕ). codes "//" ++ t) cut
                ∙ sym (append_assoc (codes "//") (before 47 (drop 2 front)) (marked (codes "/") (after 47 (drop 2 front)))))
                ∙ append_assoc (codes "//" ++ before 47 (drop 2 front)) (marked (codes "/") (after 47 (drop 2 front))) (marked (codes "?") query ++ marked (codes "#") fragment);
            authority = (before_lacks_mark 47 (drop 2 front), Lacks-before 63 47 (drop 2 front) rest63, Lacks-before 35 47 (drop 2 front) rest35);
            path = (path63, path35);
            query = q;
            path_fits = rooted_cut (after 47 (drop 2 front));
          })
      | inr not ↦ rw not (record { text_is = refl; authority = tt; path = (l63, l35); query = q; path_fits = not })
    ]

pub components_there : (text : List ℕ) → HasComponents text (components_of text)
components_there text =
    let whole : text ≡ before 63 (before 35 text) ++ (marked (codes "?") (after 63 (before 35 text)) ++ marked (codes "#") (after 35 text)) =
    cut_joins 35 text ∙ ap (λ (t : List ℕ). t ++ marked (codes "#") (after 35 text)) (cut_joins 63 (before 35 text))
    ∙ append_assoc (before 63 (before 35 text)) (marked (codes "?") (after 63 (before 35 text))) (marked (codes "#") (after 35 text)) in
    let front35 : Lacks 35 (before 35 text) = before_lacks_mark 35 text in
    subst (λ (t : List ℕ). HasComponents t (components_of text)) (sym whole)
    (components_front (before 63 (before 35 text)) (after 63 (before 35 text)) (after 35 text) (before_lacks_mark 63 (before 35 text)) (Lacks-before 35 63 (before 35 text) front35) (Lacks-after 35 63 (before 35 text) front35))
