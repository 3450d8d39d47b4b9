-- What moves a base where it stands.
use Rattle.std.proofs.Common.{Bor, ◌≡◌, ℕ, ◌+◌, ◌-◌, ◌<◌, ◌≤◌, Bool, true, false, cond, ◌&&◌, eqb, nat_eq, List, [], ◌∷◌, ◌++◌, codes, Option, Some, None, Result, Ok, Err, IfOk, not, is_some, length, min, take, drop, refl, sym, ap, subst, ◌∙◌, inl, inr, arith, append_assoc, IfSome, IsTrue, unwrap_or}
use Rattle.std.specs.List.{starts_with}
use Rattle.std.specs.Option.{option_copied, option_or}
use Rattle.std.specs.Str.{IsUtf8}
use Rattle.std.proofs.lemmas.Bool.{and_parts, cases_Bool, cond_both, cond-false, or_from, or_parts, true≢false}
use Rattle.std.proofs.lemmas.List.{length-append, length-take, length-take-le, take-append-drop, take-append-le, take-take, take_at, drop_at}
use Rattle.rdf_terms.specs.declared.dots.Output.{Output}
use Rattle.rdf_terms.specs.declared.layout.Layout.{Layout}
use Rattle.rdf_terms.specs.declared.moving.Change.{Change}
use Rattle.rdf_terms.specs.Cuts.{before, after, up_to_slash}
use Rattle.rdf_terms.specs.Dots.{is_dot_segment, segments, without_dots}
use Rattle.rdf_terms.specs.Iri.{has_forbidden, has_scheme, is_iri, is_scheme}
use Rattle.rdf_terms.specs.Layout.{front_of, IsLayout, IsMove, TakesPath}
use Rattle.rdf_terms.specs.Reference.{Components, Lacks, HasComponents, PathFits, marked, recomposed, is_rooted}
use Rattle.rdf_terms.specs.Resolution.{target, merged, is_empty, begins_with_slash, ResolvesTo}
use Rattle.rdf_terms.specs.Rewriting.{components_of, parts_of, resolved, written}
use Rattle.rdf_terms.proofs.CleanLemmas.{resolved_iri, scheme_from_iri}
use Rattle.rdf_terms.proofs.CutLemmas.{has_slash, before_lacks_mark, before_joined, after_joined, Lacks-append, Lacks-parts, last_slash, up_lacks, up_joined}
use Rattle.rdf_terms.proofs.DotLawLemmas.{has_dots, segments-append, no_dots_left}
use Rattle.rdf_terms.proofs.LayoutLemmas.{end_of, front_joins, base_text, base_length, parts_have, dots_lack, dots_rooted}
use Rattle.rdf_terms.proofs.ReferenceLemmas.{components_are, components_there}
use Rattle.rdf_terms.proofs.ResolutionLemmas.{resolves}

-- ---- the layout of what a reference gives

-- of a scheme and components that are those of their text
layout_from : (scheme : List ℕ) (t : Components) (l : Layout) → Lacks 58 scheme → HasComponents (recomposed t) t
    → l.has_authority ≡ is_some t.authority → l.path_start ≡ length (scheme ++ 58 ∷ marked (codes "//") t.authority) → l.path_end ≡ l.path_start + length t.path
    → l.query_end ≡ l.path_end + length (marked (codes "?") t.query) → (l.is_plain ≡ true → has_dots (segments t.path) ≡ false) → IsLayout (scheme ++ 58 ∷ recomposed t) l
layout_from scheme t l lacks have authority path_start path_end query_end plain =
    let s : before 58 (scheme ++ 58 ∷ recomposed t) ≡ scheme = before_joined 58 scheme (recomposed t) lacks in
    let rest : after 58 (scheme ++ 58 ∷ recomposed t) ≡ Some (recomposed t) = after_joined 58 scheme (recomposed t) lacks in
    let parts : parts_of (scheme ++ 58 ∷ recomposed t) ≡ t =
    ap (λ (o : Option (List ℕ)). components_of (unwrap_or o [])) rest ∙ components_are (recomposed t) t have in
    let front : front_of (scheme ++ 58 ∷ recomposed t) ≡ scheme ++ 58 ∷ marked (codes "//") t.authority =
    ap (λ (x : List ℕ). x ++ 58 ∷ marked (codes "//") (parts_of (scheme ++ 58 ∷ recomposed t)).authority) s ∙ ap (λ (p : Components). scheme ++ 58 ∷ marked (codes "//") p.authority) parts in
    record {
      authority = authority ∙ sym (ap (λ (p : Components). is_some p.authority) parts);
      path = path_start ∙ sym (ap length front);
      path_end = path_end ∙ sym (ap (λ (p : Components). l.path_start + length p.path) parts);
      query_end = query_end ∙ sym (ap (λ (p : Components). l.path_end + length (marked (codes "?") p.query)) parts);
      plain = λ is. ap (λ (p : Components). has_dots (segments p.path)) parts ∙ plain is;
    }

resolved_with : (base reference : List ℕ) (t : Components) → target (parts_of base) (components_of reference) ≡ t → resolved base reference ≡ before 58 base ++ 58 ∷ recomposed t
unfolding resolved
resolved_with base reference t e = ap (λ (p : Components). before 58 base ++ 58 ∷ recomposed p) e

-- ---- a reference with no path

target_end : (p r : Components) → r.authority ≡ None → r.path ≡ [] → target p r ≡ record { authority = p.authority; path = p.path; query = option_or r.query p.query; fragment = r.fragment }
target_end p r a e = rw (a, e) refl

-- the query that it has, or the base's
abbrev same_path : Components → Option (List ℕ) → Option (List ℕ) → Components
same_path p query fragment = record { authority = p.authority; path = p.path; query = query; fragment = fragment }

same_path_has : (base : List ℕ) (query fragment : Option (List ℕ)) → IfSome query (λ q. Lacks 35 q) → HasComponents (recomposed (same_path (parts_of base) query fragment)) (same_path (parts_of base) query fragment)
same_path_has base query fragment lacks =
    let h = parts_have base in
    record { text_is = refl; authority = h.authority; path = h.path; query = lacks; path_fits = h.path_fits }

kept_text : (base front rest : List ℕ) (n : ℕ) → base ≡ front ++ rest → n ≡ length front → take n base ≡ front
kept_text base front rest n e len = ap (take n) e ∙ take_at front rest n (sym len)

-- the base is kept up to where the query begins, or ends
end_moves : (base reference : List ℕ) (l : Layout) (c : Change) (query fragment : Option (List ℕ)) (kept_part added_part : List ℕ) → has_scheme base ≡ true → IsLayout base l
    → resolved base reference ≡ before 58 base ++ 58 ∷ recomposed (same_path (parts_of base) query fragment) → IfSome query (λ q. Lacks 35 q)
    → take c.kept base ≡ kept_part → c.kept ≤ length base → kept_part ++ added_part ≡ front_of base ++ ((parts_of base).path ++ (marked (codes "?") query ++ marked (codes "#") fragment)) → c.added.items ≡ added_part
    → c.layout ≡ record l { query_end = l.path_end + length (marked (codes "?") query) } → IsMove base reference c
end_moves base reference l c query fragment kept_part added_part scheme at text lacks kept within joined added layout =
    let t : Components = same_path (parts_of base) query fragment in
    record {
      within = within;
      text = ap (λ (x : List ℕ). x ++ c.added.items) kept ∙ ap (λ (x : List ℕ). kept_part ++ x) added ∙ joined ∙ sym (front_joins (before 58 base) t) ∙ sym text;
      layout = subst (λ (x : List ℕ). IsLayout x c.layout) (sym text)
          (rw layout (layout_from (before 58 base) t (record l { query_end = l.path_end + length (marked (codes "?") query) }) (before_lacks_mark 58 base)
          (same_path_has base query fragment lacks) at.authority at.path at.path_end refl at.plain));
    }

end_query : (base reference : List ℕ) (l : Layout) (c : Change) (q : List ℕ) (fragment : Option (List ℕ)) → has_scheme base ≡ true → IsLayout base l
    → resolved base reference ≡ before 58 base ++ 58 ∷ recomposed (same_path (parts_of base) (Some q) fragment) → Lacks 35 q
    → c.kept ≡ l.path_end → c.added.items ≡ marked (codes "?") (Some q) ++ marked (codes "#") fragment
    → c.layout ≡ record l { query_end = c.kept + length (marked (codes "?") (Some q)) } → IsMove base reference c
end_query base reference l c q fragment scheme at text lacks kept added layout =
    let p = parts_of base in
    let whole : base ≡ (front_of base ++ (parts_of base).path) ++ end_of (parts_of base) = base_text base scheme ∙ sym (append_assoc (front_of base) (parts_of base).path (end_of (parts_of base))) in
    let len : c.kept ≡ length (front_of base ++ (parts_of base).path) =
    (let sum = length-append (front_of base) (parts_of base).path in let one = at.path in let two = at.path_end in omega arith) in
    let all = base_length base scheme in
    let sum = length-append (front_of base) (parts_of base).path in
    end_moves base reference l c (Some q) fragment (front_of base ++ (parts_of base).path) (marked (codes "?") (Some q) ++ marked (codes "#") fragment) scheme at text lacks
    (kept_text base (front_of base ++ (parts_of base).path) (end_of (parts_of base)) c.kept whole len) (omega arith)
    (append_assoc (front_of base) (parts_of base).path (marked (codes "?") (Some q) ++ marked (codes "#") fragment)) added
    (layout ∙ ap (λ (n : ℕ). record l { query_end = n + length (marked (codes "?") (Some q)) }) kept)

end_same : (base reference : List ℕ) (l : Layout) (c : Change) (fragment : Option (List ℕ)) → has_scheme base ≡ true → IsLayout base l
    → resolved base reference ≡ before 58 base ++ 58 ∷ recomposed (same_path (parts_of base) (parts_of base).query fragment)
    → c.kept ≡ l.query_end → c.added.items ≡ marked (codes "#") fragment → c.layout ≡ record l { query_end = c.kept + 0 } → IsMove base reference c
end_same base reference l c fragment scheme at text kept added layout =
    let mq : List ℕ = marked (codes "?") (parts_of base).query in
    let front : List ℕ = front_of base ++ ((parts_of base).path ++ mq) in
    let whole : base ≡ front ++ marked (codes "#") (parts_of base).fragment =
    base_text base scheme ∙ ap (λ (x : List ℕ). front_of base ++ x) (sym (append_assoc (parts_of base).path mq (marked (codes "#") (parts_of base).fragment)))
    ∙ sym (append_assoc (front_of base) ((parts_of base).path ++ mq) (marked (codes "#") (parts_of base).fragment)) in
    let sum = length-append (front_of base) ((parts_of base).path ++ mq) in
    let less = length-append (parts_of base).path mq in
    let len : c.kept ≡ length front = (let one = at.path in let two = at.path_end in let three = at.query_end in omega arith) in
    let all = ap length whole in
    let last = length-append front (marked (codes "#") (parts_of base).fragment) in
    let ends : c.kept + 0 ≡ l.path_end + length mq = (let three = at.query_end in omega arith) in
    end_moves base reference l c (parts_of base).query fragment front (marked (codes "#") fragment) scheme at text (parts_have base).query
    (kept_text base front (marked (codes "#") (parts_of base).fragment) c.kept whole len) (omega arith)
    (append_assoc (front_of base) ((parts_of base).path ++ mq) (marked (codes "#") fragment) ∙ ap (λ (x : List ℕ). front_of base ++ x) (append_assoc (parts_of base).path mq (marked (codes "#") fragment))) added
    (layout ∙ ap (λ (n : ℕ). record l { query_end = n }) ends)

end_by_query : (base reference : List ℕ) (l : Layout) (c : Change) (query fragment : Option (List ℕ)) → has_scheme base ≡ true → IsLayout base l
    → resolved base reference ≡ before 58 base ++ 58 ∷ recomposed (same_path (parts_of base) (option_or query (parts_of base).query) fragment) → IfSome query (λ q. Lacks 35 q)
    → c.kept ≡ cond (is_some query) l.path_end l.query_end → c.added.items ≡ marked (codes "?") query ++ marked (codes "#") fragment
    → c.layout ≡ record l { query_end = c.kept + length (marked (codes "?") query) } → IsMove base reference c
end_by_query base reference l c None fragment scheme at text lacks kept added layout = end_same base reference l c fragment scheme at text kept added layout
end_by_query base reference l c (Some q) fragment scheme at text lacks kept added layout = end_query base reference l c q fragment scheme at text lacks kept added layout

pub moved_end : (base reference : List ℕ) (r : Components) (l : Layout) (c : Change) → has_scheme base ≡ true → IsLayout base l → r ≡ components_of reference → r.authority ≡ None → r.path ≡ []
    → c.kept ≡ cond (is_some r.query) l.path_end l.query_end → c.added.items ≡ marked (codes "?") r.query ++ marked (codes "#") r.fragment
    → c.layout ≡ record l { query_end = c.kept + length (marked (codes "?") r.query) } → IsMove base reference c
moved_end base reference r l c scheme at e authority path kept added layout =
    let t : target (parts_of base) (components_of reference) ≡ same_path (parts_of base) (option_or r.query (parts_of base).query) r.fragment =
    sym (ap (target (parts_of base)) e) ∙ target_end (parts_of base) r authority path in
    let lacks : IfSome r.query (λ q. Lacks 35 q) = subst (λ (x : Components). IfSome x.query (λ q. Lacks 35 q)) (sym e) (components_there reference).query in
    end_by_query base reference l c r.query r.fragment scheme at (resolved_with base reference _ t) lacks kept added layout

-- ---- a reference with a path

target_path : (p r : Components) (path : List ℕ) → r.authority ≡ None → is_empty r.path ≡ false → path ≡ cond (begins_with_slash r.path) r.path (merged p r.path)
    → target p r ≡ record { authority = p.authority; path = without_dots path; query = r.query; fragment = r.fragment }
target_path p r path a e is =
    elim (cases_Bool (begins_with_slash r.path)) [
      | inl b ↦ let own : path ≡ r.path = rw b at is in rw (a, e, b, own) refl
      | inr b ↦ let behind : path ≡ merged p r.path = rw b at is in rw (a, e, b, behind) refl
    ]

up_lacks_mark : (mark : ℕ) (xs : List ℕ) → eqb 47 mark ≡ false → Lacks mark xs → Lacks mark (up_to_slash xs)
up_lacks_mark mark xs other h =
    elim (last_slash xs) [
      | inl lacks ↦ rw (up_lacks xs lacks) tt
      | inr found ↦
          let e : up_to_slash xs ≡ found.0 ++ 47 ∷ [] = ap up_to_slash found.2 ∙ up_joined found.0 found.1 found.3 in
          rw e (Lacks-append mark found.0 (47 ∷ []) (Lacks-parts mark found.0 (47 ∷ found.1) (subst (λ (t : List ℕ). Lacks mark t) found.2 h)).0 (other, tt))
    ]

merged_lacks : (mark : ℕ) (p : Components) (path : List ℕ) → eqb 47 mark ≡ false → Lacks mark p.path → Lacks mark path → Lacks mark (merged p path)
merged_lacks mark p path other h g =
    Lacks-append mark (cond (is_some p.authority && is_empty p.path) (codes "/") (up_to_slash p.path)) path
    (cond_both (is_some p.authority && is_empty p.path) (codes "/") (up_to_slash p.path) (λ (t : List ℕ). Lacks mark t) (λ _. (other, tt)) (λ _. up_lacks_mark mark p.path other h)) g

path_lacks : (mark : ℕ) (p r : Components) (path : List ℕ) → eqb 47 mark ≡ false → path ≡ cond (begins_with_slash r.path) r.path (merged p r.path) → Lacks mark p.path → Lacks mark r.path → Lacks mark path
path_lacks mark p r path other e h g =
    rw e (cond_both (begins_with_slash r.path) r.path (merged p r.path) (λ (t : List ℕ). Lacks mark t) (λ _. g) (λ _. merged_lacks mark p r.path other h g))

slash_rooted : (xs : List ℕ) → begins_with_slash xs ≡ true → IsTrue (is_rooted xs)
slash_rooted [] h = refl
slash_rooted (c ∷ cs) h = h

up_rooted : (xs more : List ℕ) → is_empty xs ≡ false → IsTrue (is_rooted xs) → IsTrue (is_rooted (up_to_slash xs ++ more))
up_rooted [] more some h = absurd (true≢false some)
up_rooted (c ∷ cs) more some h =
    cond_both (has_slash (c ∷ cs)) (c ∷ up_to_slash cs) [] (λ (t : List ℕ). IsTrue (is_rooted (t ++ more)))
    (λ _. h) (λ none. absurd (true≢false (sym h ∙ (or_parts (eqb c 47) (has_slash cs) none).0)))

merged_rooted : (p : Components) (path : List ℕ) → is_some p.authority ≡ true → IsTrue (is_rooted p.path) → IsTrue (is_rooted (merged p path))
merged_rooted p path some h =
    elim (cases_Bool (is_empty p.path)) [
      | inl none ↦ rw (some, none) refl
      | inr there ↦ rw (some, there) (up_rooted p.path path there h)
    ]

path_rooted : (p r : Components) (path : List ℕ) → path ≡ cond (begins_with_slash r.path) r.path (merged p r.path) → is_some p.authority ≡ true → IsTrue (is_rooted p.path) → IsTrue (is_rooted path)
path_rooted p r path e some h =
    rw e (cond_both (begins_with_slash r.path) r.path (merged p r.path) (λ (t : List ℕ). IsTrue (is_rooted t)) (λ b. slash_rooted r.path b) (λ _. merged_rooted p r.path some h))

rooted_behind : (o : Option (List ℕ)) (path : List ℕ) → PathFits o path → is_some o ≡ true → IsTrue (is_rooted path)
rooted_behind None path h some = absurd (true≢false (sym some))
rooted_behind (Some a) path h some = h

fits : (o : Option (List ℕ)) (path : List ℕ) → (is_some o ≡ true → IsTrue (is_rooted path)) → (is_some o ≡ false → starts_with nat_eq path (codes "//") ≡ false) → PathFits o path
fits None path h g = g refl
fits (Some a) path h g = h refl

abbrev new_path : Components → List ℕ → Components → Components
new_path p path r = record { authority = p.authority; path = path; query = r.query; fragment = r.fragment }

new_path_has : (base reference path : List ℕ) (r : Components) → r ≡ components_of reference → path ≡ cond (begins_with_slash r.path) r.path (merged (parts_of base) r.path)
    → (is_some (parts_of base).authority ≡ false → starts_with nat_eq (without_dots path) (codes "//") ≡ false)
    → HasComponents (recomposed (new_path (parts_of base) (without_dots path) r)) (new_path (parts_of base) (without_dots path) r)
new_path_has base reference path r e is slashes =
    let h = parts_have base in
    let g : HasComponents reference r = subst (λ (x : Components). HasComponents reference x) (sym e) (components_there reference) in
    record {
      text_is = refl;
      authority = h.authority;
      path = (dots_lack 63 path refl (path_lacks 63 (parts_of base) r path refl is h.path.0 g.path.0), dots_lack 35 path refl (path_lacks 35 (parts_of base) r path refl is h.path.1 g.path.1));
      query = g.query;
      path_fits = fits (parts_of base).authority (without_dots path)
          (λ some. dots_rooted path (path_rooted (parts_of base) r path is some (rooted_behind (parts_of base).authority (parts_of base).path h.path_fits some))) slashes;
    }

take_behind : (front rest : List ℕ) (n k : ℕ) → n ≡ length front → k ≤ length rest → take (n + k) (front ++ rest) ≡ front ++ take k rest
take_behind front rest n k e within =
    let sum = length-append front (take k rest) in
    let part = length-take-le k rest within in
    ap (take (n + k)) (ap (λ (t : List ℕ). front ++ t) (sym (take-append-drop k rest)) ∙ sym (append_assoc front (take k rest) (drop k rest)))
    ∙ take_at (front ++ take k rest) (drop k rest) (n + k) (omega arith)

-- a front of the path that is kept
pub kept_front : (base front : List ℕ) (l : Layout) (k : ℕ) → has_scheme base ≡ true → IsLayout base l → front ≡ take (length front) (parts_of base).path → k ≤ length front
    → (take (l.path_start + k) base ≡ front_of base ++ take k front) × (l.path_start + k ≤ length base)
kept_front base front l k scheme at e room =
    let less : length front ≡ min (length front) (length (parts_of base).path) = ap length e ∙ length-take (length front) (parts_of base).path in
    let within : k ≤ length (parts_of base).path = omega arith in
    let all = base_length base scheme in
    let sum = length-append (parts_of base).path (end_of (parts_of base)) in
    let one = at.path in (
      ap (take (l.path_start + k)) (base_text base scheme) ∙ take_behind (front_of base) ((parts_of base).path ++ end_of (parts_of base)) l.path_start k one (omega arith)
          ∙ ap (λ (t : List ℕ). front_of base ++ t) (take-append-le k (parts_of base).path (end_of (parts_of base)) within ∙ sym (ap (take k) e ∙ take-take k (length front) (parts_of base).path room)),
      omega arith,
    )

pub moved_path : (base reference front path : List ℕ) (r : Components) (l : Layout) (o : Output) (c : Change) → has_scheme base ≡ true → IsLayout base l → r ≡ components_of reference
    → TakesPath base (components_of reference) (front ++ path) → front ≡ take (length front) (parts_of base).path → o.kept ≤ length front → written front o ≡ without_dots (front ++ path)
    → (l.has_authority ≡ false → starts_with nat_eq (written front o) (codes "//") ≡ false)
    → c.kept ≡ l.path_start + o.kept → c.added.items ≡ o.added.items ++ (marked (codes "?") r.query ++ marked (codes "#") r.fragment)
    → c.layout ≡ record { has_authority = l.has_authority; path_start = l.path_start; path_end = c.kept + length o.added.items; query_end = c.kept + length (o.added.items ++ marked (codes "?") r.query); is_plain = true }
    → IsMove base reference c
moved_path base reference front path r l o c scheme at e takes front_is room out slashes kept added layout =
    let own : TakesPath base r (front ++ path) = subst (λ (x : Components). TakesPath base x (front ++ path)) (sym e) takes in
    let t : Components = new_path (parts_of base) (without_dots (front ++ path)) r in
    let text : resolved base reference ≡ before 58 base ++ 58 ∷ recomposed t =
    resolved_with base reference t (sym (ap (target (parts_of base)) e) ∙ target_path (parts_of base) r (front ++ path) own.0 own.1 own.2) in
    let k = kept_front base front l o.kept scheme at front_is room in
    let plain : is_some (parts_of base).authority ≡ false → starts_with nat_eq (without_dots (front ++ path)) (codes "//") ≡ false =
    λ (none : is_some (parts_of base).authority ≡ false). sym (ap (λ (x : List ℕ). starts_with nat_eq x (codes "//")) out) ∙ slashes (at.authority ∙ none) in
    let end : List ℕ = marked (codes "?") r.query ++ marked (codes "#") r.fragment in
    let joined : (front_of base ++ take o.kept front) ++ (o.added.items ++ end) ≡ front_of base ++ (without_dots (front ++ path) ++ end) =
    append_assoc (front_of base) (take o.kept front) (o.added.items ++ end) ∙ ap (λ (x : List ℕ). front_of base ++ x) (sym (append_assoc (take o.kept front) o.added.items end) ∙ ap (λ (x : List ℕ). x ++ end) out) in
    let sum : length (without_dots (front ++ path)) ≡ o.kept + length o.added.items =
    sym (ap length out) ∙ length-append (take o.kept front) o.added.items ∙ ap (λ (n : ℕ). n + length o.added.items) (length-take-le o.kept front room) in
    let more = length-append o.added.items (marked (codes "?") r.query) in
    record {
      within = rw kept k.1;
      text = ap (λ (n : ℕ). take n base ++ c.added.items) kept ∙ ap (λ (x : List ℕ). x ++ c.added.items) k.0 ∙ ap (λ (x : List ℕ). (front_of base ++ take o.kept front) ++ x) added ∙ joined
          ∙ sym (front_joins (before 58 base) t) ∙ sym text;
      layout = subst (λ (x : List ℕ). IsLayout x c.layout) (sym text) (rw layout (layout_from (before 58 base) t
          (record { has_authority = l.has_authority; path_start = l.path_start; path_end = c.kept + length o.added.items; query_end = c.kept + length (o.added.items ++ marked (codes "?") r.query); is_plain = true })
          (before_lacks_mark 58 base) (new_path_has base reference (front ++ path) r e own.2 plain) at.authority at.path (omega arith) (omega arith) (λ _. no_dots_left (front ++ path))));
    }

-- ---- the directory of a path

and_false : (a b : Bool) → b ≡ false → (a && b) ≡ false
and_false true b e = e
and_false false b e = refl

has_dots-front : (xs ys : List (List ℕ)) → has_dots (xs ++ ys) ≡ false → has_dots xs ≡ false
has_dots-front [] ys h = refl
has_dots-front (x ∷ xs) ys h =
    let p = or_parts (is_dot_segment x) (has_dots (xs ++ ys)) h in or_from (is_dot_segment x) (has_dots xs) p.0 (has_dots-front xs ys p.1)

pub directory_front : (path : List ℕ) (end : ℕ) → 0 < end → end ≤ length path → take end path ≡ up_to_slash path → (xs s : List ℕ) × (path ≡ xs ++ 47 ∷ s) × (take (end - 1) path ≡ xs) × (up_to_slash path ≡ xs ++ 47 ∷ []) × Lacks 47 s
directory_front path end some within e =
    elim (last_slash path) [
      | inl lacks ↦ let len : length (take end path) ≡ 0 = ap length (e ∙ up_lacks path lacks) in let same = length-take-le end path within in absurd (omega arith)
      | inr found ↦
          let up : up_to_slash path ≡ found.0 ++ 47 ∷ [] = ap up_to_slash found.2 ∙ up_joined found.0 found.1 found.3 in
          let len : end ≡ length found.0 + 1 = sym (length-take-le end path within) ∙ ap length (e ∙ up) ∙ length-append found.0 (47 ∷ []) in
          let less : end - 1 ≡ length found.0 = omega arith in
          (found.0, found.1, found.2, ap (λ (n : ℕ). take n path) less ∙ ap (take (length found.0)) found.2 ∙ take_at found.0 (47 ∷ found.1) (length found.0) refl, up, found.3)
    ]

not_empty : (xs s : List ℕ) → is_empty (xs ++ 47 ∷ s) ≡ false
not_empty [] s = refl
not_empty (x ∷ xs) s = refl

pub directory_is : (path : List ℕ) (end : ℕ) (authority : Bool) → 0 < end → end ≤ length path → take end path ≡ up_to_slash path → take (end - 1) path ++ 47 ∷ [] ≡ cond (authority && is_empty path) (codes "/") (up_to_slash path)
directory_is path end authority some within e =
    let d = directory_front path end some within e in
    let none : is_empty path ≡ false = ap is_empty d.2 ∙ not_empty d.0 d.1 in
    ap (λ (t : List ℕ). t ++ 47 ∷ []) d.3 ∙ sym d.4 ∙ sym (cond-false (authority && is_empty path) (codes "/") (up_to_slash path) (and_false authority (is_empty path) none))

pub directory_plain : (path : List ℕ) (end : ℕ) → 0 < end → end ≤ length path → take end path ≡ up_to_slash path → has_dots (segments path) ≡ false → has_dots (segments (take (end - 1) path)) ≡ false
directory_plain path end some within e none =
    let d = directory_front path end some within e in
    rw d.3 (has_dots-front (segments d.0) (d.1 ∷ []) (sym (ap (λ (t : List ℕ). has_dots (segments t)) d.2 ∙ ap has_dots (segments-append d.0 d.1 d.5)) ∙ none))

-- ---- what the code asks

pub resolved_scheme : (base reference : List ℕ) → has_scheme base ≡ true → has_scheme (resolved base reference) ≡ true
unfolding resolved
resolved_scheme base reference h =
    let tail : List ℕ = recomposed (target (components_of (unwrap_or (after 58 base) [])) (components_of reference)) in
    rw (after_joined 58 (before 58 base) tail (before_lacks_mark 58 base), before_joined 58 (before 58 base) tail (before_lacks_mark 58 base))
    (and_parts (is_some (after 58 base)) (is_scheme (before 58 base)) h).1

-- the path of a base, as its layout says
pub layout_path : (base : List ℕ) (l : Layout) → has_scheme base ≡ true → IsLayout base l → take (l.path_end - l.path_start) (drop l.path_start base) ≡ (parts_of base).path
layout_path base l scheme at =
    let len : length (parts_of base).path ≡ l.path_end - l.path_start = (let one = at.path_end in omega arith) in
    ap (λ (t : List ℕ). take (l.path_end - l.path_start) (drop l.path_start t)) (base_text base scheme)
    ∙ ap (take (l.path_end - l.path_start)) (drop_at (front_of base) ((parts_of base).path ++ end_of (parts_of base)) l.path_start (sym at.path))
    ∙ take_at (parts_of base).path (end_of (parts_of base)) (l.path_end - l.path_start) len

pub layout_within : (base : List ℕ) (l : Layout) → has_scheme base ≡ true → IsLayout base l → (l.path_start ≤ l.path_end) × (l.path_end ≤ l.query_end) × (l.query_end ≤ length base)
layout_within base l scheme at =
    let all = base_length base scheme in let one = at.path in let two = at.path_end in let three = at.query_end in (omega arith, omega arith, omega arith)

-- the directory's two parts and the path of the reference are the path that is taken
pub directory_takes : (base : List ℕ) (r : Components) (l : Layout) (path front lead rest : List ℕ) → IsLayout base l → path ≡ (parts_of base).path
    → front ++ lead ≡ cond (l.has_authority && is_empty path) (codes "/") (up_to_slash path) → rest ≡ lead ++ r.path → TakesPath base r (merged (parts_of base) r.path) → TakesPath base r (front ++ rest)
directory_takes base r l path front lead rest at is joined e takes =
    let own : front ++ lead ≡ cond (is_some (parts_of base).authority && is_empty (parts_of base).path) (codes "/") (up_to_slash (parts_of base).path) =
    joined ∙ ap (λ (b : Bool). cond (b && is_empty path) (codes "/") (up_to_slash path)) at.authority
    ∙ ap (λ (t : List ℕ). cond (is_some (parts_of base).authority && is_empty t) (codes "/") (up_to_slash t)) is in
    (takes.0, takes.1, ap (λ (t : List ℕ). front ++ t) e ∙ sym (append_assoc front lead r.path) ∙ ap (λ (t : List ℕ). t ++ r.path) own ∙ takes.2)

pub no_authority : (authority begins : Bool) → (not authority && begins) ≡ false → authority ≡ false → begins ≡ false
no_authority true begins e is = absurd (true≢false is)
no_authority false begins e is = e

pub moved_end_result : {E : Type 0} (base reference : List ℕ) (r : Components) (l : Layout) (x : Result Change E) → has_scheme base ≡ true → IsLayout base l → r ≡ components_of reference → r.authority ≡ None → r.path ≡ []
    → IfOk x (λ c. c.kept ≡ cond (is_some r.query) l.path_end l.query_end) → IfOk x (λ c. c.added.items ≡ marked (codes "?") r.query ++ marked (codes "#") r.fragment)
    → IfOk x (λ c. c.layout ≡ record l { query_end = c.kept + length (marked (codes "?") r.query) }) → IfOk x (λ c. IsMove base reference c)
moved_end_result base reference r l (Ok c) scheme at e authority path kept added layout = moved_end base reference r l c scheme at e authority path kept added layout
moved_end_result base reference r l (Err x) scheme at e authority path kept added layout = tt

abbrev laid : Bool → ℕ → ℕ → ℕ → Layout
laid authority start path query = record { has_authority = authority; path_start = start; path_end = path; query_end = query; is_plain = true }

pub laid_alike : (authority : Bool) (start kept path query path2 query2 : ℕ) → path ≡ path2 → query ≡ query2 → laid authority start (kept + path) (kept + query) ≡ laid authority start (kept + path2) (kept + query2)
laid_alike authority start kept path query path2 query2 e f = rw (e, f) refl

pub none_copied : (o : Option (Bor (List ℕ))) → is_some o ≡ false → option_copied o ≡ None
none_copied None e = refl
none_copied (Some x) e = absurd (true≢false e)

pub empty_from : (xs : List ℕ) → length xs < 1 → xs ≡ []
empty_from [] h = refl
empty_from (x ∷ xs) h = absurd (omega arith)

pub record Moved (base reference text : List ℕ) (l : Layout) : Type 0 where
  pub value : ResolvesTo base reference text
  pub sound : IsTrue (is_iri text)
  pub layout : IsLayout text l

pub base_moved : (base reference : List ℕ) (c : Change) (base2 reference2 added text : List ℕ) → base2 ≡ base → reference2 ≡ reference → IsMove base2 reference2 c → added ≡ c.added.items
    → text ≡ take c.kept base ++ added → IsTrue (is_iri base) → IsUtf8 reference → has_forbidden reference ≡ false → Moved base reference text c.layout
base_moved base reference c base2 reference2 added text b r move a e iri utf8 allowed =
    let own : IsMove base reference c = subst (λ (x : List ℕ). IsMove base x c) r (subst (λ (x : List ℕ). IsMove x reference2 c) b move) in
    let whole : text ≡ resolved base reference = e ∙ ap (λ (x : List ℕ). take c.kept base ++ x) a ∙ own.text in
    record {
      value = rw whole (resolves base reference (scheme_from_iri base iri));
      sound = rw whole (resolved_iri base reference iri utf8 allowed);
      layout = rw whole own.layout;
    }
