-- A state text has its parts in one way.
use Rattle.std.proofs.Common.{◌≡◌, ◌∙◌, ap, refl, sym, subst, ℕ, ◌<◌, ◌^◌, true, List, [], ◌∷◌, ◌++◌, codes, decimal, append_assoc}
use Rattle.std.specs.List.{flat_map}
use Rattle.std.proofs.lemmas.Fmt.{decimal_injective}
use Rattle.std.proofs.lemmas.List.{append_cancel_left, append-nil}
use Rattle.rdf_terms.specs.Quad.{is_quad}
use Rattle.rdf_terms.specs.TermText.{term_text}
use Rattle.rdf_terms.specs.declared.term.Term.{Term}
use Rattle.rdf_terms.specs.declared.quad.Quad.{Quad}
use Rattle.rdf_terms.proofs.CallerLemmas.{texts_differ}
use Rattle.rdf_lines.specs.QuadText.{quad_text}
use Rattle.rdf_lines.specs.StateText.{is_graph_name, name_line, state_text}
use Rattle.rdf_lines.specs.Inside.StateListing.{AreNames, AreQuads, counted, AreNamesBefore, HasNoNames, AreQuadsOf, HasNoQuads, ArePartsOf, HasNoParts}
use Rattle.rdf_lines.proofs.RoundTripLemmas.{line_of, quad_line, lines_differ}
use Rattle.rdf_lines.proofs.StateLineLemmas.{no_line, one_cut, decimal_no_feed, name_is_term, name_no_feed, quad_no_feed, quad_front, name_front, quad_begins}

-- ---- quads

pub quads_split : (read quads : List Quad) (rest : List ℕ) → AreQuads read → AreQuads quads → flat_map quad_text quads ≡ flat_map quad_text read ++ rest
    → (more : List Quad) × (quads ≡ read ++ more) × AreQuads more × (flat_map quad_text more ≡ rest)
quads_split [] quads rest h k e = (quads, refl, k, e)
quads_split (r ∷ read) [] rest h k e = absurd (no_line [] (line_of r) (flat_map quad_text read ++ rest) refl (e ∙ append_assoc (quad_text r) (flat_map quad_text read) rest ∙ quad_front r _))
quads_split (r ∷ read) (q ∷ quads) rest h k e =
    let cut = one_cut (line_of q) (line_of r) (flat_map quad_text quads) (flat_map quad_text read ++ rest) (quad_no_feed q k.0) (quad_no_feed r h.0)
    (sym (quad_front q (flat_map quad_text quads)) ∙ e ∙ append_assoc (quad_text r) (flat_map quad_text read) rest ∙ quad_front r (flat_map quad_text read ++ rest)) in
    let same : q ≡ r = lines_differ q r k.0 h.0 (quad_line q ∙ ap (λ (l : List ℕ). l ++ codes "\n") cut.0 ∙ sym (quad_line r)) in
    let below = quads_split read quads rest h.1 k.1 cut.1 in
    (below.0, λ i. same i ∷ below.1 i, below.2, below.3)

pub no_quads : (quads : List Quad) → flat_map quad_text quads ≡ [] → quads ≡ []
no_quads [] e = refl
no_quads (q ∷ quads) e = absurd (no_line [] (line_of q) (flat_map quad_text quads) refl (sym e ∙ quad_front q (flat_map quad_text quads)))

pub quads_begin : (quads : List Quad) (more : List ℕ) → AreQuads quads → flat_map quad_text quads ≡ 35 ∷ more → ⊥
quads_begin [] more h e = absurd cc
quads_begin (q ∷ quads) more h e = quad_begins q (flat_map quad_text quads) more h.0 e

-- ---- names

pub names_split : (read names : List Term) (quads : List Quad) (rest : List ℕ) → AreNames read → AreNames names → AreQuads quads
    → flat_map name_line names ++ flat_map quad_text quads ≡ flat_map name_line read ++ rest
    → (more : List Term) × (names ≡ read ++ more) × AreNames more × (flat_map name_line more ++ flat_map quad_text quads ≡ rest)
names_split [] names quads rest h k j e = (names, refl, k, e)
names_split (r ∷ read) [] quads rest h k j e = absurd (quads_begin quads _ j e)
names_split (r ∷ read) (n ∷ names) quads rest h k j e =
    let mine = flat_map name_line names ++ flat_map quad_text quads in
    let theirs = flat_map name_line read ++ rest in
    let behind : term_text n ++ 10 ∷ mine ≡ term_text r ++ 10 ∷ theirs = append_cancel_left (codes "#% graph ") _ _
    (sym (name_front n mine) ∙ sym (append_assoc (name_line n) (flat_map name_line names) (flat_map quad_text quads)) ∙ e ∙ append_assoc (name_line r) (flat_map name_line read) rest ∙ name_front r theirs) in
    let cut = one_cut (term_text n) (term_text r) mine theirs (name_no_feed n k.0) (name_no_feed r h.0) behind in
    let same : n ≡ r = texts_differ n r (name_is_term n k.0) (name_is_term r h.0) cut.0 in
    let below = names_split read names quads rest h.1 k.1 j cut.1 in
    (below.0, λ i. same i ∷ below.1 i, below.2, below.3)

-- where no name's line begins, there is none
pub no_names : (names : List Term) (quads : List Quad) (rest : List ℕ) → ((more : List ℕ) → rest ≡ codes "#% graph " ++ more → ⊥)
    → flat_map name_line names ++ flat_map quad_text quads ≡ rest → names ≡ []
no_names [] quads rest none e = refl
no_names (n ∷ names) quads rest none e =
    let mine = flat_map name_line names ++ flat_map quad_text quads in
    absurd (none (term_text n ++ 10 ∷ mine) (sym e ∙ append_assoc (name_line n) (flat_map name_line names) (flat_map quad_text quads) ∙ name_front n mine))

pub names_are : (read names : List Term) (quads : List Quad) (rest : List ℕ) → AreNames read → AreNames names → AreQuads quads → ((more : List ℕ) → rest ≡ codes "#% graph " ++ more → ⊥)
    → flat_map name_line names ++ flat_map quad_text quads ≡ flat_map name_line read ++ rest → (names ≡ read) × (flat_map quad_text quads ≡ rest)
names_are read names quads rest h k j none e =
    let below = names_split read names quads rest h k j e in
    let over : below.0 ≡ [] = no_names below.0 quads rest none below.3 in (
      below.1 ∙ ap (λ (l : List Term). read ++ l) over ∙ append-nil read,
      ap (λ (l : List Term). flat_map name_line l ++ flat_map quad_text quads) (sym over) ∙ below.3,
    )

-- ---- the whole text

pub quads_are : (read quads : List Quad) → AreQuads read → AreQuads quads → flat_map quad_text quads ≡ flat_map quad_text read → quads ≡ read
quads_are read quads h k e =
    let below = quads_split read quads [] h k (e ∙ sym (append-nil (flat_map quad_text read))) in
    below.1 ∙ ap (λ (l : List Quad). read ++ l) (no_quads below.0 below.3) ∙ append-nil read

pub counted_once : (m n : ℕ) (mine theirs : List ℕ) → m < 2 ^ 64 → n < 2 ^ 64 → decimal m ++ 10 ∷ mine ≡ decimal n ++ 10 ∷ theirs → (m ≡ n) × (mine ≡ theirs)
counted_once m n mine theirs h k e =
    let cut = one_cut (decimal m) (decimal n) mine theirs (decimal_no_feed m h) (decimal_no_feed n k) e in
    (decimal_injective m n h k cut.0, cut.1)

pub parts_are : (m n : ℕ) (names others : List Term) (quads more : List Quad) → m < 2 ^ 64 → n < 2 ^ 64 → AreNames names → AreNames others → AreQuads quads → AreQuads more
    → state_text m names quads ≡ state_text n others more → (m ≡ n) × (names ≡ others) × (quads ≡ more)
parts_are m n names others quads more h k a b c d e =
    let numbers = counted_once m n (flat_map name_line names ++ flat_map quad_text quads) (flat_map name_line others ++ flat_map quad_text more) h k
    (append_cancel_left (codes "#% rdfkeep state 2\n#% next ") _ _ e) in
    let below = names_are others names quads (flat_map quad_text more) b a c (λ x f. quads_begin more _ d f) numbers.1 in
    (numbers.0, below.0, quads_are more quads d c below.1)

-- ---- what isn't there

pub no_more_quads : (text : List ℕ) (read : List Quad) (rest : List ℕ) → AreQuads read → text ≡ flat_map quad_text read ++ rest → (rest ≡ [] → ⊥)
    → ((q : Quad) (more : List ℕ) → is_quad q ≡ true → rest ≡ quad_text q ++ more → ⊥) → HasNoQuads text
no_more_quads text read rest h w more_text none quads k e =
    let s = quads_split read quads rest h k (sym e ∙ w) in
    by s.0 s.2 s.3
  where
    by : (more : List Quad) → AreQuads more → flat_map quad_text more ≡ rest → ⊥
    by [] j f = more_text (sym f)
    by (q ∷ more) j f = none q (flat_map quad_text more) j.0 (sym f)

pub no_more_names : (text : List ℕ) (read : List Term) (rest behind : List ℕ) → AreNames read → text ≡ flat_map name_line read ++ rest → rest ≡ codes "#% graph " ++ behind
    → ((t : Term) (more : List ℕ) → is_graph_name t ≡ true → behind ≡ term_text t ++ 10 ∷ more → ⊥) → HasNoNames text
no_more_names text read rest behind h w marked none names quads k j e =
    let s = names_split read names quads rest h k j (sym e ∙ w) in
    by s.0 s.2 s.3
  where
    by : (more : List Term) → AreNames more → flat_map name_line more ++ flat_map quad_text quads ≡ rest → ⊥
    by [] i f = quads_begin quads _ j (f ∙ marked)
    by (n ∷ more) i f =
        let mine = flat_map name_line more ++ flat_map quad_text quads in
        none n mine i.0 (append_cancel_left (codes "#% graph ") _ _ (sym marked ∙ sym f ∙ append_assoc (name_line n) (flat_map name_line more) (flat_map quad_text quads) ∙ name_front n mine))

pub no_names_behind : (bytes : List ℕ) (next : ℕ) (more : List ℕ) → next < 2 ^ 64 → bytes ≡ counted next more → HasNoNames more → HasNoParts bytes
no_names_behind bytes next more fits w none n names quads h k j e =
    none names quads k j (counted_once next n more (flat_map name_line names ++ flat_map quad_text quads) fits h (append_cancel_left (codes "#% rdfkeep state 2\n#% next ") _ _ (sym w ∙ e))).1

pub no_quads_behind : (bytes : List ℕ) (next : ℕ) (more : List ℕ) (read : List Term) (rest : List ℕ) → next < 2 ^ 64 → bytes ≡ counted next more → AreNamesBefore more read rest → HasNoQuads rest → HasNoParts bytes
no_quads_behind bytes next more read rest fits w before none n names quads h k j e =
    let same = (counted_once next n more (flat_map name_line names ++ flat_map quad_text quads) fits h (append_cancel_left (codes "#% rdfkeep state 2\n#% next ") _ _ (sym w ∙ e))).1 in
    none quads j (sym (names_are read names quads rest before.0 k j before.2 (sym same ∙ before.1)).1)

pub parts_there : (bytes : List ℕ) (next : ℕ) (more : List ℕ) (read : List Term) (rest : List ℕ) (quads : List Quad) → next < 2 ^ 64 → bytes ≡ counted next more → AreNamesBefore more read rest → AreQuadsOf rest quads → ArePartsOf bytes next read quads
parts_there bytes next more read rest quads fits w before behind = record {
  right_names = before.0;
  right_quads = behind.0;
  fits = fits;
  writes = w ∙ ap (counted next) (before.1 ∙ ap (λ (l : List ℕ). flat_map name_line read ++ l) behind.1);
}
