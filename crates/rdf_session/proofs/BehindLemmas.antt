-- Marks behind so many of the first places: where they are.
use Rattle.std.proofs.Common.{◌≡◌, ℕ, ◌+◌, ◌-◌, ◌<◌, ◌≤◌, Bool, true, false, cond, List, [], ◌∷◌, map as map_list, refl, sym, ap, ◌∙◌, arith, Option, Some, None}
use Rattle.std.specs.Prelude.{nat_le}
use mathlib.Core.Logic.{inl, inr}
use Rattle.std.proofs.lemmas.Bool.Decides.{leb_tells}
use Rattle.std.specs.Cmp.Lexicographic.{nat_list_cmp_total}
use Rattle.std.specs.FinMap as map
use Rattle.std.specs.FinMap.{get-entries, get-from_entries, get-insert, get-retain_keys, same_map}
use Rattle.rdf_session.proofs.MarkLemmas.{get_upto, order, order_apart, same}
use Rattle.rdf_session.specs.History.{LieIn, Marks, is_from, is_upto, marks_behind, marks_from, marks_lower, marks_upto}

-- a place behind so many
abbrev pub behind : ℕ → Option ℕ → Option ℕ
behind count None = None
behind count (Some place) = cond (nat_le count place) (Some (place - count)) None

-- a place lowered by so many
abbrev pub lower : ℕ → Option ℕ → Option ℕ
lower count None = None
lower count (Some place) = Some (place - count)

pub get_from : (marks : Marks) (k : ℕ) (q : List ℕ) → map.get (marks_from k marks) q ≡ cond (is_from k (map.get marks q)) (map.get marks q) None
get_from marks k q =
    get-retain_keys marks (λ name. is_from k (map.get marks name)) q
    (λ x e. ap (λ name. is_from k (map.get marks name)) (sym (order_apart q x e)))

abbrev Places : Type 0
Places = List (List ℕ × ℕ)

find_lower : (count : ℕ) (q : List ℕ) (es : Places) → map.find order q (map_list (λ e. (e.0, e.1 - count)) es) ≡ lower count (map.find order q es)
find_lower count q [] = refl
find_lower count q (e ∷ es) =
    elim (same q e.0) as (λ b. cond b (Some (e.1 - count)) (map.find order q (map_list (λ x. (x.0, x.1 - count)) es)) ≡ lower count (cond b (Some e.1) (map.find order q es))) [
      | true ↦ refl
      | false ↦ find_lower count q es
    ]

pub get_lower : (marks : Marks) (count : ℕ) (q : List ℕ) → map.get (marks_lower count marks) q ≡ lower count (map.get marks q)
get_lower marks count q =
    get-from_entries nat_list_cmp_total (map_list (λ e. (e.0, e.1 - count)) (map.entries marks)) q
    ∙ find_lower count q (map.entries marks) ∙ ap (lower count) (sym (get-entries marks q))

lower_from : (count : ℕ) (o : Option ℕ) → lower count (cond (is_from count o) o None) ≡ behind count o
lower_from count None = refl
lower_from count (Some place) =
    elim (nat_le count place) as (λ b. lower count (cond b (Some place) None) ≡ cond b (Some (place - count)) None) [
      | true ↦ refl
      | false ↦ refl
    ]

pub get_behind : (marks : Marks) (count : ℕ) (q : List ℕ) → map.get (marks_behind count marks) q ≡ behind count (map.get marks q)
get_behind marks count q =
    get_lower (marks_from count marks) count q ∙ ap (lower count) (get_from marks count q) ∙ lower_from count (map.get marks q)

-- ---- places

pub is_there : (count place : ℕ) → count ≤ place → nat_le count place ≡ true
is_there count place h = elim (leb_tells count place) [ inl t ↦ t.0 | inr t ↦ absurd (omega (arith, t.1, h)) ]

pub is_gone : (count place : ℕ) → place < count → nat_le count place ≡ false
is_gone count place h = elim (leb_tells count place) [ inl t ↦ absurd (omega (arith, t.1, h)) | inr t ↦ t.0 ]

pub behind_there : (count place : ℕ) → count ≤ place → behind count (Some place) ≡ Some (place - count)
behind_there count place h = ap (λ b. cond b (Some (place - count)) None) (is_there count place h)

pub behind_gone : (count place : ℕ) → place < count → behind count (Some place) ≡ None
behind_gone count place h = ap (λ b. cond b (Some (place - count)) None) (is_gone count place h)

nowhere : (place : ℕ) → None ≡ Some place → ⊥
nowhere place e = cc

pub one_place : (i j : ℕ) → Some i ≡ Some j → i ≡ j
one_place i j e = cc

-- one that is behind so many was so much further on
pub behind_was : (count place : ℕ) (o : Option ℕ) → behind count o ≡ Some place → o ≡ Some (place + count)
behind_was count place None e = absurd (nowhere place e)
behind_was count place (Some at) e =
    elim (leb_tells count at) [
      | inl t ↦ let n = one_place (at - count) place (sym (behind_there count at t.1) ∙ e) in ap Some (omega (arith, n, t.1))
      | inr t ↦ absurd (nowhere place (sym (ap (λ b. cond b (Some (at - count)) None) t.0) ∙ e))
    ]

pub behind_is : (count place : ℕ) (o : Option ℕ) → o ≡ Some (place + count) → behind count o ≡ Some place
behind_is count place o e = ap (behind count) e ∙ behind_there count (place + count) (omega arith) ∙ ap Some (omega arith)

-- ---- marks behind places

pub alike : (m n : Marks) → ((q : List ℕ) → map.get m q ≡ map.get n q) → m ≡ n
alike m n same_places = same_map nat_list_cmp_total order_apart m n same_places

behind_nothing : (o : Option ℕ) → behind 0 o ≡ o
behind_nothing None = refl
behind_nothing (Some place) = behind_there 0 place (omega arith) ∙ ap Some (omega arith)

pub marks_behind_nothing : (marks : Marks) → marks_behind 0 marks ≡ marks
marks_behind_nothing marks = alike _ _ (λ q. get_behind marks 0 q ∙ behind_nothing (map.get marks q))

behind_both : (count : ℕ) (o : Option ℕ) → behind 1 (behind count o) ≡ behind (count + 1) o
behind_both count None = refl
behind_both count (Some place) =
    elim (leb_tells count place) [
      | inl t ↦
          ap (behind 1) (behind_there count place t.1)
          ∙ elim (leb_tells (count + 1) place) [
            | inl u ↦
                behind_there 1 (place - count) (omega (arith, t.1, u.1)) ∙ ap Some (omega (arith, t.1, u.1))
                ∙ sym (behind_there (count + 1) place u.1)
            | inr u ↦ behind_gone 1 (place - count) (omega (arith, t.1, u.1)) ∙ sym (behind_gone (count + 1) place (omega (arith, u.1)))
          ]
      | inr t ↦
          ap (behind 1) (behind_gone count place (omega (arith, t.1)))
          ∙ sym (behind_gone (count + 1) place (omega (arith, t.1)))
    ]

-- behind so many, and behind one more of what is left
pub marks_behind_both : (count : ℕ) (marks : Marks) → marks_behind 1 (marks_behind count marks) ≡ marks_behind (count + 1) marks
marks_behind_both count marks =
    alike _ _ (λ q. get_behind (marks_behind count marks) 1 q ∙ ap (behind 1) (get_behind marks count q) ∙ behind_both count (map.get marks q) ∙ sym (get_behind marks (count + 1) q))

abbrev upto : ℕ → Option ℕ → Option ℕ
upto place o = cond (is_upto place o) o None

behind_cut : (count place : ℕ) (o : Option ℕ) → behind count (upto (place + count) o) ≡ upto place (behind count o)
behind_cut count place None = refl
behind_cut count place (Some at) =
    elim (leb_tells count at) [
      | inl t ↦
          elim (leb_tells at (place + count)) [
            | inl u ↦
                ap (λ b. behind count (cond b (Some at) None)) u.0 ∙ behind_there count at t.1
                ∙ sym (ap (upto place) (behind_there count at t.1) ∙ ap (λ b. cond b (Some (at - count)) None) (is_there (at - count) place (omega (arith, t.1, u.1))))
            | inr u ↦
                ap (λ b. behind count (cond b (Some at) None)) u.0
                ∙ sym (ap (upto place) (behind_there count at t.1) ∙ ap (λ b. cond b (Some (at - count)) None) (is_gone (at - count) place (omega (arith, t.1, u.1))))
          ]
      | inr t ↦
          ap (λ b. behind count (cond b (Some at) None)) (is_there at (place + count) (omega (arith, t.1)))
          ∙ behind_gone count at (omega (arith, t.1)) ∙ sym (ap (upto place) (behind_gone count at (omega (arith, t.1))))
    ]

-- a cut so much further on
pub marks_behind_upto : (count place : ℕ) (marks : Marks) → marks_behind count (marks_upto (place + count) marks) ≡ marks_upto place (marks_behind count marks)
marks_behind_upto count place marks =
    alike _ _ (λ q.
    get_behind (marks_upto (place + count) marks) count q ∙ ap (behind count) (get_upto marks (place + count) q) ∙ behind_cut count place (map.get marks q)
    ∙ sym (get_upto (marks_behind count marks) place q ∙ ap (upto place) (get_behind marks count q)))

-- a name that is put so much further on
pub marks_behind_insert : (count place : ℕ) (name : List ℕ) (marks : Marks) → marks_behind count (map.insert marks name (place + count)) ≡ map.insert (marks_behind count marks) name place
marks_behind_insert count place name marks =
    alike _ _ (λ q.
    get_behind (map.insert marks name (place + count)) count q ∙ ap (behind count) (get-insert nat_list_cmp_total marks name (place + count) q)
    ∙ put q (same q name) ∙ ap (cond (same q name) (Some place)) (sym (get_behind marks count q))
    ∙ sym (get-insert nat_list_cmp_total (marks_behind count marks) name place q))
  where
    put : (q : List ℕ) (b : Bool) → behind count (cond b (Some (place + count)) (map.get marks q)) ≡ cond b (Some place) (behind count (map.get marks q))
    put q true = behind_is count place (Some (place + count)) refl
    put q false = refl

behind_from : (count : ℕ) (o : Option ℕ) → behind count (cond (is_from count o) o None) ≡ behind count o
behind_from count None = refl
behind_from count (Some place) =
    elim (nat_le count place) as (λ b. nat_le count place ≡ b → behind count (cond b (Some place) None) ≡ behind count (Some place)) [
      | true ↦ λ t. refl
      | false ↦ λ t. ap (λ b. cond b (Some (place - count)) None) (sym t)
    ] refl

-- those before them make no difference
pub marks_behind_from : (count : ℕ) (marks : Marks) → marks_behind count (marks_from count marks) ≡ marks_behind count marks
marks_behind_from count marks =
    alike _ _ (λ q.
    get_behind (marks_from count marks) count q ∙ ap (behind count) (get_from marks count q) ∙ behind_from count (map.get marks q) ∙ sym (get_behind marks count q))

-- they lie in the list of what is left
pub lie_behind : (n : ℕ) (marks : Marks) → LieIn n marks → LieIn (n - 1) (marks_behind 1 marks)
lie_behind n marks lie name place e =
    let h = lie name (place + 1) (behind_was 1 place (map.get marks name) (sym (get_behind marks 1 name) ∙ e)) in omega (arith, h)
