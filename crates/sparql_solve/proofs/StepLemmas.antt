-- What elements make of mappings, some of them first.
use Rattle.std.proofs.Common.{◌≡◌, ℕ, ◌==◌, Bool, true, false, ◌&&◌, List, [], ◌∷◌, ◌++◌, refl, sym, ap, ◌∙◌, subst, length, take, arith, nat_eq, append-nil, append_assoc}
use Rattle.std.specs.List.{flat_map, list_all}
use Rattle.std.proofs.lemmas.Bool.{eqb-true}
use Rattle.std.proofs.lemmas.List.{take_all}
use Rattle.rdf_terms.specs.declared.quad.GraphName.{GraphName}
use Rattle.rdf_dataset.specs.State.{State}
use Rattle.sparql_values.specs.Mapping.{Variables, Mapping}
use Rattle.sparql_algebra.specs.Algebra.{Element, joined, optional, removed}
use Rattle.sparql_algebra.specs.Solutions.{merges}
use Rattle.sparql_algebra.specs.Under.{agreeing}
use Rattle.sparql_algebra.proofs.CallerLemmas.{and_left}
use Rattle.sparql_solve.specs.declared.look_ups.LookUp.{LookUp}
use Rattle.sparql_solve.specs.Members.{AreSolutions, element_solutions}
use Rattle.sparql_solve.specs.Sides.{found}
use Rattle.sparql_solve.specs.Steps.{Begins}
use Rattle.sparql_solve.specs.Under.{AreEnough, AreMade, IsLookUpFor, IsLookUpOf, binds_none, counting, is_joined, is_removed, is_served, kept, masked, own_columns}
use Rattle.sparql_solve.proofs.FollowLemmas.{all_are_enough, made_alone, made_append, made_nothing, made_run}
use Rattle.sparql_solve.proofs.MemberLemmas.{none_left}
use Rattle.sparql_solve.proofs.SharedLemmas.{agreeing_none}

-- the mappings taken from the front, the first one apart from those behind it
pub front_block : (rows middle behind rest block : List Mapping) (x : Mapping) → rows ≡ x ∷ middle → middle ≡ behind ++ rest → block ≡ x ∷ behind → rows ≡ block ++ rest
front_block rows middle behind rest block x er em eb =
    er ∙ ap (λ (xs : List Mapping). x ∷ xs) em ∙ ap (λ (xs : List Mapping). xs ++ rest) (sym eb)

pub none_in : (n : ℕ) (xs : List Mapping) → (n == 0) ≡ true → length xs ≡ n → xs ≡ []
none_in n xs h e = none_left xs (e ∙ eqb-true n 0 h)

module _ (vs : Variables) (s : State) (g : GraphName) (a : Mapping) (k : Element) where
  pub begins_nothing : (rows out rest : List Mapping) → out ≡ [] → rest ≡ rows → Begins vs s g a k rows out rest
  begins_nothing rows out rest eo er more h =
      subst (λ (ys : List Mapping). AreMade vs s g a k rows (ys ++ more)) (sym eo)
      (subst (λ (xs : List Mapping). AreMade vs s g a k xs more) er h)

  pub begins_all : (rows out rest : List Mapping) → rest ≡ [] → Begins vs s g a k rows out rest → AreMade vs s g a k rows out
  begins_all rows out rest e h =
      subst (λ (ys : List Mapping). AreMade vs s g a k rows ys) (append-nil out)
      (h [] (subst (λ (xs : List Mapping). AreMade vs s g a k xs []) (sym e) (made_nothing vs s g a k [] refl)))

  pub begins_more : (rows made rest more out : List Mapping) → out ≡ made ++ more → Begins vs s g a k rows made rest → AreMade vs s g a k rest more →
      AreMade vs s g a k rows out
  begins_more rows made rest more out e h r = subst (λ (ys : List Mapping). AreMade vs s g a k rows ys) (sym e) (h more r)

  -- the mappings at the front, of which all is made
  pub begins_front : (rows block rest made : List Mapping) → rows ≡ block ++ rest → AreMade vs s g a k block made → Begins vs s g a k rows made rest
  begins_front rows block rest made e h more r = made_append vs s g a k block rest rows made more (made ++ more) e refl h r

  -- all of them
  pub begins_whole : (rows given made after rest : List Mapping) → given ≡ rows → after ≡ made → rest ≡ [] → AreMade vs s g a k given made →
      Begins vs s g a k rows after rest
  begins_whole rows given made after rest eg ea er h =
      begins_front rows rows rest after (sym (append-nil rows) ∙ ap (λ (xs : List Mapping). rows ++ xs) (sym er))
      (subst (λ (xs : List Mapping). AreMade vs s g a k xs after) eg (subst (λ (ys : List Mapping). AreMade vs s g a k given ys) (sym ea) h))

  -- and further ones
  pub begins_further : (rows made middle next rest after : List Mapping) → after ≡ made ++ next → Begins vs s g a k rows made middle →
      Begins vs s g a k middle next rest → Begins vs s g a k rows after rest
  begins_further rows made middle next rest after e h j more r =
      subst (λ (ys : List Mapping). AreMade vs s g a k rows ys)
      (sym (append_assoc made next more) ∙ ap (λ (ys : List Mapping). ys ++ more) (sym e))
      (h (next ++ more) (j more r))

  -- what is made of all that is left, where nothing is made so far
  pub rest_of_all : (rows given before out : List Mapping) (n : ℕ) → given ≡ rows → before ≡ [] → n ≡ 0 →
      (AreMade vs s g a k (take n given) before → AreMade vs s g a k given out) → AreMade vs s g a k rows out
  rest_of_all rows given before out n e eb en h =
      subst (λ (xs : List Mapping). AreMade vs s g a k xs out) e
      (h (subst (λ (m : ℕ). AreMade vs s g a k (take m given) before) (sym en) (made_nothing vs s g a k before eb)))

  -- the rows that share what is found for the first of them
  pub served_made : (l : LookUp) (own : List Bool) (key x : Mapping) (behind block there given out : List Mapping) → own ≡ own_columns vs l → key ≡ masked own x →
      (is_removed k && binds_none (masked own x)) ≡ false → IsLookUpOf vs s l (λ d. element_solutions vs d g k) →
      IsLookUpFor vs s k l (λ d. element_solutions vs d g k) → block ≡ x ∷ behind → list_all (is_served key) behind ≡ true →
      AreSolutions s there (λ d. found vs d l key) → given ≡ there →
      out ≡ flat_map (λ y. agreeing (kept vs k y (merges given y)) a) block → AreMade vs s g a k block out
  served_made l own key x behind block there given out eo ek en gives counts eb served h eg e =
      subst (λ (ys : List Mapping). AreMade vs s g a k ys out) (sym eb)
      (made_run vs s g a k l own key x (x ∷ behind) (x ∷ behind) there given out (length (x ∷ behind)) eo ek en gives counts
      (sym (take_all (length (x ∷ behind)) (x ∷ behind) (omega arith))) (omega arith) (omega arith) refl served h eg
      (e ∙ ap (flat_map (λ y. agreeing (kept vs k y (merges given y)) a)) eb))

-- what is found for a mapping is what an element that is joined makes of it, where nothing is bound above
pub kept_joined : (vs : Variables) (k : Element) (x : Mapping) (ms : List Mapping) → is_joined k ≡ true → kept vs k x ms ≡ ms
kept_joined vs (joined A) x ms h = refl
kept_joined vs (optional F A) x ms h = cc
kept_joined vs (removed A) x ms h = cc

joined_stays : (k : Element) → is_joined k ≡ true → is_removed k ≡ false
joined_stays (joined A) h = refl
joined_stays (optional F A) h = cc
joined_stays (removed A) h = cc

module _ (vs : Variables) (s : State) (g : GraphName) (a : Mapping) (k : Element) (x : Mapping) (l : LookUp) (is : IsLookUpFor vs s k l (λ d. element_solutions vs d g k)) where
  pub alone_made : (there out : List Mapping) → AreEnough vs s k x there (λ d. counting vs d l k x) → out ≡ agreeing (kept vs k x there) a →
      AreMade vs s g a k (x ∷ []) out
  alone_made there out h e = made_alone vs s g a k x (x ∷ []) (x ∷ []) there out l refl (omega arith) refl is h e

  pub joined_made : (b c : Bool) (out : List Mapping) → b ≡ is_joined k → b ≡ true → c ≡ binds_none a → c ≡ true →
      (length x ≡ length vs → AreSolutions s out (λ d. found vs d l x)) → AreMade vs s g a k (x ∷ []) out
  joined_made b c out eb t ec u h ea w =
      let j : is_joined k ≡ true = sym eb ∙ t in
      let wide : length x ≡ length vs = eqb-true (length x) (length vs) (and_left (nat_eq (length x) (length vs)) _ w) in
      alone_made out out (all_are_enough vs s x l out k (is_removed k) refl (joined_stays k j) (h wide))
      (sym (agreeing_none a (kept vs k x out) (sym ec ∙ u) ∙ kept_joined vs k x out j)) ea w
