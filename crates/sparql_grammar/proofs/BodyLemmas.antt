-- What has been read of a group, one element behind the other, is the group of all of them.
use Rattle.std.proofs.Common.{◌≡◌, List, [], ◌∷◌, ◌++◌, Option, Some, None, refl, sym, ◌∙◌, append_assoc}
use Rattle.std.proofs.lemmas.List.{append-nil}
use Rattle.std.specs.Prelude.{option_to_list}
use Rattle.sparql_expressions.specs.declared.tree.Expression.{Expression}
use Rattle.sparql_grammar.specs.declared.body.Body.{Body}
use Rattle.sparql_grammar.specs.declared.tree.Element.{Element}
use Rattle.sparql_grammar.specs.declared.tree.Element.TheVariants as e
use Rattle.sparql_grammar.specs.declared.tree.Group.{Group}
use Rattle.sparql_grammar.specs.declared.tree.Member.{Member}
use Rattle.sparql_grammar.specs.Bodies.{IsEmpty, put, put_some, group_of}
use Rattle.sparql_grammar.specs.GroupReading.{filters_of, group_with, members_behind, together}

abbrev pub put_all : List Element → Body → Body
put_all [] body = body
put_all (x ∷ xs) body = put_all xs (put x body)

pub put_joined : (xs ys : List Element) (body : Body) → put_all (xs ++ ys) body ≡ put_all ys (put_all xs body)
put_joined [] ys body = refl
put_joined (x ∷ xs) ys body = put_joined xs ys (put x body)

pub put_option : (o : Option Element) (body : Body) → put_all (option_to_list o) body ≡ put_some o body
put_option None body = refl
put_option (Some x) body = refl

-- the group of what has been read, and of the elements behind it
abbrev with_behind : Body → List Element → Group
with_behind body elements = record { members = body.members ++ members_behind body.block elements; filters = body.filters ++ filters_of elements }

same_group : (ms ns : List Member) (fs gs : List Expression) → ms ≡ ns → fs ≡ gs → ◌≡◌ {A = Group} (record { members = ms; filters = fs }) (record { members = ns; filters = gs })
same_group ms ns fs gs p q = rw (p, q) refl

group_behind : (elements : List Element) (body : Body) → group_of (put_all elements body) ≡ with_behind body elements
unfolding filters_of members_behind
group_behind [] body = same_group _ _ _ _ refl (sym (append-nil body.filters))
group_behind (e.Block triples ∷ elements) body = group_behind elements (put (e.Block triples) body)
group_behind (e.Filter expression ∷ elements) body =
    group_behind elements (put (e.Filter expression) body) ∙ same_group _ _ _ _ refl (append_assoc body.filters (expression ∷ []) (filters_of elements))
group_behind (e.Pattern member ∷ elements) body =
    let rest = members_behind [] elements in
    group_behind elements (put (e.Pattern member) body)
    ∙ same_group _ _ _ _ (append_assoc (body.members ++ together body.block) (member ∷ []) rest ∙ append_assoc body.members (together body.block) (member ∷ rest)) refl

-- Where nothing was read before, it is the group of the elements.
pub group_of_all : (elements : List Element) (body : Body) → IsEmpty body → group_of (put_all elements body) ≡ group_with elements
group_of_all elements body h = group_behind elements body ∙ rw (h.members, h.block, h.filters) refl
