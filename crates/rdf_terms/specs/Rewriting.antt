-- What the code computes: a text cut into its components, and a path rewritten from its front (RFC 3986, sections 3 and 5.2.4).
use Rattle.std.specs.Prelude.{◌≡◌, ◌⊎◌, ℕ, ◌-◌, ◌||◌, IsTrue, false, nat_eq, if◌then◌else◌, List, [], ◌∷◌, ◌++◌, codes, length, take, drop, suc, Option, Some, None, unwrap_or}
use Rattle.std.specs.List.{list_any, starts_with}
use Rattle.rdf_terms.specs.Cuts.{number_sign, slash, colon, question_mark, before, after, up_to_slash}
use Rattle.rdf_terms.specs.declared.dots.Output.{Output}
use Rattle.rdf_terms.specs.Dots.{is_text, is_dot_segment, segments}
use Rattle.rdf_terms.specs.Reference.{Components, marked, recomposed}
use Rattle.rdf_terms.specs.Resolution.{begins_with_slash, target}

-- a text with no `?` and no `#`, and the query and fragment that followed it
abbrev pub with_front : List ℕ → Option (List ℕ) → Option (List ℕ) → Components
with_front front query fragment =
    if starts_with nat_eq front (codes "//")
    then record { authority = Some (before slash (drop 2 front)); path = marked (codes "/") (after slash (drop 2 front)); query = query; fragment = fragment }
    else record { authority = None; path = front; query = query; fragment = fragment }

abbrev pub components_of : List ℕ → Components
components_of text = let front = before number_sign text in with_front (before question_mark front) (after question_mark front) (after number_sign text)

-- the text that the code puts together
unfoldable pub resolved : List ℕ → List ℕ → List ℕ
resolved base reference =
    before colon base ++ colon ∷ recomposed (target (components_of (unwrap_or (after colon base) [])) (components_of reference))

-- the components of a base, behind its scheme
abbrev pub parts_of : List ℕ → Components
parts_of base = components_of (unwrap_or (after colon base) [])

-- the length of the first segment with the slash before it, of a text that isn't empty
abbrev pub first_len : List ℕ → ℕ
first_len input = suc (length (before slash (drop 1 input)))

-- the output without its last segment and the slash before it
abbrev pub without_last : List ℕ → List ℕ
without_last output = take (length (up_to_slash output) - 1) output

-- one step by the five cases: what is left of the input
unfoldable pub step_input : List ℕ → List ℕ
step_input input =
    if starts_with nat_eq input (codes "../") then drop 3 input else
    if starts_with nat_eq input (codes "./") then drop 2 input else
    if starts_with nat_eq input (codes "/./") then drop 2 input else
    if is_text input (codes "/.") then take 1 input else
    if starts_with nat_eq input (codes "/../") then drop 3 input else
    if is_text input (codes "/..") then take 1 input else
    if is_text input (codes ".") || is_text input (codes "..") then [] else drop (first_len input) input

-- and the output
unfoldable pub step_output : List ℕ → List ℕ → List ℕ
step_output input output =
    if starts_with nat_eq input (codes "../") then output else
    if starts_with nat_eq input (codes "./") then output else
    if starts_with nat_eq input (codes "/./") then output else
    if is_text input (codes "/.") then output else
    if starts_with nat_eq input (codes "/../") then without_last output else
    if is_text input (codes "/..") then without_last output else
    if is_text input (codes ".") || is_text input (codes "..") then output else output ++ take (first_len input) input

-- what is written: what is kept of the front, and what was added
abbrev pub written : List ℕ → Output → List ℕ
written front output = take output.kept front ++ output.added.items

-- behind such a front the rewriting of a path goes on: there is none, or it has no dot segment and a slash follows
abbrev pub GoesOnBehind : List ℕ → List ℕ → Type 0
GoesOnBehind front path = (front ≡ []) ⊎ ((list_any is_dot_segment (segments front) ≡ false) × IsTrue (begins_with_slash path))
