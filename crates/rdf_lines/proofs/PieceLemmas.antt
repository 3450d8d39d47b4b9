-- Pieces and the lines in them.
use Rattle.std.proofs.Common.{◌≡◌, ◌≢◌, ◌∙◌, ap, refl, sym, ℕ, ◌+◌, ◌-◌, ◌≤◌, ◌<◌, arith, Bool, true, false, cond, ◌&&◌, List, [], ◌∷◌, ◌++◌, length, take, drop, append_assoc, append-nil, Option, Some, None, length-take, get_or, zero, suc, add-one, le_refl, length-drop, length-append, slice_range, take-append-drop, subst}
use Rattle.std.specs.Io.KnownBytes.{Consumes, prepend_known}
use Rattle.std.proofs.lemmas.List.{drop-take, drop-drop, take_more, take_all, drop_all}
use Rattle.rdf_terms.specs.LineEnds.{is_line_feed, is_return, is_line_end}
use Rattle.rdf_lines.specs.Lines.{lines_behind}
use Rattle.std.specs.List.{onto_first}
use Rattle.rdf_lines.specs.Pieces.{onto, Hold, feed_len, Held, TakesPart, HasLine, HasNoLine, ahead, room}
use Rattle.rdf_lines.specs.declared.cut.Place.{Place}
use Rattle.std.specs.Prelude.{Result, Ok, Err, is_ok, is_err}
use Rattle.std.specs.List.{position, position_or_len}
use Rattle.std.proofs.lemmas.List.Quantifiers.{position-Some}
use Rattle.std.proofs.lemmas.List.Sums.{fails_before_first}
use Rattle.rdf_lines.specs.FaultName.{no_memory}

pub advanced : (xs : List ℕ) (s e n : ℕ) → s ≤ e → n ≤ length (take (e - s) (drop s xs)) → take (e - (s + n)) (drop (s + n) xs) ≡ drop n (take (e - s) (drop s xs))
advanced xs s e n h k =
    let short : n ≤ e - s = omega (arith, length-take (e - s) (drop s xs)) in
    let parts : n + (e - (s + n)) ≡ e - s = omega arith in
    ap (λ l. take (e - (s + n)) l) (sym (drop-drop n s xs)) ∙ sym (drop-take n (e - (s + n)) (drop s xs)) ∙ ap (λ m. drop n (take m (drop s xs))) parts

-- ---- lines in a piece

pub onto-append : (xs ys : List ℕ) (ls : List (List ℕ)) → onto (xs ++ ys) ls ≡ onto xs (onto ys ls)
onto-append [] ys ls = refl
onto-append (x ∷ xs) ys ls = ap (onto_first x) (onto-append xs ys ls)

pub onto-cons : (xs l : List ℕ) (ls : List (List ℕ)) → onto xs (l ∷ ls) ≡ (xs ++ l) ∷ ls
onto-cons [] l ls = refl
onto-cons (x ∷ xs) l ls = ap (onto_first x) (onto-cons xs l ls)

pub onto-none : (xs : List ℕ) → xs ≢ [] → onto xs [] ≡ xs ∷ []
onto-none [] h = absurd (h refl)
onto-none (x ∷ []) h = refl
onto-none (x ∷ y ∷ ys) h = ap (onto_first x) (onto-none (y ∷ ys) (λ e. cc))

pub other : (b : ℕ) (bs : List ℕ) → is_line_end b ≡ false → lines_behind false (b ∷ bs) ≡ onto_first b (lines_behind false bs)
other b bs e = ap (λ v. cond v ([] ∷ lines_behind (is_return b) bs) (onto_first b (lines_behind false bs))) e

pub ended : (b : ℕ) (bs : List ℕ) → is_line_end b ≡ true → lines_behind false (b ∷ bs) ≡ [] ∷ lines_behind (is_return b) bs
ended b bs e = ap (λ v. cond v ([] ∷ lines_behind (is_return b) bs) (onto_first b (lines_behind false bs))) e

abbrev pub NoEndBefore : ℕ → List ℕ → Type 0
NoEndBefore k xs = (j : ℕ) → j < k → is_line_end (get_or xs j 0) ≡ false

open_front : (xs : List ℕ) (k : ℕ) → k ≤ length xs → NoEndBefore k xs → (tail : List ℕ) → lines_behind false (take k xs ++ tail) ≡ onto (take k xs) (lines_behind false tail)
open_front xs zero h none tail = refl
open_front xs (suc k) h none tail =
    let last : take (suc k) xs ≡ take k xs ++ get_or xs k 0 ∷ [] = ap (λ n. take n xs) (sym (add-one k)) ∙ take_more xs k 0 (omega (arith, h)) in
    let before = open_front xs k (omega (arith, h)) (λ j l. none j (omega (arith, l))) (get_or xs k 0 ∷ tail) in
    ap (λ l. lines_behind false (l ++ tail)) last ∙ ap (lines_behind false) (append_assoc (take k xs) (get_or xs k 0 ∷ []) tail) ∙ before
    ∙ ap (onto (take k xs)) (other (get_or xs k 0) tail (none k (omega arith))) ∙ sym (onto-append (take k xs) (get_or xs k 0 ∷ []) (lines_behind false tail))
    ∙ ap (λ l. onto l (lines_behind false tail)) (sym last)

ended_front : (xs : List ℕ) (k : ℕ) → k < length xs → NoEndBefore k xs → is_line_end (get_or xs k 0) ≡ true → (tail : List ℕ) → lines_behind false (take (suc k) xs ++ tail) ≡ take k xs ∷ lines_behind (is_return (get_or xs k 0)) tail
ended_front xs k h none e tail =
    let last : take (suc k) xs ≡ take k xs ++ get_or xs k 0 ∷ [] = ap (λ n. take n xs) (sym (add-one k)) ∙ take_more xs k 0 h in
    ap (λ l. lines_behind false (l ++ tail)) last ∙ ap (lines_behind false) (append_assoc (take k xs) (get_or xs k 0 ∷ []) tail)
    ∙ open_front xs k (omega (arith, h)) none (get_or xs k 0 ∷ tail) ∙ ap (onto (take k xs)) (ended (get_or xs k 0) tail e)
    ∙ onto-cons (take k xs) [] _ ∙ ap (λ l. l ∷ lines_behind (is_return (get_or xs k 0)) tail) (append-nil (take k xs))

-- behind a CR or not
pub not_feed : (behind : Bool) (b : ℕ) (bs : List ℕ) → (behind && is_line_feed b) ≡ false → lines_behind behind (b ∷ bs) ≡ lines_behind false (b ∷ bs)
not_feed behind b bs e = ap (λ v. cond v (lines_behind false bs) (cond (is_line_end b) ([] ∷ lines_behind (is_return b) bs) (onto_first b (lines_behind false bs)))) e

pub feed : (behind : Bool) (b : ℕ) (bs : List ℕ) → (behind && is_line_feed b) ≡ true → lines_behind behind (b ∷ bs) ≡ lines_behind false bs
feed behind b bs e = ap (λ v. cond v (lines_behind false bs) (cond (is_line_end b) ([] ∷ lines_behind (is_return b) bs) (onto_first b (lines_behind false bs)))) e

-- a piece with a line end
pub line_in : (behind : Bool) (xs : List ℕ) (k f : ℕ) → f ≡ feed_len behind xs → k < length (drop f xs) → NoEndBefore k (drop f xs) → is_line_end (get_or (drop f xs) k 0) ≡ true
    → Hold behind (take (f + suc k) xs) (take k (drop f xs) ∷ []) [] (is_return (get_or (drop f xs) k 0))
line_in behind [] k f p h none e tail = absurd (nothing f h)
  where
    nothing : (n : ℕ) → k < length (drop n (let l : List ℕ = [] in l)) → ⊥
    nothing zero h = omega (arith, h)
    nothing (suc n) h = omega (arith, h)
line_in behind (b ∷ bs) k f p h none e tail = by (behind && is_line_feed b) refl f p h none e
  where
    by : (v : Bool) → (behind && is_line_feed b) ≡ v → (f : ℕ) → f ≡ cond v 1 0 → k < length (drop f (b ∷ bs)) → NoEndBefore k (drop f (b ∷ bs)) → is_line_end (get_or (drop f (b ∷ bs)) k 0) ≡ true
        → lines_behind behind (take (f + suc k) (b ∷ bs) ++ tail) ≡ take k (drop f (b ∷ bs)) ∷ lines_behind (is_return (get_or (drop f (b ∷ bs)) k 0)) tail
    by true is zero p h none e = absurd (omega (arith, p))
    by true is (suc zero) p h none e = ap (λ n. lines_behind behind (take n (b ∷ bs) ++ tail)) (let q : 1 + suc k ≡ suc (suc k) = omega arith in q) ∙ feed behind b (take (suc k) bs ++ tail) is ∙ ended_front bs k h none e tail
    by true is (suc (suc n)) p h none e = absurd (omega (arith, p))
    by false is zero p h none e = ap (λ n. lines_behind behind (take n (b ∷ bs) ++ tail)) (let q : 0 + suc k ≡ suc k = omega arith in q) ∙ not_feed behind b (take k bs ++ tail) is ∙ ended_front (b ∷ bs) k h none e tail
    by false is (suc n) p h none e = absurd (omega (arith, p))

-- a piece with none
pub front_in : (behind : Bool) (xs : List ℕ) (f : ℕ) → 0 < length xs → f ≡ feed_len behind xs → NoEndBefore (length (drop f xs)) (drop f xs) → Hold behind xs [] (drop f xs) false
front_in behind [] f h p none tail = absurd (omega (arith, h))
front_in behind (b ∷ bs) f h p none tail = by (behind && is_line_feed b) refl f p none
  where
    all : (ys : List ℕ) → NoEndBefore (length ys) ys → lines_behind false (ys ++ tail) ≡ onto ys (lines_behind false tail)
    all ys none =
        let t = take_all (length ys) ys (le_refl (length ys)) in
        ap (λ l. lines_behind false (l ++ tail)) (sym t) ∙ open_front ys (length ys) (le_refl (length ys)) none tail ∙ ap (λ l. onto l (lines_behind false tail)) t

    by : (v : Bool) → (behind && is_line_feed b) ≡ v → (f : ℕ) → f ≡ cond v 1 0 → NoEndBefore (length (drop f (b ∷ bs))) (drop f (b ∷ bs)) → lines_behind behind ((b ∷ bs) ++ tail) ≡ onto (drop f (b ∷ bs)) (lines_behind false tail)
    by true is zero p none = absurd (omega (arith, p))
    by true is (suc zero) p none = feed behind b (bs ++ tail) is ∙ all bs none
    by true is (suc (suc n)) p none = absurd (omega (arith, p))
    by false is zero p none = not_feed behind b (bs ++ tail) is ∙ all (b ∷ bs) none
    by false is (suc n) p none = absurd (omega (arith, p))

pub kept_ok : {A E X : Type 0} (r : Result A E) (x a b : X) → is_err r ≡ false → x ≡ cond (is_ok r) a b → x ≡ a
kept_ok (Ok v) x a b e h = h
kept_ok (Err v) x a b e h = cc

pub part_ended : (old new : Held) (behind : Bool) (line grown held : List ℕ) (p : Place) → held ≡ old.held → HasLine behind held p → grown ≡ line ++ slice_range held p.start p.end
    → new ≡ record old { held = drop (p.end + 1) old.held } → TakesPart old behind line (Ok true) new p.by_return grown
part_ended old new behind line grown held p is_held whole is_grown is_new =
    let there = subst (λ (h : List ℕ). HasLine behind h p) is_held whole in (
      slice_range held p.start p.end,
      p.end + 1,
      is_new,
      subst (λ (h : List ℕ). Hold behind (take (p.end + 1) old.held) (slice_range h p.start p.end ∷ []) [] p.by_return) (sym is_held) there.2,
      is_grown,
      (let l = length-take (p.end - p.start) (drop p.start held) in omega (arith, l, there.0)),
      (let l = there.1 in omega (arith, l)),
    )

pub part_open : (old new : Held) (behind : Bool) (line grown held rest : List ℕ) (f n : ℕ) → 0 < length old.held → held ≡ old.held → HasNoLine behind held → f ≡ feed_len behind held → rest ≡ drop f held
    → grown ≡ line ++ rest → n ≡ length held → new ≡ record old { held = drop n old.held } → TakesPart old behind line (Ok false) new false grown
part_open old new behind line grown held rest f n some is_held none is_feed is_rest is_grown is_n is_new =
    let same : rest ≡ drop (feed_len behind held) held = is_rest ∙ ap (λ (k : ℕ). drop k held) is_feed in (
      rest,
      is_new ∙ ap (λ (h : List ℕ). let r : Held = record old { held = h } in r) (drop_all n old.held (omega (arith, ap length is_held))),
      subst (λ h. Hold behind h [] rest false) is_held (subst (λ r. Hold behind held [] r false) (sym same) (none (omega (arith, some, ap length is_held)))),
      is_grown,
      (let l : length rest ≡ length held - f = ap length is_rest ∙ length-drop f held in omega (arith, ap length is_held)),
    )

-- ---- a line over several pieces

pub Consumes-none : (a : Option (List ℕ)) → Consumes a a []
Consumes-none None = tt
Consumes-none (Some x) = refl

pub Consumes-chain : (a b c : Option (List ℕ)) (xs ys : List ℕ) → Consumes a b xs → Consumes b c ys → Consumes a c (xs ++ ys)
Consumes-chain None b c xs ys p q = tt
Consumes-chain (Some a) None c xs ys p q = absurd p
Consumes-chain (Some a) (Some b) None xs ys p q = absurd q
Consumes-chain (Some a) (Some b) (Some c) xs ys p q = p ∙ ap (λ zs. xs ++ zs) q ∙ sym (append_assoc xs ys c)

pub Consumes-same : (a b c : Option (List ℕ)) (xs : List ℕ) → Consumes a b xs → Consumes b c [] → Consumes a c xs
Consumes-same a b c xs p q = subst (Consumes a c) (append-nil xs) (Consumes-chain a b c xs [] p q)

dropped : (b : Option (List ℕ)) (xs : List ℕ) (n : ℕ) → Consumes (prepend_known xs b) (prepend_known (drop n xs) b) (take n xs)
dropped None xs n = tt
dropped (Some ys) xs n = ap (λ l. l ++ ys) (sym (take-append-drop n xs)) ∙ append_assoc (take n xs) (drop n xs) ys

pub advanced_by : (beyond : Option (List ℕ)) (old new : Held) (n : ℕ) → new ≡ record old { held = drop n old.held } → Consumes (ahead old.held beyond) (ahead new.held beyond) (take n old.held)
advanced_by beyond old new n e = subst (λ (p : Held). Consumes (ahead old.held beyond) (ahead p.held beyond) (take n old.held)) (sym e) (dropped beyond old.held n)

emptied : (beyond : Option (List ℕ)) (old new : Held) → new ≡ record old { held = [] } → Consumes (ahead old.held beyond) (ahead new.held beyond) old.held
emptied beyond old new e = subst (λ (p : Held). Consumes (ahead old.held beyond) (ahead p.held beyond) old.held) (sym e) (by beyond)
  where
    by : (b : Option (List ℕ)) → Consumes (prepend_known old.held b) (prepend_known [] b) old.held
    by None = tt
    by (Some ys) = refl

pub Hold-none : (b : Bool) → Hold b [] [] [] b
Hold-none b tail = refl

-- a front of the line, and more of it
Hold-more : (b c d : Bool) (xs ys line part : List ℕ) → Hold b xs [] line c → Hold c ys [] part d → Hold b (xs ++ ys) [] (line ++ part) d
Hold-more b c d xs ys line part p q tail =
    ap (lines_behind b) (append_assoc xs ys tail) ∙ p (ys ++ tail) ∙ ap (onto line) (q tail) ∙ sym (onto-append line part (lines_behind d tail))

-- a front of the line, and its end
Hold-line : (b c d : Bool) (xs ys line part : List ℕ) → Hold b xs [] line c → Hold c ys (part ∷ []) [] d → Hold b (xs ++ ys) ((line ++ part) ∷ []) [] d
Hold-line b c d xs ys line part p q tail =
    ap (lines_behind b) (append_assoc xs ys tail) ∙ p (ys ++ tail) ∙ ap (onto line) (q tail) ∙ onto-cons line part (lines_behind d tail)

pub goes_on : (start beyond : Option (List ℕ)) (b c d : Bool) (old new : Held) (read line grown : List ℕ) → Consumes start (ahead old.held beyond) read → Hold b read [] line c → TakesPart old c line (Ok false) new d grown
    → (more : List ℕ) × Consumes start (ahead new.held beyond) more × Hold b more [] grown d
goes_on start beyond b c d old new read line grown p q t = (
  read ++ old.held,
  Consumes-chain start (ahead old.held beyond) (ahead new.held beyond) read old.held p (emptied beyond old new t.1),
  subst (λ g. Hold b (read ++ old.held) [] g d) (sym t.3) (Hold-more b c d read old.held line t.0 q t.2),
)

pub goes_on-room : (c d : Bool) (old new : Held) (line grown : List ℕ) → TakesPart old c line (Ok false) new d grown → room new + length grown ≤ room old + length line
goes_on-room c d old new line grown t =
    let a = ap room t.1 in
    let b = ap length t.3 in
    omega (arith, a, b, length-append line t.0, t.4)

pub goes_on-falls : (c d : Bool) (old new : Held) (line grown : List ℕ) → 0 < length old.held → TakesPart old c line (Ok false) new d grown → room new < room old
goes_on-falls c d old new line grown h t = let a = ap room t.1 in omega (arith, a, h)

pub comes_to_end : (start beyond : Option (List ℕ)) (b c d : Bool) (old new : Held) (read line grown : List ℕ) → Consumes start (ahead old.held beyond) read → Hold b read [] line c → TakesPart old c line (Ok true) new d grown
    → (more : List ℕ) × Consumes start (ahead new.held beyond) more × Hold b more (grown ∷ []) [] d
comes_to_end start beyond b c d old new read line grown p q t =
    let n = t.1 in (
      read ++ take n old.held,
      Consumes-chain start (ahead old.held beyond) (ahead new.held beyond) read (take n old.held) p (advanced_by beyond old new n t.2),
      subst (λ g. Hold b (read ++ take n old.held) (g ∷ []) [] d) (sym t.4) (Hold-line b c d read (take n old.held) line t.0 q t.3),
    )

pub comes_to_end-room : (c d : Bool) (old new : Held) (line grown : List ℕ) → TakesPart old c line (Ok true) new d grown → room new + length grown + 1 ≤ room old + length line
comes_to_end-room c d old new line grown t =
    let a = ap room t.2 in
    let b = ap length t.4 in
    omega (arith, a, b, length-append line t.0, length-drop t.1 old.held, t.5, t.6)

pub not_nil : (xs : List ℕ) → (0 < length xs) → xs ≢ []
not_nil [] h e = omega (arith, h)
not_nil (x ∷ xs) h e = cc

-- ---- a text as a whole

pub no_end : (ys : List ℕ) → NoEndBefore (length ys) ys → (tail : List ℕ) → lines_behind false (ys ++ tail) ≡ onto ys (lines_behind false tail)
no_end ys none tail =
    let t = take_all (length ys) ys (le_refl (length ys)) in
    ap (λ l. lines_behind false (l ++ tail)) (sym t) ∙ open_front ys (length ys) (le_refl (length ys)) none tail ∙ ap (λ l. onto l (lines_behind false tail)) t

skip_feed : (behind : Bool) (xs : List ℕ) (f : ℕ) → f ≡ feed_len behind xs → lines_behind behind xs ≡ lines_behind false (drop f xs)
skip_feed behind [] f p = sym (ap (λ n. lines_behind false (drop n [])) p)
skip_feed behind (b ∷ bs) f p = by (behind && is_line_feed b) refl f p
  where
    by : (v : Bool) → (behind && is_line_feed b) ≡ v → (f : ℕ) → f ≡ cond v 1 0 → lines_behind behind (b ∷ bs) ≡ lines_behind false (drop f (b ∷ bs))
    by true is zero p = absurd (omega (arith, p))
    by true is (suc zero) p = feed behind b bs is
    by true is (suc (suc n)) p = absurd (omega (arith, p))
    by false is zero p = not_feed behind b bs is
    by false is (suc n) p = absurd (omega (arith, p))

pub first_ended : (text line after rest : List ℕ) (p : Place) (f : ℕ) → HasLine false text p → line ≡ slice_range text p.start p.end → after ≡ drop (p.end + 1) text → f ≡ feed_len p.by_return after → rest ≡ drop f after
    → lines_behind false text ≡ line ∷ lines_behind false rest
first_ended text line after rest p f whole is_line is_after is_feed is_rest =
    ap (lines_behind false) (sym (take-append-drop (p.end + 1) text)) ∙ whole.2 (drop (p.end + 1) text) ∙ ap (λ l. l ∷ lines_behind p.by_return (drop (p.end + 1) text)) (sym is_line)
    ∙ ap (λ t. line ∷ lines_behind p.by_return t) (sym is_after) ∙ ap (λ ls. line ∷ ls) (skip_feed p.by_return after f is_feed ∙ ap (lines_behind false) (sym is_rest))

no_feed : (text : List ℕ) → feed_len false text ≡ 0
no_feed [] = refl
no_feed (b ∷ bs) = refl

pub first_open : (text line rest : List ℕ) (n : ℕ) → 0 < length text → HasNoLine false text → n ≡ length text → line ≡ take n text → rest ≡ drop n text → lines_behind false text ≡ line ∷ lines_behind false rest
first_open text line rest n some none is_n is_line is_rest =
    let all : line ≡ text = is_line ∙ take_all n text (omega (arith, is_n)) in
    let over : rest ≡ [] = is_rest ∙ drop_all n text (omega (arith, is_n)) in
    let front : Hold false text [] text false = subst (λ k. Hold false text [] (drop k text) false) (no_feed text) (none some) in
    ap (lines_behind false) (sym (append-nil text)) ∙ front [] ∙ onto-none text (not_nil text some) ∙ ap (λ l. l ∷ []) (sym all) ∙ ap (λ t. line ∷ lines_behind false t) (sym over)

pub stops : (start beyond : Option (List ℕ)) (b c d : Bool) (old new : Held) (read line grown : List ℕ) → Consumes start (ahead old.held beyond) read → Hold b read [] line c → TakesPart old c line (Err no_memory) new d grown
    → (more : List ℕ) × Consumes start (ahead new.held beyond) more × Hold b more [] grown d
stops start beyond b c d old new read line grown p q t =
    (read, subst (λ (h : Held). Consumes start (ahead h.held beyond) read) (sym t.0) p, subst (λ v. Hold b read [] grown v) (sym t.1) (subst (λ g. Hold b read [] g c) (sym t.2) q))

-- ---- a line that lies whole in a piece

pub line_at : (behind by : Bool) (piece rest : List ℕ) (f i : ℕ) → f ≡ feed_len behind piece → rest ≡ drop f piece → Some i ≡ position is_line_end rest
    → by ≡ is_return (get_or rest i 0) → HasLine behind piece (record { start = f; end = f + i; by_return = by })
line_at behind by piece rest f i is_feed is_rest first is_by =
    let (inside, end, none) = position-Some is_line_end rest i 0 (sym first) in (
      omega arith,
      (let l : length rest ≡ length piece - f = ap length is_rest ∙ length-drop f piece in omega (arith, inside)),
      subst (λ b. Hold behind (take (f + i + 1) piece) (slice_range piece f (f + i) ∷ []) [] b) (sym is_by)
          (subst (λ r. i < length r → NoEndBefore i r → is_line_end (get_or r i 0) ≡ true → Hold behind (take (f + i + 1) piece) (slice_range piece f (f + i) ∷ []) [] (is_return (get_or r i 0))) (sym is_rest) at_rest
          inside none end),
    )
  where
    at_rest : i < length (drop f piece) → NoEndBefore i (drop f piece) → is_line_end (get_or (drop f piece) i 0) ≡ true
        → Hold behind (take (f + i + 1) piece) (slice_range piece f (f + i) ∷ []) [] (is_return (get_or (drop f piece) i 0))
    at_rest l n e tail =
        ap (λ m. lines_behind behind (take m piece ++ tail)) (let q : f + i + 1 ≡ f + suc i = omega arith in q) ∙ line_in behind piece i f is_feed l n e tail
        ∙ ap (λ m. take m (drop f piece) ∷ lines_behind (is_return (get_or (drop f piece) i 0)) tail) (let q : i ≡ (f + i) - f = omega arith in q)

-- a piece that has no line whole
pub front_only : (behind : Bool) (piece rest : List ℕ) (f : ℕ) → f ≡ feed_len behind piece → rest ≡ drop f piece → None ≡ position is_line_end rest → HasNoLine behind piece
front_only behind piece rest f is_feed is_rest none some =
    let all : length rest ≤ position_or_len is_line_end rest = grind (arith, none) in
    subst (λ k. Hold behind piece [] (drop k piece) false) is_feed
    (front_in behind piece f some is_feed (subst (λ r. NoEndBefore (length r) r) is_rest (λ j l. fails_before_first is_line_end rest j 0 (omega (arith, all, l)))))
