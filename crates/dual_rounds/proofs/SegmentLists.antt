-- Lists with one element a segment.
use Rattle.std.proofs.Common.{◌≡◌, ℕ, zero, suc, ◌+◌, ◌<◌, List, [], ◌∷◌, ◌++◌, length, map, drop, get_or, set, refl, sym, ◌∙◌, ap, arith}
use Rattle.std.specs.Prelude.{Vec}
use Rattle.std.specs.Global.{Global}
use Rattle.std.specs.List.{All}
use Rattle.std.proofs.lemmas.List.Elements.{All-nil, All-cons, All-append}
use Rattle.std.specs.Vec.{with_items}
use Rattle.std.proofs.lemmas.List.{append_assoc, at_drop_more, get_or-map, map-set, with_items_is}
use Rattle.map_base.specs.declared.ids.SegId.{SegId}
use Rattle.map_base.specs.declared.ids.LineId.{LineId}
use Rattle.order_model.specs.declared.problem.ProblemParts.{ProblemParts}
use Rattle.order_model.specs.Problems.{lines_on}
use Rattle.dual_ascent.specs.declared.pair_average.PairAverage.{PairAverage}
use Rattle.dual_ascent.specs.OwnNumbers.{segments_from, all_segments}
use Rattle.dual_ascent.specs.Averages.{never, never_all, with_order, averages_on, averages_after}
use Rattle.dual_ascent.proofs.OwnParts.{all_made_at}
use Rattle.dual_rounds.specs.Ranges.{IsAverage, averages_of}

pub length_segments : (k : ℕ) (segs : List (List LineId)) → length (segments_from k segs) ≡ length segs
length_segments k [] = refl
length_segments k (l ∷ segs) = let rest = length_segments (k + 1) segs in ap suc rest

length_mapped : {A B : Type 0} (f : A → B) (xs : List A) → length (map f xs) ≡ length xs
length_mapped f [] = refl
length_mapped f (x ∷ xs) = ap suc (length_mapped f xs)

-- the averages of a segment with the order of a round more
abbrev pub averages_by : ℕ → List (List LineId) → ℕ → List PairAverage → List PairAverage
averages_by round orders s averages = map (with_order round (get_or orders s [])) averages

pub length_averages : (p : ProblemParts) (round : ℕ) (orders : List (List LineId)) (averages : List (List PairAverage)) → length (averages_after p round orders averages) ≡ length p.segs
length_averages p round orders averages = length_mapped (λ (s : SegId). map (with_order round (lines_on orders s)) (averages_on averages s)) (all_segments p) ∙ length_segments 0 p.segs

pub averages_at : (p : ProblemParts) (round : ℕ) (orders : List (List LineId)) (averages : List (List PairAverage)) (i : ℕ) → i < length p.segs
    → get_or (averages_after p round orders averages) i [] ≡ averages_by round orders i (get_or averages i [])
averages_at p round orders averages i h = all_made_at p.segs (λ (s : SegId). map (with_order round (lines_on orders s)) (averages_on averages s)) i [] h

-- Averages before the first round.

pub never_more : (lines : List LineId) (i : ℕ) (d : LineId) → i < length lines → never_all (drop i lines) ≡ map (never (get_or lines i d)) (drop (i + 1) lines) ++ never_all (drop (i + 1) lines)
never_more lines i d h = at_drop_more never_all lines i d h

never_average : (a b : LineId) → IsAverage (never a b)
never_average a b = record { swapped = omega (arith); beside = omega (arith) }

never_averages : (a : LineId) (lines : List LineId) → All IsAverage (map (never a) lines)
never_averages a [] = All-nil IsAverage
never_averages a (b ∷ lines) = All-cons IsAverage (never a b) (map (never a) lines) (never_average a b) (never_averages a lines)

pub never_all_averages : (lines : List LineId) → All IsAverage (never_all lines)
never_all_averages [] = All-nil IsAverage
never_all_averages (a ∷ lines) = All-append IsAverage (map (never a) lines) (never_all lines) (never_averages a lines) (never_all_averages lines)

pub no_averages_within : (segs : List (List LineId)) → All (All IsAverage) (map never_all segs)
no_averages_within [] = All-nil (All IsAverage)
no_averages_within (l ∷ segs) = All-cons (All IsAverage) (never_all l) (map never_all segs) (never_all_averages l) (no_averages_within segs)

-- Lists of as many lines each.

pub lengths_each : (xs ys : List (List LineId)) → map (λ o. length o) xs ≡ map (λ o. length o) ys → length xs ≡ length ys
lengths_each xs ys e = sym (length_mapped (λ o. length o) xs) ∙ (ap length e ∙ length_mapped (λ o. length o) ys)

pub lengths_at : (xs ys : List (List LineId)) (i : ℕ) → map (λ o. length o) xs ≡ map (λ o. length o) ys → length (get_or xs i []) ≡ length (get_or ys i [])
lengths_at [] [] i e = refl
lengths_at (x ∷ xs) (y ∷ ys) zero e = cc
lengths_at (x ∷ xs) (y ∷ ys) (suc i) e = lengths_at xs ys i cc
lengths_at [] (y ∷ ys) i e = cc
lengths_at (x ∷ xs) [] i e = cc

-- the order that takes the place of another
abbrev pub copied_by : List (List LineId) → ℕ → List LineId → List LineId
copied_by from s order = get_or from s []

pub length_of_averages : (averages : List (Vec PairAverage Global)) → length (averages_of averages) ≡ length averages
length_of_averages averages = length_mapped (λ (v : Vec PairAverage Global). v.items) averages

-- the pairs of a line and of all behind it, with those of the lines behind it
pub never_pushed : (lines behind : List LineId) (i : ℕ) (a : LineId) (old new : List PairAverage) → i < length lines → a ≡ get_or lines i a → behind ≡ drop (i + 1) lines
    → old ++ never_all (drop i lines) ≡ never_all lines → new ≡ old ++ map (never a) behind → new ++ never_all (drop (i + 1) lines) ≡ never_all lines
never_pushed lines behind i a old new below is rest so_far pushed =
    ap (λ l. l ++ never_all (drop (i + 1) lines)) (pushed ∙ ap (λ l. old ++ map (never a) l) rest)
    ∙ (append_assoc old (map (never a) (drop (i + 1) lines)) (never_all (drop (i + 1) lines))
    ∙ (ap (λ l. old ++ l) (ap (λ b. map (never b) (drop (i + 1) lines) ++ never_all (drop (i + 1) lines)) is ∙ sym (never_more lines i a below)) ∙ so_far))

-- Averages as they lie in memory.

pub average_item : (averages : List (Vec PairAverage Global)) (s : ℕ) (v : Vec PairAverage Global) → s < length averages → (get_or averages s v).items ≡ get_or (averages_of averages) s []
average_item averages s v below = sym (get_or-map (λ (w : Vec PairAverage Global). w.items) averages s v [] below)

pub written_average : (averages : List (Vec PairAverage Global)) (s : ℕ) (v : Vec PairAverage Global) (new : List PairAverage) → length new ≡ (get_or averages s v).len
    → averages_of (set averages s (with_items (get_or averages s v) new)) ≡ set (averages_of averages) s new
written_average averages s v new each =
    map-set (λ (w : Vec PairAverage Global). w.items) averages s (with_items (get_or averages s v) new)
    ∙ ap (set (averages_of averages) s) (with_items_is (get_or averages s v) new each)
