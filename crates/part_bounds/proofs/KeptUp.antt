-- A part that is kept up while lines are placed.
use Rattle.std.proofs.Common.{◌≡◌, ℕ, suc, ◌+◌, ◌*◌, ◌<◌, ◌≤◌, Bool, true, false, cond, List, [], ◌∷◌, ◌++◌, length, filter, map, take, get_or, refl, sym, ap, subst, ◌∙◌, arith, true≢false}
use Rattle.std.specs.Prelude.{Vec, sum_by}
use Rattle.std.specs.Global.{Global}
use Rattle.std.specs.List.{All}
use Rattle.std.proofs.lemmas.List.{get_or-map, length-map}
use Rattle.std.proofs.lemmas.List.Elements.{All-nil, All-cons, All-head, All-tail, All-map, All-filter, All-weaker, All-more, All-from_recursion}
use Rattle.std.proofs.lemmas.List.Sums.{sum_by_more_le, sum_by-cons}
use Rattle.map_base.specs.declared.ids.SegId.{SegId}
use Rattle.map_base.specs.declared.ids.LineId.{LineId}
use Rattle.order_model.specs.declared.term.Term.{Term}
use Rattle.order_model.specs.declared.problem.ProblemParts.{ProblemParts}
use Rattle.order_model.specs.Problems.{IsTerm, IsProblem}
use Rattle.order_model.specs.Parts.{IsRisingPart}
use Rattle.order_model.specs.Prefixes.{Placement, IsPrefixOf}
use Rattle.order_bound.specs.Bounds.{bound_of}
use Rattle.order_model.proofs.KeptTerms.{part_terms_few}
use Rattle.order_bound.proofs.Lists.{each_among}
use Rattle.order_bound.proofs.Completing.{IsPart}
use Rattle.order_bound.proofs.Parts.{part_of_problem, rising_apart}
use Rattle.order_model.specs.PartTerms.{is_of, part_terms, part_numbers}
use Rattle.order_bound.specs.declared.pairs.Pair.{Pair}
use Rattle.order_bound.specs.Pairs.{is_pair, pair_in, pairs_of, AreApartSegments}
use Rattle.order_bound.proofs.Sums.{sum_map, sum_same}
use Rattle.pair_bounds.specs.declared.one_pair.Room.{Room}
use Rattle.part_bounds.specs.declared.pair_terms.PairTerms.{PairTerms}
use Rattle.part_bounds.specs.PairGroups.{Group, KnowsOwn, terms_of_pair, group_of, groups_of, group_in, groups_in, terms_in, no_group, share_of, IsGroup}
use Rattle.pair_bounds.specs.Slots.{HasRoom, KeepsRoom}
use Rattle.part_bounds.specs.declared.kept_pairs.KeptPairs.{KeptPairs}
use Rattle.part_bounds.specs.Kept.{HasRoomFor, ArePairsOf, AreKept, IsKeptUp}
use Rattle.part_bounds.specs.declared.aparts.Aparts.{Aparts}
use Rattle.pair_bounds.specs.Counted.{settled_cost, settled_sum}
use Rattle.part_bounds.specs.Settled.{lists_in, aparts_on, AreSettled}
use Rattle.part_bounds.proofs.OwnTerms.{parted, shares_bound}
use Rattle.pair_bounds.proofs.PairCosts.{share_small}
use Rattle.part_bounds.proofs.ApartLists.{settled_small, aparts_known, aparts_few}
use Rattle.part_bounds.proofs.Groups.{filter_mine}

-- Room.

pub room_kept : (s t : ℕ) (old new : Room) → HasRoom s t old → KeepsRoom old new → HasRoom s t new
room_kept s t old new h k =
    let a = h.slots in let b = h.links in let c = h.waiting in let d = h.children in
    let e = k.slots in let f = k.links in let g = k.waiting in let i = k.children in
    record { slots = omega (arith, a, e); links = omega (arith, b, f); waiting = omega (arith, c, g); children = omega (arith, d, i) }

pub kept_on : (a b c : Room) → KeepsRoom a b → KeepsRoom b c → KeepsRoom a c
kept_on a b c h k =
    let e = h.slots in let f = h.links in let g = h.waiting in let i = h.children in
    let j = k.slots in let l = k.links in let m = k.waiting in let n = k.children in
    record { slots = omega (arith, e, j); links = omega (arith, f, l); waiting = omega (arith, g, m); children = omega (arith, i, n) }

pub kept_itself : (a : Room) → KeepsRoom a a
kept_itself a = record { slots = omega arith; links = omega arith; waiting = omega arith; children = omega arith }

pub rooms_kept : (part : List SegId) (groups : List Group) (old new : Room) → HasRoomFor part groups old → KeepsRoom old new → HasRoomFor part groups new
rooms_kept part groups old new h k =
    All-weaker (λ (g : Group). HasRoom (length part) (terms_in g) old) (λ (g : Group). HasRoom (length part) (terms_in g) new) (λ g r. room_kept (length part) (terms_in g) old new r k) groups h

-- A pair at a place.

pub group_here : (pairs : List PairTerms) (i : ℕ) (e : PairTerms) → i < length pairs → e ≡ get_or pairs i e → get_or (groups_in pairs) i no_group ≡ group_in e
group_here pairs i e below here = get_or-map group_in pairs i e no_group below ∙ ap group_in (sym here)

pub group_at : (P : Group → Type 0) (pairs : List PairTerms) (i : ℕ) (e : PairTerms) → All P (groups_in pairs) → i < length pairs → e ≡ get_or pairs i e → P (group_in e)
group_at P pairs i e all below here =
    subst P (group_here pairs i e below here) (all i no_group (subst (λ n. i < n) (sym (length-map pairs group_in)) below))

-- a pair at a place has its terms
pub entry_is : (pairs : List PairTerms) (terms : List (ℕ × Term)) (i : ℕ) (e : PairTerms) → groups_in pairs ≡ groups_of terms → i < length pairs → e ≡ get_or pairs i e
    → (i < length (pairs_of terms)) × (get_or (pairs_of terms) i e.pair ≡ e.pair) × (e.terms.items ≡ terms_of_pair e.pair terms)
entry_is pairs terms i e grouped below here =
    let within : i < length (pairs_of terms) = omega (arith, below, ap length grouped, length-map pairs group_in, length-map (pairs_of terms) (group_of terms)) in
    let at : group_of terms (get_or (pairs_of terms) i e.pair) ≡ group_in e =
    sym (get_or-map (group_of terms) (pairs_of terms) i e.pair no_group within) ∙ (ap (λ gs. get_or gs i no_group) (sym grouped) ∙ group_here pairs i e below here) in
    let first : get_or (pairs_of terms) i e.pair ≡ e.pair = ap (λ (g : Group). g.0) at in
    (within, first, sym (ap (λ p. terms_of_pair p terms) (sym first) ∙ ap (λ (g : Group). g.1) at))

-- What groups are.

pub few_filtered : {A : Type 0} (p : A → Bool) (xs : List A) → length (filter p xs) ≤ length xs
few_filtered p [] = omega arith
few_filtered p (x ∷ xs) = by_test (p x) (few_filtered p xs)
  where
    by_test : (b : Bool) → length (filter p xs) ≤ length xs → length (cond b (x ∷ filter p xs) (filter p xs)) ≤ suc (length xs)
    by_test true h = omega (arith, h)
    by_test false h = omega (arith, h)

pub groups_fit : (segs : List (List LineId)) (part : List SegId) (terms : List (ℕ × Term)) → All (λ (t : ℕ × Term). IsTerm segs t.1) terms → All (λ (t : ℕ × Term). is_of part t.1 ≡ true) terms
    → length terms ≤ 4000000 → All (IsGroup segs part) (groups_of terms)
groups_fit segs part terms known inside few =
    All-map (IsGroup segs part) (group_of terms) (pairs_of terms) (λ k d below. fit (get_or (pairs_of terms) k d))
  where
    fit : (p : Pair) → IsGroup segs part (group_of terms p)
    fit p = record {
      known = All-filter (λ (t : ℕ × Term). is_pair p (pair_in t.1)) (λ (t : ℕ × Term). IsTerm segs t.1) terms known;
      inside = All-filter (λ (t : ℕ × Term). is_pair p (pair_in t.1)) (λ (t : ℕ × Term). is_of part t.1 ≡ true) terms inside;
      mine = filter_mine p terms;
      few = omega (arith, few, few_filtered (λ (t : ℕ × Term). is_pair p (pair_in t.1)) terms);
    }

length_as_sum : (terms : List (ℕ × Term)) → sum_by (λ (t : ℕ × Term). 1) terms ≡ length terms
length_as_sum [] = refl
length_as_sum (t ∷ terms) = omega (arith, length_as_sum terms, sum_by-cons (λ (t : ℕ × Term). 1) t terms)

-- each term is in one group
pub groups_count : (terms : List (ℕ × Term)) → sum_by terms_in (groups_of terms) ≡ length terms
groups_count terms =
    sum_map terms_in (group_of terms) (pairs_of terms) ∙ (sum_same (λ p. length (terms_of_pair p terms)) (λ p. sum_by (λ (t : ℕ × Term). 1) (terms_of_pair p terms)) (pairs_of terms)
    (λ p. sym (length_as_sum (terms_of_pair p terms))) ∙ (parted (λ (t : ℕ × Term). 1) terms ∙ length_as_sum terms))

-- the greatest so far
pub most_more : (pairs : List PairTerms) (i : ℕ) (e : PairTerms) (most next : ℕ) → i < length pairs → e ≡ get_or pairs i e → All (λ (g : Group). terms_in g ≤ most) (take i (groups_in pairs))
    → most ≤ next → terms_in (group_in e) ≤ next → All (λ (g : Group). terms_in g ≤ next) (take (i + 1) (groups_in pairs))
most_more pairs i e most next below here all up own =
    let within : i < length (groups_in pairs) = subst (λ n. i < n) (sym (length-map pairs group_in)) below in
    All-more (λ (g : Group). terms_in g ≤ next) (groups_in pairs) i no_group within
    (All-weaker (λ (g : Group). terms_in g ≤ most) (λ (g : Group). terms_in g ≤ next) (λ g h. omega (arith, h, up)) (take i (groups_in pairs)) all)
    (subst (λ (g : Group). terms_in g ≤ next) (sym (group_here pairs i e below here)) own)

-- The terms of a part of a problem.

part_known : (problem : ProblemParts) (part : List SegId) → IsProblem problem → IsRisingPart part → IsPart problem.segs part (part_terms problem.terms part)
part_known problem part fits rises = part_of_problem problem.segs problem.terms part fits.rising fits.terms rises

pub each_known : (problem : ProblemParts) (part : List SegId) → IsProblem problem → IsRisingPart part → All (λ (t : ℕ × Term). IsTerm problem.segs t.1) (part_terms problem.terms part)
each_known problem part fits rises =
    let terms : List (ℕ × Term) = part_terms problem.terms part in
    let ok = part_known problem part fits rises in
    All-from_recursion (λ (t : ℕ × Term). IsTerm problem.segs t.1) terms (each_among (λ (t : ℕ × Term). IsTerm problem.segs t.1) terms ok.known)

pub terms_few : (problem : ProblemParts) (part : List SegId) → IsProblem problem → length (part_terms problem.terms part) ≤ 4000000
terms_few problem part fits = let few = fits.few_terms in omega (arith, few, part_terms_few part problem.terms)

pub part_groups : (problem : ProblemParts) (part : List SegId) → IsProblem problem → IsRisingPart part → All (IsGroup problem.segs part) (groups_of (part_terms problem.terms part))
part_groups problem part fits rises =
    let terms : List (ℕ × Term) = part_terms problem.terms part in
    let ok = part_known problem part fits rises in
    groups_fit problem.segs part terms (each_known problem part fits rises)
    (All-from_recursion (λ (t : ℕ × Term). is_of part t.1 ≡ true) terms (each_among (λ (t : ℕ × Term). is_of part t.1 ≡ true) terms ok.inside))
    (terms_few problem part fits)

pub part_few : (problem : ProblemParts) (part : List SegId) → IsProblem problem → sum_by terms_in (groups_of (part_terms problem.terms part)) ≤ 4000000
part_few problem part fits = omega (arith, terms_few problem part fits, groups_count (part_terms problem.terms part))

pub each_few : (groups : List Group) → sum_by terms_in groups ≤ 4000000 → All (λ (g : Group). terms_in g ≤ 4000000) groups
each_few [] h = All-nil (λ (g : Group). terms_in g ≤ 4000000)
each_few (g ∷ groups) h =
    All-cons (λ (g : Group). terms_in g ≤ 4000000) g groups (omega (arith, h, sum_by-cons terms_in g groups)) (each_few groups (omega (arith, h, sum_by-cons terms_in g groups)))

pub room_for : (part : List SegId) (groups : List Group) (most : ℕ) (room : Room) → All (λ (g : Group). terms_in g ≤ most) groups → HasRoom (length part) most room → HasRoomFor part groups room
room_for part groups most room all has =
    let a = has.slots in let b = has.links in let c = has.waiting in let d = has.children in
    All-weaker (λ (g : Group). terms_in g ≤ most) (λ (g : Group). HasRoom (length part) (terms_in g) room)
    (λ g h. record { slots = a; links = omega (arith, b, h); waiting = omega (arith, c, h); children = omega (arith, d, h) }) groups all

-- The part as it is kept.

-- the shares of all pairs and the settled Aparts
pub whole_bound : (segs placed : List (List LineId)) (part : List SegId) (terms : List (ℕ × Term)) (groups : List Group) (total settled : ℕ) → groups ≡ groups_of terms
    → total ≡ sum_by (share_of segs part placed) groups → settled ≡ settled_sum segs placed terms → total + settled ≡ bound_of segs part terms placed
whole_bound segs placed part terms groups total settled e1 e2 e3 =
    let sum = e2 ∙ ap (sum_by (share_of segs part placed)) e1 in
    omega (arith, sum, e3, shares_bound segs placed part terms)

-- shares of groups are small
groups_small : (segs placed : List (List LineId)) (part : List SegId) (groups : List Group) → AreApartSegments part → All (IsGroup segs part) groups → sum_by (share_of segs part placed) groups ≤ 1024000 * sum_by terms_in groups
groups_small segs placed part [] apart fit = omega arith
groups_small segs placed part (g ∷ groups) apart fit =
    let here = All-head (IsGroup segs part) g groups fit in
    let one : share_of segs part placed g ≤ 1024000 * terms_in g = share_small segs placed part g.0 g.1 apart here.known here.inside in
    let rest = groups_small segs placed part groups apart (All-tail (IsGroup segs part) g groups fit) in
    omega (arith, one, rest, sum_by-cons (share_of segs part placed) g groups, sum_by-cons terms_in g groups)

pub whole_small : (segs placed : List (List LineId)) (part : List SegId) (terms : List (ℕ × Term)) (groups : List Group) (total settled : ℕ) → AreApartSegments part → All (IsGroup segs part) groups → sum_by terms_in groups ≤ 4000000
    → All (λ (t : ℕ × Term). IsTerm segs t.1) terms → length terms ≤ 4000000 → total ≡ sum_by (share_of segs part placed) groups → settled ≡ settled_sum segs placed terms → total + settled ≤ 8192000000000
whole_small segs placed part terms groups total settled apart fit few known few_terms e1 e2 =
    omega (arith, e1, e2, few, few_terms, groups_small segs placed part groups apart fit, settled_small segs placed terms known)

-- the shares so far are small
pub shares_small : (problem : ProblemParts) (part : List SegId) (placed : List (List LineId)) (pairs : List PairTerms) (i total : ℕ) → ArePairsOf problem part pairs → i < length (groups_in pairs)
    → total ≡ sum_by (share_of problem.segs part placed) (take i (groups_in pairs)) → total + share_of problem.segs part placed (get_or (groups_in pairs) i no_group) ≤ 4096000000000
shares_small problem part placed pairs i total ok within e =
    let f = share_of problem.segs part placed in
    let few = ok.few in
    let small = groups_small problem.segs placed part (groups_in pairs) (rising_apart part ok.rises) ok.groups in
    omega (arith, e, few, small, sum_by_more_le f (groups_in pairs) i no_group within)

-- once no pair is stale, their shares and the settled Aparts are the bound
pub bound_is : (problem : ProblemParts) (part : List SegId) (numbers : List ℕ) (prefix : Placement) (pairs slice : List PairTerms) (kept : KeptPairs) (room : Room) (aparts : Aparts) (total : ℕ)
    → IsKeptUp problem part numbers prefix pairs kept room aparts → slice ≡ pairs → total ≡ sum_by (share_of problem.segs part prefix.placed) (groups_in slice)
    → (total + aparts.total ≡ bound_of problem.segs part (part_terms problem.terms part) prefix.placed) × (total + aparts.total ≤ 8192000000000)
bound_is problem part numbers prefix pairs slice kept room aparts total ok same e =
    let sum : total ≡ sum_by (share_of problem.segs part prefix.placed) (groups_in pairs) = e ∙ ap (λ l. sum_by (share_of problem.segs part prefix.placed) (groups_in l)) same in
    let table = ok.table in (
      whole_bound problem.segs prefix.placed part (part_terms problem.terms part) (groups_in pairs) total aparts.total table.grouped sum ok.settled.total_is,
      whole_small problem.segs prefix.placed part (part_terms problem.terms part) (groups_in pairs) total aparts.total (rising_apart part table.rises) table.groups table.few ok.known_terms ok.few_terms sum ok.settled.total_is,
    )

-- the pairs of a part
pub pairs_begun : (problem : ProblemParts) (part : List SegId) (pairs : List PairTerms) → All (λ (s : SegId). s.0 < length problem.segs) part → IsRisingPart part → IsProblem problem
    → groups_in pairs ≡ groups_of (part_terms problem.terms part) → All (KnowsOwn part) pairs → ArePairsOf problem part pairs
pairs_begun problem part pairs known rises is grouped own = record {
  known = known;
  rises = rises;
  grouped = grouped;
  groups = subst (All (IsGroup problem.segs part)) (sym grouped) (part_groups problem part is rises);
  few = subst (λ gs. sum_by terms_in gs ≤ 4000000) (sym grouped) (part_few problem part is);
  own = own;
}

-- of stale pairs nothing is known
pub stale_kept : (problem : ProblemParts) (part : List SegId) (placed : List (List LineId)) (pairs : List PairTerms) (kept : KeptPairs) → length kept.stale.items ≡ length pairs → length kept.shares.items ≡ length pairs
    → length kept.noted.prices.items ≡ length problem.terms → ((k : ℕ) → get_or kept.stale.items k true ≡ true) → AreKept problem part placed pairs kept
stale_kept problem part placed pairs kept e1 e2 e3 stale = record {
  each = e1;
  shares_each = e2;
  enough = e3;
  noted_are = λ k b fresh. absurd (true≢false (sym (stale k) ∙ fresh));
  shares_are = λ k b fresh. absurd (true≢false (sym (stale k) ∙ fresh));
}

-- it goes on with another prefix
pub kept_up : (problem : ProblemParts) (part : List SegId) (numbers : List ℕ) (prefix next : Placement) (pairs : List PairTerms) (kept kept2 : KeptPairs) (room room2 : Room) (aparts aparts2 : Aparts)
    → IsKeptUp problem part numbers prefix pairs kept room aparts → IsPrefixOf problem.segs next → AreKept problem part next.placed pairs kept2 → KeepsRoom room room2
    → AreSettled problem.segs next.placed (part_terms problem.terms part) aparts2 → IsKeptUp problem part numbers next pairs kept2 room2 aparts2
kept_up problem part numbers prefix next pairs kept kept2 room room2 aparts aparts2 ok fits kept_are keeps settled = record {
  fits = fits;
  table = ok.table;
  numbers_are = ok.numbers_are;
  has_room = rooms_kept part (groups_in pairs) room room2 ok.has_room keeps;
  known_terms = ok.known_terms;
  few_terms = ok.few_terms;
  settled = settled;
  kept_are = kept_are;
}

-- The Aparts with an end on a segment, as they lie in memory.

pub list_known : (segs placed : List (List LineId)) (s : SegId) (terms : List (ℕ × Term)) (aparts : Aparts) → AreSettled segs placed terms aparts → s.0 < length segs → All (λ (t : ℕ × Term). IsTerm segs t.1) terms
    → All (IsTerm segs) (get_or (lists_in aparts.lists.items) s.0 [])
list_known segs placed s terms aparts ok known all = subst (All (IsTerm segs)) (sym (ok.by_ends.on s known)) (aparts_known segs s terms all)

pub list_few : (segs placed : List (List LineId)) (s : SegId) (terms : List (ℕ × Term)) (aparts : Aparts) → AreSettled segs placed terms aparts → s.0 < length segs → length terms ≤ 4000000
    → length (get_or (lists_in aparts.lists.items) s.0 []) ≤ 4000000
list_few segs placed s terms aparts ok known few = omega (arith, ap length (ok.by_ends.on s known), aparts_few s terms, few)

pub list_sum : (segs placed : List (List LineId)) (s : SegId) (terms : List (ℕ × Term)) (aparts : Aparts) → AreSettled segs placed terms aparts → s.0 < length segs
    → sum_by (settled_cost segs placed) (get_or (lists_in aparts.lists.items) s.0 []) ≡ sum_by (settled_cost segs placed) (aparts_on s terms)
list_sum segs placed s terms aparts settled known = ap (sum_by (settled_cost segs placed)) (settled.by_ends.on s known)

pub list_here : (segs placed : List (List LineId)) (s : SegId) (terms : List (ℕ × Term)) (aparts : Aparts) → AreSettled segs placed terms aparts → s.0 < length segs → s.0 < length aparts.lists.items
list_here segs placed s terms aparts ok known = omega (arith, known, ok.by_ends.each, length-map aparts.lists.items (λ (v : Vec Term Global). v.items))
