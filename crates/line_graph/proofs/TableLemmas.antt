-- The table of legs holds the first leg of each stretch, and its corridor.
use Rattle.std.proofs.Common.{◌≡◌, refl, sym, ◌∙◌, ap, subst, ℕ, suc, ◌+◌, ◌<◌, Bool, true, false, cond, ◌||◌, ◌&&◌, eqb, List, [], ◌∷◌, ◌++◌, length, get_or, map, filter, fold, All, append_assoc, append-nil, arith}
use Rattle.std.specs.List.{flat_map, list_any, range_with_len}
use Rattle.std.proofs.lemmas.Bool.{eq-eqb, eqb-true, and_parts, and_from, or_parts, or_from, or_left, or_right, false≢true, false_from_ne_true}
use Rattle.std.proofs.lemmas.Grind.{flat_map-append}
use Rattle.std.proofs.lemmas.List.{map-append, length-map, get_or-map}
use Rattle.std.proofs.lemmas.List.Elements.{filter-append, All-nil, All-cons, All-head, All-tail, All-push}
use Rattle.std.proofs.lemmas.List.Folds.{list_any-append}
use Rattle.std.proofs.lemmas.List.Sums.{fold-append, passes_at_first}
use Rattle.map_base.specs.declared.point.Point.{Point}
use Rattle.way_network.specs.declared.way.Way.{Way}
use Rattle.track_net.specs.Nets.{NetParts}
use Rattle.net_paths.specs.Choices.{stretch_path_of}
use Rattle.line_graph.specs.declared.stretches.Stretch.{Stretch}
use Rattle.line_graph.specs.Legs.{Leg, are_one_stretch, corridor_of, has_stretch, with_stretch, stretches_of, path_of, way_of, ways_of}
use Rattle.line_graph.specs.StretchTables.{StretchTable, stretch_of_leg, is_stretch, place_in, noted, extended, with_leg, table_of, stretch_at, corridor_at, way_at, ways_over, points_at, path_in}
use Rattle.line_graph.proofs.TableSteps.{place_here, place_later}

-- ---- one stretch

pub is_stretch_same : (s t : Stretch) → is_stretch s t ≡ true → s ≡ t
is_stretch_same s t e =
    let outer = and_parts (eqb s.line.0 t.line.0) (eqb s.low t.low && eqb s.high t.high) e in
    let inner = and_parts (eqb s.low t.low) (eqb s.high t.high) outer.1 in
    let line : s.line.0 ≡ t.line.0 = eqb-true s.line.0 t.line.0 outer.0 in
    let low : s.low ≡ t.low = eqb-true s.low t.low inner.0 in
    let high : s.high ≡ t.high = eqb-true s.high t.high inner.1 in
    stretch_ap s.line.0 t.line.0 s.low t.low s.high t.high line low high
  where
    made : ℕ → ℕ → ℕ → Stretch
    made l a b = record { line = record { 0 = l }; low = a; high = b }

    stretch_ap : (l m a b c d : ℕ) → l ≡ m → a ≡ b → c ≡ d → made l a c ≡ made m b d
    stretch_ap l m a b c d p q r = ap (λ n. made n a c) p ∙ ap (λ n. made m n c) q ∙ ap (λ n. made m b n) r

pub is_stretch_refl : (s : Stretch) → is_stretch s s ≡ true
is_stretch_refl s =
    and_from (eqb s.line.0 s.line.0) (eqb s.low s.low && eqb s.high s.high) (eq-eqb s.line.0 s.line.0 refl)
    (and_from (eqb s.low s.low) (eqb s.high s.high) (eq-eqb s.low s.low refl) (eq-eqb s.high s.high refl))

pub same_stretch : (a b : Leg) → are_one_stretch a b ≡ true → stretch_of_leg a ≡ stretch_of_leg b
same_stretch a b e = is_stretch_same (stretch_of_leg a) (stretch_of_leg b) e

pub one_stretch : (a b : Leg) → stretch_of_leg a ≡ stretch_of_leg b → are_one_stretch a b ≡ true
one_stretch a b e = subst (λ (s : Stretch). is_stretch (stretch_of_leg a) s ≡ true) e (is_stretch_refl (stretch_of_leg a))

other_way : (a b : Leg) (t : Bool) → are_one_stretch a b ≡ t → are_one_stretch b a ≡ t
other_way a b true e = one_stretch b a (sym (same_stretch a b e))
other_way a b false e = false_from_ne_true (are_one_stretch b a) (λ f. false≢true (sym e ∙ one_stretch a b (sym (same_stretch b a f))))

-- legs of one stretch are seen alike
has_alike : (legs : List Leg) (a b : Leg) → stretch_of_leg a ≡ stretch_of_leg b → has_stretch legs a ≡ has_stretch legs b
has_alike legs a b e = ap (λ (s : Stretch). list_any (λ (l : Leg). is_stretch s (stretch_of_leg l)) legs) e

-- ---- the first legs

with_here : (f : Leg) (fs : List Leg) (leg : Leg) → are_one_stretch leg f ≡ true → with_stretch (f ∷ fs) leg ≡ f ∷ fs
with_here f fs leg e = ap (λ b. cond (b || has_stretch fs leg) (f ∷ fs) (f ∷ fs ++ leg ∷ [])) e

with_later : (f : Leg) (fs : List Leg) (leg : Leg) → are_one_stretch leg f ≡ false → with_stretch (f ∷ fs) leg ≡ f ∷ with_stretch fs leg
with_later f fs leg e = ap (λ b. cond (b || has_stretch fs leg) (f ∷ fs) (f ∷ fs ++ leg ∷ [])) e ∙ inside (has_stretch fs leg)
  where
    inside : (b : Bool) → cond b (f ∷ fs) (f ∷ fs ++ leg ∷ []) ≡ f ∷ cond b fs (fs ++ leg ∷ [])
    inside true = refl
    inside false = refl

-- what holds of legs holds of the first ones
with_all : (P : Leg → Type 0) (fs : List Leg) (leg : Leg) → All P fs → P leg → All P (with_stretch fs leg)
with_all P fs leg each here = of_test (has_stretch fs leg)
  where
    of_test : (b : Bool) → All P (cond b fs (fs ++ leg ∷ []))
    of_test true = each
    of_test false = All-push P fs leg each here

fold_all : (P : Leg → Type 0) (fs legs : List Leg) → All P fs → All P legs → All P (fold with_stretch fs legs)
fold_all P fs [] each more = each
fold_all P fs (leg ∷ legs) each more = fold_all P (with_stretch fs leg) legs (with_all P fs leg each (All-head P leg legs more)) (All-tail P leg legs more)

pub stretches_all : (P : Leg → Type 0) (legs : List Leg) → All P legs → All P (stretches_of legs)
stretches_all P legs each = fold_all P [] legs (All-nil P) each

-- a stretch that is seen stays seen
seen_stays : (fs : List Leg) (leg x : Leg) → has_stretch fs x ≡ true → has_stretch (with_stretch fs leg) x ≡ true
seen_stays fs leg x e = of_test (has_stretch fs leg)
  where
    of_test : (b : Bool) → has_stretch (cond b fs (fs ++ leg ∷ [])) x ≡ true
    of_test true = e
    of_test false = list_any-append (are_one_stretch x) fs (leg ∷ []) ∙ or_left (has_stretch fs x) (has_stretch (leg ∷ []) x) e

seen_now : (fs : List Leg) (leg : Leg) → has_stretch (with_stretch fs leg) leg ≡ true
seen_now fs leg = of_test (has_stretch fs leg) refl
  where
    of_test : (b : Bool) → has_stretch fs leg ≡ b → has_stretch (cond b fs (fs ++ leg ∷ [])) leg ≡ true
    of_test true e = e
    of_test false e =
        list_any-append (are_one_stretch leg) fs (leg ∷ [])
        ∙ or_right (has_stretch fs leg) (has_stretch (leg ∷ []) leg) (or_left (are_one_stretch leg leg) false (is_stretch_refl (stretch_of_leg leg)))

fold_seen : (fs legs : List Leg) (x : Leg) → has_stretch fs x ≡ true → has_stretch (fold with_stretch fs legs) x ≡ true
fold_seen fs [] x e = e
fold_seen fs (leg ∷ legs) x e = fold_seen (with_stretch fs leg) legs x (seen_stays fs leg x e)

fold_sees : (fs legs : List Leg) → All (λ x. has_stretch (fold with_stretch fs legs) x ≡ true) legs
fold_sees fs [] = All-nil (λ x. has_stretch fs x ≡ true)
fold_sees fs (leg ∷ legs) =
    All-cons (λ x. has_stretch (fold with_stretch (with_stretch fs leg) legs) x ≡ true) leg legs (fold_seen (with_stretch fs leg) legs leg (seen_now fs leg)) (fold_sees (with_stretch fs leg) legs)

-- each leg's stretch is among the stretches
pub each_seen : (legs : List Leg) → All (λ x. has_stretch (stretches_of legs) x ≡ true) legs
each_seen legs = fold_sees [] legs

-- no two of the first legs are of one stretch
abbrev AreApart : List Leg → Type 0
AreApart [] = Unit {0}
AreApart (f ∷ fs) = (has_stretch fs f ≡ false) × AreApart fs

apart_push : (fs : List Leg) (leg : Leg) → AreApart fs → has_stretch fs leg ≡ false → AreApart (fs ++ leg ∷ [])
apart_push [] leg apart none = (refl, tt)
apart_push (f ∷ fs) leg apart none =
    let parts = or_parts (are_one_stretch leg f) (has_stretch fs leg) none in (
      list_any-append (are_one_stretch f) fs (leg ∷ [])
          ∙ or_from (has_stretch fs f) (has_stretch (leg ∷ []) f) apart.0 (or_from (are_one_stretch f leg) false (other_way leg f false parts.0) refl),
      apart_push fs leg apart.1 parts.1,
    )

apart_with : (fs : List Leg) (leg : Leg) → AreApart fs → AreApart (with_stretch fs leg)
apart_with fs leg apart = of_test (has_stretch fs leg) refl
  where
    of_test : (b : Bool) → has_stretch fs leg ≡ b → AreApart (cond b fs (fs ++ leg ∷ []))
    of_test true e = apart
    of_test false e = apart_push fs leg apart e

apart_fold : (fs legs : List Leg) → AreApart fs → AreApart (fold with_stretch fs legs)
apart_fold fs [] apart = apart
apart_fold fs (leg ∷ legs) apart = apart_fold (with_stretch fs leg) legs (apart_with fs leg apart)

-- a stretch that was not seen has no legs
none_before : (fs legs : List Leg) (x : Leg) → has_stretch (fold with_stretch fs legs) x ≡ false → filter (are_one_stretch x) legs ≡ []
none_before fs [] x e = refl
none_before fs (leg ∷ legs) x e =
    ap (λ b. cond b (leg ∷ filter (are_one_stretch x) legs) (filter (are_one_stretch x) legs)) (false_from_ne_true (are_one_stretch x leg) there) ∙ none_before (with_stretch fs leg) legs x e
  where
    there : are_one_stretch x leg ≡ true → ⊥
    there one =
        false≢true
        (sym e ∙ has_alike (fold with_stretch (with_stretch fs leg) legs) x leg (same_stretch x leg one) ∙ fold_seen (with_stretch fs leg) legs leg (seen_now fs leg))

-- ---- corridors

-- one more leg is in the corridor of its own stretch
corridor_more : (legs : List Leg) (leg f : Leg) (b : Bool) → are_one_stretch f leg ≡ b → corridor_of (legs ++ leg ∷ []) f ≡ corridor_of legs f ++ cond b leg.samples []
corridor_more legs leg f b e =
    ap (flat_map (λ (l : Leg). l.samples)) (filter-append (are_one_stretch f) legs (leg ∷ []))
    ∙ flat_map-append (λ (l : Leg). l.samples) (filter (are_one_stretch f) legs) (filter (are_one_stretch f) (leg ∷ []))
    ∙ ap (λ t. corridor_of legs f ++ flat_map (λ (l : Leg). l.samples) (cond t (leg ∷ []) [])) e ∙ ap (λ xs. corridor_of legs f ++ xs) (inside b)
  where
    inside : (b : Bool) → flat_map (λ (l : Leg). l.samples) (cond b (leg ∷ []) []) ≡ cond b leg.samples []
    inside true = append-nil leg.samples
    inside false = refl

corridors_same : (legs : List Leg) (leg : Leg) (fs : List Leg) → has_stretch fs leg ≡ false → map (corridor_of legs) fs ≡ map (corridor_of (legs ++ leg ∷ [])) fs
corridors_same legs leg [] none = refl
corridors_same legs leg (f ∷ fs) none =
    let parts = or_parts (are_one_stretch leg f) (has_stretch fs leg) none in
    ap (λ c. c ∷ map (corridor_of legs) fs) (sym (corridor_more legs leg f false (other_way leg f false parts.0) ∙ append-nil (corridor_of legs f)))
    ∙ ap (λ cs. corridor_of (legs ++ leg ∷ []) f ∷ cs) (corridors_same legs leg fs parts.1)

corridors_more : (legs : List Leg) (leg : Leg) (fs : List Leg) → AreApart fs → (has_stretch fs leg ≡ false → corridor_of legs leg ≡ []) →
    extended (map (corridor_of legs) fs) (place_in (map stretch_of_leg fs) (stretch_of_leg leg)) leg.samples ≡ map (corridor_of (legs ++ leg ∷ [])) (with_stretch fs leg)
corridors_more legs leg [] apart none =
    ap (λ c. c ∷ []) (sym (corridor_more legs leg leg true (is_stretch_refl (stretch_of_leg leg)) ∙ ap (λ xs. xs ++ leg.samples) (none refl)))
corridors_more legs leg (f ∷ fs) apart none = of_test (are_one_stretch leg f) refl (λ e. corridors_more legs leg fs apart.1 (λ rest. none (or_from (are_one_stretch leg f) (has_stretch fs leg) e rest)))
  where
    place : ℕ
    place = place_in (map stretch_of_leg (f ∷ fs)) (stretch_of_leg leg)

    cs : List (List Point)
    cs = map (corridor_of legs) fs

    of_test : (b : Bool) → are_one_stretch leg f ≡ b →
        (are_one_stretch leg f ≡ false → extended cs (place_in (map stretch_of_leg fs) (stretch_of_leg leg)) leg.samples ≡ map (corridor_of (legs ++ leg ∷ [])) (with_stretch fs leg)) →
        extended (corridor_of legs f ∷ cs) place leg.samples ≡ map (corridor_of (legs ++ leg ∷ [])) (with_stretch (f ∷ fs) leg)
    of_test true e later =
        ap (λ n. extended (corridor_of legs f ∷ cs) n leg.samples) (place_here (stretch_of_leg leg) (stretch_of_leg f) (map stretch_of_leg fs) e)
        ∙ ap (λ c. c ∷ cs) (sym (corridor_more legs leg f true (other_way leg f true e)))
        ∙ ap (λ xs. corridor_of (legs ++ leg ∷ []) f ∷ xs) (corridors_same legs leg fs (has_alike fs leg f (same_stretch leg f e) ∙ apart.0))
        ∙ sym (ap (map (corridor_of (legs ++ leg ∷ []))) (with_here f fs leg e))
    of_test false e later =
        ap (λ n. extended (corridor_of legs f ∷ cs) n leg.samples) (place_later (stretch_of_leg leg) (stretch_of_leg f) (map stretch_of_leg fs) e)
        ∙ ap (λ c. c ∷ extended cs (place_in (map stretch_of_leg fs) (stretch_of_leg leg)) leg.samples)
        (sym (corridor_more legs leg f false (other_way leg f false e) ∙ append-nil (corridor_of legs f)))
        ∙ ap (λ xs. corridor_of (legs ++ leg ∷ []) f ∷ xs) (later e) ∙ sym (ap (map (corridor_of (legs ++ leg ∷ []))) (with_later f fs leg e))

stretches_more : (fs : List Leg) (leg : Leg) → noted (map stretch_of_leg fs) (stretch_of_leg leg) ≡ map stretch_of_leg (with_stretch fs leg)
stretches_more fs leg =
    ap (λ b. cond b (map stretch_of_leg fs) (map stretch_of_leg fs ++ stretch_of_leg leg ∷ [])) (any_leg fs) ∙ of_test (has_stretch fs leg)
  where
    any_leg : (fs : List Leg) → list_any (is_stretch (stretch_of_leg leg)) (map stretch_of_leg fs) ≡ has_stretch fs leg
    any_leg [] = refl
    any_leg (f ∷ fs) = ap (λ b. are_one_stretch leg f || b) (any_leg fs)

    of_test : (b : Bool) → cond b (map stretch_of_leg fs) (map stretch_of_leg fs ++ stretch_of_leg leg ∷ []) ≡ map stretch_of_leg (cond b fs (fs ++ leg ∷ []))
    of_test true = refl
    of_test false = sym (map-append stretch_of_leg fs (leg ∷ []))

-- ---- the table

-- the stretches of legs and their corridors
abbrev pub whole_table : List Leg → StretchTable
whole_table legs = record { stretches = map stretch_of_leg (stretches_of legs); corridors = map (corridor_of legs) (stretches_of legs) }

stretches_push : (legs : List Leg) (leg : Leg) → stretches_of (legs ++ leg ∷ []) ≡ with_stretch (stretches_of legs) leg
stretches_push legs leg = fold-append with_stretch [] legs (leg ∷ [])

whole_more : (legs : List Leg) (leg : Leg) → with_leg (whole_table legs) leg ≡ whole_table (legs ++ leg ∷ [])
whole_more legs leg =
    ap (λ (xs : List Stretch). record { stretches = xs; corridors = extended (map (corridor_of legs) fs) (place_in (map stretch_of_leg fs) (stretch_of_leg leg)) leg.samples }) (stretches_more fs leg)
    ∙ ap (λ (cs : List (List Point)). record { stretches = map stretch_of_leg (with_stretch fs leg); corridors = cs })
    (corridors_more legs leg fs (apart_fold [] legs tt) (λ none. ap (flat_map (λ (l : Leg). l.samples)) (none_before [] legs leg none)))
    ∙ sym (ap (λ (xs : List Leg). record { stretches = map stretch_of_leg xs; corridors = map (corridor_of (legs ++ leg ∷ [])) xs }) (stretches_push legs leg))
  where
    fs : List Leg
    fs = stretches_of legs

whole_fold : (done legs : List Leg) → fold with_leg (whole_table done) legs ≡ whole_table (done ++ legs)
whole_fold done [] = sym (ap whole_table (append-nil done))
whole_fold done (leg ∷ legs) =
    ap (λ t. fold with_leg t legs) (whole_more done leg) ∙ whole_fold (done ++ leg ∷ []) legs ∙ ap whole_table (append_assoc done (leg ∷ []) legs)

pub table_is : (legs : List Leg) → table_of legs ≡ whole_table legs
table_is legs = whole_fold [] legs

-- ---- what is read from it

-- the first leg at a place
abbrev pub first_leg : List Leg → ℕ → Leg
first_leg legs place = get_or (stretches_of legs) place (record { line = record { 0 = 0 }; from = 0; to = 0; samples = [] })

pub stretch_there : (legs : List Leg) (place : ℕ) → place < length (stretches_of legs) → stretch_at (whole_table legs) place ≡ stretch_of_leg (first_leg legs place)
stretch_there legs place below = get_or-map stretch_of_leg (stretches_of legs) place (first_leg [] 0) (record { line = record { 0 = 0 }; low = 0; high = 0 }) below

pub corridor_there : (legs : List Leg) (place : ℕ) → place < length (stretches_of legs) → corridor_at (whole_table legs) place ≡ corridor_of legs (first_leg legs place)
corridor_there legs place below = get_or-map (corridor_of legs) (stretches_of legs) place (first_leg [] 0) [] below

way_there : (near : ℕ) (net : NetParts) (legs : List Leg) (place : ℕ) → place < length (stretches_of legs) → way_at near net (whole_table legs) place ≡ way_of near net legs (first_leg legs place)
way_there near net legs place below =
    ap (λ (s : Stretch). way_along_of s (corridor_at (whole_table legs) place)) (stretch_there legs place below)
    ∙ ap (λ (c : List Point). way_along_of (stretch_of_leg (first_leg legs place)) c) (corridor_there legs place below)
  where
    way_along_of : Stretch → List Point → Way
    way_along_of s c = record { line = s.line; points = stretch_path_of near c net s.low s.high }

map_range : {X Y : Type 0} (f : ℕ → Y) (g : X → Y) (a : ℕ) (xs : List X) (d : X) → ((i : ℕ) → i < length xs → f (a + i) ≡ g (get_or xs i d)) → map f (range_with_len a (length xs)) ≡ map g xs
map_range f g a [] d same = refl
map_range {X} {Y} f g a (x ∷ xs) d same =
    ap (λ (y : Y). y ∷ map f (range_with_len (a + 1) (length xs))) (ap f (no_more a) ∙ same 0 (omega arith))
    ∙ ap (λ (ys : List Y). g x ∷ ys) (map_range f g (a + 1) xs d (λ i below. ap f (one_later a i) ∙ same (suc i) (omega (arith, below))))
  where
    no_more : (a : ℕ) → a ≡ a + 0
    no_more a = omega arith

    one_later : (a i : ℕ) → a + 1 + i ≡ a + suc i
    one_later a i = omega arith

pub ways_are : (near : ℕ) (net : NetParts) (legs : List Leg) → ways_over near net (whole_table legs) ≡ ways_of near net legs
ways_are near net legs =
    ap (λ n. map (way_at near net (whole_table legs)) (range_with_len 0 n)) (length-map (stretches_of legs) stretch_of_leg)
    ∙ map_range (way_at near net (whole_table legs)) (way_of near net legs) 0 (stretches_of legs) (first_leg [] 0)
    (λ i below. ap (way_at near net (whole_table legs)) (from_zero i) ∙ way_there near net legs i below)
  where
    from_zero : (i : ℕ) → 0 + i ≡ i
    from_zero i = omega arith

-- a stretch that is among others has its place among them
place_below : (xs : List Stretch) (s : Stretch) → list_any (is_stretch s) xs ≡ true → place_in xs s < length xs
place_below [] s e = absurd (false≢true e)
place_below (x ∷ xs) s e = of_test (is_stretch s x) refl (place_below xs s)
  where
    of_test : (b : Bool) → is_stretch s x ≡ b → (list_any (is_stretch s) xs ≡ true → place_in xs s < length xs) → place_in (x ∷ xs) s < suc (length xs)
    of_test true here later = let at : place_in (x ∷ xs) s ≡ 0 = place_here s x xs here in omega (arith, at)
    of_test false not_here later =
        let at : place_in (x ∷ xs) s ≡ suc (place_in xs s) = place_later s x xs not_here in
        let rest : list_any (is_stretch s) xs ≡ true = sym (ap (λ b. b || list_any (is_stretch s) xs) not_here) ∙ e in
        omega (arith, at, later rest)

-- the path of a stretch
abbrev pub path_along : ℕ → NetParts → List Leg → Stretch → List ℕ
path_along near net legs s = stretch_path_of near (flat_map (λ (l : Leg). l.samples) (filter (λ (l : Leg). is_stretch s (stretch_of_leg l)) legs)) net s.low s.high

-- the stretch of a leg has its place, and there stands its first leg
pub record HasPlace (legs : List Leg) (leg : Leg) : Type 0 where
  pub place : ℕ
  pub is : place ≡ place_in (map stretch_of_leg (stretches_of legs)) (stretch_of_leg leg)
  pub within : place < length (stretches_of legs)
  pub same : stretch_of_leg (first_leg legs place) ≡ stretch_of_leg leg

pub has_place : (legs : List Leg) (leg : Leg) → has_stretch (stretches_of legs) leg ≡ true → HasPlace legs leg
has_place legs leg seen = record {
  place = place;
  is = refl;
  within = within;
  same = sym
      (is_stretch_same s (get_or (map stretch_of_leg fs) place s) (passes_at_first (is_stretch s) (map stretch_of_leg fs) s below)
      ∙ get_or-map stretch_of_leg fs place (first_leg [] 0) s within);
}
  where
    fs : List Leg
    fs = stretches_of legs

    s : Stretch
    s = stretch_of_leg leg

    place : ℕ
    place = place_in (map stretch_of_leg fs) s

    any_leg : (fs : List Leg) → list_any (is_stretch s) (map stretch_of_leg fs) ≡ has_stretch fs leg
    any_leg [] = refl
    any_leg (f ∷ fs) = ap (λ b. are_one_stretch leg f || b) (any_leg fs)

    below : place < length (map stretch_of_leg fs)
    below = place_below (map stretch_of_leg fs) s (any_leg fs ∙ seen)

    within : place < length fs
    within = omega (arith, below, length-map fs stretch_of_leg)

-- the way of a stretch; that of a leg is that of its stretch
abbrev pub way_by : ℕ → NetParts → List Leg → Stretch → Way
way_by near net legs s = record { line = s.line; points = path_along near net legs s }

pub way_at_place : (near : ℕ) (net : NetParts) (legs : List Leg) (place : ℕ) (d : Way) → place < length (stretches_of legs) →
    get_or (ways_of near net legs) place d ≡ way_by near net legs (stretch_of_leg (first_leg legs place))
way_at_place near net legs place d within = get_or-map (way_of near net legs) (stretches_of legs) place (first_leg [] 0) d within

pub path_there : (near : ℕ) (net : NetParts) (legs : List Leg) (leg : Leg) → has_stretch (stretches_of legs) leg ≡ true → path_in (whole_table legs) (ways_of near net legs) leg ≡ path_of near net legs leg
path_there near net legs leg seen = of_place (has_place legs leg seen)
  where
    of_place : HasPlace legs leg → path_in (whole_table legs) (ways_of near net legs) leg ≡ path_of near net legs leg
    of_place there =
        ap (λ n. points_at (ways_of near net legs) n) (sym there.is)
        ∙ ap (λ (w : Way). w.points) (way_at_place near net legs there.place (record { line = record { 0 = 0 }; points = [] }) there.within) ∙ ap (path_along near net legs) there.same
