-- What was taken off a drawing is put back: nodes and walks, each where it was.
use Rattle.std.proofs.Common.{◌≡◌, refl, sym, ◌∙◌, ap, ap₂, ℕ, suc, ◌<◌, true, false, List, [], ◌∷◌, length, fold, get_or, set, Option, Some, None, ◌⊎◌, inl, inr, arith, length-set, get_or-set_same, get_or-set_other}
use Rattle.drawing_search.proofs.Common.{cases_eq, is_standing, nowhere, point_of_node, put_back, stood_at, walk_in}
use Rattle.drawing_search.proofs.Common.{walked_by, CanStand, CanStandEach, CanWalk, CanWalkEach, GridPoint, In, NodeId}
use Rattle.drawing_search.proofs.Common.{PlainWalk, SegId, Sketch}

-- lists of one length are the same where they are at each place
pub same_list : {X : Type 0} (d : X) (xs ys : List X) → length xs ≡ length ys → ((i : ℕ) → i < length ys → get_or xs i d ≡ get_or ys i d) → xs ≡ ys
same_list d [] [] each same = refl
same_list d [] (y ∷ ys) each same = absurd (omega (arith, each))
same_list d (x ∷ xs) [] each same = absurd (omega (arith, each))
same_list d (x ∷ xs) (y ∷ ys) each same = ap₂ (λ z zs. z ∷ zs) (same 0 (omega arith)) (same_list d xs ys (omega (arith, each)) (λ i h. same (suc i) (omega (arith, h))))

-- node n is one of these
abbrev pub IsPut : ℕ → List (NodeId × GridPoint) → Type 0
IsPut n ms = (m : NodeId × GridPoint) × In m ms × (m.0.0 ≡ n)

-- nodes are put where they stand in a drawing
abbrev pub AreOf : Sketch → List (NodeId × GridPoint) → Type 0
AreOf whole ms = (m : NodeId × GridPoint) → In m ms → m.1 ≡ point_of_node whole m.0.0

-- no node is put twice
abbrev pub ArePutOnce : List (NodeId × GridPoint) → Type 0
ArePutOnce [] = Unit {0}
ArePutOnce (m ∷ ms) = (IsPut m.0.0 ms → ⊥) × ArePutOnce ms

pub stood_bounds : (j : Sketch) (ms : List (NodeId × GridPoint)) → (fold stood_at j ms).bounds ≡ j.bounds
stood_bounds j [] = refl
stood_bounds j (m ∷ ms) = stood_bounds (stood_at j m) ms

pub stood_walks : (j : Sketch) (ms : List (NodeId × GridPoint)) → (fold stood_at j ms).walks ≡ j.walks
stood_walks j [] = refl
stood_walks j (m ∷ ms) = stood_walks (stood_at j m) ms

pub stood_points : (j : Sketch) (ms : List (NodeId × GridPoint)) → length (fold stood_at j ms).points ≡ length j.points
stood_points j [] = refl
stood_points j (m ∷ ms) = stood_points (stood_at j m) ms ∙ length-set j.points m.0.0 m.1

pub stood_flags : (j : Sketch) (ms : List (NodeId × GridPoint)) → length (fold stood_at j ms).stand ≡ length j.stand
stood_flags j [] = refl
stood_flags j (m ∷ ms) = stood_flags (stood_at j m) ms ∙ length-set j.stand m.0.0 true

pub point_back : (whole j : Sketch) (ms : List (NodeId × GridPoint)) (n : ℕ) → AreOf whole ms → n < length j.points → (point_of_node j n ≡ point_of_node whole n) ⊎ IsPut n ms → point_of_node (fold stood_at j ms) n ≡ point_of_node whole n
point_back whole j [] n are below (inl e) = e
point_back whole j [] n are below (inr put) = absurd put.1
point_back whole j (m ∷ ms) n are below how = point_back whole (stood_at j m) ms n (λ p i. are p (inr i)) (omega (arith, below, length-set j.points m.0.0 m.1)) (by_number (cases_eq n m.0.0) how)
  where
    by_number : (n ≡ m.0.0) ⊎ (n ≡ m.0.0 → ⊥) → (point_of_node j n ≡ point_of_node whole n) ⊎ IsPut n (m ∷ ms) → (get_or (set j.points m.0.0 m.1) n nowhere ≡ point_of_node whole n) ⊎ IsPut n ms
    by_number (inl same) o =
        inl (ap (λ i. get_or (set j.points m.0.0 m.1) i nowhere) same ∙ get_or-set_same j.points m.0.0 m.1 nowhere (omega (arith, below, same)) ∙ are m (inl refl) ∙ ap (point_of_node whole) (sym same))
    by_number (inr other) (inl e) = inl (get_or-set_other j.points m.0.0 n m.1 nowhere other ∙ e)
    by_number (inr other) (inr (p, inl e, same)) = absurd (other (sym same ∙ ap (λ (q : NodeId × GridPoint). q.0.0) e))
    by_number (inr other) (inr (p, inr i, same)) = inr (p, i, same)

pub flag_back : (j : Sketch) (ms : List (NodeId × GridPoint)) (n : ℕ) → n < length j.stand → (is_standing j n ≡ true) ⊎ IsPut n ms → is_standing (fold stood_at j ms) n ≡ true
flag_back j [] n below (inl e) = e
flag_back j [] n below (inr put) = absurd put.1
flag_back j (m ∷ ms) n below how = flag_back (stood_at j m) ms n (omega (arith, below, length-set j.stand m.0.0 true)) (by_number (cases_eq n m.0.0) how)
  where
    by_number : (n ≡ m.0.0) ⊎ (n ≡ m.0.0 → ⊥) → (is_standing j n ≡ true) ⊎ IsPut n (m ∷ ms) → (get_or (set j.stand m.0.0 true) n false ≡ true) ⊎ IsPut n ms
    by_number (inl same) o = inl (ap (λ i. get_or (set j.stand m.0.0 true) i false) same ∙ get_or-set_same j.stand m.0.0 true false (omega (arith, below, same)))
    by_number (inr other) (inl e) = inl (get_or-set_other j.stand m.0.0 n true false other ∙ e)
    by_number (inr other) (inr (p, inl e, same)) = absurd (other (sym same ∙ ap (λ (q : NodeId × GridPoint). q.0.0) e))
    by_number (inr other) (inr (p, inr i, same)) = inr (p, i, same)

pub flag_still : (j : Sketch) (ms : List (NodeId × GridPoint)) (n : ℕ) → (IsPut n ms → ⊥) → is_standing (fold stood_at j ms) n ≡ is_standing j n
flag_still j [] n off = refl
flag_still j (m ∷ ms) n off = flag_still (stood_at j m) ms n (λ (p, i, same). off (p, inr i, same)) ∙ get_or-set_other j.stand m.0.0 n true false (λ e. off (m, inl refl, sym e))

pub point_still : (j : Sketch) (ms : List (NodeId × GridPoint)) (n : ℕ) → (IsPut n ms → ⊥) → point_of_node (fold stood_at j ms) n ≡ point_of_node j n
point_still j [] n off = refl
point_still j (m ∷ ms) n off = point_still (stood_at j m) ms n (λ (p, i, same). off (p, inr i, same)) ∙ get_or-set_other j.points m.0.0 n m.1 nowhere (λ e. off (m, inl refl, sym e))

-- they may be put there
pub can_stand_each : (j : Sketch) (ms : List (NodeId × GridPoint)) → ((m : NodeId × GridPoint) → In m ms → CanStand j m.0 m.1) → ArePutOnce ms → CanStandEach j ms
can_stand_each j [] can once = tt
can_stand_each j (m ∷ ms) can once = (can m (inl refl), can_stand_each (stood_at j m) ms later once.1)
  where
    later : (p : NodeId × GridPoint) → In p ms → CanStand (stood_at j m) p.0 p.1
    later p i =
        let c = can p (inr i) in
        record {
          node = omega (arith, c.node, length-set j.points m.0.0 m.1);
          flag = omega (arith, c.flag, length-set j.stand m.0.0 true);
          lifted = get_or-set_other j.stand m.0.0 p.0.0 true false (λ e. once.0 (p, i, e)) ∙ c.lifted;
          inside = c.inside;
          even = c.even;
        }

-- ---- walks

abbrev pub IsGiven : ℕ → List (SegId × PlainWalk) → Type 0
IsGiven s ms = (m : SegId × PlainWalk) × In m ms × (m.0.0 ≡ s)

abbrev pub AreWalksOf : Sketch → List (SegId × PlainWalk) → Type 0
AreWalksOf whole ms = (m : SegId × PlainWalk) → In m ms → walk_in whole m.0 ≡ Some m.1

abbrev pub AreGivenOnce : List (SegId × PlainWalk) → Type 0
AreGivenOnce [] = Unit {0}
AreGivenOnce (m ∷ ms) = (IsGiven m.0.0 ms → ⊥) × AreGivenOnce ms

pub walked_bounds : (j : Sketch) (ms : List (SegId × PlainWalk)) → (fold walked_by j ms).bounds ≡ j.bounds
walked_bounds j [] = refl
walked_bounds j (m ∷ ms) = walked_bounds (walked_by j m) ms

pub walked_points : (j : Sketch) (ms : List (SegId × PlainWalk)) → (fold walked_by j ms).points ≡ j.points
walked_points j [] = refl
walked_points j (m ∷ ms) = walked_points (walked_by j m) ms

pub walked_stand : (j : Sketch) (ms : List (SegId × PlainWalk)) → (fold walked_by j ms).stand ≡ j.stand
walked_stand j [] = refl
walked_stand j (m ∷ ms) = walked_stand (walked_by j m) ms

pub walked_each : (j : Sketch) (ms : List (SegId × PlainWalk)) → length (fold walked_by j ms).walks ≡ length j.walks
walked_each j [] = refl
walked_each j (m ∷ ms) = walked_each (walked_by j m) ms ∙ length-set j.walks m.0.0 (Some m.1)

pub walk_back : (whole j : Sketch) (ms : List (SegId × PlainWalk)) (s : ℕ) → AreWalksOf whole ms → s < length j.walks → (get_or j.walks s None ≡ get_or whole.walks s None) ⊎ IsGiven s ms → get_or (fold walked_by j ms).walks s None ≡ get_or whole.walks s None
walk_back whole j [] s are below (inl e) = e
walk_back whole j [] s are below (inr given) = absurd given.1
walk_back whole j (m ∷ ms) s are below how = walk_back whole (walked_by j m) ms s (λ p i. are p (inr i)) (omega (arith, below, length-set j.walks m.0.0 (Some m.1))) (by_number (cases_eq s m.0.0) how)
  where
    by_number : (s ≡ m.0.0) ⊎ (s ≡ m.0.0 → ⊥) → (get_or j.walks s None ≡ get_or whole.walks s None) ⊎ IsGiven s (m ∷ ms) → (get_or (set j.walks m.0.0 (Some m.1)) s None ≡ get_or whole.walks s None) ⊎ IsGiven s ms
    by_number (inl same) o =
        inl (ap (λ i. get_or (set j.walks m.0.0 (Some m.1)) i None) same ∙ get_or-set_same j.walks m.0.0 (Some m.1) None (omega (arith, below, same)) ∙ sym (are m (inl refl)) ∙ ap (λ i. get_or whole.walks i None) (sym same))
    by_number (inr other) (inl e) = inl (get_or-set_other j.walks m.0.0 s (Some m.1) None other ∙ e)
    by_number (inr other) (inr (p, inl e, same)) = absurd (other (sym same ∙ ap (λ (q : SegId × PlainWalk). q.0.0) e))
    by_number (inr other) (inr (p, inr i, same)) = inr (p, i, same)

pub can_walk_each : (j : Sketch) (ms : List (SegId × PlainWalk)) → ((m : SegId × PlainWalk) → In m ms → CanWalk j m.0 m.1) → AreGivenOnce ms → CanWalkEach j ms
can_walk_each j [] can once = tt
can_walk_each j (m ∷ ms) can once = (can m (inl refl), can_walk_each (walked_by j m) ms later once.1)
  where
    later : (p : SegId × PlainWalk) → In p ms → CanWalk (walked_by j m) p.0 p.1
    later p i =
        let c = can p (inr i) in
        record { segment = omega (arith, c.segment, length-set j.walks m.0.0 (Some m.1)); free = get_or-set_other j.walks m.0.0 p.0.0 (Some m.1) None (λ e. once.0 (p, i, e)) ∙ c.free; inside = c.inside }

-- what a drawing lacks, as it was before: each node that doesn't stand, and each segment without a walk, each once
pub record IsLack (whole j : Sketch) (moved inner : List (NodeId × GridPoint)) (walks : List (SegId × PlainWalk)) : Type 0 where
  pub bounds : j.bounds ≡ whole.bounds
  pub points_each : length j.points ≡ length whole.points
  pub stand_each : length j.stand ≡ length whole.stand
  pub walks_each : length j.walks ≡ length whole.walks
  pub moved_are : AreOf whole moved
  pub inner_are : AreOf whole inner
  pub walks_are : AreWalksOf whole walks
  pub all_stand : (n : ℕ) → n < length whole.stand → is_standing whole n ≡ true
  pub node : (n : ℕ) → n < length whole.stand → ((is_standing j n ≡ true) × (point_of_node j n ≡ point_of_node whole n)) ⊎ (IsPut n moved ⊎ IsPut n inner)
  pub segment : (s : ℕ) → s < length whole.walks → (get_or j.walks s None ≡ get_or whole.walks s None) ⊎ IsGiven s walks
  pub fields : length whole.points ≡ length whole.stand

pub all_back : (whole j : Sketch) (moved inner : List (NodeId × GridPoint)) (walks : List (SegId × PlainWalk)) → IsLack whole j moved inner walks → put_back j moved inner walks ≡ whole
all_back whole j moved inner walks l =
    λ i. record {
      bounds = (walked_bounds both walks ∙ stood_bounds first inner ∙ stood_bounds j moved ∙ l.bounds) i;
      points = (walked_points both walks ∙ same_list nowhere both.points whole.points points_each points) i;
      stand = (walked_stand both walks ∙ same_list false both.stand whole.stand stand_each flags) i;
      walks = same_list None all.walks whole.walks walks_each segments i;
    }
  where
    first : Sketch
    first = fold stood_at j moved

    both : Sketch
    both = fold stood_at first inner

    all : Sketch
    all = fold walked_by both walks

    points_each : length both.points ≡ length whole.points
    points_each = stood_points first inner ∙ stood_points j moved ∙ l.points_each

    stand_each : length both.stand ≡ length whole.stand
    stand_each = stood_flags first inner ∙ stood_flags j moved ∙ l.stand_each

    same_walks : both.walks ≡ j.walks
    same_walks = stood_walks first inner ∙ stood_walks j moved

    walks_each : length all.walks ≡ length whole.walks
    walks_each = walked_each both walks ∙ ap length same_walks ∙ l.walks_each

    points : (n : ℕ) → n < length whole.points → point_of_node both n ≡ point_of_node whole n
    points n h = by_node (l.node n (omega (arith, h, l.fields)))
      where
        there : n < length j.points
        there = omega (arith, h, l.points_each)

        there_then : n < length first.points
        there_then = omega (arith, there, stood_points j moved)

        by_node : ((is_standing j n ≡ true) × (point_of_node j n ≡ point_of_node whole n)) ⊎ (IsPut n moved ⊎ IsPut n inner) → point_of_node both n ≡ point_of_node whole n
        by_node (inl (stands, e)) = point_back whole first inner n l.inner_are there_then (inl (point_back whole j moved n l.moved_are there (inl e)))
        by_node (inr (inl put)) = point_back whole first inner n l.inner_are there_then (inl (point_back whole j moved n l.moved_are there (inr put)))
        by_node (inr (inr put)) = point_back whole first inner n l.inner_are there_then (inr put)

    flags : (n : ℕ) → n < length whole.stand → is_standing both n ≡ is_standing whole n
    flags n h = by_node (l.node n h) ∙ sym (l.all_stand n h)
      where
        there : n < length j.stand
        there = omega (arith, h, l.stand_each)

        there_then : n < length first.stand
        there_then = omega (arith, there, stood_flags j moved)

        by_node : ((is_standing j n ≡ true) × (point_of_node j n ≡ point_of_node whole n)) ⊎ (IsPut n moved ⊎ IsPut n inner) → is_standing both n ≡ true
        by_node (inl (stands, e)) = flag_back first inner n there_then (inl (flag_back j moved n there (inl stands)))
        by_node (inr (inl put)) = flag_back first inner n there_then (inl (flag_back j moved n there (inr put)))
        by_node (inr (inr put)) = flag_back first inner n there_then (inr put)

    segments : (s : ℕ) → s < length whole.walks → get_or all.walks s None ≡ get_or whole.walks s None
    segments s h = walk_back whole both walks s l.walks_are (omega (arith, h, l.walks_each, ap length same_walks)) (by_segment (l.segment s h))
      where
        by_segment : (get_or j.walks s None ≡ get_or whole.walks s None) ⊎ IsGiven s walks → (get_or both.walks s None ≡ get_or whole.walks s None) ⊎ IsGiven s walks
        by_segment (inl e) = inl (ap (λ (os : List (Option PlainWalk)). get_or os s None) same_walks ∙ e)
        by_segment (inr given) = inr given
