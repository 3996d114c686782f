-- The cases of an attempt: its nodes have no room, its runs add too much, they can't be laid, or the drawing gets lighter.
use Rattle.std.proofs.Common.{◌≡◌, refl, sym, ◌∙◌, ap, subst, ℕ, ◌+◌, ◌<◌, ◌≤◌, Bool, true, false, cond, eqb, List, [], ◌∷◌, length, fold, map, get_or, set, Option, Some, None, ◌⊎◌, inl, inr, arith, length-set, get_or-set_same, get_or-set_other, nat_lt}
use Rattle.drawing_search.specs.Changes.{point_after}
use Rattle.drawing_search.proofs.Common.{all_laid, all_moved, apart_weight_by, attempt_by, attempted_on, beside_off}
use Rattle.drawing_search.proofs.Common.{cases_eq, end_of, eq-eqb, first_point, gains_at_least}
use Rattle.drawing_search.proofs.Common.{get_or-map-range_with_len, has_room, if_below, if_laid, in_at, inner_nodes}
use Rattle.drawing_search.proofs.Common.{is_standing, laid, laid_on, least_beside, lifted, ltb-true, may_move, moved_by}
use Rattle.drawing_search.proofs.Common.{ne_eqb, nowhere, point_of_node, range_with_len, sketch_weight, slice_index}
use Rattle.drawing_search.proofs.Common.{stands_below, still_clear, stood_at, sum_by, taken_off, tried, without}
use Rattle.drawing_search.proofs.Common.{AreAlike, AreAllLaid, AreApart, AreBeside, AreLayable, AreLiftable, Attempt}
use Rattle.drawing_search.proofs.Common.{CameOf, CanStandEach, Chain, GraphParts, GridPoint, Group, HaveBounds}
use Rattle.drawing_search.proofs.Common.{HaveLeast, In, IsBoundOf, IsClearFor, IsConsistent, IsFitting, IsFreeFor}
use Rattle.drawing_search.proofs.Common.{IsLegalSketch, IsLifted, IsRun, IsSettled, IsWhole, LeastTurns, Lifted, NodeId}
use Rattle.drawing_search.proofs.Common.{PlainWalk, Scale, Sketch, Vector}
use Rattle.drawing_search.proofs.Alikes.{alike_self, legal_alike, alike_on, laid_alike, same_weight, ComesAlike}
use Rattle.drawing_search.proofs.LaidAll.{same_gains}
use Rattle.drawing_search.proofs.LayingAll.{least_of, too_heavy, IsReady}
use Rattle.drawing_search.proofs.Lifts.{group_of}
use Rattle.drawing_search.proofs.Moving.{begun_clear, begun_is_legal, can_stand_moved, moved_back, moved_liftable, moved_once, old_flags, same_room, stood_alike, stood_each_weighs, comes_kept}
use Rattle.drawing_search.proofs.PutBack.{stood_walks, ArePutOnce, point_still, same_list}
use Rattle.drawing_search.proofs.OnWalks.{below_some}

-- where all nodes stand, they are one
pub alike_whole : (j k : Sketch) → AreAlike j k → ((n : ℕ) → n < length k.points → is_standing k n ≡ true) → j ≡ k
alike_whole j k a stands =
    λ i. record { bounds = a.bounds i; points = same_list nowhere j.points k.points a.points_each (λ n below. a.points n (stands n below)) i; stand = a.stand i; walks = a.walks i }

-- runs are laid on both, or on neither
pub all_alike : (graph : GraphParts) → IsConsistent graph → (cs : List Chain) (j k : Sketch) → AreAlike j k → IsLegalSketch graph k → ((c : Chain) → In c cs → IsRun graph c) → AreBeside cs → ((c : Chain) → In c cs → IsClearFor k c)
    → ComesAlike (all_laid graph cs j) (all_laid graph cs k)
all_alike graph fit [] j k a h runs beside clear = a
all_alike graph fit (c ∷ cs) j k a h runs beside clear = by_both (λ i m same legal ready. all_alike graph fit cs i m same legal (λ d x. runs d (inr x)) beside.1 ready) (laid graph c j) (laid graph c k) refl (laid_alike graph c j k a (clear c (inl refl)).from (clear c (inl refl)).end)
  where
    by_both : ((i m : Sketch) → AreAlike i m → IsLegalSketch graph m → ((d : Chain) → In d cs → IsClearFor m d) → ComesAlike (all_laid graph cs i) (all_laid graph cs m)) → (o p : Option Sketch) → laid graph c k ≡ p → ComesAlike o p
        → ComesAlike (if_laid (all_laid graph cs) o) (if_laid (all_laid graph cs) p)
    by_both rest None None e same = tt
    by_both rest None (Some m) e same = absurd same
    by_both rest (Some i) None e same = absurd same
    by_both rest (Some i) (Some m) e same =
        let on = laid_on graph fit c k m h (runs c (inl refl)) (clear c (inl refl)) e in
        rest i m same on.legal
        (λ d x. subst (λ (y : Sketch). IsClearFor y d) on.is (still_clear graph fit c d on.pieces k (runs c (inl refl)) (runs d (inr x)) (λ q p on_c on_d. beside_off c cs beside d x q p on_c on_d) (clear d (inr x))))

-- bounds of runs beside the same walks
same_beside : (scale : Scale) (graph : GraphParts) (c : Chain) (way : ℕ) (j k : Sketch) → j.walks ≡ k.walks → least_beside scale graph j c way ≡ least_beside scale graph k c way
same_beside scale graph c way j k e = ap (λ (os : List (Option PlainWalk)). (let x : Sketch = record { bounds = j.bounds; points = j.points; stand = j.stand; walks = os } in least_beside scale graph x c way)) e

pub have_bounds : (scale : Scale) (graph : GraphParts) (j k : Sketch) → j.walks ≡ k.walks → (cs : List Chain) (ls : List LeastTurns) → HaveLeast scale graph k cs ls → HaveBounds scale graph j cs ls
have_bounds scale graph j k e [] ls have = tt
have_bounds scale graph j k e (c ∷ cs) [] have = have
have_bounds scale graph j k e (c ∷ cs) (l ∷ ls) have = (bound, have_bounds scale graph j k e cs ls have.1)
  where
    bound : IsBoundOf scale graph j c l
    bound = record {
      by = λ way few.
          let is : slice_index l.by way ≡ least_beside scale graph j c way =
          ap (λ (ns : List ℕ). slice_index ns way) have.0.by ∙ get_or-map-range_with_len (least_beside scale graph k c) 0 9 way way 0 (omega (arith, few)) (omega arith) ∙ sym (same_beside scale graph c way j k e) in
          omega (arith, is);
      price = have.0.price;
      free = have.0.free;
    }

have_least : (scale : Scale) (graph : GraphParts) (j k : Sketch) → j.walks ≡ k.walks → (cs : List Chain) (ls : List LeastTurns) → HaveLeast scale graph k cs ls → HaveLeast scale graph j cs ls
have_least scale graph j k e [] ls have = tt
have_least scale graph j k e (c ∷ cs) [] have = have
have_least scale graph j k e (c ∷ cs) (l ∷ ls) have = (
  record {
    by = have.0.by ∙ ap (λ (os : List (Option PlainWalk)). (let x : Sketch = record { bounds = j.bounds; points = j.points; stand = j.stand; walks = os } in map (least_beside scale graph x c) (range_with_len 0 9))) (sym e);
    price = have.0.price;
    free = have.0.free;
  },
  have_least scale graph j k e cs ls have.1,
)

-- what was taken off is so from all that is alike
pub lifted_alike : (scale : Scale) (graph : GraphParts) (first : List GridPoint) (g : Group) (whole j k : Sketch) (l : Lifted) → AreAlike j k → IsLifted scale graph first g whole k l → IsLifted scale graph first g whole j l
lifted_alike scale graph first g whole j k l a h = record {
  off = alike_on j k (taken_off graph whole g.nodes g.runs) a h.off;
  moved = h.moved;
  can = λ x b. h.can x (alike_on x j k b a);
  back = λ x b. h.back x (alike_on x j k b a);
  rest = h.rest ∙ sym (same_weight j k a scale graph first);
  light = h.light;
  each = h.each;
  least = have_least scale graph j k a.walks g.runs l.least.items h.least;
  small = h.small;
}

-- ---- an attempt

below_less : (weigh : Sketch → ℕ) (weight : ℕ) (new : Sketch) → if_below weigh weight (Some new) ≡ Some new → nat_lt (weigh new) weight ≡ true
below_less weigh weight new e = by_test (nat_lt (weigh new) weight) e
  where
    by_test : (t : Bool) → cond t (Some new) None ≡ Some new → t ≡ true
    by_test true f = refl
    by_test false f = cc

module _ (graph : GraphParts) (fit : IsConsistent graph) (scale : Scale) (first : List GridPoint) (whole old : Sketch) (weight : ℕ) (s : IsSettled scale graph first whole weight) (nodes : List NodeId) (runs : List Chain) (v : Vector)
    (fits : IsFitting graph (record { nodes = nodes; dir = v.dir; count = v.count; runs = runs })) (apart : AreApart nodes) (off : AreAlike old (taken_off graph whole nodes runs)) where
  abbrev a : Attempt
  a = record { nodes = nodes; dir = v.dir; count = v.count; runs = runs }

  abbrev begun : Sketch
  begun = without graph whole a

  abbrev weigh : Sketch → ℕ
  weigh k = sketch_weight scale graph first k

  -- nodes have no room
  pub no_room : may_move begun nodes ≡ false → tried scale graph first whole a ≡ None
  no_room e = ap (λ b. if_below weigh (weigh whole) (cond b (all_laid graph runs begun) None)) e

  module _ (may : may_move begun nodes ≡ true) where
    attempted_is : attempted_on graph begun a ≡ all_laid graph runs begun
    attempted_is = ap (λ b. cond b (all_laid graph runs begun) None) may

    run : (c : Chain) → In c runs → IsRun graph c
    run = (group_of graph a fits apart).run

    module _ (k : Sketch) (same : AreAlike k begun) where
      both : ComesAlike (all_laid graph runs k) (all_laid graph runs begun)
      both =
          all_alike graph fit runs k begun same (begun_is_legal graph fit whole old s.legal s.whole nodes runs v fits apart off may) run fits.beside
          (begun_clear graph fit whole old s.legal s.whole nodes runs v fits apart off)

      pub came_none : if_below weigh weight (all_laid graph runs k) ≡ None → tried scale graph first whole a ≡ None
      came_none e = ap (if_below weigh (weigh whole)) attempted_is ∙ ap (λ n. if_below weigh n (all_laid graph runs begun)) (sym s.weight_is) ∙ by_both (all_laid graph runs k) (all_laid graph runs begun) both e
        where
          by_both : (o p : Option Sketch) → ComesAlike o p → if_below weigh weight o ≡ None → if_below weigh weight p ≡ None
          by_both None None x f = refl
          by_both None (Some m) x f = absurd x
          by_both (Some i) None x f = absurd x
          by_both (Some i) (Some m) x f =
              let lighter : nat_lt (weigh m) weight ≡ nat_lt (weigh i) weight = ap (λ n. nat_lt n weight) (sym (same_weight i m x scale graph first)) in
              ap (λ b. cond b (Some m) None) lighter ∙ by_test (nat_lt (weigh i) weight) f
            where
              by_test : (t : Bool) → cond t (Some i) None ≡ None → cond t (Some m) None ≡ None
              by_test true g = cc
              by_test false g = refl

      pub came_some : (new : Sketch) (less : ℕ) → if_below weigh weight (all_laid graph runs k) ≡ Some new → less ≡ sketch_weight scale graph first new → (tried scale graph first whole a ≡ Some new) × IsSettled scale graph first new less
      came_some new less e is = by_both (all_laid graph runs begun) refl (subst (λ o. ComesAlike o (all_laid graph runs begun)) there both)
        where
          there : all_laid graph runs k ≡ Some new
          there = below_some weigh weight (all_laid graph runs k) new e

          lighter : nat_lt (weigh new) weight ≡ true
          lighter = below_less weigh weight new (ap (if_below weigh weight) (sym there) ∙ e)

          by_both : (p : Option Sketch) → all_laid graph runs begun ≡ p → ComesAlike (Some new) p → (tried scale graph first whole a ≡ Some new) × IsSettled scale graph first new less
          by_both None f x = absurd x
          by_both (Some m) f x =
              let kept = comes_kept graph fit whole old s.legal s.whole nodes runs v fits apart off m (attempted_is ∙ f) in
              let one : new ≡ m = alike_whole new m x (λ n below. kept.complete.nodes n (omega (arith, below, kept.legal.points_each))) in (
                ap (if_below weigh (weigh whole)) (attempted_is ∙ f ∙ ap (λ (y : Sketch). Some y) (sym one))
                    ∙ ap (λ n. if_below weigh n (Some new)) (sym s.weight_is)
                    ∙ ap (λ b. cond b (Some new) None) lighter,
                record {
                  legal = subst (IsLegalSketch graph) (sym one) kept.legal;
                  whole = subst IsWhole (sym one) (record { nodes = λ n below. kept.complete.nodes n (omega (arith, below, kept.legal.stand_each)); walks = λ i below. kept.complete.walks i (omega (arith, below, kept.legal.walks_each)) });
                  weight_is = is;
                  small = let less_than = ltb-true (weigh new) weight lighter in omega (arith, is, less_than, s.small);
                },
              )

-- ---- the cases of an attempt: its nodes have no room, its runs add too much, they can't be laid, or the drawing
-- gets lighter

-- runs may be laid on what is alike
clear_alike : (j k : Sketch) (c : Chain) → AreAlike j k → IsClearFor k c → IsClearFor j c
clear_alike j k c a h = record {
  from = ap (λ (fs : List Bool). get_or fs c.from.0 false) a.stand ∙ h.from;
  end = ap (λ (fs : List Bool). get_or fs (end_of c).0 false) a.stand ∙ h.end;
  inner = λ m i. ap (λ (fs : List Bool). get_or fs m.0 false) a.stand ∙ h.inner m i;
  walks = λ q i. ap (λ (os : List (Option PlainWalk)). get_or os q.seg.0 None) a.walks ∙ h.walks q i;
}

free_of : (k : Sketch) (c : Chain) → IsClearFor k c → IsFreeFor k c
free_of k c h = record {
  from = h.from;
  end = h.end;
  inner = λ i d below. h.inner (get_or (inner_nodes c.steps) i d) (in_at (inner_nodes c.steps) i d below);
  walks = λ i d below. h.walks (get_or c.steps i d) (in_at c.steps i d below);
}

-- another node that stands changes nothing
others_after : (k : Sketch) (m : NodeId) (p : GridPoint) (v : Vector) (n : NodeId) → (m.0 ≡ n.0 → ⊥) → (ps : List (NodeId × GridPoint)) → point_after k v ps n ≡ point_after (stood_at k (m, p)) v ps n
others_after k m p v n f [] = sym (get_or-set_other k.points m.0 n.0 p nowhere (λ e. f (sym e)))
others_after k m p v n f (q ∷ ps) = ap (cond (eqb q.0.0 n.0) (moved_by v q.1)) (others_after k m p v n f ps)

point_after_is : (k : Sketch) (v : Vector) (ms : List (NodeId × GridPoint)) (n : NodeId) → n.0 < length k.points → ArePutOnce (all_moved v ms) → point_after k v ms n ≡ point_of_node (fold stood_at k (all_moved v ms)) n.0
point_after_is k v [] n below once = refl
point_after_is k v (m ∷ ms) n below once =
    by_number (point_after_is (stood_at k (m.0, moved_by v m.1)) v ms n (omega (arith, below, length-set k.points m.0.0 (moved_by v m.1))) once.1) (cases_eq m.0.0 n.0)
  where
    next : Sketch
    next = stood_at k (m.0, moved_by v m.1)

    by_number : point_after next v ms n ≡ point_of_node (fold stood_at next (all_moved v ms)) n.0 → (m.0.0 ≡ n.0) ⊎ (m.0.0 ≡ n.0 → ⊥) → cond (eqb m.0.0 n.0) (moved_by v m.1) (point_after k v ms n) ≡ point_of_node (fold stood_at next (all_moved v ms)) n.0
    by_number later (inl e) =
        ap (λ b. cond b (moved_by v m.1) (point_after k v ms n)) (eq-eqb m.0.0 n.0 e)
        ∙ sym (point_still next (all_moved v ms) n.0 (λ (p, i, same). once.0 (p, i, same ∙ sym e))
        ∙ ap (λ i. get_or (set k.points m.0.0 (moved_by v m.1)) i nowhere) (sym e)
        ∙ get_or-set_same k.points m.0.0 (moved_by v m.1) nowhere (omega (arith, below, e)))
    by_number later (inr f) = ap (λ b. cond b (moved_by v m.1) (point_after k v ms n)) (ne_eqb m.0.0 n.0 f) ∙ others_after k m.0 (moved_by v m.1) v n f ms ∙ later

module _ (graph : GraphParts) (fit : IsConsistent graph) (scale : Scale) (first : List GridPoint) (g : Group) (v : Vector) (whole old : Sketch) (weight : ℕ) (l : Lifted) (apart : AreApart g.nodes) (s : IsSettled scale graph first whole weight)
    (fits : IsFitting graph (attempt_by g v)) (off : IsLifted scale graph first g whole old l) where
  room_is : has_room old v l.moved.items ≡ may_move (without graph whole (attempt_by g v)) g.nodes
  room_is = ap (has_room old v) off.moved ∙ same_room graph fit whole old s.legal s.whole g.nodes g.runs v fits apart off.off

  pub case_no_room : has_room old v l.moved.items ≡ false → CameOf scale graph first g v whole old old None
  case_no_room e = (no_room graph fit scale first whole old weight s g.nodes g.runs v fits apart off.off (sym room_is ∙ e), alike_self old)

  module _ (room : has_room old v l.moved.items ≡ true) where
    abbrev pub moved_on : Sketch
    moved_on = fold stood_at old (all_moved v l.moved.items)

    may : may_move (without graph whole (attempt_by g v)) g.nodes ≡ true
    may = sym room_is ∙ room

    pub moved_alike : AreAlike (fold stood_at old (all_moved v l.moved.items)) (without graph whole (attempt_by g v))
    moved_alike = subst (λ ms. AreAlike (fold stood_at old (all_moved v ms)) (without graph whole (attempt_by g v))) (sym off.moved) (stood_alike graph fit whole old s.legal s.whole g.nodes g.runs v fits apart off.off)

    pub can_move : CanStandEach old (all_moved v l.moved.items)
    can_move = subst (λ ms. CanStandEach old (all_moved v ms)) (sym off.moved) (can_stand_moved graph fit whole old s.legal s.whole g.nodes g.runs v fits apart off.off may)

    legal_moved : IsLegalSketch graph moved_on
    legal_moved = legal_alike graph moved_on (without graph whole (attempt_by g v)) moved_alike (begun_is_legal graph fit whole old s.legal s.whole g.nodes g.runs v fits apart off.off may)

    clear_moved : (c : Chain) → In c g.runs → IsClearFor moved_on c
    clear_moved c i = clear_alike moved_on (without graph whole (attempt_by g v)) c moved_alike (begun_clear graph fit whole old s.legal s.whole g.nodes g.runs v fits apart off.off c i)

    pub ready_moved : IsReady scale graph (fold stood_at old (all_moved v l.moved.items)) g.runs l.least.items
    ready_moved = record {
      legal = legal_moved;
      runs = (group_of graph (attempt_by g v) fits apart).run;
      beside = fits.beside;
      clear = clear_moved;
      have = have_bounds scale graph moved_on old (stood_walks old (all_moved v l.moved.items)) g.runs l.least.items off.least;
    }

    pub layable_moved : AreLayable graph (fold stood_at old (all_moved v l.moved.items)) g.runs
    layable_moved = record {
      legal = legal_moved;
      runs = fits.runs;
      beside = fits.beside;
      free = λ i d below. free_of moved_on (get_or g.runs i d) (clear_moved (get_or g.runs i d) (in_at g.runs i d below));
    }

    -- what the rest weighs then
    pub weight_moved : sketch_weight scale graph first (fold stood_at old (all_moved v l.moved.items)) ≡ l.rest + sum_by (λ (m : NodeId × GridPoint). apart_weight_by scale m.0.0 (first_point first m.0.0) m.1) (all_moved v l.moved.items)
    weight_moved =
        let all = stood_each_weighs scale graph first old (all_moved v l.moved.items) (off.off.points_each ∙ s.legal.points_each) (old_flags graph fit whole old s.legal s.whole g.nodes g.runs v fits apart off.off) can_move in
        omega (arith, all, off.rest)

    -- and what the runs add at least
    pub least_moved : gains_at_least (point_after old v l.moved.items) g.runs l.least.items ≡ least_of (fold stood_at old (all_moved v l.moved.items)) g.runs l.least.items
    least_moved =
        same_gains graph fit scale first (point_after old v l.moved.items) (λ (n : NodeId). point_of_node moved_on n.0) g.runs l.least.items
        (λ c i. (point_after_is old v l.moved.items c.from (there c.from.0 (clear_moved c i).from) once, point_after_is old v l.moved.items (end_of c) (there (end_of c).0 (clear_moved c i).end) once))
      where
        once : ArePutOnce (all_moved v l.moved.items)
        once = subst (λ ms. ArePutOnce (all_moved v ms)) (sym off.moved) (moved_once graph fit whole old s.legal s.whole g.nodes g.runs v fits apart off.off g.nodes apart)

        there : (n : ℕ) → is_standing moved_on n ≡ true → n < length old.points
        there n stands = omega (arith, stands_below graph moved_on legal_moved n stands, off.off.points_each, s.legal.points_each)

    pub case_heavy : weight ≤ sketch_weight scale graph first (fold stood_at old (all_moved v l.moved.items)) + least_of (fold stood_at old (all_moved v l.moved.items)) g.runs l.least.items → CameOf scale graph first g v whole old old None
    case_heavy heavy =
        (came_none graph fit scale first whole old weight s g.nodes g.runs v fits apart off.off may moved_on moved_alike (too_heavy graph fit scale first weight g.runs l.least.items moved_on ready_moved heavy), alike_self old)

    pub case_made : (new : Sketch) (less : ℕ) → AreAllLaid scale graph first weight g.runs moved_on new (Some less) → CameOf scale graph first g v whole old new (Some less)
    case_made new less laid = came_some graph fit scale first whole old weight s g.nodes g.runs v fits apart off.off may moved_on moved_alike new less laid.0 laid.1

    module _ (new : Sketch) (laid : AreAllLaid scale graph first weight g.runs moved_on new None) where
      nodes_are : map (λ (m : NodeId × GridPoint). m.0) l.moved.items ≡ g.nodes
      nodes_are = ap (map (λ (m : NodeId × GridPoint). m.0)) off.moved ∙ firsts g.nodes
        where
          firsts : (ns : List NodeId) → map (λ (m : NodeId × GridPoint). m.0) (map (λ (n : NodeId). (n, point_of_node whole n.0)) ns) ≡ ns
          firsts [] = refl
          firsts (n ∷ ns) = ap (λ (ms : List NodeId). n ∷ ms) (firsts ns)

      alike_moved : AreAlike new (fold stood_at old (all_moved v (map (λ (n : NodeId). (n, point_of_node whole n.0)) g.nodes)))
      alike_moved = subst (λ ms. AreAlike new (fold stood_at old (all_moved v ms))) off.moved laid.1

      legal_new : IsLegalSketch graph new
      legal_new = legal_alike graph new moved_on laid.1 legal_moved

      pub moved_may_lift : AreLiftable graph new (map (λ (m : NodeId × GridPoint). m.0) l.moved.items)
      moved_may_lift = subst (AreLiftable graph new) (sym nodes_are) (moved_liftable graph fit whole old s.legal s.whole g.nodes g.runs v fits apart off.off new legal_new alike_moved)

      pub case_failed : (fin : Sketch) → fin ≡ fold lifted new (map (λ (m : NodeId × GridPoint). m.0) l.moved.items) → CameOf scale graph first g v whole old fin None
      case_failed fin is = (
        came_none graph fit scale first whole old weight s g.nodes g.runs v fits apart off.off may moved_on moved_alike laid.0,
        subst (λ (j : Sketch). AreAlike j old) (sym (is ∙ ap (fold lifted new) nodes_are)) (moved_back graph fit whole old s.legal s.whole g.nodes g.runs v fits apart off.off new legal_new alike_moved),
      )
