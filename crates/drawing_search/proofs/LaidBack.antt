-- Runs of an attempt that were laid so far, and what is left where they are taken away again.
use Rattle.std.proofs.Common.{◌≡◌, refl, sym, ◌∙◌, ap, subst, ℕ, Bool, true, false, List, [], ◌∷◌, ◌++◌, length, fold, get_or, Option, Some, None, ◌⊎◌, inl, inr, arith, length-set, ◌+◌, ◌-◌, ◌<◌, ◌≤◌}
use Rattle.drawing_search.proofs.Common.{cases_Bool, cases_lt, end_of, end_point, from_low, in_append, in_at, in_left}
use Rattle.drawing_search.proofs.Common.{in_right, inner_nodes, inner_of, inner_step, is_inner, is_on_runs, is_standing}
use Rattle.drawing_search.proofs.Common.{keeps_lifted, keeps_standing, laid, laid_on, laid_within, limit_between}
use Rattle.drawing_search.proofs.Common.{nowhere, point_of_node, run_gain, same_bounds, same_walk, to_stands}
use Rattle.drawing_search.proofs.Common.{true≢false, walk_in, with_piece, with_pieces, without_run, All, AreAlike}
use Rattle.drawing_search.proofs.Common.{AreBeside, AreTakable, Chain, ChainStep, GraphParts, GridPoint, In, IsBoundOf}
use Rattle.drawing_search.proofs.Common.{IsClearFor, IsConsistent, IsFreeFor, IsLaidOn, IsLegalSketch, IsRun, IsTakable}
use Rattle.drawing_search.proofs.Common.{LeastTurns, NodeId, PlainWalk, Scale, SegId, Sketch}
use Rattle.drawing_search.proofs.Gained.{leads_where, IsBetweenSteps}
use Rattle.drawing_search.proofs.LaidAll.{same_standing_points, gained}
use Rattle.drawing_search.proofs.Lifts.{inner_from, inner_true, on_from, on_true}
use Rattle.drawing_search.proofs.PutBack.{same_list}
use Rattle.drawing_search.proofs.TakenBack.{low_on_runs, none_on_runs, runs_beside, runs_points, takable_each, IsInnerOf, IsOnOf, IsSameBeside}
use Rattle.drawing_search.proofs.LayingAll.{within_laid}
use Rattle.drawing_search.proofs.Laid.{clear_of}

-- these runs were laid on a drawing, one after another
pub record IsSoFar (cs : List Chain) (old k : Sketch) : Type 0 where
  pub same : IsSameBeside cs old k
  pub stands : (n : ℕ) → is_standing old n ≡ true → is_standing k n ≡ true
  pub points : (n : ℕ) → is_standing old n ≡ true → point_of_node k n ≡ point_of_node old n
  pub inner : (c : Chain) → In c cs → (m : NodeId) → In m (inner_nodes c.steps) → is_standing k m.0 ≡ true

pub none_so_far : (k : Sketch) → IsSoFar [] k k
none_so_far k = record {
  same = record { bounds = refl; points_each = refl; stand_each = refl; walks_each = refl; stand = λ n off. refl; walks = λ s off. refl };
  stands = λ n e. e;
  points = λ n e. refl;
  inner = λ c i m j. absurd i;
}

sizes_stay : (graph : GraphParts) (n : NodeId) (ts : List ChainStep) (vs : List PlainWalk) (k : Sketch)
    → (length (with_pieces graph n ts vs k).points ≡ length k.points) × (length (with_pieces graph n ts vs k).stand ≡ length k.stand) × (length (with_pieces graph n ts vs k).walks ≡ length k.walks)
sizes_stay graph n [] vs k = (refl, refl, refl)
sizes_stay graph n (t ∷ ts) [] k = (refl, refl, refl)
sizes_stay graph n (t ∷ ts) (v ∷ vs) k =
    let rest = sizes_stay graph t.to ts vs (with_piece graph n t v k) in
    (rest.0 ∙ length-set k.points t.to.0 (end_point v), rest.1 ∙ length-set k.stand t.to.0 true, rest.2 ∙ length-set k.walks t.seg.0 (Some (from_low graph t.seg n v)))

-- and one more
pub one_more_so_far : (graph : GraphParts) → IsConsistent graph → (cs : List Chain) (c : Chain) (old k mid : Sketch) → IsLegalSketch graph k → IsRun graph c → IsClearFor k c → IsLaidOn graph c k mid → IsSoFar cs old k → IsSoFar (cs ++ c ∷ []) old mid
one_more_so_far graph fit cs c old k mid h run clear on s =
    let sizes = sizes_stay graph c.from c.steps on.pieces k in
    subst (IsSoFar (cs ++ c ∷ []) old) on.is
    (record {
      same = record {
        bounds = same_bounds graph c.from c.steps on.pieces k ∙ s.same.bounds;
        points_each = sizes.0 ∙ s.same.points_each;
        stand_each = sizes.1 ∙ s.same.stand_each;
        walks_each = sizes.2 ∙ s.same.walks_each;
        stand = λ n off. by_flag n off (cases_Bool (is_standing k n)) ∙ s.same.stand n (λ (d, i, m). off (d, in_before d i, m));
        walks = λ t off. same_walk graph c.from c.steps on.pieces k t (λ q i e. off (c, in_last, (q, i, e))) ∙ s.same.walks t (λ (d, i, m). off (d, in_before d i, m));
      };
      stands = λ n e. keeps_standing graph c.from c.steps on.pieces k n (s.stands n e);
      points = λ n e. same_standing_points graph c k mid h clear on n (s.stands n e) ∙ s.points n e;
      inner = λ d i m j. of_run d (in_append d cs (c ∷ []) i) m j;
    })
  where
    in_before : (d : Chain) → In d cs → In d (cs ++ c ∷ [])
    in_before d i = in_left d cs (c ∷ []) i

    in_last : In c (cs ++ c ∷ [])
    in_last = in_right c cs (c ∷ []) (inl refl)

    by_flag : (n : ℕ) → (IsInnerOf (cs ++ c ∷ []) n → ⊥) → (is_standing k n ≡ true) ⊎ (is_standing k n ≡ false) → is_standing (with_pieces graph c.from c.steps on.pieces k) n ≡ is_standing k n
    by_flag n off (inl e) = keeps_standing graph c.from c.steps on.pieces k n e ∙ sym e
    by_flag n off (inr e) = keeps_lifted graph c.from c.steps on.pieces k n (λ q i same. by_place q same (leads_where c.from c.steps q i))
      where
        by_place : (q : ChainStep) → q.to.0 ≡ n → (q.to.0 ≡ (end_of c).0) ⊎ IsBetweenSteps c.steps q.to.0 → ⊥
        by_place q same (inl a) = true≢false (sym clear.end ∙ ap (is_standing k) (sym a ∙ same) ∙ e)
        by_place q same (inr (p, j, f)) = off (c, in_last, (p, j, f ∙ same))

    of_run : (d : Chain) → In d cs ⊎ In d (c ∷ []) → (m : NodeId) → In m (inner_nodes d.steps) → is_standing (with_pieces graph c.from c.steps on.pieces k) m.0 ≡ true
    of_run d (inl i) m j = keeps_standing graph c.from c.steps on.pieces k m.0 (s.inner d i m j)
    of_run d (inr (inr n)) m j = absurd n
    of_run d (inr (inl e)) m j =
        let own : In m (inner_nodes c.steps) = subst (λ (x : Chain). In m (inner_nodes x.steps)) e j in
        let step = inner_step c.steps m own in
        let below = (inner_of graph fit c.from c.steps run.steps m own).node in
        subst (λ i. is_standing (with_pieces graph c.from c.steps on.pieces k) i ≡ true) (ap (λ (p : NodeId). p.0) (sym step.2))
        (to_stands graph c.from c.steps on.pieces k on.each step.0 step.1 (omega (arith, below, ap (λ (p : NodeId). p.0) step.2, h.stand_each)))

-- the same of a drawing that is alike
pub so_far_still : (cs : List Chain) (old k j : Sketch) → AreAlike j k → IsSoFar cs old k → IsSoFar cs old j
so_far_still cs old k j a s = record {
  same = record {
    bounds = a.bounds ∙ s.same.bounds;
    points_each = a.points_each ∙ s.same.points_each;
    stand_each = ap length a.stand ∙ s.same.stand_each;
    walks_each = ap length a.walks ∙ s.same.walks_each;
    stand = λ n off. flag n ∙ s.same.stand n off;
    walks = λ t off. ap (λ (ws : List (Option PlainWalk)). get_or ws t.0 None) a.walks ∙ s.same.walks t off;
  };
  stands = λ n e. flag n ∙ s.stands n e;
  points = λ n e. a.points n (s.stands n e) ∙ s.points n e;
  inner = λ c i m n. flag m.0 ∙ s.inner c i m n;
}
  where
    flag : (n : ℕ) → is_standing j n ≡ is_standing k n
    flag n = ap (λ (bs : List Bool). get_or bs n false) a.stand

-- they may be taken away, and then nothing that stands has changed
module _ (graph : GraphParts) (fit : IsConsistent graph) (cs : List Chain) (old k : Sketch) (h : IsLegalSketch graph k) (runs : (c : Chain) → In c cs → IsRun graph c) (beside : AreBeside cs) (clear : (c : Chain) → In c cs → IsClearFor old c) (s : IsSoFar cs old k) where
  pub so_far_takable : AreTakable graph k cs
  so_far_takable = takable_each graph fit cs k h runs beside s.inner

  abbrev fin : Sketch
  fin = fold without_run k cs

  pub so_far_alike : AreAlike (fold without_run k cs) old
  so_far_alike =
      let b = runs_beside cs k in
      record {
        bounds = b.bounds ∙ s.same.bounds;
        points_each = b.points_each ∙ s.same.points_each;
        stand = same_list false fin.stand old.stand (b.stand_each ∙ s.same.stand_each) (λ n below. flag n (is_inner cs n) refl);
        walks = same_list None fin.walks old.walks (b.walks_each ∙ s.same.walks_each) (λ n below. walk (record { 0 = n }) (is_on_runs cs n) refl);
        points = λ n e. ap (λ (ps : List GridPoint). get_or ps n nowhere) (runs_points cs k) ∙ s.points n e;
      }
    where
      flag : (n : ℕ) (b : Bool) → is_inner cs n ≡ b → is_standing fin n ≡ is_standing old n
      flag n true e = low_on_runs cs k n (inner_from cs n e) ∙ sym (of_inner (inner_from cs n e))
        where
          of_inner : IsInnerOf cs n → is_standing old n ≡ false
          of_inner (c, i, (m, j, same)) = ap (is_standing old) (sym same) ∙ (clear c i).inner m j
      flag n false e = (runs_beside cs k).stand n off ∙ s.same.stand n off
        where
          off : IsInnerOf cs n → ⊥
          off inner = true≢false (sym (inner_true cs n inner) ∙ e)

      walk : (t : SegId) (b : Bool) → is_on_runs cs t.0 ≡ b → walk_in fin t ≡ walk_in old t
      walk t true e = none_on_runs cs k t (on_from cs t e) ∙ sym (of_run (on_from cs t e))
        where
          of_run : IsOnOf cs t → walk_in old t ≡ None
          of_run (c, i, (q, j, same)) = ap (λ m. get_or old.walks m None) (sym same) ∙ (clear c i).walks q j
      walk t false e = (runs_beside cs k).walks t off ∙ s.same.walks t off
        where
          off : IsOnOf cs t → ⊥
          off on = true≢false (sym (on_true cs t on) ∙ e)

-- ---- one run that is laid where there is room for what it adds, or not, and is taken away again

module _ (graph : GraphParts) (fit : IsConsistent graph) (c : Chain) (k : Sketch) (h : IsLegalSketch graph k) (run : IsRun graph c) (free : IsFreeFor k c) where
  clear : IsClearFor k c
  clear = clear_of k c free

  on : (mid : Sketch) → laid graph c k ≡ Some mid → IsLaidOn graph c k mid
  on mid e = laid_on graph fit c k mid h run clear e

  -- no walk within the limit lays it, so it leaves no room
  pub one_fails : (scale : Scale) (first : List GridPoint) (l : LeastTurns) → IsBoundOf scale graph k c l → (limit weight ahead most : ℕ) → weight + ahead < limit
      → most ≡ limit_between l (limit - 1 - weight - ahead) (point_of_node k c.from.0) (point_of_node k (end_of c).0) → laid_within graph most c k ≡ None
      → (mid : Sketch) → laid graph c k ≡ Some mid → limit ≤ weight + run_gain scale graph first mid c + ahead
  one_fails scale first l bound limit weight ahead most room is none mid e = by_gain (cases_lt (limit - 1 - weight - ahead) (run_gain scale graph first mid c))
    where
      by_gain : (limit - 1 - weight - ahead < run_gain scale graph first mid c) ⊎ (run_gain scale graph first mid c ≤ limit - 1 - weight - ahead) → limit ≤ weight + run_gain scale graph first mid c + ahead
      by_gain (inl more) = omega (arith, room, more)
      by_gain (inr less) =
          let o = on mid e in
          let few = (gained graph fit scale first c k mid l h run clear bound o).within (limit - 1 - weight - ahead) less in
          let there : None ≡ Some mid =
          sym none
          ∙ ap (λ m. laid_within graph m c k) is
          ∙ within_laid graph (limit_between l (limit - 1 - weight - ahead) (point_of_node k c.from.0) (point_of_node k (end_of c).0)) c k o.walk o.route few
          ∙ e in
          cc

  module _ (mid : Sketch) (there : laid graph c k ≡ Some mid) where
    pub one_legal : IsLegalSketch graph mid
    one_legal = (on mid there).legal

    so_far : IsSoFar (c ∷ []) k mid
    so_far = one_more_so_far graph fit [] c k k mid h run clear (on mid there) (none_so_far k)

    pub one_inner : All (λ (m : NodeId). is_standing mid m.0 ≡ true) (inner_nodes c.steps)
    one_inner = λ j x below. so_far.inner c (inl refl) (get_or (inner_nodes c.steps) j x) (in_at (inner_nodes c.steps) j x below)

    -- it may be taken away, and then nothing that stands has changed
    beside : AreBeside (c ∷ [])
    beside = (λ t i. refl, tt)

    runs : (d : Chain) → In d (c ∷ []) → IsRun graph d
    runs d (inl e) = subst (IsRun graph) (sym e) run
    runs d (inr i) = absurd i

    clears : (d : Chain) → In d (c ∷ []) → IsClearFor k d
    clears d (inl e) = subst (IsClearFor k) (sym e) clear
    clears d (inr i) = absurd i

    pub one_takable : IsTakable graph mid c
    one_takable = (so_far_takable graph fit (c ∷ []) k mid one_legal runs beside clears so_far).0

    pub one_back : AreAlike (without_run mid c) k
    one_back = so_far_alike graph fit (c ∷ []) k mid one_legal runs beside clears so_far

    -- and what holds of it holds of what the run can be laid on
    pub one_heavy : (scale : Scale) (first : List GridPoint) (limit weight ahead : ℕ) → limit ≤ weight + run_gain scale graph first mid c + ahead → (j : Sketch) → laid graph c k ≡ Some j → limit ≤ weight + run_gain scale graph first j c + ahead
    one_heavy scale first limit weight ahead heavy j e =
        let both : Some mid ≡ Some j = sym there ∙ e in
        let same : mid ≡ j = cc in
        subst (λ (x : Sketch). limit ≤ weight + run_gain scale graph first x c + ahead) same heavy
