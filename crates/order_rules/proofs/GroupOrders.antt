-- The order of a group of lines and then of the others.
use Rattle.std.proofs.Common.{◌≡◌, ◌==◌, Bool, true, false, not, cond, ◌||◌, List, [], ◌∷◌, ◌++◌, refl, sym, ap, ◌∙◌, arith, true≢false}
use Rattle.std.proofs.lemmas.Bool.{or_parts}
use Rattle.std.proofs.lemmas.Bool.Decides.{nat_tests}
use Rattle.map_base.specs.declared.ids.LineId.{LineId}
use Rattle.order_model.specs.declared.term.Term.{Term}
use Rattle.order_model.specs.declared.term.Term.TheVariants.{Side, Link, Apart}
use Rattle.order_model.specs.Costs.{comes_before, are_these, are_neighbours, same_answer, cost_on}
use Rattle.order_model.specs.Places.{has_line}
use Rattle.order_rules.proofs.PairSums.{first_of, second_of}

-- Which of two lines comes first.

-- where one of the two is in the front, the front decides
pub before_front : (g r : List LineId) (a b : LineId) → (has_line g a || has_line g b) ≡ true → comes_before (g ++ r) a b ≡ comes_before g a b
before_front [] r a b h = absurd (true≢false (sym h))
before_front (x ∷ g) r a b h = by_tests (x.0 == a.0) (x.0 == b.0) refl refl (λ k. before_front g r a b k)
  where
    by_tests : (c d : Bool) → (x.0 == a.0) ≡ c → (x.0 == b.0) ≡ d → ((has_line g a || has_line g b) ≡ true → comes_before (g ++ r) a b ≡ comes_before g a b)
        → comes_before ((x ∷ g) ++ r) a b ≡ comes_before (x ∷ g) a b
    by_tests true d k m rest = rw k refl
    by_tests false true k m rest = rw (k, m) refl
    by_tests false false k m rest = rw (k, m) (rest (rw (k, m) at h))

-- where neither is, the back decides
pub before_back : (g r : List LineId) (a b : LineId) → has_line g a ≡ false → has_line g b ≡ false → comes_before (g ++ r) a b ≡ comes_before r a b
before_back [] r a b h k = refl
before_back (x ∷ g) r a b h k =
    let ha = or_parts (x.0 == a.0) (has_line g a) h in
    let hb = or_parts (x.0 == b.0) (has_line g b) k in
    let not_a : (x.0 == a.0) ≡ false = ha.0 in
    let not_b : (x.0 == b.0) ≡ false = hb.0 in
    rw (not_a, not_b) (before_back g r a b ha.1 hb.1)

pub before_out : (g : List LineId) (a b : LineId) → has_line g a ≡ false → comes_before g a b ≡ false
before_out [] a b h = refl
before_out (x ∷ g) a b h =
    let ha = or_parts (x.0 == a.0) (has_line g a) h in
    let not_a : (x.0 == a.0) ≡ false = ha.0 in
    rw not_a (either_way (x.0 == b.0) (before_out g a b ha.1))
  where
    either_way : (c : Bool) → comes_before g a b ≡ false → cond c false (comes_before g a b) ≡ false
    either_way true k = refl
    either_way false k = k

-- Whether two lines are neighbours.

these_out : (x y a b : LineId) → (y.0 == a.0) ≡ false → (y.0 == b.0) ≡ false → are_these x y a b ≡ false
these_out x y a b h k = grind (arith, nat_tests)

pub these_in : (x y a b : LineId) → (x.0 == a.0) ≡ false → (x.0 == b.0) ≡ false → are_these x y a b ≡ false
these_in x y a b h k = grind (arith, nat_tests)

pub neighbours_out : (r : List LineId) (a b : LineId) → has_line r a ≡ false → has_line r b ≡ false → are_neighbours r a b ≡ false
neighbours_out [] a b h k = refl
neighbours_out (x ∷ []) a b h k = refl
neighbours_out (x ∷ y ∷ r) a b h k =
    let ha = or_parts (x.0 == a.0) (has_line (y ∷ r) a) h in
    let hb = or_parts (x.0 == b.0) (has_line (y ∷ r) b) k in
    rw (these_in x y a b ha.0 hb.0) (neighbours_out (y ∷ r) a b ha.1 hb.1)

pub neighbours_front : (g r : List LineId) (a b : LineId) → has_line r a ≡ false → has_line r b ≡ false → are_neighbours (g ++ r) a b ≡ are_neighbours g a b
neighbours_front [] r a b h k = neighbours_out r a b h k
neighbours_front (x ∷ []) [] a b h k = refl
neighbours_front (x ∷ []) (y ∷ r) a b h k =
    let ha = or_parts (y.0 == a.0) (has_line r a) h in
    let hb = or_parts (y.0 == b.0) (has_line r b) k in
    rw (these_out x y a b ha.0 hb.0) (neighbours_out (y ∷ r) a b h k)
neighbours_front (x ∷ y ∷ g) r a b h k = ap (λ (m : Bool). are_these x y a b || m) (neighbours_front (y ∷ g) r a b h k)

pub neighbours_back : (g r : List LineId) (a b : LineId) → has_line g a ≡ false → has_line g b ≡ false → are_neighbours (g ++ r) a b ≡ are_neighbours r a b
neighbours_back [] r a b h k = refl
neighbours_back (x ∷ []) [] a b h k = refl
neighbours_back (x ∷ []) (y ∷ r) a b h k =
    let ha = or_parts (x.0 == a.0) false h in
    let hb = or_parts (x.0 == b.0) false k in
    rw (these_in x y a b ha.0 hb.0) refl
neighbours_back (x ∷ y ∷ g) r a b h k =
    let ha = or_parts (x.0 == a.0) (has_line (y ∷ g) a) h in
    let hb = or_parts (x.0 == b.0) (has_line (y ∷ g) b) k in
    rw (these_in x y a b ha.0 hb.0) (neighbours_back (y ∷ g) r a b ha.1 hb.1)

-- two orders in which two lines stand alike
pub record AreAlike (xs ys : List LineId) (a b : LineId) : Type 0 where
  pub before : comes_before xs a b ≡ comes_before ys a b
  pub after : comes_before xs b a ≡ comes_before ys b a
  pub beside : are_neighbours xs a b ≡ are_neighbours ys a b

pub alike_same : (xs : List LineId) (a b : LineId) → AreAlike xs xs a b
alike_same xs a b = record { before = refl; after = refl; beside = refl }

pub alike_front : (g r : List LineId) (a b : LineId) → has_line g a ≡ true → has_line r a ≡ false → has_line r b ≡ false → has_line g b ≡ true → AreAlike (g ++ r) g a b
alike_front g r a b ha na nb hb = record {
  before = before_front g r a b (rw ha refl);
  after = before_front g r b a (rw hb refl);
  beside = neighbours_front g r a b na nb;
}

pub alike_back : (g r : List LineId) (a b : LineId) → has_line g a ≡ false → has_line g b ≡ false → AreAlike (g ++ r) r a b
alike_back g r a b na nb = record {
  before = before_back g r a b na nb;
  after = before_back g r b a nb na;
  beside = neighbours_back g r a b na nb;
}

-- a term costs the same where its lines stand alike on both its segments
pub alike_cost : (t : Term) (here there now then : List LineId) → AreAlike here now (first_of t) (second_of t) → AreAlike there then (first_of t) (second_of t)
    → cost_on here there t ≡ cost_on now then t
alike_cost (Side seg first second w) here there now then h k = ap (λ (m : Bool). cond m w 0) h.after
alike_cost (Link seg other flip a b w) here there now then h k =
    ap (λ (m : Bool). cond (same_answer flip (same_answer m (comes_before there a b))) w 0) h.before
    ∙ ap (λ (m : Bool). cond (same_answer flip (same_answer (comes_before now a b) m)) w 0) k.before
alike_cost (Apart seg other a b w) here there now then h k =
    ap (λ (m : Bool). cond (not (same_answer m (are_neighbours there a b))) w 0) h.beside
    ∙ ap (λ (m : Bool). cond (not (same_answer (are_neighbours now a b) m)) w 0) k.beside
