-- When one walk more is legal with those before it.
use Rattle.std.proofs.Common.{◌≡◌, ℕ, Bool, true, false, not, cond, eqb, ◌&&◌, List, [], ◌∷◌, ◌++◌, Option, Some, None, sym, refl, ap, subst, ◌∙◌, ◌⊎◌, inl, inr}
use Rattle.std.proofs.lemmas.Bool.{and_parts, and_from, not-true, not_from_false, false≢true, true≢false, eqb-true, eq-eqb, eqb-false, cases_Bool}
use Rattle.std.proofs.lemmas.List.Concat.{flat_map-append}
use Rattle.std.specs.List.{list_all}
use Rattle.octi_grid.specs.declared.point.GridPoint.{GridPoint}
use Rattle.octi_grid.specs.Ways.{are_one}
use Rattle.octi_grid.specs.Walks.{end_point}
use Rattle.octi_grid.specs.Legal.{agree, ends_hold, is_even, puts_by, puts_of, Leg, Put}
use Rattle.octi_grid.specs.Taking.{is_or_none, may_put, node_in, point_in}
use Rattle.octi_grid.proofs.Members.{all_at, all_from, are_one_from, false_from, in_append, in_left, in_right, one_point, same_test, In}

-- ends of walks that fit, as facts: each is even, and two are at one node exactly where they are at one point
pub record EndsFit (puts : List Put) : Type 0 where
  pub even : (p : Put) → In p puts → is_even p.1 ≡ true
  pub one_place : (p q : Put) → In p puts → In q puts → p.0 ≡ q.0 → p.1 ≡ q.1
  pub one_node : (p q : Put) → In p puts → In q puts → p.1 ≡ q.1 → p.0 ≡ q.0

-- two that agree
agree_place : (p q : Put) → agree p q ≡ true → p.0 ≡ q.0 → p.1 ≡ q.1
agree_place p q e h = one_point p.1 q.1 (sym (ap (λ b. cond b (are_one p.1 q.1) (not (are_one p.1 q.1))) (eq-eqb _ _ h)) ∙ e)

agree_node : (p q : Put) → agree p q ≡ true → p.1 ≡ q.1 → p.0 ≡ q.0
agree_node p q e h = by_test (cases_Bool (eqb p.0 q.0))
  where
    by_test : (eqb p.0 q.0 ≡ true) ⊎ (eqb p.0 q.0 ≡ false) → p.0 ≡ q.0
    by_test (inl t) = eqb-true _ _ t
    by_test (inr f) =
        absurd (false≢true (sym (not-true _ (sym (ap (λ b. cond b (are_one p.1 q.1) (not (are_one p.1 q.1))) f) ∙ e)) ∙ are_one_from p.1 q.1 h))

agree_from : (p q : Put) → (p.0 ≡ q.0 → p.1 ≡ q.1) → (p.1 ≡ q.1 → p.0 ≡ q.0) → agree p q ≡ true
agree_from p q f g = by_test (cases_Bool (eqb p.0 q.0))
  where
    by_test : (eqb p.0 q.0 ≡ true) ⊎ (eqb p.0 q.0 ≡ false) → agree p q ≡ true
    by_test (inl t) = ap (λ b. cond b (are_one p.1 q.1) (not (are_one p.1 q.1))) t ∙ are_one_from p.1 q.1 (f (eqb-true _ _ t))
    by_test (inr e) =
        ap (λ b. cond b (are_one p.1 q.1) (not (are_one p.1 q.1))) e
        ∙ not_from_false _ (false_from _ (λ t. eqb-false _ _ e (g (one_point p.1 q.1 t))))

pub EndsFit-from : (legs : List Leg) → ends_hold legs ≡ true → EndsFit (puts_of legs)
EndsFit-from legs e = record {
  even = λ p m. (and_parts _ _ (all_at (λ (p : Put). is_even p.1 && list_all (agree p) (puts_of legs)) (puts_of legs) p e m)).0;
  one_place = λ p q m n h.
      agree_place p q (all_at (agree p) (puts_of legs) q (and_parts _ _ (all_at (λ (p : Put). is_even p.1 && list_all (agree p) (puts_of legs)) (puts_of legs) p e m)).1 n) h;
  one_node = λ p q m n h.
      agree_node p q (all_at (agree p) (puts_of legs) q (and_parts _ _ (all_at (λ (p : Put). is_even p.1 && list_all (agree p) (puts_of legs)) (puts_of legs) p e m)).1 n) h;
}

pub ends_hold-from : (legs : List Leg) → EndsFit (puts_of legs) → ends_hold legs ≡ true
ends_hold-from legs h =
    all_from (λ (p : Put). is_even p.1 && list_all (agree p) (puts_of legs)) (puts_of legs)
    (λ p m. and_from _ _ (h.even p m) (all_from (agree p) (puts_of legs) (λ q n. agree_from p q (h.one_place p q m n) (h.one_node p q m n))))

-- fewer walks fit
pub EndsFit-part : (puts more : List Put) → ((p : Put) → In p puts → In p more) → EndsFit more → EndsFit puts
EndsFit-part puts more f h = record {
  even = λ p m. h.even p (f p m);
  one_place = λ p q m n. h.one_place p q (f p m) (f q n);
  one_node = λ p q m n. h.one_node p q (f p m) (f q n);
}

-- the puts of one walk more
pub puts_of-push : (legs : List Leg) (l : Leg) → puts_of (legs ++ l ∷ []) ≡ puts_of legs ++ puts_by l
puts_of-push legs l = flat_map-append puts_by legs (l ∷ [])

-- a put, by its node and its point
same_put : (q : Put) (n : ℕ) (p : GridPoint) → q.0 ≡ n → q.1 ≡ p → (let r : Put = (n, p) in r) ≡ q
same_put q n p f g = ap (λ v. let r : Put = (v, p) in r) (sym f) ∙ ap (λ v. let r : Put = (q.0, v) in r) (sym g)

chosen_some : {X : Type 0} (b : Bool) (x y : X) (o : Option X) → b ≡ true → cond b (Some x) o ≡ Some y → x ≡ y
chosen_some true x y o e f = cc
chosen_some false x y o e f = absurd (false≢true e)

chosen_other : {X : Type 0} (b : Bool) (x : X) (o v : Option X) → b ≡ false → cond b (Some x) o ≡ v → o ≡ v
chosen_other true x o v e f = absurd (true≢false e)
chosen_other false x o v e f = f

pub some_or_none : {X : Type 0} (o : Option X) → ((x : X) × (o ≡ Some x)) ⊎ (o ≡ None)
some_or_none (Some x) = inl (x, refl)
some_or_none None = inr refl

chosen_none : {X : Type 0} (b : Bool) (x : X) (o : Option X) → cond b (Some x) o ≡ None → (b ≡ false) × (o ≡ None)
chosen_none true x o f = cc
chosen_none false x o f = (refl, f)

-- what is looked up is there
pub point_in-found : (puts : List Put) (n : ℕ) (p : GridPoint) → point_in puts n ≡ Some p → In (let r : Put = (n, p) in r) puts
point_in-found [] n p e = cc
point_in-found (q ∷ qs) n p e = by_test (λ f. point_in-found qs n p (chosen_other _ q.1 (point_in qs n) (Some p) f e)) (cases_Bool (eqb q.0 n))
  where
    by_test : (eqb q.0 n ≡ false → In (let r : Put = (n, p) in r) qs) → (eqb q.0 n ≡ true) ⊎ (eqb q.0 n ≡ false) → In (let r : Put = (n, p) in r) (q ∷ qs)
    by_test later (inl t) = inl (same_put q n p (eqb-true _ _ t) (chosen_some _ q.1 p (point_in qs n) t e))
    by_test later (inr f) = inr (later f)

pub point_in-none : (puts : List Put) (n : ℕ) → point_in puts n ≡ None → (q : Put) → In q puts → q.0 ≡ n → ⊥
point_in-none [] n e q m h = absurd m
point_in-none (r ∷ rs) n e q (inl g) h = eqb-false _ _ (chosen_none _ r.1 (point_in rs n) e).0 (sym (ap (λ (v : Put). v.0) g) ∙ h)
point_in-none (r ∷ rs) n e q (inr m) h = point_in-none rs n (chosen_none _ r.1 (point_in rs n) e).1 q m h

pub node_in-found : (puts : List Put) (p : GridPoint) (n : ℕ) → node_in puts p ≡ Some n → In (let r : Put = (n, p) in r) puts
node_in-found [] p n e = cc
node_in-found (q ∷ qs) p n e = by_test (λ f. node_in-found qs p n (chosen_other _ q.0 (node_in qs p) (Some n) f e)) (cases_Bool (are_one p q.1))
  where
    by_test : (are_one p q.1 ≡ false → In (let r : Put = (n, p) in r) qs) → (are_one p q.1 ≡ true) ⊎ (are_one p q.1 ≡ false) → In (let r : Put = (n, p) in r) (q ∷ qs)
    by_test later (inl t) = inl (same_put q n p (chosen_some _ q.0 n (node_in qs p) t e) (sym (one_point p q.1 t)))
    by_test later (inr f) = inr (later f)

pub node_in-none : (puts : List Put) (p : GridPoint) → node_in puts p ≡ None → (q : Put) → In q puts → q.1 ≡ p → ⊥
node_in-none [] p e q m h = absurd m
node_in-none (r ∷ rs) p e q (inl g) h = false≢true (sym (chosen_none _ r.0 (node_in rs p) e).0 ∙ are_one_from p r.1 (sym h ∙ ap (λ (v : Put). v.1) g))
node_in-none (r ∷ rs) p e q (inr m) h = node_in-none rs p (chosen_none _ r.0 (node_in rs p) e).1 q m h

-- a node may be put at a point, as a fact
pub record FitsIn (puts : List Put) (n : ℕ) (p : GridPoint) : Type 0 where
  pub even : is_even p ≡ true
  pub one_place : (q : Put) → In q puts → n ≡ q.0 → p ≡ q.1
  pub one_node : (q : Put) → In q puts → p ≡ q.1 → n ≡ q.0

pub FitsIn-from : (puts : List Put) (n : ℕ) (p : GridPoint) → EndsFit puts → may_put (point_in puts n) (node_in puts p) n p ≡ true → FitsIn puts n p
FitsIn-from puts n p fit e =
    let parts = and_parts _ _ e in
    let first = and_parts _ _ parts.0 in
    record {
      even = first.0;
      one_place = λ q m h. place q m h first.1 (some_or_none (point_in puts n));
      one_node = λ q m h. node q m h parts.1 (some_or_none (node_in puts p));
    }
  where
    place : (q : Put) → In q puts → n ≡ q.0 → is_or_none (are_one p) (point_in puts n) ≡ true → ((x : GridPoint) × (point_in puts n ≡ Some x)) ⊎ (point_in puts n ≡ None) → p ≡ q.1
    place q m h t (inl found) =
        one_point p found.0 (sym (ap (is_or_none (are_one p)) found.1) ∙ t) ∙ fit.one_place (n, found.0) q (point_in-found puts n found.0 found.1) m h
    place q m h t (inr none) = absurd (point_in-none puts n none q m (sym h))

    node : (q : Put) → In q puts → p ≡ q.1 → is_or_none (λ m. eqb n m) (node_in puts p) ≡ true → ((x : ℕ) × (node_in puts p ≡ Some x)) ⊎ (node_in puts p ≡ None) → n ≡ q.0
    node q m h t (inl found) =
        eqb-true _ _ (sym (ap (is_or_none (λ k. eqb n k)) found.1) ∙ t) ∙ fit.one_node (found.0, p) q (node_in-found puts p found.0 found.1) m h
    node q m h t (inr none) = absurd (node_in-none puts p none q m (sym h))

pub may_put-from : (puts : List Put) (n : ℕ) (p : GridPoint) → FitsIn puts n p → may_put (point_in puts n) (node_in puts p) n p ≡ true
may_put-from puts n p fit =
    and_from _ _ (and_from _ _ fit.even (place (some_or_none (point_in puts n)))) (node (some_or_none (node_in puts p)))
  where
    place : ((x : GridPoint) × (point_in puts n ≡ Some x)) ⊎ (point_in puts n ≡ None) → is_or_none (are_one p) (point_in puts n) ≡ true
    place (inl found) = ap (is_or_none (are_one p)) found.1 ∙ are_one_from p found.0 (fit.one_place (n, found.0) (point_in-found puts n found.0 found.1) refl)
    place (inr none) = ap (is_or_none (are_one p)) none

    node : ((x : ℕ) × (node_in puts p ≡ Some x)) ⊎ (node_in puts p ≡ None) → is_or_none (λ m. eqb n m) (node_in puts p) ≡ true
    node (inl found) = ap (is_or_none (λ m. eqb n m)) found.1 ∙ eq-eqb _ _ (fit.one_node (found.0, p) (node_in-found puts p found.0 found.1) refl)
    node (inr none) = ap (is_or_none (λ m. eqb n m)) none

-- the ends of one walk more fit where each does with those before, and the two are apart
pub EndsFit-push : (puts : List Put) (l : Leg) → EndsFit puts → ¬ (l.0.0.0 ≡ l.0.1.0) → ¬ (l.1.start ≡ end_point l.1)
    → FitsIn puts l.0.0.0 l.1.start → FitsIn puts l.0.1.0 (end_point l.1) → EndsFit (puts ++ puts_by l)
EndsFit-push puts l fit nodes points low high = record {
  even = λ p m. even p (in_append p puts (puts_by l) m);
  one_place = λ p q m n. place p q (in_append p puts (puts_by l) m) (in_append q puts (puts_by l) n);
  one_node = λ p q m n. node p q (in_append p puts (puts_by l) m) (in_append q puts (puts_by l) n);
}
  where
    even : (p : Put) → In p puts ⊎ In p (puts_by l) → is_even p.1 ≡ true
    even p (inl m) = fit.even p m
    even p (inr (inl h)) = ap (λ (v : Put). is_even v.1) h ∙ low.even
    even p (inr (inr (inl h))) = ap (λ (v : Put). is_even v.1) h ∙ high.even
    even p (inr (inr (inr m))) = absurd m

    own_place : (p q : Put) → In p (puts_by l) → In q (puts_by l) → p.0 ≡ q.0 → p.1 ≡ q.1
    own_place p q (inl h) (inl k) e = ap (λ (v : Put). v.1) (h ∙ sym k)
    own_place p q (inl h) (inr (inl k)) e = absurd (nodes (sym (ap (λ (v : Put). v.0) h) ∙ e ∙ ap (λ (v : Put). v.0) k))
    own_place p q (inr (inl h)) (inl k) e = absurd (nodes (sym (ap (λ (v : Put). v.0) k) ∙ sym e ∙ ap (λ (v : Put). v.0) h))
    own_place p q (inr (inl h)) (inr (inl k)) e = ap (λ (v : Put). v.1) (h ∙ sym k)
    own_place p q (inr (inr m)) n e = absurd m
    own_place p q (inl h) (inr (inr n)) e = absurd n
    own_place p q (inr (inl h)) (inr (inr n)) e = absurd n

    own_node : (p q : Put) → In p (puts_by l) → In q (puts_by l) → p.1 ≡ q.1 → p.0 ≡ q.0
    own_node p q (inl h) (inl k) e = ap (λ (v : Put). v.0) (h ∙ sym k)
    own_node p q (inl h) (inr (inl k)) e = absurd (points (sym (ap (λ (v : Put). v.1) h) ∙ e ∙ ap (λ (v : Put). v.1) k))
    own_node p q (inr (inl h)) (inl k) e = absurd (points (sym (ap (λ (v : Put). v.1) k) ∙ sym e ∙ ap (λ (v : Put). v.1) h))
    own_node p q (inr (inl h)) (inr (inl k)) e = ap (λ (v : Put). v.0) (h ∙ sym k)
    own_node p q (inr (inr m)) n e = absurd m
    own_node p q (inl h) (inr (inr n)) e = absurd n
    own_node p q (inr (inl h)) (inr (inr n)) e = absurd n

    new_place : (p q : Put) → In p (puts_by l) → In q puts → p.0 ≡ q.0 → p.1 ≡ q.1
    new_place p q (inl h) n e = ap (λ (v : Put). v.1) h ∙ low.one_place q n (sym (ap (λ (v : Put). v.0) h) ∙ e)
    new_place p q (inr (inl h)) n e = ap (λ (v : Put). v.1) h ∙ high.one_place q n (sym (ap (λ (v : Put). v.0) h) ∙ e)
    new_place p q (inr (inr m)) n e = absurd m

    new_node : (p q : Put) → In p (puts_by l) → In q puts → p.1 ≡ q.1 → p.0 ≡ q.0
    new_node p q (inl h) n e = ap (λ (v : Put). v.0) h ∙ low.one_node q n (sym (ap (λ (v : Put). v.1) h) ∙ e)
    new_node p q (inr (inl h)) n e = ap (λ (v : Put). v.0) h ∙ high.one_node q n (sym (ap (λ (v : Put). v.1) h) ∙ e)
    new_node p q (inr (inr m)) n e = absurd m

    place : (p q : Put) → In p puts ⊎ In p (puts_by l) → In q puts ⊎ In q (puts_by l) → p.0 ≡ q.0 → p.1 ≡ q.1
    place p q (inl m) (inl n) e = fit.one_place p q m n e
    place p q (inl m) (inr n) e = sym (new_place q p n m (sym e))
    place p q (inr m) (inl n) e = new_place p q m n e
    place p q (inr m) (inr n) e = own_place p q m n e

    node : (p q : Put) → In p puts ⊎ In p (puts_by l) → In q puts ⊎ In q (puts_by l) → p.1 ≡ q.1 → p.0 ≡ q.0
    node p q (inl m) (inl n) e = fit.one_node p q m n e
    node p q (inl m) (inr n) e = sym (new_node q p n m (sym e))
    node p q (inr m) (inl n) e = new_node p q m n e
    node p q (inr m) (inr n) e = own_node p q m n e

-- what fits with one walk more
pub FitsIn-low : (puts : List Put) (l : Leg) → EndsFit (puts ++ puts_by l) → FitsIn puts l.0.0.0 l.1.start
FitsIn-low puts l fit = record {
  even = fit.even (l.0.0.0, l.1.start) (in_right (let r : Put = (l.0.0.0, l.1.start) in r) puts (puts_by l) (inl refl));
  one_place = λ q m e. fit.one_place (l.0.0.0, l.1.start) q (in_right (let r : Put = (l.0.0.0, l.1.start) in r) puts (puts_by l) (inl refl)) (in_left q puts (puts_by l) m) e;
  one_node = λ q m e. fit.one_node (l.0.0.0, l.1.start) q (in_right (let r : Put = (l.0.0.0, l.1.start) in r) puts (puts_by l) (inl refl)) (in_left q puts (puts_by l) m) e;
}

pub FitsIn-high : (puts : List Put) (l : Leg) → EndsFit (puts ++ puts_by l) → FitsIn puts l.0.1.0 (end_point l.1)
FitsIn-high puts l fit = record {
  even = fit.even (l.0.1.0, end_point l.1) (in_right (let r : Put = (l.0.1.0, end_point l.1) in r) puts (puts_by l) (inr (inl refl)));
  one_place = λ q m e. fit.one_place (l.0.1.0, end_point l.1) q (in_right (let r : Put = (l.0.1.0, end_point l.1) in r) puts (puts_by l) (inr (inl refl))) (in_left q puts (puts_by l) m) e;
  one_node = λ q m e. fit.one_node (l.0.1.0, end_point l.1) q (in_right (let r : Put = (l.0.1.0, end_point l.1) in r) puts (puts_by l) (inr (inl refl))) (in_left q puts (puts_by l) m) e;
}

pub points_apart : (puts : List Put) (l : Leg) → EndsFit (puts ++ puts_by l) → ¬ (l.0.0.0 ≡ l.0.1.0) → ¬ (l.1.start ≡ end_point l.1)
points_apart puts l fit nodes e =
    nodes (fit.one_node (l.0.0.0, l.1.start) (l.0.1.0, end_point l.1) (in_right (let r : Put = (l.0.0.0, l.1.start) in r) puts (puts_by l) (inl refl))
    (in_right (let r : Put = (l.0.1.0, end_point l.1) in r) puts (puts_by l) (inr (inl refl))) e)

-- whether the ends of one walk more fit
pub ends_hold-push : (legs : List Leg) (l : Leg) (a b : Bool) → ends_hold legs ≡ true → ¬ (l.0.0.0 ≡ l.0.1.0) → ¬ (l.1.start ≡ end_point l.1)
    → a ≡ may_put (point_in (puts_of legs) l.0.0.0) (node_in (puts_of legs) l.1.start) l.0.0.0 l.1.start
    → b ≡ may_put (point_in (puts_of legs) l.0.1.0) (node_in (puts_of legs) (end_point l.1)) l.0.1.0 (end_point l.1)
    → (a && b) ≡ ends_hold (legs ++ l ∷ [])
ends_hold-push legs l a b e nodes points f g =
    let fit = EndsFit-from legs e in
    same_test _ _
    (λ t. let parts = and_parts _ _ t in
    ends_hold-from (legs ++ l ∷ []) (subst EndsFit (sym (puts_of-push legs l))
    (EndsFit-push (puts_of legs) l fit nodes points (FitsIn-from (puts_of legs) l.0.0.0 l.1.start fit (sym f ∙ parts.0)) (FitsIn-from (puts_of legs) l.0.1.0 (end_point l.1) fit (sym g ∙ parts.1)))))
    (λ t. let all = subst EndsFit (puts_of-push legs l) (EndsFit-from (legs ++ l ∷ []) t) in
    and_from _ _ (f ∙ may_put-from (puts_of legs) l.0.0.0 l.1.start (FitsIn-low (puts_of legs) l all)) (g ∙ may_put-from (puts_of legs) l.0.1.0 (end_point l.1) (FitsIn-high (puts_of legs) l all)))

-- a walk whose ends are one point doesn't fit
pub ends_hold-one_point : (legs : List Leg) (l : Leg) → ¬ (l.0.0.0 ≡ l.0.1.0) → l.1.start ≡ end_point l.1 → false ≡ ends_hold (legs ++ l ∷ [])
ends_hold-one_point legs l nodes h =
    sym (false_from _ (λ t. points_apart (puts_of legs) l (subst EndsFit (puts_of-push legs l) (EndsFit-from (legs ++ l ∷ []) t)) nodes h))
