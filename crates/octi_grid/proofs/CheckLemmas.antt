-- The tables of what walks take, in the check of one walk more.
use Rattle.std.proofs.Common.{◌≡◌, ℕ, ◌<◌, Bool, true, false, cond, eqb, ◌&&◌, List, [], ◌∷◌, ◌++◌, length, get_or, set, Option, Some, None, Result, Ok, Err, IfOk, sym, refl, ap, subst, ◌∙◌, arith, ◌⊎◌, inl, inr, append_assoc}
use Rattle.std.proofs.lemmas.Bool.{false≢true, eq-eqb, ne_eqb, cases_Bool, cases_eq}
use Rattle.std.proofs.lemmas.List.{append-nil, get_or-set_same, get_or-set_other, length-set}
use Rattle.std.proofs.lemmas.List.Concat.{flat_map-append}
use Rattle.std.specs.HashMap.{get}
use Rattle.octi_grid.specs.declared.point.GridPoint.{GridPoint}
use Rattle.octi_grid.specs.declared.dir.Dir.{Dir}
use Rattle.octi_grid.specs.declared.taken.Taken.{Taken}
use Rattle.octi_grid.specs.declared.walk.Run.{Run}
use Rattle.octi_grid.specs.Ways.{after, are_one, doubled, doubled_from, step_from}
use Rattle.octi_grid.specs.Walks.{doubled_of, end_point, IsWalk, PlainWalk}
use Rattle.octi_grid.specs.Runs.{are_runs, steps_of}
use Rattle.octi_grid.specs.Legal.{ends_hold, puts_by, puts_of, Leg, Put}
use Rattle.octi_grid.specs.Taking.{claim, half_steps, may_put, node_in, point_in, taken_by, taken_with, trail, AreTables, IsTaken, Puts, PutsNode, Takes, TakesLeg}
use Rattle.octi_grid.proofs.Members.{are_one_from, are_one_sym, in_append, in_left, in_right, one_point, same_test, In}
use Rattle.octi_grid.proofs.RunLemmas.{runs-some}
use Rattle.octi_grid.proofs.TakingLemmas.{doubled_from-runs, Has-same, Takes-more, Takes-none, Takes-stop}
use Rattle.octi_grid.proofs.LegalLemmas.{node_in-found, node_in-none, point_in-found, puts_of-push, some_or_none, ends_hold-one_point, ends_hold-push, EndsFit, EndsFit-from, EndsFit-part}
use Rattle.octi_grid.proofs.MeetsLemmas.{claims, high_put, low_put, meets_from_new, meets_hold-from, new_from_meets, taken_then, then_taken, Joins, MeetsFit-from}

-- what the tables say of a put
pub may_put_by : (count : ℕ) (legs : List Leg) (t : Taken) (n : ℕ) (p q : GridPoint) → IsTaken count legs t → n < length t.points.items → p ≡ q
    → may_put (get_or t.points.items n None) (get are_one t.nodes p) n p ≡ may_put (point_in (puts_of legs) n) (node_in (puts_of legs) q) n q
may_put_by count legs t n p q tells h e =
    ap (λ o. may_put o (get are_one t.nodes p) n p) (tells.points n (subst (λ k. n < k) tells.each_node h))
    ∙ ap (λ o. may_put (point_in (puts_of legs) n) o n p) (tells.nodes p)
    ∙ ap (λ v. may_put (point_in (puts_of legs) n) (node_in (puts_of legs) v) n v) e

pub not_one_node : (l : Leg) → l.0.0.0 < l.0.1.0 → ¬ (l.0.0.0 ≡ l.0.1.0)
not_one_node l h e = omega arith

-- the ends of a walk fit by the tables
pub ends_fit_by : (count : ℕ) (legs : List Leg) (t : Taken) (l : Leg) (p q : GridPoint) (a b : Bool) → IsTaken count legs t → ends_hold legs ≡ true → l.0.0.0 < l.0.1.0
    → l.0.1.0 < length t.points.items → p ≡ l.1.start → q ≡ end_point l.1 → are_one p q ≡ false
    → a ≡ may_put (get_or t.points.items l.0.0.0 None) (get are_one t.nodes p) l.0.0.0 p
    → b ≡ may_put (get_or t.points.items l.0.1.0 None) (get are_one t.nodes q) l.0.1.0 q
    → (a && b) ≡ ends_hold (legs ++ l ∷ [])
ends_fit_by count legs t l p q a b tells hold order room e f apart g h =
    ends_hold-push legs l a b hold (not_one_node l order) (λ k. false≢true (sym apart ∙ are_one_from p q (e ∙ k ∙ sym f)))
    (g ∙ may_put_by count legs t l.0.0.0 p l.1.start tells (omega arith) e)
    (h ∙ may_put_by count legs t l.0.1.0 q (end_point l.1) tells room f)

pub ends_meet_by : (legs : List Leg) (l : Leg) (p q : GridPoint) → l.0.0.0 < l.0.1.0 → p ≡ l.1.start → q ≡ end_point l.1 → are_one p q ≡ true → false ≡ ends_hold (legs ++ l ∷ [])
ends_meet_by legs l p q order e f one = ends_hold-one_point legs l (not_one_node l order) (sym e ∙ one_point p q one ∙ f)

-- tables after a put, as far as they tell of nodes
pub record TellPuts (count : ℕ) (puts : List Put) (t : Taken) : Type 0 where
  pub each_node : length t.points.items ≡ count
  pub points : (n : ℕ) → n < count → get_or t.points.items n None ≡ point_in puts n
  pub nodes : (p : GridPoint) → get are_one t.nodes p ≡ node_in puts p

-- the first of two that is there
abbrev first_of : {X : Type 0} → Option X → Option X → Option X
first_of None o = o
first_of (Some x) o = Some x

none_after : {X : Type 0} (o : Option X) (b : Bool) (x : X) → b ≡ false → o ≡ first_of o (cond b (Some x) None)
none_after None b x e = sym (ap (λ v. cond v (Some x) None) e)
none_after (Some y) b x e = refl

first_chosen : {X : Type 0} (b : Bool) (x : X) (o v w : Option X) → v ≡ first_of o w → cond b (Some x) v ≡ first_of (cond b (Some x) o) w
first_chosen true x o v w e = refl
first_chosen false x o v w e = e

-- a look-up after a put at the end
point_in-push : (puts : List Put) (n m : ℕ) (p : GridPoint) → point_in (puts ++ (n, p) ∷ []) m ≡ first_of (point_in puts m) (cond (eqb n m) (Some p) None)
point_in-push [] n m p = refl
point_in-push (q ∷ qs) n m p = first_chosen (eqb q.0 m) q.1 (point_in qs m) (point_in (qs ++ (n, p) ∷ []) m) (cond (eqb n m) (Some p) None) (point_in-push qs n m p)

node_in-push : (puts : List Put) (n : ℕ) (p q : GridPoint) → node_in (puts ++ (n, p) ∷ []) q ≡ first_of (node_in puts q) (cond (are_one q p) (Some n) None)
node_in-push [] n p q = refl
node_in-push (r ∷ rs) n p q = first_chosen (are_one q r.1) r.0 (node_in rs q) (node_in (rs ++ (n, p) ∷ []) q) (cond (are_one q p) (Some n) None) (node_in-push rs n p q)

pub TellPuts-from : (count : ℕ) (puts : List Put) (taken : List GridPoint) (t : Taken) → AreTables count puts taken t → TellPuts count puts t
TellPuts-from count puts taken t h = record { each_node = h.each_node; points = h.points; nodes = h.nodes }

-- the tables after a node was put, whose ends fit
pub TellPuts-put : (count : ℕ) (puts : List Put) (old new : Taken) (n : ℕ) (p : GridPoint) (r : Bool) → TellPuts count puts old → EndsFit (puts ++ (n, p) ∷ []) → n < count → Puts old new n p r
    → TellPuts count (puts ++ (n, p) ∷ []) new
TellPuts-put count puts old new n p r tells fit room put = by_case (get_or old.points.items n None) refl put
  where
    looked_up : get_or old.points.items n None ≡ point_in puts n
    looked_up = tells.points n room

    known : (x : GridPoint) → get_or old.points.items n None ≡ Some x → TellPuts count (puts ++ (n, p) ∷ []) old
    known x e =
        let at : point_in puts n ≡ Some x = sym (tells.points n room) ∙ e in
        let there = point_in-found puts n x at in
        let same : x ≡ p = fit.one_place (n, x) (n, p) (in_left (let q : Put = (n, x) in q) puts ((n, p) ∷ []) there) (in_right (let q : Put = (n, p) in q) puts ((n, p) ∷ []) (inl refl)) refl in
        record {
          each_node = tells.each_node;
          points = λ m h. tells.points m h ∙ same_point_in m (cases_eq n m) at ∙ sym (point_in-push puts n m p);
          nodes = λ q. tells.nodes q ∙ same_node_in q (cases_Bool (are_one q p)) there same (some_or_none (node_in puts q)) ∙ sym (node_in-push puts n p q);
        }
      where
        same_point_in : (m : ℕ) → (n ≡ m) ⊎ (n ≡ m → ⊥) → point_in puts n ≡ Some x → point_in puts m ≡ first_of (point_in puts m) (cond (eqb n m) (Some p) None)
        same_point_in m (inl h) at =
            let here : point_in puts m ≡ Some x = ap (point_in puts) (sym h) ∙ at in
            here ∙ sym (ap (λ o. first_of o (cond (eqb n m) (Some p) None)) here)
        same_point_in m (inr f) at = none_after (point_in puts m) (eqb n m) p (ne_eqb n m f)

        same_node_in : (q : GridPoint) → (are_one q p ≡ true) ⊎ (are_one q p ≡ false) → In (let v : Put = (n, x) in v) puts → x ≡ p → ((y : ℕ) × (node_in puts q ≡ Some y)) ⊎ (node_in puts q ≡ None)
            → node_in puts q ≡ first_of (node_in puts q) (cond (are_one q p) (Some n) None)
        same_node_in q t there same (inl found) = found.1 ∙ sym (ap (λ o. first_of o (cond (are_one q p) (Some n) None)) found.1)
        same_node_in q (inl t) there same (inr none) = absurd (node_in-none puts q none (n, x) there (same ∙ sym (one_point q p t)))
        same_node_in q (inr f) there same (inr none) = none_after (node_in puts q) (are_one q p) n f

    by_case : (o : Option GridPoint) → get_or old.points.items n None ≡ o → PutsNode o old new n p r → TellPuts count (puts ++ (n, p) ∷ []) new
    by_case (Some x) e h = subst (TellPuts count (puts ++ (n, p) ∷ [])) (sym h.0) (known x e)
    by_case None e h = record {
      each_node = ap length h.0 ∙ length-set old.points.items n (Some p) ∙ tells.each_node;
      points = λ m k. ap (λ xs. get_or xs m None) h.0 ∙ new_point m k (cases_eq n m) ∙ sym (point_in-push puts n m p);
      nodes = λ q. h.1 q ∙ new_node q (cases_Bool (are_one p q)) ∙ sym (node_in-push puts n p q);
    }
      where
        new_point : (m : ℕ) → m < count → (n ≡ m) ⊎ (n ≡ m → ⊥) → get_or (set old.points.items n (Some p)) m None ≡ first_of (point_in puts m) (cond (eqb n m) (Some p) None)
        new_point m k (inl g) =
            ap (λ i. get_or (set old.points.items n (Some p)) i None) (sym g)
            ∙ get_or-set_same old.points.items n (Some p) None (subst (λ v. n < v) (sym tells.each_node) room)
            ∙ sym (ap (λ o. first_of o (cond (eqb n m) (Some p) None)) (ap (point_in puts) (sym g) ∙ sym (tells.points n room) ∙ e) ∙ ap (λ b. cond b (Some p) None) (eq-eqb n m g))
        new_point m k (inr f) =
            get_or-set_other old.points.items n m (Some p) None (λ g. f (sym g)) ∙ tells.points m k ∙ none_after (point_in puts m) (eqb n m) p (ne_eqb n m f)

        new_node : (q : GridPoint) → (are_one p q ≡ true) ⊎ (are_one p q ≡ false) → cond (are_one p q) (Some n) (get are_one old.nodes q) ≡ first_of (node_in puts q) (cond (are_one q p) (Some n) None)
        new_node q (inl t) =
            ap (λ b. cond b (Some n) (get are_one old.nodes q)) t ∙ sym (new_first q t (some_or_none (node_in puts q)))
          where
            new_first : (q : GridPoint) → are_one p q ≡ true → ((y : ℕ) × (node_in puts q ≡ Some y)) ⊎ (node_in puts q ≡ None) → first_of (node_in puts q) (cond (are_one q p) (Some n) None) ≡ Some n
            new_first q t (inl found) =
                ap (λ o. first_of o (cond (are_one q p) (Some n) None)) found.1
                ∙ ap (λ v. Some v)
                (fit.one_node (found.0, q) (n, p) (in_left (let v : Put = (found.0, q) in v) puts ((n, p) ∷ []) (node_in-found puts q found.0 found.1)) (in_right (let v : Put = (n, p) in v) puts ((n, p) ∷ []) (inl refl))
                (sym (one_point p q t)))
            new_first q t (inr none) = ap (λ o. first_of o (cond (are_one q p) (Some n) None)) none ∙ ap (λ b. cond b (Some n) None) (are_one_sym q p ∙ t)
        new_node q (inr f) =
            ap (λ b. cond b (Some n) (get are_one old.nodes q)) f ∙ tells.nodes q ∙ none_after (node_in puts q) (are_one q p) n (are_one_sym q p ∙ f)

-- a put takes what it claims
pub put_takes : (old new : Taken) (n : ℕ) (p : GridPoint) (r : Bool) → Puts old new n p r → Takes old.doubled new.doubled (claim (get_or old.points.items n None) p) r
put_takes old new n p r put = by_case (get_or old.points.items n None) put
  where
    by_case : (o : Option GridPoint) → PutsNode o old new n p r → Takes old.doubled new.doubled (claim o p) r
    by_case None h = h.2
    by_case (Some x) h = subst (λ (t : Taken). Takes old.doubled t.doubled [] r) (sym h.0) (subst (Takes old.doubled old.doubled []) (sym h.1) (Takes-none old.doubled))

-- the ends of a walk are among its doubled points
start_doubled : (p : GridPoint) (ds : List Dir) → In (doubled p) (doubled_from p ds)
start_doubled p [] = inl refl
start_doubled p (d ∷ ds) = inl refl

end_doubled : (p : GridPoint) (ds : List Dir) → In (doubled (after p ds)) (doubled_from p ds)
end_doubled p [] = inl refl
end_doubled p (d ∷ ds) = inr (inr (end_doubled (step_from p d) ds))

pub put_in_way : (m : Leg) (p : Put) → In p (puts_by m) → In (doubled p.1) (doubled_of m.1)
put_in_way m p (inl h) = subst (λ (v : Put). In (doubled v.1) (doubled_of m.1)) (sym h) (start_doubled m.1.start m.1.steps)
put_in_way m p (inr (inl h)) = subst (λ (v : Put). In (doubled v.1) (doubled_of m.1)) (sym h) (end_doubled m.1.start m.1.steps)
put_in_way m p (inr (inr k)) = absurd k

-- a node that comes later is not yet put
point_in_later : (puts : List Put) (n m : ℕ) (p : GridPoint) → ¬ (n ≡ m) → point_in (puts ++ (n, p) ∷ []) m ≡ point_in puts m
point_in_later puts n m p f = point_in-push puts n m p ∙ sym (none_after (point_in puts m) (eqb n m) p (ne_eqb n m f))

-- what the parts of a leg take, in order
pub record TakesParts (t0 tn : Taken) (l : Leg) (middle : List GridPoint) (answer : Bool) (legs : List Leg) (count : ℕ) : Type 0 where
  pub takes : Takes t0.doubled tn.doubled (claims (point_in (puts_of legs) l.0.0.0) (point_in (puts_of legs) l.0.1.0) l middle) answer
  pub puts : answer ≡ true → TellPuts count (puts_of legs ++ puts_by l) tn

taken_by-push : (legs : List Leg) (l : Leg) → taken_by (legs ++ l ∷ []) ≡ taken_by legs ++ doubled_of l.1
taken_by-push legs l = flat_map-append (λ (m : Leg). doubled_of m.1) legs (l ∷ []) ∙ ap (λ ps. taken_by legs ++ ps) (append-nil (doubled_of l.1))

-- a leg is taken by its parts
pub leg_takes : (t0 tn : Taken) (l : Leg) (middle : List GridPoint) (answer : Bool) → l.0.0.0 < l.0.1.0
    → doubled_of l.1 ≡ doubled l.1.start ∷ (middle ++ doubled (end_point l.1) ∷ [])
    → ((legs : List Leg) (count : ℕ) → IsTaken count legs t0 → EndsFit (puts_of legs ++ puts_by l) → TakesParts t0 tn l middle answer legs count)
    → TakesLeg t0 tn l answer
leg_takes t0 tn l middle answer order way parts = record {
  says = λ legs count tells ends meets.
      let fit = subst EndsFit (puts_of-push legs l) (EndsFit-from (legs ++ l ∷ []) ends) in
      let j : Joins legs l middle = record { fit = fit; nodes = not_one_node l order; way = way; ways = λ m p k n. put_in_way m p n } in
      let old = MeetsFit-from legs meets in
      (parts legs count tells fit).takes.says (taken_by legs) tells.doubled
      ∙ same_test _ _
      (λ t. meets_hold-from (legs ++ l ∷ []) (meets_from_new legs l middle (point_in (puts_of legs) l.0.0.0) (point_in (puts_of legs) l.0.1.0) j old refl refl t))
      (λ t. new_from_meets legs l middle (point_in (puts_of legs) l.0.0.0) (point_in (puts_of legs) l.0.1.0) j (MeetsFit-from (legs ++ l ∷ []) t) refl refl);
  takes = λ legs count tells ends meets took.
      let fit = subst EndsFit (puts_of-push legs l) (EndsFit-from (legs ++ l ∷ []) ends) in
      let j : Joins legs l middle = record { fit = fit; nodes = not_one_node l order; way = way; ways = λ m p k n. put_in_way m p n } in
      let part = parts legs count tells fit in
      let puts = part.puts took in
      record {
        each_node = puts.each_node;
        points = λ n h. puts.points n h ∙ ap (λ ps. point_in ps n) (sym (puts_of-push legs l));
        nodes = λ p. puts.nodes p ∙ ap (λ ps. node_in ps p) (sym (puts_of-push legs l));
        doubled = Has-same tn.doubled (taken_with (taken_by legs) (claims (point_in (puts_of legs) l.0.0.0) (point_in (puts_of legs) l.0.1.0) l middle)) (taken_by (legs ++ l ∷ []))
            (part.takes.takes (taken_by legs) tells.doubled took)
            (λ p m. subst (In p) (sym (taken_by-push legs l)) (taken_then legs l middle j (point_in (puts_of legs) l.0.0.0) (point_in (puts_of legs) l.0.1.0) p m))
            (λ p m. then_taken legs l middle j p (subst (In p) (taken_by-push legs l) m));
      };
}

-- what the tables say before each of the two puts, and after it
low_claim : (t0 : Taken) (l : Leg) → l.0.0.0 < l.0.1.0 → l.0.1.0 < length t0.points.items → (legs : List Leg) (count : ℕ) → IsTaken count legs t0
    → get_or t0.points.items l.0.0.0 None ≡ point_in (puts_of legs) l.0.0.0
low_claim t0 l order room legs count tells = tells.points l.0.0.0 (omega (arith, tells.each_node))

low_tells : (t0 t1 : Taken) (l : Leg) (r : Bool) → l.0.0.0 < l.0.1.0 → l.0.1.0 < length t0.points.items → (legs : List Leg) (count : ℕ) → IsTaken count legs t0
    → EndsFit (puts_of legs ++ puts_by l) → Puts t0 t1 l.0.0.0 l.1.start r → TellPuts count (puts_of legs ++ low_put l ∷ []) t1
low_tells t0 t1 l r order room legs count tells fit put =
    TellPuts-put count (puts_of legs) t0 t1 l.0.0.0 l.1.start r (TellPuts-from count (puts_of legs) (taken_by legs) t0 tells)
    (EndsFit-part (puts_of legs ++ low_put l ∷ []) (puts_of legs ++ puts_by l) (λ p m. wider p (in_append p (puts_of legs) (low_put l ∷ []) m)) fit)
    (omega (arith, tells.each_node)) put
  where
    wider : (p : Put) → In p (puts_of legs) ⊎ In p (low_put l ∷ []) → In p (puts_of legs ++ puts_by l)
    wider p (inl m) = in_left p (puts_of legs) (puts_by l) m
    wider p (inr (inl h)) = in_right p (puts_of legs) (puts_by l) (inl h)
    wider p (inr (inr m)) = absurd m

high_claim : (t1 : Taken) (l : Leg) → l.0.0.0 < l.0.1.0 → (legs : List Leg) (count : ℕ) → l.0.1.0 < count → TellPuts count (puts_of legs ++ low_put l ∷ []) t1
    → get_or t1.points.items l.0.1.0 None ≡ point_in (puts_of legs) l.0.1.0
high_claim t1 l order legs count room tells = tells.points l.0.1.0 room ∙ point_in_later (puts_of legs) l.0.0.0 l.0.1.0 l.1.start (not_one_node l order)

high_tells : (t1 t2 : Taken) (l : Leg) (r : Bool) → l.0.0.0 < l.0.1.0 → (legs : List Leg) (count : ℕ) → l.0.1.0 < count → TellPuts count (puts_of legs ++ low_put l ∷ []) t1
    → EndsFit (puts_of legs ++ puts_by l) → Puts t1 t2 l.0.1.0 (end_point l.1) r → TellPuts count (puts_of legs ++ puts_by l) t2
high_tells t1 t2 l r order legs count room tells fit put =
    subst (λ ps. TellPuts count ps t2) (append_assoc (puts_of legs) (low_put l ∷ []) (high_put l ∷ []))
    (TellPuts-put count (puts_of legs ++ low_put l ∷ []) t1 t2 l.0.1.0 (end_point l.1) r tells
    (subst EndsFit (sym (append_assoc (puts_of legs) (low_put l ∷ []) (high_put l ∷ []))) fit) room put)

-- the three parts of a leg
pub parts_whole : (t0 t1 t2 tn : Taken) (l : Leg) (middle : List GridPoint) (p q : GridPoint) (r s u : Bool) → l.0.0.0 < l.0.1.0 → l.0.1.0 < length t0.points.items → p ≡ l.1.start → q ≡ end_point l.1
    → Puts t0 t1 l.0.0.0 p r → r ≡ true → Puts t1 t2 l.0.1.0 q s → s ≡ true → Takes t2.doubled tn.doubled middle u → tn.points ≡ t2.points → tn.nodes ≡ t2.nodes
    → (legs : List Leg) (count : ℕ) → IsTaken count legs t0 → EndsFit (puts_of legs ++ puts_by l) → TakesParts t0 tn l middle u legs count
parts_whole t0 t1 t2 tn l middle p q r s u order room e f first free second free_too third points nodes legs count tells fit =
    let first_at : Puts t0 t1 l.0.0.0 l.1.start true = subst (Puts t0 t1 l.0.0.0 l.1.start) free (subst (λ v. Puts t0 t1 l.0.0.0 v r) e first) in
    let second_at : Puts t1 t2 l.0.1.0 (end_point l.1) true = subst (Puts t1 t2 l.0.1.0 (end_point l.1)) free_too (subst (λ v. Puts t1 t2 l.0.1.0 v s) f second) in
    let t1_tells = low_tells t0 t1 l true order room legs count tells fit first_at in
    let t2_tells = high_tells t1 t2 l true order legs count (subst (λ k. l.0.1.0 < k) tells.each_node room) t1_tells fit second_at in
    let high = high_claim t1 l order legs count (subst (λ k. l.0.1.0 < k) tells.each_node room) t1_tells in
    let low = low_claim t0 l order room legs count tells in
    record {
      takes = Takes-more t0.doubled t1.doubled tn.doubled (claim (point_in (puts_of legs) l.0.0.0) l.1.start) (claim (point_in (puts_of legs) l.0.1.0) (end_point l.1) ++ middle) u
          (subst (λ o. Takes t0.doubled t1.doubled (claim o l.1.start) true) low (put_takes t0 t1 l.0.0.0 l.1.start true first_at))
          (Takes-more t1.doubled t2.doubled tn.doubled (claim (point_in (puts_of legs) l.0.1.0) (end_point l.1)) middle u
          (subst (λ o. Takes t1.doubled t2.doubled (claim o (end_point l.1)) true) high (put_takes t1 t2 l.0.1.0 (end_point l.1) true second_at)) third);
      puts = λ _. record {
        each_node = ap (λ v. length v.items) points ∙ t2_tells.each_node;
        points = λ n h. ap (λ v. get_or v.items n None) points ∙ t2_tells.points n h;
        nodes = λ v. ap (λ m. get are_one m v) nodes ∙ t2_tells.nodes v;
      };
    }

pub parts_first : (t0 t1 : Taken) (l : Leg) (middle : List GridPoint) (p : GridPoint) (r : Bool) → l.0.0.0 < l.0.1.0 → l.0.1.0 < length t0.points.items → p ≡ l.1.start
    → Puts t0 t1 l.0.0.0 p r → r ≡ false
    → (legs : List Leg) (count : ℕ) → IsTaken count legs t0 → EndsFit (puts_of legs ++ puts_by l) → TakesParts t0 t1 l middle false legs count
parts_first t0 t1 l middle p r order room e first not_free legs count tells fit =
    let first_at : Puts t0 t1 l.0.0.0 l.1.start false = subst (Puts t0 t1 l.0.0.0 l.1.start) not_free (subst (λ v. Puts t0 t1 l.0.0.0 v r) e first) in
    record {
      takes = Takes-stop t0.doubled t1.doubled (claim (point_in (puts_of legs) l.0.0.0) l.1.start) (claim (point_in (puts_of legs) l.0.1.0) (end_point l.1) ++ middle)
          (subst (λ o. Takes t0.doubled t1.doubled (claim o l.1.start) false) (low_claim t0 l order room legs count tells) (put_takes t0 t1 l.0.0.0 l.1.start false first_at));
      puts = λ h. absurd (false≢true h);
    }

pub parts_second : (t0 t1 t2 : Taken) (l : Leg) (middle : List GridPoint) (p q : GridPoint) (r s : Bool) → l.0.0.0 < l.0.1.0 → l.0.1.0 < length t0.points.items → p ≡ l.1.start → q ≡ end_point l.1
    → Puts t0 t1 l.0.0.0 p r → r ≡ true → Puts t1 t2 l.0.1.0 q s → s ≡ false
    → (legs : List Leg) (count : ℕ) → IsTaken count legs t0 → EndsFit (puts_of legs ++ puts_by l) → TakesParts t0 t2 l middle false legs count
parts_second t0 t1 t2 l middle p q r s order room e f first free second not_free legs count tells fit =
    let first_at : Puts t0 t1 l.0.0.0 l.1.start true = subst (Puts t0 t1 l.0.0.0 l.1.start) free (subst (λ v. Puts t0 t1 l.0.0.0 v r) e first) in
    let second_at : Puts t1 t2 l.0.1.0 (end_point l.1) false = subst (Puts t1 t2 l.0.1.0 (end_point l.1)) not_free (subst (λ v. Puts t1 t2 l.0.1.0 v s) f second) in
    let t1_tells = low_tells t0 t1 l true order room legs count tells fit first_at in
    let high = high_claim t1 l order legs count (subst (λ k. l.0.1.0 < k) tells.each_node room) t1_tells in
    record {
      takes = Takes-more t0.doubled t1.doubled t2.doubled (claim (point_in (puts_of legs) l.0.0.0) l.1.start) (claim (point_in (puts_of legs) l.0.1.0) (end_point l.1) ++ middle) false
          (subst (λ o. Takes t0.doubled t1.doubled (claim o l.1.start) true) (low_claim t0 l order room legs count tells) (put_takes t0 t1 l.0.0.0 l.1.start true first_at))
          (Takes-stop t1.doubled t2.doubled (claim (point_in (puts_of legs) l.0.1.0) (end_point l.1)) middle
          (subst (λ o. Takes t1.doubled t2.doubled (claim o (end_point l.1)) false) high (put_takes t1 t2 l.0.1.0 (end_point l.1) false second_at)));
      puts = λ h. absurd (false≢true h);
    }

-- the doubled points of a walk, by its runs
pub way_of_runs : (w : PlainWalk) (rs : List Run) → steps_of rs ≡ w.steps → are_runs rs ≡ true → IsWalk w
    → doubled_of w ≡ doubled w.start ∷ (trail (doubled w.start) (half_steps rs) ++ doubled (end_point w) ∷ [])
way_of_runs w rs e runs walk =
    ap (doubled_from w.start) (sym e)
    ∙ doubled_from-runs w.start rs runs (runs-some rs (subst (λ ds. 0 < length ds) (sym e) walk.some))
    ∙ ap (λ ds. doubled w.start ∷ (trail (doubled w.start) (half_steps rs) ++ doubled (after w.start ds) ∷ [])) e

-- what holds of an answer
pub if_ok : {X E : Type 0} (r : Result X E) (P Q : X → Type 0) → ((x : X) → P x → Q x) → IfOk r P → IfOk r Q
if_ok (Ok x) P Q f h = f x h
if_ok (Err e) P Q f h = h
