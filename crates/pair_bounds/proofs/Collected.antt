-- What is gathered of a pair's terms, one after the other.
use Rattle.std.proofs.Common.{◌≡◌, ℕ, zero, suc, ◌+◌, ◌*◌, ◌^◌, ◌≤◌, ◌==◌, Bool, true, false, not, cond, ◌||◌, ◌&&◌, List, [], ◌∷◌, ◌++◌, length, map, take, refl, sym, ap, subst, ◌∙◌, arith, eqb-true, true≢false, append_assoc}
use Rattle.std.specs.Prelude.{pos, ◌+ℤ◌, sum_by}
use Rattle.std.specs.List.{All, AllByRecursion}
use Rattle.std.proofs.lemmas.List.{append-nil}
use Rattle.std.proofs.lemmas.Int.{ints}
use Rattle.std.proofs.lemmas.List.Elements.{All-nil, All-cons, All-head, All-tail}
use Rattle.std.proofs.lemmas.List.Sums.{sum_by_push, sum_by-cons}
use Rattle.map_base.specs.declared.ids.SegId.{SegId}
use Rattle.map_base.specs.declared.ids.LineId.{LineId}
use Rattle.order_model.specs.declared.term.Term.{Term}
use Rattle.order_model.specs.declared.term.Term.TheVariants.{Side, Link, Apart}
use Rattle.order_model.specs.Problems.{lines_on}
use Rattle.order_model.specs.Costs.{comes_before, same_answer}
use Rattle.order_model.specs.Looks.{is_decided}
use Rattle.order_model.specs.Problems.{IsTerm}
use Rattle.order_model.specs.PartTerms.{is_in}
use Rattle.pair_bounds.specs.declared.slots.Slot.{Slot}
use Rattle.pair_bounds.specs.declared.term_look.TermLook.{TermLook}
use Rattle.pair_bounds.specs.declared.term_look.TermLook.TheVariants.{Decided, OnSegment, Between}
use Rattle.order_bound.specs.Pairs.{pair_of, is_pair, pair_in, joined, kept, open_link, open_links}
use Rattle.order_bound.specs.declared.pairs.Pair.{Pair}
use Rattle.order_bound.specs.declared.pairs.OpenLink.{OpenLink}
use Rattle.order_bound.specs.Bounds.{open_cost, slot_cost}
use Rattle.pair_bounds.specs.Counted.{counted_cost}
use Rattle.pair_bounds.specs.TermLooks.{look_of, look_decided, look_open, look_link}
use Rattle.pair_bounds.specs.Slots.{slot_at, slots_of, IsCollected, IsSmall, slot_more, slot_relabelled, label_in, slots_after, links_after}
use Rattle.order_bound.proofs.Forests.{labels_after}
use Rattle.order_bound.proofs.Worth.{IsBetween}
use Rattle.pair_bounds.proofs.TermLooks.{decided_is, open_is, link_is}

-- Kept Links, one Link more.

pub kept_push : (label : ℕ → ℕ) (links : List OpenLink) (l : OpenLink) → kept label (links ++ l ∷ []) ≡ kept label links ++ kept (labels_after label (kept label links)) (l ∷ [])
kept_push label [] l = refl
kept_push label (m ∷ links) l = by_test (label m.seg.0 == label m.other.0) (kept_push label links l) (kept_push (joined label m.seg.0 m.other.0) links l)
  where
    by_test : (b : Bool) → kept label (links ++ l ∷ []) ≡ kept label links ++ kept (labels_after label (kept label links)) (l ∷ [])
        → kept (joined label m.seg.0 m.other.0) (links ++ l ∷ []) ≡ kept (joined label m.seg.0 m.other.0) links ++ kept (labels_after (joined label m.seg.0 m.other.0) (kept (joined label m.seg.0 m.other.0) links)) (l ∷ [])
        → cond b (kept label (links ++ l ∷ [])) (m ∷ kept (joined label m.seg.0 m.other.0) (links ++ l ∷ []))
        ≡ cond b (kept label links) (m ∷ kept (joined label m.seg.0 m.other.0) links)
        ++ kept (labels_after label (cond b (kept label links) (m ∷ kept (joined label m.seg.0 m.other.0) links))) (l ∷ [])
    by_test true same rest = same
    by_test false same rest = ap (λ k. m ∷ k) rest

pub labels_push : (label : ℕ → ℕ) (links : List OpenLink) (l : OpenLink) (s : ℕ) → labels_after label (links ++ l ∷ []) s ≡ joined (labels_after label links) l.seg.0 l.other.0 s
labels_push label [] l s = refl
labels_push label (m ∷ links) l s = labels_push (joined label m.seg.0 m.other.0) links l s

-- Labels in slots.

pub label_found : (label : ℕ → ℕ) (cost : SegId → Bool → ℕ) (segs : List SegId) (s : SegId) → is_in segs s ≡ true → label_in (slots_of label cost segs) s ≡ label s.0
label_found label cost [] s h = absurd (true≢false (sym h))
label_found label cost (t ∷ segs) s h = by_test (t.0 == s.0) refl h (label_found label cost segs s)
  where
    by_test : (b : Bool) → (t.0 == s.0) ≡ b → (b || is_in segs s) ≡ true → (is_in segs s ≡ true → label_in (slots_of label cost segs) s ≡ label s.0)
        → cond b (label t.0) (label_in (slots_of label cost segs) s) ≡ label s.0
    by_test true e h rest = ap label (eqb-true t.0 s.0 e)
    by_test false e h rest = rest h

pub slots_relabelled : (label : ℕ → ℕ) (cost : SegId → Bool → ℕ) (segs : List SegId) (one two : ℕ) (next : ℕ → ℕ)
    → ((s : ℕ) → next s ≡ cond (label s == two) one (label s)) → map (slot_relabelled one two) (slots_of label cost segs) ≡ slots_of next cost segs
slots_relabelled label cost [] one two next h = refl
slots_relabelled label cost (s ∷ segs) one two next h =
    let Q : ℕ → Slot = λ n. record { seg = s; label = n; lesser_first = pos (cost s true); greater_first = pos (cost s false) } in
    ap (λ n. Q n ∷ map (slot_relabelled one two) (slots_of label cost segs)) (sym (h s.0)) ∙ ap (λ k. Q (next s.0) ∷ k) (slots_relabelled label cost segs one two next h)

pub slots_same : (one two : ℕ → ℕ) (cost cost2 : SegId → Bool → ℕ) (segs : List SegId) → ((s : ℕ) → one s ≡ two s) → ((s : SegId) (x : Bool) → cost s x ≡ cost2 s x) → slots_of one cost segs ≡ slots_of two cost2 segs
slots_same one two cost cost2 [] h k = refl
slots_same one two cost cost2 (s ∷ segs) h k =
    let Q : ℕ → ℕ → ℕ → Slot = λ n a b. record { seg = s; label = n; lesser_first = pos a; greater_first = pos b } in
    ap (λ n. Q n (cost s true) (cost s false) ∷ slots_of one cost segs) (h s.0) ∙ (ap (λ a. Q (two s.0) a (cost s false) ∷ slots_of one cost segs) (k s true)
    ∙ (ap (λ b. Q (two s.0) (cost2 s true) b ∷ slots_of one cost segs) (k s false) ∙ ap (λ r. Q (two s.0) (cost2 s true) (cost2 s false) ∷ r) (slots_same one two cost cost2 segs h k)))

pub slots_more : (label : ℕ → ℕ) (cost : SegId → Bool → ℕ) (segs : List SegId) (seg : SegId) (a b : ℕ)
    → map (slot_more seg a b) (slots_of label cost segs) ≡ slots_of label (λ s x. cost s x + cond (seg.0 == s.0) (cond x a b) 0) segs
slots_more label cost [] seg a b = refl
slots_more label cost (s ∷ segs) seg a b = by_test (seg.0 == s.0) (slots_more label cost segs seg a b)
  where
    none : (m : ℕ) → m + 0 ≡ m
    none m = omega arith

    by_test : (t : Bool) → map (slot_more seg a b) (slots_of label cost segs) ≡ slots_of label (λ s x. cost s x + cond (seg.0 == s.0) (cond x a b) 0) segs
        → cond t (record { seg = s; label = label s.0; lesser_first = pos (cost s true) +ℤ pos a; greater_first = pos (cost s false) +ℤ pos b })
        (record { seg = s; label = label s.0; lesser_first = pos (cost s true); greater_first = pos (cost s false) }) ∷ map (slot_more seg a b) (slots_of label cost segs)
        ≡ record { seg = s; label = label s.0; lesser_first = pos (cost s true + cond t a 0); greater_first = pos (cost s false + cond t b 0) }
        ∷ slots_of label (λ s x. cost s x + cond (seg.0 == s.0) (cond x a b) 0) segs
    by_test true rest = ap (λ r. record { seg = s; label = label s.0; lesser_first = pos (cost s true + a); greater_first = pos (cost s false + b) } ∷ r) rest
    by_test false rest = rw (none (cost s true), none (cost s false)) (ap (λ r. record { seg = s; label = label s.0; lesser_first = pos (cost s true); greater_first = pos (cost s false) } ∷ r) rest)

-- One term more.

open_links_push : (placed : List (List LineId)) (p : Pair) (done : List (ℕ × Term)) (t : ℕ × Term) → open_links placed p (done ++ t ∷ []) ≡ open_links placed p done ++ open_link placed p t.0 t.1
open_links_push placed p [] t = append-nil (open_link placed p t.0 t.1)
open_links_push placed p (u ∷ done) t =
    ap (λ k. open_link placed p u.0 u.1 ++ k) (open_links_push placed p done t) ∙ sym (append_assoc (open_link placed p u.0 u.1) (open_links placed p done) (open_link placed p t.0 t.1))

cost_push : (placed : List (List LineId)) (p : Pair) (done : List (ℕ × Term)) (t : ℕ × Term) (s : SegId) (x : Bool) → slot_cost placed (done ++ t ∷ []) p s x ≡ slot_cost placed done p s x + open_cost placed p s x t.1
cost_push placed p done t s x = sum_by_push (λ (t : ℕ × Term). open_cost placed p s x t.1) done t

module _ (segs placed : List (List LineId)) (p : Pair) (open_segs : List SegId) (done : List (ℕ × Term)) (t : ℕ × Term) (base : ℕ) (slots : List Slot) (links : List OpenLink)
    (ok : IsCollected segs placed p open_segs done base slots links) where
  abbrev label : ℕ → ℕ
  label s = labels_after (λ s. s) links s

  abbrev cost : SegId → Bool → ℕ
  cost s x = slot_cost placed done p s x

  more_base : (n : ℕ) → counted_cost segs placed t.1 ≡ n → base + n ≡ sum_by (λ (t : ℕ × Term). counted_cost segs placed t.1) (done ++ t ∷ [])
  more_base n h = let sums = sum_by_push (λ (t : ℕ × Term). counted_cost segs placed t.1) done t in let is = ok.base_is in omega (arith, sums, is, h)

  same_links : open_link placed p t.0 t.1 ≡ [] → links ≡ kept (λ s. s) (open_links placed p (done ++ t ∷ []))
  same_links h = ok.links_are ∙ ap (kept (λ s. s)) (sym (open_links_push placed p done t ∙ (ap (λ k. open_links placed p done ++ k) h ∙ append-nil (open_links placed p done))))

  more_links : (l : OpenLink) → open_link placed p t.0 t.1 ≡ l ∷ [] → links ++ kept label (l ∷ []) ≡ kept (λ s. s) (open_links placed p (done ++ t ∷ []))
  more_links l h =
      let pushed = kept_push (λ s. s) (open_links placed p done) l in
      let whole : open_links placed p (done ++ t ∷ []) ≡ open_links placed p done ++ l ∷ [] = open_links_push placed p done t ∙ ap (λ k. open_links placed p done ++ k) h in
      sym (ap (kept (λ s. s)) whole ∙ (pushed ∙ ap (λ k. k ++ kept (labels_after (λ s. s) k) (l ∷ [])) (sym ok.links_are)))

  by_look : (look : TermLook) → counted_cost segs placed t.1 ≡ look_decided look → ((s : SegId) (x : Bool) → open_cost placed p s x t.1 ≡ look_open s x look) → open_link placed p t.0 t.1 ≡ look_link look
      → AllByRecursion (IsBetween open_segs) (look_link look)
      → IsCollected segs placed p open_segs (done ++ t ∷ []) (base + look_decided look) (slots_after look slots) (links_after look slots links)
  by_look (Decided n) h k l between = record {
    base_is = more_base n h;
    slots_are = ok.slots_are ∙ slots_same label label cost (slot_cost placed (done ++ t ∷ []) p) open_segs (λ s. refl)
        (λ s x. let push = cost_push placed p done t s x in let none = k s x in omega (arith, push, none));
    links_are = same_links l;
  }
  by_look (OnSegment seg a b) h k l between = record {
    base_is = more_base 0 h;
    slots_are = ap (map (slot_more seg a b)) ok.slots_are ∙ (slots_more label cost open_segs seg a b
        ∙ slots_same label label (λ s x. cost s x + cond (seg.0 == s.0) (cond x a b) 0) (slot_cost placed (done ++ t ∷ []) p) open_segs (λ s. refl)
        (λ s x. ap (λ n. cost s x + n) (sym (k s x)) ∙ sym (cost_push placed p done t s x)));
    links_are = same_links l;
  }
  by_look (Between m) h k l between = by_test (label m.seg.0 == label m.other.0) refl
    where
      here : label_in slots m.seg ≡ labels_after (λ s. s) links m.seg.0
      here = ap (λ v. label_in v m.seg) ok.slots_are ∙ label_found label cost open_segs m.seg between.0.here

      there : label_in slots m.other ≡ labels_after (λ s. s) links m.other.0
      there = ap (λ v. label_in v m.other) ok.slots_are ∙ label_found label cost open_segs m.other between.0.there

      same_cost : (s : SegId) (x : Bool) → slot_cost placed done p s x ≡ slot_cost placed (done ++ t ∷ []) p s x
      same_cost s x = let push = cost_push placed p done t s x in let none = k s x in omega (arith, push, none)

      by_test : (b : Bool) → (label m.seg.0 == label m.other.0) ≡ b
          → IsCollected segs placed p open_segs (done ++ t ∷ []) (base + 0) (slots_after (Between m) slots) (links_after (Between m) slots links)
      by_test true e =
          let test : (label_in slots m.seg == label_in slots m.other) ≡ true = ap (λ n. n == label_in slots m.other) here ∙ (ap (λ n. label m.seg.0 == n) there ∙ e) in
          rw test (record {
            base_is = more_base 0 h;
            slots_are = ok.slots_are ∙ slots_same label label cost (slot_cost placed (done ++ t ∷ []) p) open_segs (λ s. refl) same_cost;
            links_are = sym (append-nil links) ∙ (ap (λ n. links ++ n) (sym (none_kept e)) ∙ more_links m l);
          })
        where
          none_kept : (label m.seg.0 == label m.other.0) ≡ true → kept label (m ∷ []) ≡ []
          none_kept e = rw e refl
      by_test false e =
          let test : (label_in slots m.seg == label_in slots m.other) ≡ false = ap (λ n. n == label_in slots m.other) here ∙ (ap (λ n. label m.seg.0 == n) there ∙ e) in
          rw test (record {
            base_is = more_base 0 h;
            slots_are = ap (map (slot_relabelled (label_in slots m.seg) (label_in slots m.other))) ok.slots_are
                ∙ (slots_relabelled label cost open_segs (label_in slots m.seg) (label_in slots m.other) (labels_after (λ s. s) (links ++ m ∷ []))
                (λ s. labels_push (λ s. s) links m s ∙ (ap (λ n. cond (label s == n) (label m.seg.0) (label s)) (sym there) ∙ ap (λ n. cond (label s == label_in slots m.other) n (label s)) (sym here)))
                ∙ slots_same (labels_after (λ s. s) (links ++ m ∷ [])) (labels_after (λ s. s) (links ++ m ∷ [])) cost (slot_cost placed (done ++ t ∷ []) p) open_segs (λ s. refl) same_cost);
            links_are = ap (λ n. links ++ n) (sym (one_kept e)) ∙ more_links m l;
          })
        where
          one_kept : (label m.seg.0 == label m.other.0) ≡ false → kept label (m ∷ []) ≡ m ∷ []
          one_kept e = rw e refl

-- one term more is gathered
pub gather_step : (segs placed : List (List LineId)) (p : Pair) (open_segs : List SegId) (done : List (ℕ × Term)) (t : ℕ × Term) (base : ℕ) (slots : List Slot) (links : List OpenLink)
    → IsCollected segs placed p open_segs done base slots links → IsTerm segs t.1 → p ≡ pair_in t.1 → AllByRecursion (IsBetween open_segs) (open_link placed p t.0 t.1)
    → IsCollected segs placed p open_segs (done ++ t ∷ []) (base + look_decided (look_of segs placed t.0 t.1)) (slots_after (look_of segs placed t.0 t.1) slots) (links_after (look_of segs placed t.0 t.1) slots links)
gather_step segs placed p open_segs done t base slots links ok known mine between =
    by_look segs placed p open_segs done t base slots links ok (look_of segs placed t.0 t.1) (decided_is segs placed t.0 t.1)
    (λ s x. open_is segs placed p s x t.0 t.1 known mine) (link_is segs placed p t.0 t.1 mine)
    (subst (AllByRecursion (IsBetween open_segs)) (link_is segs placed p t.0 t.1 mine) between)

-- Costs are small.

cond_most : (b : Bool) (n m : ℕ) → n ≤ m → cond b n 0 ≤ m
cond_most true n m h = h
cond_most false n m h = omega arith

cond_turned_most : (b : Bool) (n m : ℕ) → n ≤ m → cond b 0 n ≤ m
cond_turned_most true n m h = omega arith
cond_turned_most false n m h = h

either_most : (b : Bool) (n k m : ℕ) → n ≤ m → k ≤ m → cond b n k ≤ m
either_most true n k m h g = h
either_most false n k m h g = g

open_cost_most : (segs placed : List (List LineId)) (p : Pair) (s : SegId) (x : Bool) (t : Term) → IsTerm segs t → open_cost placed p s x t ≤ 256000
open_cost_most segs placed p s x (Side seg first second w) known =
    let most : w ≤ 256000 = known.weight.1 in
    cond_most (is_pair p (pair_of first second) && seg.0 == s.0 && not (is_decided placed seg first second)) (cond (same_answer (first.0 == p.lesser.0) x) 0 w) 256000
    (cond_turned_most (same_answer (first.0 == p.lesser.0) x) w 256000 most)
open_cost_most segs placed p s x (Link seg other flip a b w) known =
    let most : w ≤ 256000 = known.weight.1 in
    either_most (is_pair p (pair_of a b) && seg.0 == s.0 && not (is_decided placed seg a b) && is_decided placed other a b)
    (cond (same_answer flip (same_answer x (comes_before (lines_on placed other) a b))) w 0)
    (cond (is_pair p (pair_of a b) && other.0 == s.0 && is_decided placed seg a b && not (is_decided placed other a b)) (cond (same_answer flip (same_answer (comes_before (lines_on placed seg) a b) x)) w 0) 0) 256000
    (cond_most (same_answer flip (same_answer x (comes_before (lines_on placed other) a b))) w 256000 most)
    (cond_most (is_pair p (pair_of a b) && other.0 == s.0 && is_decided placed seg a b && not (is_decided placed other a b)) (cond (same_answer flip (same_answer (comes_before (lines_on placed seg) a b) x)) w 0) 256000
    (cond_most (same_answer flip (same_answer (comes_before (lines_on placed seg) a b) x)) w 256000 most))
open_cost_most segs placed p s x (Apart seg other a b w) known = omega arith

pub slot_cost_most : (segs placed : List (List LineId)) (p : Pair) (s : SegId) (x : Bool) (done : List (ℕ × Term)) → All (λ (t : ℕ × Term). IsTerm segs t.1) done → slot_cost placed done p s x ≤ 256000 * length done
slot_cost_most segs placed p s x [] known = omega arith
slot_cost_most segs placed p s x (t ∷ done) known =
    let rest = slot_cost_most segs placed p s x done (All-tail (λ (t : ℕ × Term). IsTerm segs t.1) t done known) in
    let one = open_cost_most segs placed p s x t.1 (All-head (λ (t : ℕ × Term). IsTerm segs t.1) t done known) in
    let sums = sum_by-cons (λ (t : ℕ × Term). open_cost placed p s x t.1) t done in
    omega (arith, rest, one, sums)

slots_small : (label : ℕ → ℕ) (cost : SegId → Bool → ℕ) (segs : List SegId) (m : ℕ) → ((s : SegId) (x : Bool) → cost s x ≤ m) → All (IsSmall m) (slots_of label cost segs)
slots_small label cost [] m h = All-nil (IsSmall m)
slots_small label cost (s ∷ segs) m h =
    All-cons (IsSmall m) (slot_at label (λ s x. pos (cost s x)) s) (slots_of label cost segs)
    (record { lesser_low = omega (arith, ints); lesser_high = omega (arith, ints, h s true); greater_low = omega (arith, ints); greater_high = omega (arith, ints, h s false) })
    (slots_small label cost segs m h)

-- gathered slots are small
pub collected_small : (segs placed : List (List LineId)) (p : Pair) (open_segs : List SegId) (done : List (ℕ × Term)) (base : ℕ) (slots : List Slot) (links : List OpenLink)
    → IsCollected segs placed p open_segs done base slots links → All (λ (t : ℕ × Term). IsTerm segs t.1) done → length done ≤ 4000000 → All (IsSmall (2 ^ 41)) slots
collected_small segs placed p open_segs done base slots links ok known few =
    subst (All (IsSmall (2 ^ 41))) (sym ok.slots_are)
    (slots_small (labels_after (λ s. s) links) (slot_cost placed done p) open_segs (2 ^ 41) (λ s x. let most = slot_cost_most segs placed p s x done known in omega (arith, most)))

small_higher : (m n : ℕ) (slot : Slot) → m ≤ n → IsSmall m slot → IsSmall n slot
small_higher m n slot h small = let a = small.lesser_low in let b = small.lesser_high in let c = small.greater_low in let d = small.greater_high in
    record { lesser_low = omega (arith, ints, a); lesser_high = omega (arith, ints, b); greater_low = omega (arith, ints, c); greater_high = omega (arith, ints, d) }

pub all_higher : (m n : ℕ) (slots : List Slot) → m ≤ n → All (IsSmall m) slots → All (IsSmall n) slots
all_higher m n [] h all = All-nil (IsSmall n)
all_higher m n (s ∷ slots) h all = All-cons (IsSmall n) s slots (small_higher m n s h (All-head (IsSmall m) s slots all)) (all_higher m n slots h (All-tail (IsSmall m) s slots all))

pub all_take : {A : Type 0} (P : A → Type 0) (xs : List A) (i : ℕ) → All P xs → All P (take i xs)
all_take P [] zero all = All-nil P
all_take P [] (suc i) all = All-nil P
all_take P (x ∷ xs) zero all = All-nil P
all_take P (x ∷ xs) (suc i) all = All-cons P x (take i xs) (All-head P x xs all) (all_take P xs i (All-tail P x xs all))
