-- Terms as they are seen from segments far from a rule: a rule gives some terms another segment's number, and drops terms
-- that no far segment sees.
use Rattle.std.proofs.Common.{◌≡◌, ℕ, ◌==◌, Bool, true, false, not, ◌||◌, ◌&&◌, refl, sym, ap, ◌∙◌, inl, inr, true≢false, eqb-true, nat_lt, arith}
use Rattle.std.specs.Prelude.{if◌then◌else◌}
use Rattle.std.proofs.lemmas.Bool.Decides.{nat_tests}
use Rattle.map_base.specs.declared.ids.SegId.{SegId}
use Rattle.map_base.specs.declared.ids.LineId.{LineId}
use Rattle.order_model.specs.declared.term.Term.{Term}
use Rattle.order_model.specs.declared.term.Term.TheVariants.{Side, Link, Apart}
use Rattle.order_model.specs.Costs.{are_these, same_answer}
use Rattle.order_model.specs.Parts.{are_ends, is_between}
use Rattle.order_model.proofs.Lines.{both_true, either_true, neither}
use Rattle.order_rules.specs.PairWeights.{is_link, is_on}
use Rattle.order_rules.specs.Merging.{is_link_between, renamed, turned, moved}
use Rattle.order_rules.specs.Dividing.{renumbered}
use Rattle.order_rules.proofs.Unchanged.{AreAlike, IsUnseen}

or_turned : (a b : Bool) → (a || b) ≡ (b || a)
or_turned true true = refl
or_turned true false = refl
or_turned false true = refl
or_turned false false = refl

and_turned : (a b : Bool) → (a && b) ≡ (b && a)
and_turned true true = refl
and_turned true false = refl
and_turned false true = refl
and_turned false false = refl

both_turned : (a b c d : Bool) → ((a && b) || (c && d)) ≡ ((d && c) || (b && a))
both_turned a b c d =
    or_turned (a && b) (c && d) ∙ (ap (λ (x : Bool). x || (a && b)) (and_turned c d) ∙ ap (λ (x : Bool). (d && c) || x) (and_turned a b))

pub not_turned : (a b : ℕ) → (a == b) ≡ false → (b == a) ≡ false
not_turned a b h = grind (arith, nat_tests)

-- A term with its lesser segment first.

-- from every segment it looks the same
turned_alike : (far : SegId → Type 0) (t : Term) → AreAlike far t (turned t)
turned_alike far (Side seg first second w) = record {
  side = refl;
  link = refl;
  apart = refl;
  weight = refl;
  lines = λ a b. refl;
  on = λ s h. refl;
  between = λ e f h k. refl;
  flip = λ e f q h k l. refl;
  against = λ s a b h. refl;
}
turned_alike far (Link seg other flip x y w) = by_test (nat_lt other.0 seg.0)
  where
    by_test : (c : Bool) → AreAlike far (Link seg other flip x y w) (if c then Link other seg flip x y w else Link seg other flip x y w)
    by_test true = record {
      side = refl;
      link = refl;
      apart = refl;
      weight = refl;
      lines = λ a b. refl;
      on = λ s h. or_turned (other.0 == s.0) (seg.0 == s.0);
      between = λ e f h k. both_turned (other.0 == e.0) (seg.0 == f.0) (other.0 == f.0) (seg.0 == e.0);
      flip = λ e f q h k l. refl;
      against = λ s a b h. ap (λ (c : Bool). c && are_these x y a b) (or_turned (other.0 == s.0) (seg.0 == s.0));
    }
    by_test false = record {
      side = refl;
      link = refl;
      apart = refl;
      weight = refl;
      lines = λ a b. refl;
      on = λ s h. refl;
      between = λ e f h k. refl;
      flip = λ e f q h k l. refl;
      against = λ s a b h. refl;
    }
turned_alike far (Apart seg other x y w) = by_test (nat_lt other.0 seg.0)
  where
    by_test : (c : Bool) → AreAlike far (Apart seg other x y w) (if c then Apart other seg x y w else Apart seg other x y w)
    by_test true = record {
      side = refl;
      link = refl;
      apart = refl;
      weight = refl;
      lines = λ a b. refl;
      on = λ s h. or_turned (other.0 == s.0) (seg.0 == s.0);
      between = λ e f h k. both_turned (other.0 == e.0) (seg.0 == f.0) (other.0 == f.0) (seg.0 == e.0);
      flip = λ e f q h k l. refl;
      against = λ s a b h. ap (λ (c : Bool). c && are_these x y a b) (or_turned (other.0 == s.0) (seg.0 == s.0));
    }
    by_test false = record {
      side = refl;
      link = refl;
      apart = refl;
      weight = refl;
      lines = λ a b. refl;
      on = λ s h. refl;
      between = λ e f h k. refl;
      flip = λ e f q h k l. refl;
      against = λ s a b h. refl;
    }

alike_next : (far : SegId → Type 0) (t u v : Term) → AreAlike far t u → AreAlike far u v → AreAlike far t v
alike_next far t u v h k = record {
  side = k.side ∙ h.side;
  link = k.link ∙ h.link;
  apart = k.apart ∙ h.apart;
  weight = k.weight ∙ h.weight;
  lines = λ a b. k.lines a b ∙ h.lines a b;
  on = λ s m. k.on s m ∙ h.on s m;
  between = λ e f m n. k.between e f m n ∙ h.between e f m n;
  flip = λ e f q m n l. k.flip e f q m n (link_still e f m n l) ∙ h.flip e f q m n l;
  against = λ s a b m. k.against s a b m ∙ h.against s a b m;
}
  where
    link_still : (e f : SegId) → far e → far f → is_link_between e f t ≡ true → is_link_between e f u ≡ true
    link_still e f m n l =
        ap (λ (c : Bool). c && is_between u e.0 f.0) h.link ∙ (ap (λ (c : Bool). is_link t && c) (h.between e f m n) ∙ l)

-- One segment's number in place of another's.

module _ (e f : SegId) where
  -- neither of the two
  abbrev pub IsFar : SegId → Type 0
  IsFar s = ((e.0 == s.0) ≡ false) × ((f.0 == s.0) ≡ false)

  end_same : (s x : SegId) → IsFar s → ((renamed e f x).0 == s.0) ≡ (x.0 == s.0)
  end_same s x h = by_test (x.0 == f.0) refl
    where
      by_test : (c : Bool) → (x.0 == f.0) ≡ c → ((if c then e else x).0 == s.0) ≡ (x.0 == s.0)
      by_test true k = h.0 ∙ sym (ap (λ (n : ℕ). n == s.0) (eqb-true x.0 f.0 k) ∙ h.1)
      by_test false k = refl

  ends_same : (s o x y : SegId) → IsFar s → IsFar o → are_ends (renamed e f x).0 (renamed e f y).0 s.0 o.0 ≡ are_ends x.0 y.0 s.0 o.0
  ends_same s o x y h k =
      four ((renamed e f x).0 == s.0) ((renamed e f y).0 == o.0) ((renamed e f x).0 == o.0) ((renamed e f y).0 == s.0) (x.0 == s.0) (y.0 == o.0) (x.0 == o.0) (y.0 == s.0)
      (end_same s x h) (end_same o y k) (end_same o x k) (end_same s y h)
    where
      four : (a b c d p q r t : Bool) → a ≡ p → b ≡ q → c ≡ r → d ≡ t → ((a && b) || (c && d)) ≡ ((p && q) || (r && t))
      four a b c d p q r t h k l m = cc

  on_same : (s x y : SegId) → IsFar s → ((renamed e f x).0 == s.0 || (renamed e f y).0 == s.0) ≡ (x.0 == s.0 || y.0 == s.0)
  on_same s x y h =
      ap (λ (c : Bool). c || (renamed e f y).0 == s.0) (end_same s x h) ∙ ap (λ (c : Bool). x.0 == s.0 || c) (end_same s y h)

  side_alike : (seg : SegId) (first second : LineId) (w : ℕ) → AreAlike IsFar (Side seg first second w) (Side (renamed e f seg) first second w)
  side_alike seg first second w = record {
    side = refl;
    link = refl;
    apart = refl;
    weight = refl;
    lines = λ a b. refl;
    on = λ s h. on_same s seg seg h;
    between = λ s o h k. refl;
    flip = λ s o q h k l. refl;
    against = λ s a b h. ap (λ (c : Bool). c && first.0 == b.0 && second.0 == a.0) (end_same s seg h);
  }

  -- a Link whose flip stays where it lies between far segments
  link_alike : (seg other : SegId) (turns now : Bool) (x y : LineId) (w : ℕ)
      → ((s o : SegId) → IsFar s → IsFar o → are_ends seg.0 other.0 s.0 o.0 ≡ true → now ≡ turns)
      → AreAlike IsFar (Link seg other turns x y w) (Link (renamed e f seg) (renamed e f other) now x y w)
  link_alike seg other turns now x y w same = record {
    side = refl;
    link = refl;
    apart = refl;
    weight = refl;
    lines = λ a b. refl;
    on = λ s h. on_same s seg other h;
    between = λ s o h k. ends_same s o seg other h k;
    flip = λ s o q h k l. ap (same_answer q) (same s o h k l);
    against = λ s a b h. ap (λ (c : Bool). c && are_these x y a b) (on_same s seg other h);
  }

  apart_alike : (seg other : SegId) (x y : LineId) (w : ℕ) → AreAlike IsFar (Apart seg other x y w) (Apart (renamed e f seg) (renamed e f other) x y w)
  apart_alike seg other x y w = record {
    side = refl;
    link = refl;
    apart = refl;
    weight = refl;
    lines = λ a b. refl;
    on = λ s h. on_same s seg other h;
    between = λ s o h k. ends_same s o seg other h k;
    flip = λ s o q h k l. absurd (true≢false (sym l));
    against = λ s a b h. ap (λ (c : Bool). c && are_these x y a b) (on_same s seg other h);
  }

  then_turned : (t u : Term) → AreAlike IsFar t u → AreAlike IsFar t (turned u)
  then_turned t u h = alike_next IsFar t u (turned u) h (turned_alike IsFar u)

  pub renumbered_alike : (t : Term) → AreAlike IsFar t (renumbered f e t)
  renumbered_alike (Side seg first second w) = side_alike seg first second w
  renumbered_alike (Link seg other flip x y w) =
      then_turned (Link seg other flip x y w) (Link (renamed e f seg) (renamed e f other) flip x y w) (link_alike seg other flip flip x y w (λ s o h k l. refl))
  renumbered_alike (Apart seg other x y w) =
      then_turned (Apart seg other x y w) (Apart (renamed e f seg) (renamed e f other) x y w) (apart_alike seg other x y w)

  -- an end that is far is not f
  not_end : (x s : SegId) → (x.0 == s.0) ≡ true → IsFar s → (x.0 == f.0) ≡ false
  not_end x s h far = ap (λ (n : ℕ). n == f.0) (eqb-true x.0 s.0 h) ∙ not_turned f.0 s.0 far.1

  flip_stays : (flip : Bool) (seg other : SegId) (turns : Bool) (s o : SegId) → IsFar s → IsFar o → are_ends seg.0 other.0 s.0 o.0 ≡ true
      → (if (seg.0 == f.0 || other.0 == f.0) && flip then not turns else turns) ≡ turns
  flip_stays flip seg other turns s o h k l = elim (either_true (seg.0 == s.0 && other.0 == o.0) (seg.0 == o.0 && other.0 == s.0) l) [
    | inl m ↦ (let parts = both_true (seg.0 == s.0) (other.0 == o.0) m in by_parts (not_end seg s parts.0 h) (not_end other o parts.1 k))
    | inr m ↦ (let parts = both_true (seg.0 == o.0) (other.0 == s.0) m in by_parts (not_end seg o parts.0 k) (not_end other s parts.1 h))
  ]
    where
      by_parts : (seg.0 == f.0) ≡ false → (other.0 == f.0) ≡ false → (if (seg.0 == f.0 || other.0 == f.0) && flip then not turns else turns) ≡ turns
      by_parts a b =
          ap (λ (c : Bool). if (c || other.0 == f.0) && flip then not turns else turns) a ∙ ap (λ (c : Bool). if c && flip then not turns else turns) b

  pub moved_alike : (flip : Bool) (t : Term) → AreAlike IsFar t (moved e f flip t)
  moved_alike flip (Side seg first second w) = by_tests (seg.0 == f.0) flip refl
    where
      by_tests : (c d : Bool) → (seg.0 == f.0) ≡ c → AreAlike IsFar (Side seg first second w) (if c && d then Side e second first w else Side (renamed e f seg) first second w)
      by_tests true true h = record {
        side = refl;
        link = refl;
        apart = refl;
        weight = refl;
        lines = λ a b. both_turned (second.0 == a.0) (first.0 == b.0) (second.0 == b.0) (first.0 == a.0);
        on = λ s k. ap (λ (c : Bool). c || c) (k.0 ∙ sym (at_f s k));
        between = λ s o k l. refl;
        flip = λ s o q k l m. refl;
        against = λ s a b k. ap (λ (c : Bool). c && second.0 == b.0 && first.0 == a.0) k.0 ∙ sym (ap (λ (c : Bool). c && first.0 == b.0 && second.0 == a.0) (at_f s k));
      }
        where
          at_f : (s : SegId) → IsFar s → (seg.0 == s.0) ≡ false
          at_f s k = ap (λ (n : ℕ). n == s.0) (eqb-true seg.0 f.0 h) ∙ k.1
      by_tests true false h = side_alike seg first second w
      by_tests false d h = side_alike seg first second w
  moved_alike flip (Link seg other turns x y w) =
      then_turned (Link seg other turns x y w)
      (Link (renamed e f seg) (renamed e f other) (if (seg.0 == f.0 || other.0 == f.0) && flip then not turns else turns) x y w)
      (link_alike seg other turns (if (seg.0 == f.0 || other.0 == f.0) && flip then not turns else turns) x y w (flip_stays flip seg other turns))
  moved_alike flip (Apart seg other x y w) =
      then_turned (Apart seg other x y w) (Apart (renamed e f seg) (renamed e f other) x y w) (apart_alike seg other x y w)

-- Terms that no far segment sees.

no_ends : (seg other e f : SegId) → (seg.0 == e.0) ≡ false → (other.0 == e.0) ≡ false → are_ends seg.0 other.0 e.0 f.0 ≡ false
no_ends seg other e f h k =
    ap (λ (c : Bool). (c && other.0 == f.0) || (seg.0 == f.0 && other.0 == e.0)) h
    ∙ (ap (λ (c : Bool). seg.0 == f.0 && c) k ∙ and_turned (seg.0 == f.0) false)

pub unseen : (far : SegId → Type 0) (t : Term) → ((s : SegId) → far s → is_on s t ≡ false) → IsUnseen far t
unseen far (Side seg first second w) h = record {
  on = h;
  between = λ e f k l. refl;
  against = λ s a b k. ap (λ (c : Bool). c && first.0 == b.0 && second.0 == a.0) (neither (seg.0 == s.0) (seg.0 == s.0) (h s k)).0;
}
unseen far (Link seg other flip x y w) h = record {
  on = h;
  between = λ e f k l. no_ends seg other e f (neither (seg.0 == e.0) (other.0 == e.0) (h e k)).0 (neither (seg.0 == e.0) (other.0 == e.0) (h e k)).1;
  against = λ s a b k. ap (λ (c : Bool). c && are_these x y a b) (h s k);
}
unseen far (Apart seg other x y w) h = record {
  on = h;
  between = λ e f k l. no_ends seg other e f (neither (seg.0 == e.0) (other.0 == e.0) (h e k)).0 (neither (seg.0 == e.0) (other.0 == e.0) (h e k)).1;
  against = λ s a b k. ap (λ (c : Bool). c && are_these x y a b) (h s k);
}

ends_unseen : (e f seg other s : SegId) → are_ends seg.0 other.0 e.0 f.0 ≡ true → IsFar e f s → (seg.0 == s.0 || other.0 == s.0) ≡ false
ends_unseen e f seg other s h far = elim (either_true (seg.0 == e.0 && other.0 == f.0) (seg.0 == f.0 && other.0 == e.0) h) [
  | inl k ↦ (let parts = both_true (seg.0 == e.0) (other.0 == f.0) k in
      both_false (ap (λ (n : ℕ). n == s.0) (eqb-true seg.0 e.0 parts.0) ∙ far.0) (ap (λ (n : ℕ). n == s.0) (eqb-true other.0 f.0 parts.1) ∙ far.1))
  | inr k ↦ (let parts = both_true (seg.0 == f.0) (other.0 == e.0) k in
      both_false (ap (λ (n : ℕ). n == s.0) (eqb-true seg.0 f.0 parts.0) ∙ far.1) (ap (λ (n : ℕ). n == s.0) (eqb-true other.0 e.0 parts.1) ∙ far.0))
]
  where
    both_false : (seg.0 == s.0) ≡ false → (other.0 == s.0) ≡ false → (seg.0 == s.0 || other.0 == s.0) ≡ false
    both_false a b = ap (λ (c : Bool). c || other.0 == s.0) a ∙ b

-- what lies between two segments is seen from these alone
pub between_unseen : (e f : SegId) (t : Term) → is_between t e.0 f.0 ≡ true → IsUnseen (IsFar e f) t
between_unseen e f (Side seg first second w) h = absurd (true≢false (sym h))
between_unseen e f (Link seg other flip x y w) h = unseen (IsFar e f) (Link seg other flip x y w) (λ s k. ends_unseen e f seg other s h k)
between_unseen e f (Apart seg other x y w) h = unseen (IsFar e f) (Apart seg other x y w) (λ s k. ends_unseen e f seg other s h k)
