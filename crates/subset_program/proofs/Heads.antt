-- The lines to go on with, one by one, and the best of them.
use Rattle.std.proofs.Common.{◌≡◌, ◌≢◌, ℕ, zero, suc, ◌+◌, ◌-◌, ◌<◌, ◌≤◌, Bool, true, false, cond, List, length, set, get_or-set_same, get_or-set_other, refl, sym, ◌∙◌, ap, subst, arith, ◌⊎◌, inl, inr, Option, Some, None}
use Rattle.std.specs.Prelude.{ℤ, pos, ◌+ℤ◌, ◌≤ℤ◌, int_lt, unsigned_abs}
use Rattle.std.specs.Option.{option_map}
use Rattle.std.proofs.lemmas.Bool.{cases_eq}
use Rattle.std.proofs.lemmas.Int.{ints}
use Rattle.least_orders.specs.declared.choice.Choice.{Choice}
use Rattle.least_orders.specs.Rows.{Rows, AreRows}
use Rattle.least_orders.specs.Subsets.{first_cost, choice_of, better_choice, choice_from, choice}
use Rattle.subset_program.specs.Tables.{read, no_head, head_at, best_head, HasHeads}
use Rattle.subset_program.proofs.Tails.{choice_at_end, choice_more, choice_of_all, first_small}

-- Heads.

next : (n : ℕ) → n + 1 ≡ suc n
next n = omega arith

-- one head more leaves those before it
others_stay : (r : Rows) (last : Option ℕ) (heads : List Choice) (many : ℕ) (x : Choice) (i : ℕ) → i ≤ many → best_head r last (set heads many x) i ≡ best_head r last heads i
others_stay r last heads many x zero below = refl
others_stay r last heads many x (suc i) below =
    ap (λ (h : Choice). better_choice (choice_of r last h.place (Some h.cost)) (best_head r last (set heads many x) i))
    (get_or-set_other heads many i x no_head (λ e. omega (arith, below, e)))
    ∙ ap (better_choice (choice_of r last (head_at heads i).place (Some (head_at heads i).cost))) (others_stay r last heads many x i (omega (arith, below)))

each_head : (P : Choice → Type 0) (heads : List Choice) (many : ℕ) (x : Choice) → many < length heads → P x → ((i : ℕ) → i < many → P (head_at heads i))
    → (i : ℕ) → i < many + 1 → P (head_at (set heads many x) i)
each_head P heads many x within here before i less = by_place (cases_eq i many)
  where
    by_place : (i ≡ many) ⊎ (i ≢ many) → P (head_at (set heads many x) i)
    by_place (inl is) = subst (λ j. P (head_at (set heads many x) j)) (sym is) (subst P (sym (get_or-set_same heads many x no_head within)) here)
    by_place (inr apart) = subst P (sym (get_or-set_other heads many i x no_head apart)) (before i (omega (arith, less, apart)))

pub heads_begin : (r : Rows) (s : ℕ) (heads : List Choice) → HasHeads r s r.count 0 heads
heads_begin r s heads = record {
  few = omega arith;
  known = λ i less. absurd (omega (arith, less));
  small = λ i less. absurd (omega (arith, less));
  best = λ last. choice_at_end r s last r.count;
}

pub heads_same : (r : Rows) (s k many : ℕ) (heads : List Choice) → k < r.count → HasHeads r s (k + 1) many heads → None ≡ first_cost r s k → HasHeads r s k many heads
heads_same r s k many heads below h e = record {
  few = let few = h.few in omega (arith, few);
  known = h.known;
  small = h.small;
  best = λ last.
      h.best last
      ∙ (ap (λ o. better_choice (choice_of r last k o) (choice_from r s last (k + 1) (r.count - (k + 1)))) e ∙ choice_more r s last r.count (k + 1) k refl (omega (arith, below)));
}

pub heads_more : (r : Rows) → AreRows r → (s k many : ℕ) (heads : List Choice) (v : ℤ) → k < r.count → r.count ≤ length heads → HasHeads r s (k + 1) many heads
    → Some v ≡ first_cost r s k → HasHeads r s k (many + 1) (set heads many (record { place = k; cost = v }))
heads_more r fits s k many heads v below each h e = with_head (record { place = k; cost = v }) refl
  where
    within : many < length heads
    within = let few = h.few in omega (arith, few, each)

    with_head : (x : Choice) → x ≡ record { place = k; cost = v } → HasHeads r s k (many + 1) (set heads many x)
    with_head x is = record {
      few = let few = h.few in omega (arith, few);
      known = each_head (λ (h : Choice). h.place < r.count) heads many x within (subst (λ (h : Choice). h.place < r.count) (sym is) below) h.known;
      small = each_head (λ (h : Choice). unsigned_abs h.cost ≤ 600000000000000000) heads many x within
          (subst (λ (h : Choice). unsigned_abs h.cost ≤ 600000000000000000) (sym is) (first_small r fits s k v (sym e))) h.small;
      best = λ last.
          ap (best_head r last (set heads many x)) (next many)
          ∙ (ap (λ (h : Choice). better_choice (choice_of r last h.place (Some h.cost)) (best_head r last (set heads many x) many)) (get_or-set_same heads many x no_head within ∙ is)
          ∙ (ap (better_choice (choice_of r last k (Some v))) (others_stay r last heads many x many (omega arith) ∙ h.best last)
          ∙ (ap (λ o. better_choice (choice_of r last k o) (choice_from r s last (k + 1) (r.count - (k + 1)))) e
          ∙ choice_more r s last r.count (k + 1) k refl (omega (arith, below)))));
    }

pub best_of_all : (r : Rows) (s many : ℕ) (heads : List Choice) (last : Option ℕ) → HasHeads r s 0 many heads → best_head r last heads many ≡ choice r s last
best_of_all r s many heads last h = h.best last ∙ choice_of_all r s last 0 refl

-- what the best of so many heads costs at least, one by one
pub best_more : (r : Rows) (last : Option ℕ) (heads : List Choice) (i : ℕ)
    → better_choice (choice_of r last (head_at heads i).place (Some (head_at heads i).cost)) (best_head r last heads i) ≡ best_head r last heads (i + 1)
best_more r last heads i = sym (ap (best_head r last heads) (next i))

-- The least of their costs.

less : (i j : ℤ) → (i +ℤ pos 1) ≤ℤ j → int_lt i j ≡ true
less i j h = grind (arith, ints)

at_least : (i j : ℤ) → int_lt i j ≡ false → j ≤ℤ i
at_least i j h = grind (arith, ints)

no_less : (i j : ℤ) → j ≤ℤ i → int_lt i j ≡ false
no_less i j h = grind (arith, ints)

pub read_small : (v : ℤ) → unsigned_abs v ≤ 700000000000000000 → read v ≡ Some v
read_small v small = ap (λ b. cond b (Some v) None) (less v (pos 1000000000000000000) (omega (arith, ints, small)))

not_less : (a b : ℤ) → int_lt a (pos 1000000000000000000) ≡ false → unsigned_abs b ≤ 700000000000000000 → int_lt a b ≡ false
not_less a b over small = let above = at_least a (pos 1000000000000000000) over in no_less a b (omega (arith, ints, above, small))

some_same : (a b : ℤ) → Some a ≡ Some b → a ≡ b
some_same a b e = cc

none_some : (a : ℤ) → Some a ≡ None → ⊥
none_some a e = cc

some_none : (a : ℤ) → None ≡ Some a → ⊥
some_none a e = cc

pub least_step : (x : Choice) (c : Option Choice) (least : ℤ) → unsigned_abs x.cost ≤ 700000000000000000 → read least ≡ option_map (λ (c : Choice). c.cost) c
    → read (cond (int_lt least x.cost) least x.cost) ≡ option_map (λ (c : Choice). c.cost) (better_choice (Some x) c)
least_step x None least small e = by_test (int_lt least (pos 1000000000000000000)) refl e
  where
    by_test : (b : Bool) → int_lt least (pos 1000000000000000000) ≡ b → cond b (Some least) None ≡ None → read (cond (int_lt least x.cost) least x.cost) ≡ Some x.cost
    by_test true is h = absurd (none_some least h)
    by_test false is h = ap (λ b. read (cond b least x.cost)) (not_less least x.cost is small) ∙ read_small x.cost small
least_step x (Some y) least small e = by_test (int_lt least (pos 1000000000000000000)) refl e
  where
    by_order : (b : Bool) → least ≡ y.cost → read (cond b least x.cost) ≡ option_map (λ (c : Choice). c.cost) (cond b (Some y) (Some x))
    by_order true same = e
    by_order false same = read_small x.cost small

    by_test : (b : Bool) → int_lt least (pos 1000000000000000000) ≡ b → cond b (Some least) None ≡ Some y.cost
        → read (cond (int_lt least x.cost) least x.cost) ≡ option_map (λ (c : Choice). c.cost) (better_choice (Some x) (Some y))
    by_test false is h = absurd (some_none y.cost h)
    by_test true is h =
        let same = some_same least y.cost h in
        ap (λ b. read (cond b least x.cost)) (ap (λ v. int_lt v x.cost) same) ∙ by_order (int_lt y.cost x.cost) same
