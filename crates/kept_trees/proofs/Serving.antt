-- What a complete search found serves every budget that allows its branch nodes; within a lesser one it is spent.
use Rattle.std.proofs.Common.{◌≡◌, ℕ, ◌+◌, ◌<◌, ◌≤◌, nat_le, Bool, true, false, cond, refl, sym, ◌∙◌, ap, subst, arith, true≢false}
use Rattle.std.proofs.Common.{List, Option, Some, None, Ok, Err}
use Rattle.std.specs.Prelude.{MatchOption, IfSome}
use Rattle.std.specs.Borrow.{Bor}
use Rattle.std.proofs.lemmas.Bool.{le-leb, lt-leb}
use Rattle.std.proofs.lemmas.Option.{none-some, same_Some}
use Rattle.map_method.specs.declared.search.Search.{Search}
use Rattle.map_method.specs.declared.claim.Claim.{Claim}
use Rattle.map_method.specs.declared.claim.Claim.TheVariants.{Best, Bound}
use Rattle.order_model.specs.declared.problem.ProblemParts.{ProblemParts}
use Rattle.order_proof.specs.Plain.{PlainPartTree, plain_part_tree}
use Rattle.order_search.specs.declared.found.SearchFault.{SearchFault}
use Rattle.order_search.specs.declared.found.SearchFault.TheVariants as fault
use Rattle.order_search.specs.LiveTrees.{live_tree}
use Rattle.order_search.specs.Finding.{places_of}
use Rattle.order_search.specs.FoundParts.{part_in}
use Rattle.dual_ascent.specs.DualResults.{DualResult, dual_result}
use Rattle.dual_ascent.specs.OwnNumbers.{all_segments}
use Rattle.dual_ascent.proofs.Budgets.{branches_within, same_result}
use Rattle.kept_trees.specs.declared.plan.SearchPlan.{SearchPlan}
use Rattle.kept_trees.specs.declared.found_part.FoundPart.{FoundPart}
use Rattle.kept_trees.specs.Renumbered.{is_by_pairs}
use Rattle.kept_trees.specs.OwnTrees.{HeldPart, spent_in, best_within, bound_within, held_own, IsFoundBy, IsOwnResult}
use Rattle.kept_trees.specs.Results.{PartResult, by_live, by_dual, is_dual, live_found, live_outcome, dual_own, dual_outcome}
use Rattle.kept_trees.specs.Results.{leaves_bound, own_outcome, result_found, IsOwnFound}
use Rattle.kept_trees.specs.Keeping.{is_held, IsServed, IsMissing}
use Rattle.kept_trees.proofs.LiveOutcomes.{Outcome, too_deep, spent}
use Rattle.kept_trees.proofs.OwnShown.{same_ok, chosen, live_is}

-- ---- either search, by its outcome

-- a complete result is what comes of it under either claim
whole : (claim : Claim) (budget : ℕ) (r : PartResult) → r.complete ≡ true → dual_outcome claim budget r ≡ Ok r
whole Best budget r h = ap (λ (b : Bool). cond b (Ok r) (Err (fault.Spent (budget + 1)))) h
whole Bound budget r h = ap chosen_of h
  where
    chosen_of : Bool → Outcome
    chosen_of b = Ok (cond b r (record r { branches = budget }))

-- one that is not is spent where it leaves no bound, and is held with its budget where it does
spent_best : (claim : Claim) (budget : ℕ) (r : PartResult) → r.complete ≡ false → leaves_bound claim r.tree ≡ false
    → is_by_pairs r.tree ≡ true
    → dual_outcome claim budget r ≡ spent budget
spent_best Best budget r h bare pairs = ap (λ (b : Bool). cond b (Ok r) (spent budget)) h
spent_best Bound budget r h bare pairs = absurd (true≢false (sym pairs ∙ bare))

held_bound : (claim : Claim) (budget : ℕ) (r : PartResult) → r.complete ≡ false → (tree : PlainPartTree)
    → leaves_bound claim tree ≡ true
    → spent_in budget (dual_outcome claim budget r) ≡ Some budget
held_bound Best budget r h tree leaves = absurd (true≢false (sym leaves))
held_bound Bound budget r h tree leaves =
    ap (λ (b : Bool). cond (cond b r (record r { branches = budget })).complete None (Some budget)) h
    ∙ ap (λ (b : Bool). cond b None (Some budget)) h

-- the live search finds the same within another budget, or is spent
live_again : (b budget places : ℕ) (x r : PartResult) → cond (nat_le places 2048) (live_found b x) too_deep ≡ Ok r
    → r.branches ≤ budget
    → cond (nat_le places 2048) (live_found budget x) too_deep ≡ Ok r
live_again b budget places x r h few =
    let is = live_is b places x r h in
    ap (λ (c : Bool). cond c (live_found budget x) too_deep) is.0
    ∙ ap (live_found budget) is.2
    ∙ ap (λ (c : Bool). cond c (Ok r) (spent budget)) (le-leb r.branches budget few)

live_spent : (b budget places : ℕ) (x r : PartResult) → cond (nat_le places 2048) (live_found b x) too_deep ≡ Ok r
    → budget < r.branches
    → cond (nat_le places 2048) (live_found budget x) too_deep ≡ spent budget
live_spent b budget places x r h many =
    let is = live_is b places x r h in
    ap (λ (c : Bool). cond c (live_found budget x) too_deep) is.0
    ∙ ap (live_found budget) is.2
    ∙ ap (λ (c : Bool). cond c (Ok r) (spent budget)) (lt-leb r.branches budget many)

module _ (how : Search) (claim : Claim) (b budget : ℕ) (own : ProblemParts) (r : PartResult)
    (found : own_outcome (best_within how b) own ≡ Ok r) where
  abbrev asked : SearchPlan
  asked = record { search = how; claim = claim; budget = budget }

  abbrev dual : Bool
  dual = is_dual how own (all_segments own)

  abbrev places : ℕ
  places = places_of own.segs (all_segments own)

  abbrev live : PartResult
  live = by_live (live_tree (part_in own (all_segments own)))

  -- what dual prices found within the budget that was kept
  found_dual : dual_outcome Best b (dual_own b own) ≡ Ok r → ((dual_own b own).complete ≡ true) × (dual_own b own ≡ r)
  found_dual h = chosen (dual_own b own).complete (dual_own b own) r (fault.Spent (b + 1)) h

  -- with more branch nodes than a budget it is not complete within that
  not_complete : (dual_own b own).complete ≡ true → budget < (dual_own b own).branches → (dual_own budget own).complete ≡ false
  not_complete complete many = by (dual_own budget own).complete refl
    where
      found_same : (n m : ℕ) → n ≤ budget → budget < m → m ≡ n → ⊥
      found_same n m few more same = omega (arith, few, more, same)

      few_enough : (n m : ℕ) → n ≤ budget → m ≤ b → budget < m → n ≤ b
      few_enough n m few most more = omega (arith, few, most, more)

      by : (c : Bool) → (dual_own budget own).complete ≡ c → c ≡ false
      by true e =
          let n : ℕ = (dual_result own budget).branches in
          let m : ℕ = (dual_result own b).branches in
          let same = same_result own budget b e (few_enough n m (branches_within own budget) (branches_within own b) many) in
          absurd (found_same n m (branches_within own budget) many (ap (λ (x : DualResult). x.branches) same))
      by false e = refl

  pub serves : r.branches ≤ budget → own_outcome asked own ≡ Ok r
  serves few = by dual found
    where
      by : (d : Bool) → cond d (dual_outcome Best b (dual_own b own)) (live_outcome b own (all_segments own)) ≡ Ok r
          → cond d (dual_outcome claim budget (dual_own budget own)) (live_outcome budget own (all_segments own)) ≡ Ok r
      by true h =
          let is = found_dual h in
          let same : dual_own budget own ≡ r =
          ap by_dual (same_result own b budget is.0 (subst (λ (x : PartResult). x.branches ≤ budget) (sym is.1) few)) ∙ is.1 in
          ap (dual_outcome claim budget) same ∙ whole claim budget r (sym (ap (λ (x : PartResult). x.complete) is.1) ∙ is.0)
      by false h = live_again b budget places live r h few

  -- what was found within the budget of best orders is complete
  pub is_complete : r.complete ≡ true
  is_complete = by dual found
    where
      by : (d : Bool) → cond d (dual_outcome Best b (dual_own b own)) (live_outcome b own (all_segments own)) ≡ Ok r
          → r.complete ≡ true
      by true h = let is = found_dual h in sym (ap (λ (x : PartResult). x.complete) is.1) ∙ is.0
      by false h = sym (ap (λ (x : PartResult). x.complete) (live_is b places live r h).2)

  pub is_spent : budget < r.branches → leaves_bound claim r.tree ≡ false → own_outcome asked own ≡ spent budget
  is_spent many bare = by dual found
    where
      no_bound : (c : Claim) → leaves_bound c (dual_own b own).tree ≡ false
          → leaves_bound c (dual_own budget own).tree ≡ false
      no_bound Best h = refl
      no_bound Bound h = h

      by : (d : Bool) → cond d (dual_outcome Best b (dual_own b own)) (live_outcome b own (all_segments own)) ≡ Ok r
          → cond d (dual_outcome claim budget (dual_own budget own)) (live_outcome budget own (all_segments own)) ≡ spent budget
      by true h =
          let is = found_dual h in
          let none = no_bound claim (subst (λ (x : PartResult). leaves_bound claim x.tree ≡ false) (sym is.1) bare) in
          spent_best claim budget (dual_own budget own)
          (not_complete is.0 (subst (λ (x : PartResult). budget < x.branches) (sym is.1) many)) none refl
      by false h = live_spent b budget places live r h many

  pub is_open : budget < r.branches → leaves_bound claim r.tree ≡ true
      → spent_in budget (own_outcome asked own) ≡ Some budget
  is_open many leaves = by dual found
    where
      live_leaves : (c : Claim) → leaves_bound c live.tree ≡ true → ⊥
      live_leaves Best h = true≢false (sym h)
      live_leaves Bound h = true≢false (sym h)

      by : (d : Bool) → cond d (dual_outcome Best b (dual_own b own)) (live_outcome b own (all_segments own)) ≡ Ok r
          → spent_in budget (cond d (dual_outcome claim budget (dual_own budget own)) (live_outcome budget own (all_segments own))) ≡ Some budget
      by true h =
          let is = found_dual h in
          held_bound claim budget (dual_own budget own)
          (not_complete is.0 (subst (λ (x : PartResult). budget < x.branches) (sym is.1) many)) r.tree leaves
      by false h =
          absurd (live_leaves claim (subst (λ (x : PartResult). leaves_bound claim x.tree ≡ true) (sym (live_is b places live r h).2) leaves))

-- ---- what is held

some_of : (budget n : ℕ) (x : Outcome) → spent_in budget x ≡ Some n → n ≡ budget
some_of budget n (Err e) h = absurd (none-some n h)
some_of budget n (Ok r) h = by r.complete h
  where
    by : (b : Bool) → ◌≡◌ {A = Option ℕ} (cond b None (Some budget)) (Some n) → n ≡ budget
    by true h = absurd (none-some n h)
    by false h = sym (same_Some budget n h)

-- what is missing in either way is missing in the way in which it would be held
pub missing : (held : List HeldPart) (plan : SearchPlan) (own : ProblemParts)
    → IsMissing held plan (record { how = plan.search; spent = None; part = own })
    → IsMissing held plan (record { how = plan.search; spent = Some plan.budget; part = own })
    → is_held held (held_own plan own) ≡ false
missing held plan own none some = by (spent_in plan.budget (own_outcome plan own)) refl
  where
    held_with : Option ℕ → HeldPart
    held_with o = record { how = plan.search; spent = o; part = own }

    by : (o : Option ℕ) → spent_in plan.budget (own_outcome plan own) ≡ o → is_held held (held_own plan own) ≡ false
    by None e = ap (λ (o : Option ℕ). is_held held (held_with o)) e ∙ none e
    by (Some n) e =
        let here : spent_in plan.budget (own_outcome plan own) ≡ Some plan.budget = e ∙ ap (λ m. Some m) (some_of plan.budget n (own_outcome plan own) e) in
        ap (λ (o : Option ℕ). is_held held (held_with o)) here ∙ some here

-- ---- what is held and serves, or does not

key_is : (plan : SearchPlan) (h : HeldPart) (spent : Option ℕ) → h.how ≡ plan.search → h.spent ≡ spent
    → h ≡ record { how = plan.search; spent = spent; part = h.part }
key_is plan h spent how is = λ i. record { how = how i; spent = is i; part = h.part }

held_is_own : (held : List HeldPart) (plan : SearchPlan) (h : HeldPart) → h.how ≡ plan.search
    → spent_in plan.budget (own_outcome plan h.part) ≡ h.spent
    → is_held held h ≡ true → is_held held (held_own plan h.part) ≡ true
held_is_own held plan h how spent there =
    let key : held_own plan h.part ≡ h = λ i. record { how = sym how i; spent = spent i; part = h.part } in
    ap (is_held held) key ∙ there

module _ (held : List HeldPart) (plan : SearchPlan) (h : HeldPart) (f : FoundPart) (how : h.how ≡ plan.search)
    (result : IsOwnResult h f) where
  abbrev outcome : Outcome
  outcome = own_outcome plan h.part

  module _ (complete : h.spent ≡ None) where
    found_within : (b : ℕ) × IsOwnFound (best_within plan.search b) h.part f
    found_within = subst (λ (g : HeldPart). IsOwnResult g f) (key_is plan h None how complete) result

    served_outcome : f.branches ≤ plan.budget → outcome ≡ Ok (result_found f)
    served_outcome few = serves plan.search plan.claim found_within.0 plan.budget h.part (result_found f) found_within.1 few

    pub complete_serves : f.branches ≤ plan.budget → is_held held h ≡ true → IsServed held plan h.part f
    complete_serves few there =
        let whole_there : f.complete ≡ true = is_complete plan.search plan.claim found_within.0 plan.budget h.part (result_found f) found_within.1 in
        let spent_is : spent_in plan.budget outcome ≡ h.spent =
        ap (spent_in plan.budget) (served_outcome few) ∙ ap (λ (b : Bool). cond b None (Some plan.budget)) whole_there ∙ sym complete in
        (served_outcome few, held_is_own held plan h how spent_is there)

    pub complete_refused : plan.budget < f.branches → leaves_bound plan.claim (plain_part_tree f.tree) ≡ false
        → outcome ≡ spent plan.budget
    complete_refused many bare = is_spent plan.search plan.claim found_within.0 plan.budget h.part (result_found f) found_within.1 many bare

    pub complete_missing : plan.budget < f.branches → leaves_bound plan.claim (plain_part_tree f.tree) ≡ true
        → IsMissing held plan h
    complete_missing many leaves same =
        let open_still = is_open plan.search plan.claim found_within.0 plan.budget h.part (result_found f) found_within.1 many leaves in
        absurd (none-some plan.budget (sym (same ∙ complete) ∙ open_still))

  module _ (budget : h.spent ≡ Some plan.budget) (bound : plan.claim ≡ Bound) where
    found_spent : (f.complete ≡ false) × IsOwnFound (bound_within plan.search plan.budget) h.part f
    found_spent = subst (λ (g : HeldPart). IsOwnResult g f) (key_is plan h (Some plan.budget) how budget) result

    pub spent_serves : is_held held h ≡ true → IsServed held plan h.part f
    spent_serves there =
        let plan_is : plan ≡ bound_within plan.search plan.budget = λ i. record { search = plan.search; claim = bound i; budget = plan.budget } in
        let found : outcome ≡ Ok (result_found f) = ap (λ (x : SearchPlan). own_outcome x h.part) plan_is ∙ found_spent.1 in
        let spent_is : spent_in plan.budget outcome ≡ h.spent =
        ap (spent_in plan.budget) found ∙ ap (λ (b : Bool). cond b None (Some plan.budget)) found_spent.0 ∙ sym budget in
        (found, held_is_own held plan h how spent_is there)

-- what a search that was spent within the budget left, if it is held
module _ (held : List HeldPart) (plan : SearchPlan) (h : HeldPart) where
  abbrev IsHeldOrNot : Option (Bor FoundPart) → Type 0
  IsHeldOrNot r = MatchOption r (is_held held h ≡ false) (λ own. (is_held held h ≡ true) × IsOwnResult h own.now)

  pub bound_serves : h.how ≡ plan.search → h.spent ≡ Some plan.budget → plan.claim ≡ Bound
      → (r : Option (Bor FoundPart)) → IsHeldOrNot r → IfSome r (λ own. IsServed held plan h.part own.now)
  bound_serves how budget bound None there = tt
  bound_serves how budget bound (Some own) there = spent_serves held plan h own.now how there.1 budget bound there.0

  pub bound_missing : (r : Option (Bor FoundPart)) → IsHeldOrNot r → r ≡ None → IsMissing held plan h
  bound_missing None there none = λ _. there
  bound_missing (Some own) there none = cc

-- where best orders are claimed, nothing is held with a budget
pub best_is_whole : (held : List HeldPart) (plan : SearchPlan) (h : HeldPart) → plan.claim ≡ Best
    → h.spent ≡ Some plan.budget → IsMissing held plan h
best_is_whole held plan h best budget same = absurd (by (is_dual plan.search h.part (all_segments h.part)) (sym (ap within best) ∙ same ∙ budget))
  where
    within : Claim → Option ℕ
    within claim = spent_in plan.budget (own_outcome (record { search = plan.search; claim = claim; budget = plan.budget }) h.part)

    of_choice : (b : Bool) (r : PartResult) (e : SearchFault) → (b ≡ true → r.complete ≡ true)
        → spent_in plan.budget (cond b (Ok r) (Err e)) ≡ Some plan.budget → ⊥
    of_choice true r e whole same = none-some plan.budget (sym (ap (λ (b : Bool). cond b None (Some plan.budget)) (whole refl)) ∙ same)
    of_choice false r e whole same = none-some plan.budget same

    of_places : (b : Bool) (r : PartResult) → r.complete ≡ true
        → spent_in plan.budget (cond b (live_found plan.budget r) too_deep) ≡ Some plan.budget → ⊥
    of_places true r whole same = of_choice (nat_le r.branches plan.budget) r (fault.Spent (plan.budget + 1)) (λ e. whole) same
    of_places false r whole same = none-some plan.budget same

    by : (d : Bool)
        → spent_in plan.budget (cond d (dual_outcome Best plan.budget (dual_own plan.budget h.part)) (live_outcome plan.budget h.part (all_segments h.part))) ≡ Some plan.budget
        → ⊥
    by true same = of_choice (dual_own plan.budget h.part).complete (dual_own plan.budget h.part) (fault.Spent (plan.budget + 1)) (λ e. e) same
    by false same =
        of_places (nat_le (places_of h.part.segs (all_segments h.part)) 2048) (by_live (live_tree (part_in h.part (all_segments h.part)))) refl same

-- ---- what is held, and is met

pub served_some : (held : List HeldPart) (plan : SearchPlan) (own : ProblemParts) (o : Option (Bor FoundPart)) (f : Bor FoundPart)
    → o ≡ Some f → IfSome o (λ x. IsServed held plan own x.now) → IsServed held plan own f.now
served_some held plan own o f is there = subst (λ (r : Option (Bor FoundPart)). IfSome r (λ x. IsServed held plan own x.now)) is there

-- what is no result that is held is none
pub none_left : (o : Option (Bor FoundPart)) → ((f : Bor FoundPart) → o ≡ Some f → ⊥) → o ≡ None
none_left None other = refl
none_left (Some f) other = absurd (other f refl)

-- ---- what is found is held so that it serves

-- a complete result is one of best orders
best_too : (claim : Claim) (budget : ℕ) (x r : PartResult) → r.complete ≡ true → dual_outcome claim budget x ≡ Ok r
    → dual_outcome Best budget x ≡ Ok r
best_too Best budget x r whole h = h
best_too Bound budget x r whole h = by x.complete refl (same_ok _ r h)
  where
    by : (b : Bool) → x.complete ≡ b → cond b x (record x { branches = budget }) ≡ r → dual_outcome Best budget x ≡ Ok r
    by true e same = ap (λ (b : Bool). cond b (Ok x) (spent budget)) e ∙ ap (λ (y : PartResult). let o : Outcome = Ok y in o) same
    by false e same = absurd (true≢false (sym whole ∙ sym (ap (λ (y : PartResult). y.complete) same) ∙ e))

-- one that is not is a bound
bound_too : (claim : Claim) (budget : ℕ) (x r : PartResult) → r.complete ≡ false → dual_outcome claim budget x ≡ Ok r
    → dual_outcome Bound budget x ≡ Ok r
bound_too Best budget x r part h =
    let is = chosen x.complete x r (fault.Spent (budget + 1)) h in
    absurd (true≢false (sym is.0 ∙ ap (λ (y : PartResult). y.complete) is.1 ∙ part))
bound_too Bound budget x r part h = h

pub own_result : (plan : SearchPlan) (own : ProblemParts) (f : FoundPart) → IsOwnFound plan own f
    → IsOwnResult (record { how = plan.search; spent = spent_in plan.budget (Ok (result_found f)); part = own }) f
own_result plan own f found = by f.complete refl
  where
    as_best : f.complete ≡ true → (d : Bool)
        → cond d (dual_outcome plan.claim plan.budget (dual_own plan.budget own)) (live_outcome plan.budget own (all_segments own)) ≡ Ok (result_found f)
        → cond d (dual_outcome Best plan.budget (dual_own plan.budget own)) (live_outcome plan.budget own (all_segments own)) ≡ Ok (result_found f)
    as_best whole true h = best_too plan.claim plan.budget (dual_own plan.budget own) (result_found f) whole h
    as_best whole false h = h

    as_bound : f.complete ≡ false → (d : Bool)
        → cond d (dual_outcome plan.claim plan.budget (dual_own plan.budget own)) (live_outcome plan.budget own (all_segments own)) ≡ Ok (result_found f)
        → cond d (dual_outcome Bound plan.budget (dual_own plan.budget own)) (live_outcome plan.budget own (all_segments own)) ≡ Ok (result_found f)
    as_bound part true h = bound_too plan.claim plan.budget (dual_own plan.budget own) (result_found f) part h
    as_bound part false h = h

    by : (b : Bool) → f.complete ≡ b → IsFoundBy plan.search (cond b None (Some plan.budget)) own f
    by true whole = (plan.budget, as_best whole (is_dual plan.search own (all_segments own)) found)
    by false part = (part, as_bound part (is_dual plan.search own (all_segments own)) found)
