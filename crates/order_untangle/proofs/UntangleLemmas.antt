-- Rules one after another: what was done so far, and what is left to be done.
use Rattle.std.proofs.Common.{◌≡◌, ℕ, zero, suc, ◌+◌, ◌-◌, ◌<◌, ◌≤◌, Bool, true, false, Option, Some, None, List, [], ◌∷◌, ◌++◌, length, get_or, drop, refl, sym, ap, subst, ◌∙◌, arith, append_assoc, append-nil, length-append}
use Rattle.std.specs.Prelude.{if◌then◌else◌}
use Rattle.std.specs.List.{sum_by}
use Rattle.std.proofs.lemmas.List.{at_drop_more, at_drop_all}
use Rattle.map_base.specs.declared.ids.LineId.{LineId}
use Rattle.order_values.specs.declared.rule.Rule.{Rule}
use Rattle.order_model.specs.declared.problem.ProblemParts.{ProblemParts}
use Rattle.order_model.specs.Problems.{choices, IsProblem}
use Rattle.order_rules.specs.Untangling.{rule_applies, after_rule, after_rules, first_refused, next_rule, untangled, untangling}
use Rattle.order_rules.proofs.RuleLaws.{keeps}
use Rattle.order_rules.proofs.UntanglingLaws.{next_applies}
use Rattle.order_untangle.specs.LeftTerms.{Listing}
use Rattle.order_untangle.specs.Works.{parts_of}

-- untangling p does these rules first, which make q
pub record IsSoFar (p q : ProblemParts) (rules : List Rule) : Type 0 where
  pub few : sum_by choices q.segs + length rules ≤ sum_by choices p.segs
  pub rules_are : (untangling p).0 ≡ rules ++ (untangled (sum_by choices p.segs - length rules) q).0
  pub last_is : (untangling p).1 ≡ (untangled (sum_by choices p.segs - length rules) q).1

pub so_far_none : (p q : ProblemParts) (rules : List Rule) → q ≡ p → rules ≡ [] → IsSoFar p q rules
so_far_none p q rules same empty =
    let all : sum_by choices p.segs - 0 ≡ sum_by choices p.segs = omega arith in
    let start : IsSoFar p p [] = record {
      few = omega arith;
      rules_are = sym (ap (λ (n : ℕ). (untangled n p).0) all);
      last_is = sym (ap (λ (n : ℕ). (untangled n p).1) all);
    } in
    subst (IsSoFar p q) (sym empty) (subst (λ (x : ProblemParts). IsSoFar p x []) (sym same) start)

next_untangled : (n : ℕ) (q : ProblemParts) (r : Rule) → next_rule q ≡ Some r
    → ((untangled (suc n) q).0 ≡ r ∷ (untangled n (after_rule q r)).0) × ((untangled (suc n) q).1 ≡ (untangled n (after_rule q r)).1)
next_untangled n q r h = (ap first h, ap last h)
  where
    first : Option Rule → List Rule
    first o = (elim o as (λ _. List Rule × ProblemParts) [ None ↦ ([], q) | Some x ↦ let rest = untangled n (after_rule q x) in (x ∷ rest.0, rest.1) ]).0

    last : Option Rule → ProblemParts
    last o = (elim o as (λ _. List Rule × ProblemParts) [ None ↦ ([], q) | Some x ↦ let rest = untangled n (after_rule q x) in (x ∷ rest.0, rest.1) ]).1

end_untangled : (n : ℕ) (q : ProblemParts) → next_rule q ≡ None → ((untangled n q).0 ≡ []) × ((untangled n q).1 ≡ q)
end_untangled zero q h = (refl, refl)
end_untangled (suc n) q h = (ap first h, ap last h)
  where
    first : Option Rule → List Rule
    first o = (elim o as (λ _. List Rule × ProblemParts) [ None ↦ ([], q) | Some x ↦ let rest = untangled n (after_rule q x) in (x ∷ rest.0, rest.1) ]).0

    last : Option Rule → ProblemParts
    last o = (elim o as (λ _. List Rule × ProblemParts) [ None ↦ ([], q) | Some x ↦ let rest = untangled n (after_rule q x) in (x ∷ rest.0, rest.1) ]).1

pub fewer_choices : (q next : ProblemParts) (r : Rule) → IsProblem q → next_rule q ≡ Some r → next ≡ after_rule q r → sum_by choices next.segs < sum_by choices q.segs
fewer_choices q next r is h made =
    let fewer = (keeps q r is (next_applies q r is h)).fewer in
    omega (arith, fewer, ap (λ (x : ProblemParts). sum_by choices x.segs) made)

pub so_far_more : (p q next : ProblemParts) (rules more : List Rule) (r : Rule) → IsProblem q → next_rule q ≡ Some r → next ≡ after_rule q r → more ≡ rules ++ r ∷ []
    → IsSoFar p q rules → IsSoFar p next more
so_far_more p q next rules more r is h made pushed so =
    let fewer : sum_by choices (after_rule q r).segs < sum_by choices q.segs = fewer_choices q (after_rule q r) r is h refl in
    let count : length (rules ++ r ∷ []) ≡ length rules + 1 = length-append rules (r ∷ []) in
    let one : sum_by choices p.segs - length rules ≡ suc (sum_by choices p.segs - length (rules ++ r ∷ [])) = omega (arith, so.few, fewer, count) in
    let step = next_untangled (sum_by choices p.segs - length (rules ++ r ∷ [])) q r h in
    let start : IsSoFar p (after_rule q r) (rules ++ r ∷ []) = record {
      few = omega (arith, so.few, fewer, count);
      rules_are =
          so.rules_are ∙ (ap (λ (n : ℕ). rules ++ (untangled n q).0) one ∙ (ap (λ (rs : List Rule). rules ++ rs) step.0
          ∙ sym (append_assoc rules (r ∷ []) (untangled (sum_by choices p.segs - length (rules ++ r ∷ [])) (after_rule q r)).0)));
      last_is = so.last_is ∙ (ap (λ (n : ℕ). (untangled n q).1) one ∙ step.1);
    } in
    subst (IsSoFar p next) (sym pushed) (subst (λ (x : ProblemParts). IsSoFar p x (rules ++ r ∷ [])) (sym made) start)

-- what is read of a copy of the lines
pub rule_is : (segs given : List (List LineId)) (listing : Listing) (found rule : Option Rule) → found ≡ next_rule (parts_of given listing) → given ≡ segs → found ≡ rule
    → next_rule (parts_of segs listing) ≡ rule
rule_is segs given listing found rule is_next same is = sym (ap (λ (ss : List (List LineId)). next_rule (parts_of ss listing)) same) ∙ (sym is_next ∙ is)

pub so_far_rules : (p q : ProblemParts) (rules : List Rule) → next_rule q ≡ None → IsSoFar p q rules → rules ≡ (untangling p).0
so_far_rules p q rules h so =
    sym (so.rules_are ∙ (ap (λ (rs : List Rule). rules ++ rs) (end_untangled (sum_by choices p.segs - length rules) q h).0 ∙ append-nil rules))

pub so_far_last : (p q : ProblemParts) (rules : List Rule) → next_rule q ≡ None → IsSoFar p q rules → q ≡ (untangling p).1
so_far_last p q rules h so = sym (so.last_is ∙ (end_untangled (sum_by choices p.segs - length rules) q h).1)

-- Rules that are given.

-- rules from i on are left to be done on q
pub record IsLeft (p : ProblemParts) (rules : List Rule) (i : ℕ) (q : ProblemParts) : Type 0 where
  pub refused : first_refused 0 p rules ≡ first_refused i q (drop i rules)
  pub after : after_rules p rules ≡ after_rules q (drop i rules)

pub all_left : (p q : ProblemParts) (rules : List Rule) → q ≡ p → IsLeft p rules 0 q
all_left p q rules same = subst (IsLeft p rules 0) (sym same) (record { refused = refl; after = refl })

pub one_less_left : (p q next : ProblemParts) (rules : List Rule) (i : ℕ) (d : Rule) → i < length rules → rule_applies q (get_or rules i d) ≡ true → next ≡ after_rule q (get_or rules i d)
    → IsLeft p rules i q → IsLeft p rules (i + 1) next
one_less_left p q next rules i d below applies made left =
    let start : IsLeft p rules (i + 1) (after_rule q (get_or rules i d)) = record {
      refused = left.refused ∙ (at_drop_more (first_refused i q) rules i d below
          ∙ ap (λ (c : Bool). if c then first_refused (i + 1) (after_rule q (get_or rules i d)) (drop (i + 1) rules) else Some i) applies);
      after = left.after ∙ at_drop_more (after_rules q) rules i d below;
    } in
    subst (IsLeft p rules (i + 1)) (sym made) start

pub first_left : (p q : ProblemParts) (rules : List Rule) (i : ℕ) (d : Rule) → i < length rules → rule_applies q (get_or rules i d) ≡ false → IsLeft p rules i q → Some i ≡ first_refused 0 p rules
first_left p q rules i d below refused left =
    sym (left.refused ∙ (at_drop_more (first_refused i q) rules i d below
    ∙ ap (λ (c : Bool). if c then first_refused (i + 1) (after_rule q (get_or rules i d)) (drop (i + 1) rules) else Some i) refused))

pub none_left : (p q : ProblemParts) (rules : List Rule) (i : ℕ) → length rules ≤ i → IsLeft p rules i q → (None ≡ first_refused 0 p rules) × (q ≡ after_rules p rules)
none_left p q rules i done left =
    (sym (left.refused ∙ at_drop_all (first_refused i q) rules i done), sym (left.after ∙ at_drop_all (after_rules q) rules i done))
