-- Rules read one after the other.
use Rattle.std.proofs.Common.{◌≡◌, ℕ, suc, ◌+◌, ◌-◌, ◌<◌, List, [], ◌∷◌, ◌++◌, Some, None, Ok, Err, refl, ap, subst, sym, ◌∙◌, append_assoc, length-append, arith}
use Rattle.std.specs.List.{AllByRecursion}
use Rattle.std.proofs.lemmas.List.{append-nil}
use Rattle.order_values.specs.declared.rule.Rule.{Rule}
use Rattle.order_proof.specs.Lines.{line_text, rule_line}
use Rattle.order_proof.specs.FrontLine.{front}
use Rattle.order_proof.specs.Forms.{rule_in}
use Rattle.order_proof.specs.Text.{rules_text}
use Rattle.order_proof.specs.Ranges.{IsRuleInRange}
use Rattle.order_proof.specs.Reading.{Due, ARule, rules_due, reading}
use Rattle.order_proof.specs.Readers.{AreRulesOf}
use Rattle.order_proof.proofs.Fronts.{front_map, front_is}
use Rattle.order_proof.proofs.Steps.{goes_on, stops, reading_nothing}
use Rattle.order_proof.proofs.FormLemmas.{rule_is, front_text}

rules_text-append : (rules more : List Rule) → rules_text (rules ++ more) ≡ rules_text rules ++ rules_text more
rules_text-append [] more = refl
rules_text-append (r ∷ rest) more = ap (λ (bytes : List ℕ). line_text (rule_line r) ++ bytes) (rules_text-append rest more) ∙ sym (append_assoc (line_text (rule_line r)) (rules_text rest) (rules_text more))

pub all-append : {A : Type 0} (P : A → Type 0) (xs ys : List A) → AllByRecursion P xs → AllByRecursion P ys → AllByRecursion P (xs ++ ys)
all-append P [] ys a b = b
all-append P (x ∷ xs) ys a b = (a.0, all-append P xs ys a.1 b)

-- the rules so far, and what is due behind them
pub record AreRulesSoFar (count done : ℕ) (rules : List Rule) (text rest : List ℕ) : Type 0 where
  pub left : reading (rules_due (count - done)) rest ≡ reading (rules_due count) text
  pub so_far : AreRulesOf done rules text rest

pub rules_begin : (count : ℕ) (text : List ℕ) → AreRulesSoFar count 0 [] text text
rules_begin count text = record {
  left = ap (λ (n : ℕ). reading (rules_due n) text) (omega arith);
  so_far = record { counted = refl; range = tt; front = refl };
}

due_next : (count done : ℕ) → done < count → rules_due (count - done) ≡ ARule (count - (done + 1)) ∷ []
due_next count done below = let next : count - done ≡ suc (count - (done + 1)) = omega arith in ap rules_due next

pub rule_taken : (count done : ℕ) (rules new : List Rule) (text rest behind : List ℕ) (r : Rule) → done < count → AreRulesSoFar count done rules text rest
    → front rule_in rest ≡ Some (r, behind) → new ≡ rules ++ r ∷ [] → AreRulesSoFar count (done + 1) new text behind
rule_taken count done rules new text rest behind r below before there pushed =
    let more = count - (done + 1) in
    let step : reading (rules_due (count - done)) rest ≡ reading (rules_due more) behind =
    ap (λ (due : List Due). reading due rest) (due_next count done below)
    ∙ goes_on (λ (_ : Rule). rules_due more) rule_in (ARule more) [] rest r behind (front_map (λ (_ : Rule). rules_due more) rule_in rest) there
    ∙ ap (λ (due : List Due). reading due behind) (append-nil (rules_due more)) in
    let said = front_is rule_in rest r behind there in
    let line = front_text rule_in rest r behind (rule_line r) (λ l e. (rule_is l r e).0) there in
    let whole : text ≡ rules_text (rules ++ r ∷ []) ++ behind =
    before.so_far.front ∙ ap (λ (bytes : List ℕ). rules_text rules ++ bytes) line
    ∙ ap (λ (bytes : List ℕ). rules_text rules ++ (bytes ++ behind)) (sym (append-nil (line_text (rule_line r))))
    ∙ sym (append_assoc (rules_text rules) (rules_text (r ∷ [])) behind)
    ∙ ap (λ (bytes : List ℕ). bytes ++ behind) (sym (rules_text-append rules (r ∷ []))) in
    subst (λ (rs : List Rule). AreRulesSoFar count (done + 1) rs text behind) (sym pushed) (record {
      left = sym step ∙ before.left;
      so_far = record {
        counted = omega (arith, before.so_far.counted, length-append rules (r ∷ []));
        range = all-append IsRuleInRange rules (r ∷ []) before.so_far.range ((rule_is said.line r said.says).1, tt);
        front = whole;
      };
    })

pub rule_stops : (count done : ℕ) (rules : List Rule) (text rest : List ℕ) → done < count → AreRulesSoFar count done rules text rest → front rule_in rest ≡ None → reading (rules_due count) text ≡ Err rest
rule_stops count done rules text rest below before none =
    let more = count - (done + 1) in
    sym before.left ∙ ap (λ (due : List Due). reading due rest) (due_next count done below) ∙ stops (λ (_ : Rule). rules_due more) rule_in (ARule more) [] rest (front_map (λ (_ : Rule). rules_due more) rule_in rest) none

pub rules_end : (count done : ℕ) (rules : List Rule) (text rest : List ℕ) → count ≡ done → AreRulesSoFar count done rules text rest → reading (rules_due count) text ≡ Ok rest
rules_end count done rules text rest is before =
    let nothing : count - done ≡ 0 = omega arith in
    sym before.left ∙ ap (λ (n : ℕ). reading (rules_due n) rest) nothing ∙ reading_nothing rest
