-- Numbers of segments: the edges over which a chain leaves its ends, and the first chain of all.
use Rattle.std.proofs.Common.{◌≡◌, refl, sym, ◌∙◌, ap, subst, ℕ, ◌+◌, ◌-◌, ◌<◌, ◌≤◌, Bool, true, false, cond, ◌||◌, List, [], ◌∷◌, Option, Some, length, get_or, arith}
use mathlib.Core.List.{reverse}
use Rattle.std.specs.List.{position_from}
use Rattle.std.specs.Option.{unwrap_or}
use Rattle.std.specs.Map.{lookup}
use Rattle.std.specs.HashMap.{get}
use Rattle.std.proofs.lemmas.List.{get_or-reverse, at_drop_more, at_drop_all, length-reverse}
use Rattle.std.proofs.lemmas.Iterator.Adapters.{position_from-zero}
use Rattle.way_network.specs.Segments.{first_of, second_of, reversed, leaves, segment_numbered}
use Rattle.way_network.specs.Numbers.{is_edge, EdgeMap, lower_edge_of, upper_edge_of, first_leaving, number_to, AreNumbered}

-- the first two points of a chain, by their places
pub first_of_at : (xs : List ℕ) → first_of xs ≡ get_or xs 0 0
first_of_at [] = refl
first_of_at (a ∷ rest) = refl

pub second_of_at : (xs : List ℕ) → 2 ≤ length xs → second_of xs ≡ get_or xs 1 0
second_of_at [] some = absurd (omega arith)
second_of_at (a ∷ []) some = absurd (omega arith)
second_of_at (a ∷ b ∷ rest) some = refl

-- a chain the other way round
reversed_is : (xs : List ℕ) → reversed xs ≡ reverse xs
reversed_is xs = refl

-- the edge over which a chain of one point leaves its ends
pub lower_edge_of_one : (xs : List ℕ) → length xs ≡ 1 → (get_or xs 0 0, get_or xs 0 0) ≡ lower_edge_of xs
lower_edge_of_one [] e = absurd (omega arith)
lower_edge_of_one (a ∷ []) e = refl
lower_edge_of_one (a ∷ b ∷ rest) e = let some : 0 ≤ length rest = omega arith in absurd (omega arith)

pub upper_edge_of_one : (xs : List ℕ) → length xs ≡ 1 → (get_or xs 0 0, get_or xs 0 0) ≡ upper_edge_of xs
upper_edge_of_one [] e = absurd (omega arith)
upper_edge_of_one (a ∷ []) e = refl
upper_edge_of_one (a ∷ b ∷ rest) e = let some : 0 ≤ length rest = omega arith in absurd (omega arith)

-- the edges over which one of more points leaves its lower and its upper end
pub lower_edge_at : (xs : List ℕ) → 2 ≤ length xs → (get_or xs 0 0, get_or xs 1 0) ≡ lower_edge_of xs
lower_edge_at xs some = ap (λ (a : ℕ). (a, get_or xs 1 0)) (sym (first_of_at xs)) ∙ ap (λ (b : ℕ). (first_of xs, b)) (sym (second_of_at xs some))

pub upper_edge_at : (xs : List ℕ) → 2 ≤ length xs → (get_or xs (length xs - 1) 0, get_or xs (length xs - 2) 0) ≡ upper_edge_of xs
upper_edge_at xs some =
    let n : ℕ = length xs in
    let long : 2 ≤ length (reversed xs) = subst (λ (ys : List ℕ). 2 ≤ length ys) (sym (reversed_is xs)) (omega (arith, length-reverse xs)) in
    let first : get_or xs (n - 1) 0 ≡ first_of (reversed xs) =
    ap (λ (k : ℕ). get_or xs k 0) (zero_less n) ∙ sym (get_or-reverse xs 0 0 (omega arith)) ∙ ap (λ (ys : List ℕ). get_or ys 0 0) (sym (reversed_is xs)) ∙ sym (first_of_at (reversed xs)) in
    let second : get_or xs (n - 2) 0 ≡ second_of (reversed xs) =
    ap (λ (k : ℕ). get_or xs k 0) (one_less n) ∙ sym (get_or-reverse xs 1 0 (omega arith)) ∙ ap (λ (ys : List ℕ). get_or ys 1 0) (sym (reversed_is xs)) ∙ sym (second_of_at (reversed xs) long) in
    ap (λ (a : ℕ). (a, get_or xs (n - 2) 0)) first ∙ ap (λ (b : ℕ). (first_of (reversed xs), b)) second
  where
    zero_less : (n : ℕ) → n - 1 ≡ n - 1 - 0
    zero_less n = omega arith

    one_less : (n : ℕ) → n - 2 ≡ n - 1 - 1
    one_less n = omega arith

either : {X : Type 0} (a b : Bool) (x y : X) → cond b x (cond a x y) ≡ cond (a || b) x y
either true true x y = refl
either true false x y = refl
either false true x y = refl
either false false x y = refl

-- a number that is put to both edges over which a chain leaves its ends
pub numbered_twice : (chain : List ℕ) (number : ℕ) (old between new : EdgeMap) (lower upper : ℕ × ℕ) → lower ≡ lower_edge_of chain → upper ≡ upper_edge_of chain →
    ((e : ℕ × ℕ) → get is_edge between e ≡ cond (is_edge lower e) (Some number) (get is_edge old e)) →
    ((e : ℕ × ℕ) → get is_edge new e ≡ cond (is_edge upper e) (Some number) (get is_edge between e)) →
    (e : ℕ × ℕ) → get is_edge new e ≡ cond (leaves e.0 e.1 chain) (Some number) (get is_edge old e)
numbered_twice chain number old between new lower upper is_lower is_upper first second e =
    second e ∙ ap (λ (o : Option ℕ). cond (is_edge upper e) (Some number) o) (first e)
    ∙ ap (λ (f : ℕ × ℕ). cond (is_edge f e) (Some number) (cond (is_edge lower e) (Some number) (get is_edge old e))) is_upper
    ∙ ap (λ (f : ℕ × ℕ). cond (is_edge (upper_edge_of chain) e) (Some number) (cond (is_edge f e) (Some number) (get is_edge old e))) is_lower
    ∙ either (is_edge (lower_edge_of chain) e) (is_edge (upper_edge_of chain) e) (Some number) (get is_edge old e)

-- where no chain is left no edge has a number
pub numbered_none : (chains : List (List ℕ)) (n : ℕ) (numbers : EdgeMap) → length chains ≤ n → numbers.entries ≡ [] → AreNumbered chains n numbers
numbered_none chains n numbers all empty e =
    ap (λ es. lookup_in es) empty ∙ sym (at_drop_all (position_from (leaves e.0 e.1) n) chains n all)
  where
    lookup_in : List ((ℕ × ℕ) × ℕ) → Option ℕ
    lookup_in es = lookup (is_edge e) es

-- the chain before those that have their numbers
pub numbered_more : (chains : List (List ℕ)) (n : ℕ) (chain : List ℕ) (old new : EdgeMap) → n < length chains → chain ≡ get_or chains n [] → AreNumbered chains (n + 1) old →
    ((e : ℕ × ℕ) → get is_edge new e ≡ cond (leaves e.0 e.1 chain) (Some n) (get is_edge old e)) → AreNumbered chains n new
numbered_more chains n chain old new below is before put e =
    put e ∙ ap (λ (o : Option ℕ). cond (leaves e.0 e.1 chain) (Some n) o) (before e)
    ∙ ap (λ (c : List ℕ). cond (leaves e.0 e.1 c) (Some n) (first_leaving chains (n + 1) e)) is
    ∙ sym (at_drop_more (position_from (leaves e.0 e.1) n) chains n [] below)

-- the number that is found is the segment's
pub numbered_at : (chains : List (List ℕ)) (numbers : EdgeMap) (p q : ℕ) (found : Option ℕ) → AreNumbered chains 0 numbers → found ≡ get is_edge numbers (p, q) →
    segment_numbered (unwrap_or found 0) ≡ number_to chains p q
numbered_at chains numbers p q found numbered is =
    ap (λ (o : Option ℕ). segment_numbered (unwrap_or o 0)) (is ∙ numbered (p, q) ∙ sym (position_from-zero (leaves p q) chains))
