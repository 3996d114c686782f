-- The order of dictionaries, as a fact and as a test.
use Rattle.std.proofs.Common.{◌≡◌, refl, ◌∙◌, ap, ℕ, ◌<◌, ◌⊎◌, inl, inr, Bool, true, false, nat_lt, ◌==◌, ◌||◌, ◌&&◌, List, [], ◌∷◌, arith}
use Rattle.std.proofs.lemmas.Bool.{lt-ltb, ltb-true, eq-eqb, eqb-true}
use Rattle.least_path.specs.Orders.{LexLe}
use Rattle.least_path.specs.Least.{is_not_after}

-- the order of dictionaries, as a test
pub not_after : (ls ms : List ℕ) → LexLe ls ms → is_not_after ls ms ≡ true
not_after [] ms h = refl
not_after (l ∷ ls) [] h = absurd h
not_after (l ∷ ls) (m ∷ ms) (inl less) = ap (λ b. b || ((l == m) && is_not_after ls ms)) (lt-ltb l m less)
not_after (l ∷ ls) (m ∷ ms) (inr tie) =
    ap (λ b. nat_lt l m || (b && is_not_after ls ms)) (eq-eqb l m tie.0) ∙ ap (λ b. nat_lt l m || b) (not_after ls ms tie.1) ∙ or_true (nat_lt l m)
  where
    or_true : (b : Bool) → (b || true) ≡ true
    or_true true = refl
    or_true false = refl

-- what a test by head and rest says
pub by_head : (i j : ℕ) (rest : Bool) → (nat_lt i j || ((i == j) && rest)) ≡ true → (i < j) ⊎ ((i ≡ j) × (rest ≡ true))
by_head i j rest h = of_test (nat_lt i j) refl h
  where
    both : (a b : Bool) → (a && b) ≡ true → (a ≡ true) × (b ≡ true)
    both true b e = (refl, e)
    both false b e = cc

    of_test : (t : Bool) → nat_lt i j ≡ t → (t || ((i == j) && rest)) ≡ true → (i < j) ⊎ ((i ≡ j) × (rest ≡ true))
    of_test true e g = inl (ltb-true i j e)
    of_test false e g = let parts = both (i == j) rest g in inr (eqb-true i j parts.0, parts.1)

pub same_lists_both : (ls ms : List ℕ) → LexLe ms ls → is_not_after ls ms ≡ true → ls ≡ ms
same_lists_both [] [] h e = refl
same_lists_both [] (m ∷ ms) h e = absurd h
same_lists_both (l ∷ ls) [] h e = cc
same_lists_both (l ∷ ls) (m ∷ ms) h e = of_cases h (by_head l m (is_not_after ls ms) e) (same_lists_both ls ms)
  where
    of_cases : (m < l) ⊎ ((m ≡ l) × LexLe ms ls) → (l < m) ⊎ ((l ≡ m) × (is_not_after ls ms ≡ true)) → (LexLe ms ls → is_not_after ls ms ≡ true → ls ≡ ms) → l ∷ ls ≡ m ∷ ms
    of_cases (inl p) (inl q) rest = absurd (omega arith)
    of_cases (inl p) (inr q) rest = let same : l ≡ m = q.0 in absurd (omega arith)
    of_cases (inr p) (inl q) rest = let same : m ≡ l = p.0 in absurd (omega arith)
    of_cases (inr p) (inr q) rest = ap (λ x. x ∷ ls) q.0 ∙ ap (λ xs. m ∷ xs) (rest p.1 q.1)
