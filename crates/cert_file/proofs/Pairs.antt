-- Lines with their importance, taken one pair at a time.
use Rattle.std.proofs.Common.{◌≡◌, ℕ, suc, ◌+◌, ◌^◌, ◌<◌, ◌≤◌, ℤ, pos, List, [], ◌∷◌, ◌++◌, length, get_or, drop, Option, Some, None, option_map, refl, ap, subst, sym, ◌∙◌, append_assoc, arith}
use Rattle.std.specs.Option.{option_and_then}
use Rattle.map_base.specs.declared.ids.LineId.{LineId}
use Rattle.cert_file.specs.Forms.{pair_of, pairs_from}

abbrev pub Pair : Type 0
Pair = LineId × ℕ

-- things before others, where those are there
abbrev pub behind : {A : Type 0} → List A → Option (List A) → Option (List A)
behind done more = option_map (λ rest. done ++ rest) more

joined : {A : Type 0} (done : List A) (p : A) (more : Option (List A)) → behind done (option_map (λ rest. p ∷ rest) more) ≡ behind (done ++ p ∷ []) more
joined done p None = refl
joined {A} done p (Some rest) = ap (λ (ps : List A). Some ps) (sym (append_assoc done (p ∷ []) rest))

-- one more pair is taken
pair_taken : (least : ℕ) (done : List Pair) (p : Pair) (xs : List ℤ) (total : Option (List Pair)) → 2 ≤ length xs
    → Some p ≡ pair_of least (get_or xs 0 (pos 0)) (get_or xs 1 (pos 0)) → behind done (pairs_from least xs) ≡ total → behind (done ++ p ∷ []) (pairs_from (p.0.0 + 1) (drop 2 xs)) ≡ total
pair_taken least done p [] total long is whole = absurd (omega arith)
pair_taken least done p (x ∷ []) total long is whole = absurd (omega arith)
pair_taken least done p (x ∷ y ∷ rest) total long is whole =
    let one : pairs_from least (x ∷ y ∷ rest) ≡ option_map (λ more. p ∷ more) (pairs_from (suc p.0.0) rest) =
    ap (option_and_then (λ (q : Pair). option_map (λ more. q ∷ more) (pairs_from (suc q.0.0) rest))) (sym is) in
    let next : suc p.0.0 ≡ p.0.0 + 1 = omega arith in
    ap (λ (n : ℕ). behind (done ++ p ∷ []) (pairs_from n rest)) (sym next) ∙ sym (joined done p (pairs_from (suc p.0.0) rest)) ∙ ap (behind done) (sym one) ∙ whole

-- the pairs so far, and those of the numbers that are left, are those of all
pub record ArePairsSoFar (total : Option (List Pair)) (done : List Pair) (least : ℕ) (left : List ℤ) : Type 0 where
  pub whole : behind done (pairs_from least left) ≡ total
  pub bound : least ≤ 2 ^ 32

pub pair_kept : (total : Option (List Pair)) (done new : List Pair) (least next : ℕ) (p : Pair) (xs left : List ℤ) → ArePairsSoFar total done least xs → 2 ≤ length xs
    → Some p ≡ pair_of least (get_or xs 0 (pos 0)) (get_or xs 1 (pos 0)) → p.0.0 < 2 ^ 32 → new ≡ done ++ p ∷ [] → next ≡ p.0.0 + 1 → left ≡ drop 2 xs → ArePairsSoFar total new next left
pair_kept total done new least next p xs left so_far long is small pushed following rest =
    let made : ArePairsSoFar total (done ++ p ∷ []) (p.0.0 + 1) (drop 2 xs) = record { whole = pair_taken least done p xs total long is so_far.whole; bound = omega arith } in
    subst (λ ys. ArePairsSoFar total new next ys) (sym rest)
    (subst (λ n. ArePairsSoFar total new n (drop 2 xs)) (sym following)
    (subst (λ ps. ArePairsSoFar total ps (p.0.0 + 1) (drop 2 xs)) (sym pushed) made))
