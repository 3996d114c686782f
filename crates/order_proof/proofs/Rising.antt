-- Numbers that rise, taken one at a time.
use Rattle.std.proofs.Common.{◌≡◌, ℕ, suc, ◌+◌, ◌^◌, ◌<◌, ◌≤◌, ℤ, pos, List, [], ◌∷◌, ◌++◌, length, get_or, drop, Option, Some, None, option_map, refl, ap, subst, sym, ◌∙◌, append_assoc, arith}
use Rattle.std.proofs.lemmas.List.{append-nil}
use Rattle.std.specs.Option.{option_and_then}
use Rattle.order_values.specs.PriceLists.{AreRisingPrices}
use Rattle.order_proof.specs.Forms.{priced_term, prices_from}

-- things before others, where those are there
abbrev pub behind : {A : Type 0} → List A → Option (List A) → Option (List A)
behind done more = option_map (λ rest. done ++ rest) more

-- the numbers of terms are below a bound
abbrev pub AllBelow : ℕ → List (ℕ × ℤ) → Type 0
AllBelow bound [] = Unit {0}
AllBelow bound (p ∷ rest) = (p.0 < bound) × AllBelow bound rest

pub below_push : (bound : ℕ) (ps : List (ℕ × ℤ)) (p : ℕ × ℤ) → AllBelow bound ps → bound ≤ p.0 → AllBelow (p.0 + 1) (ps ++ p ∷ [])
below_push bound [] p below least = (omega arith, tt)
below_push bound (q ∷ ps) p below least = (omega (arith, below.0), below_push bound ps p below.1 least)

pub rising_push : (bound : ℕ) (ps : List (ℕ × ℤ)) (p : ℕ × ℤ) → AreRisingPrices ps → AllBelow bound ps → bound ≤ p.0 → AreRisingPrices (ps ++ p ∷ [])
rising_push bound [] p rises below least = tt
rising_push bound (q ∷ []) p rises below least = (omega (arith, below.0), tt)
rising_push bound (q ∷ r ∷ ps) p rises below least = (rises.0, rising_push bound (r ∷ ps) p rises.1 below.1 least)

joined : (done : List (ℕ × ℤ)) (p : ℕ × ℤ) (more : Option (List (ℕ × ℤ))) → behind done (option_map (λ rest. p ∷ rest) more) ≡ behind (done ++ p ∷ []) more
joined done p None = refl
joined done p (Some rest) = ap (λ (ps : List (ℕ × ℤ)). Some ps) (sym (append_assoc done (p ∷ []) rest))

-- one more price is taken
pub price_taken : (most least : ℕ) (done : List (ℕ × ℤ)) (p : ℕ × ℤ) (xs : List ℤ) (total : Option (List (ℕ × ℤ))) → 2 ≤ length xs
    → Some p ≡ priced_term most least (get_or xs 0 (pos 0)) (get_or xs 1 (pos 0)) → behind done (prices_from most least xs) ≡ total → behind (done ++ p ∷ []) (prices_from most (p.0 + 1) (drop 2 xs)) ≡ total
price_taken most least done p [] total long is whole = absurd (omega arith)
price_taken most least done p (x ∷ []) total long is whole = absurd (omega arith)
price_taken most least done p (x ∷ y ∷ rest) total long is whole =
    let one : prices_from most least (x ∷ y ∷ rest) ≡ option_map (λ more. p ∷ more) (prices_from most (suc p.0) rest) =
    ap (option_and_then (λ (q : ℕ × ℤ). option_map (λ more. q ∷ more) (prices_from most (suc q.0) rest))) (sym is) in
    let next : suc p.0 ≡ p.0 + 1 = omega arith in
    ap (λ (n : ℕ). behind (done ++ p ∷ []) (prices_from most n rest)) (sym next) ∙ sym (joined done p (prices_from most (suc p.0) rest)) ∙ ap (behind done) (sym one) ∙ whole

-- a price is refused
pub price_refused : (most least : ℕ) (done : List (ℕ × ℤ)) (xs : List ℤ) (total : Option (List (ℕ × ℤ))) → 2 ≤ length xs
    → None ≡ priced_term most least (get_or xs 0 (pos 0)) (get_or xs 1 (pos 0)) → behind done (prices_from most least xs) ≡ total → None ≡ total
price_refused most least done [] total long is whole = absurd (omega arith)
price_refused most least done (x ∷ []) total long is whole = absurd (omega arith)
price_refused most least done (x ∷ y ∷ rest) total long is whole =
    ap (behind done) (ap (option_and_then (λ (q : ℕ × ℤ). option_map (λ more. q ∷ more) (prices_from most (suc q.0) rest))) is) ∙ whole

-- nothing is left, or one number
pub prices_end : (most least : ℕ) (done : List (ℕ × ℤ)) (xs : List ℤ) (total : Option (List (ℕ × ℤ))) → length xs ≡ 0 → behind done (prices_from most least xs) ≡ total → Some done ≡ total
prices_end most least done [] total len whole = ap (λ (ps : List (ℕ × ℤ)). Some ps) (sym (append-nil done)) ∙ whole
prices_end most least done (x ∷ xs) total len whole = absurd (omega arith)

pub prices_odd : (most least : ℕ) (done : List (ℕ × ℤ)) (xs : List ℤ) (total : Option (List (ℕ × ℤ))) → length xs < 2 → 0 < length xs → behind done (prices_from most least xs) ≡ total → None ≡ total
prices_odd most least done [] total few some whole = absurd (omega arith)
prices_odd most least done (x ∷ []) total few some whole = whole
prices_odd most least done (x ∷ y ∷ xs) total few some whole = absurd (omega arith)

-- the prices so far, and those of the numbers that are left, are those of all
pub record ArePricesSoFar (most : ℕ) (total : Option (List (ℕ × ℤ))) (done : List (ℕ × ℤ)) (least : ℕ) (left : List ℤ) : Type 0 where
  pub whole : behind done (prices_from most least left) ≡ total
  pub rising : AreRisingPrices done
  pub below : AllBelow least done
  pub bound : least ≤ 2 ^ 32

pub price_kept : (most : ℕ) (total : Option (List (ℕ × ℤ))) (done new : List (ℕ × ℤ)) (least next : ℕ) (p : ℕ × ℤ) (xs left : List ℤ) → ArePricesSoFar most total done least xs → 2 ≤ length xs
    → Some p ≡ priced_term most least (get_or xs 0 (pos 0)) (get_or xs 1 (pos 0)) → least ≤ p.0 → p.0 < 2 ^ 32 → new ≡ done ++ p ∷ [] → next ≡ p.0 + 1 → left ≡ drop 2 xs → ArePricesSoFar most total new next left
price_kept most total done new least next p xs left so_far long is above small pushed following rest =
    let made : ArePricesSoFar most total (done ++ p ∷ []) (p.0 + 1) (drop 2 xs) = record {
      whole = price_taken most least done p xs total long is so_far.whole;
      rising = rising_push least done p so_far.rising so_far.below above;
      below = below_push least done p so_far.below above;
      bound = omega arith;
    } in
    subst (λ ys. ArePricesSoFar most total new next ys) (sym rest)
    (subst (λ n. ArePricesSoFar most total new n (drop 2 xs)) (sym following)
    (subst (λ ps. ArePricesSoFar most total ps (p.0 + 1) (drop 2 xs)) (sym pushed) made))
