-- What the least of a list is.
use Rattle.std.proofs.Common.{◌≡◌, refl, sym, ap, subst, ℕ, zero, suc, ◌+◌, ◌<◌, ◌≤◌, Bool, true, false, cond, List, [], ◌∷◌, ◌++◌, ◌⊎◌, inl, inr, map, arith}
use Rattle.std.specs.List.{flat_map, range_with_len}
use Rattle.least_path.specs.Least.{least_by}

-- the value stands in the list
abbrev pub StandsIn : {A : Type 0} → A → List A → Type 0
StandsIn p [] = ⊥
StandsIn p (a ∷ rest) = (a ≡ p) ⊎ StandsIn p rest

-- all values of the list are such
abbrev pub AllAre : {A : Type 0} → (A → Type 0) → List A → Type 0
AllAre P [] = Unit {0}
AllAre P (a ∷ rest) = P a × AllAre P rest

-- p is no worse than a, and a is no worse than p only where it is p
pub record IsBetter {A : Type 0} (le : A → A → Bool) (p a : A) : Type 0 where
  pub no_worse : le p a ≡ true
  pub alone : le a p ≡ true → a ≡ p

-- the least of a list stands in it
pub least-stands : {A : Type 0} (le : A → A → Bool) (other a : A) (rest : List A) → StandsIn (least_by le other (a ∷ rest)) (a ∷ rest)
least-stands le other a [] = inl refl
least-stands {A} le other a (b ∷ rest) =
    let m : A = least_by le other (b ∷ rest) in
    let below : StandsIn m (b ∷ rest) = least-stands le other b rest in
    by_test m below (le a m)
  where
    by_test : (m : A) → StandsIn m (b ∷ rest) → (t : Bool) → StandsIn (cond t a m) (a ∷ b ∷ rest)
    by_test m below true = inl refl
    by_test m below false = inr below

-- what holds of all holds of one that stands there
pub all-at : {A : Type 0} (P : A → Type 0) (p : A) (xs : List A) → AllAre P xs → StandsIn p xs → P p
all-at P p [] all stands = absurd stands
all-at P p (a ∷ rest) all (inl e) = subst P e all.0
all-at P p (a ∷ rest) all (inr stands) = all-at P p rest all.1 stands

-- one that stands in a list and is better than each of it is the least of the list
pub least-is : {A : Type 0} (le : A → A → Bool) (other p : A) (xs : List A) → StandsIn p xs → AllAre (IsBetter le p) xs → least_by le other xs ≡ p
least-is le other p [] stands all = absurd stands
least-is le other p (a ∷ []) (inl e) all = e
least-is le other p (a ∷ []) (inr stands) all = absurd stands
least-is {A} le other p (a ∷ b ∷ rest) stands all = by_place stands (λ behind. least-is le other p (b ∷ rest) behind all.1)
  where
    m : A
    m = least_by le other (b ∷ rest)

    -- the first one is p, and no later one is better
    here : a ≡ p → cond (le a m) a m ≡ p
    here e =
        let below : StandsIn m (b ∷ rest) = least-stands le other b rest in
        let better : IsBetter le p m = all-at (IsBetter le p) m (b ∷ rest) all.1 below in
        let first : le a m ≡ true = subst (λ x. le x m ≡ true) (sym e) better.no_worse in
        subst (λ t. cond t a m ≡ p) (sym first) e

    by_test : (t : Bool) → le a p ≡ t → cond t a p ≡ p
    by_test true no_worse = all.0.alone no_worse
    by_test false worse = refl

    -- p stands behind the first one, and is the least there
    there : m ≡ p → cond (le a m) a m ≡ p
    there e = subst (λ x. cond (le a x) a x ≡ p) (sym e) (by_test (le a p) refl)

    by_place : StandsIn p (a ∷ b ∷ rest) → (StandsIn p (b ∷ rest) → m ≡ p) → cond (le a m) a m ≡ p
    by_place (inl e) least = here e
    by_place (inr behind) least = there (least behind)

-- where a value stands in two lists put together
pub stands-left : {A : Type 0} (p : A) (xs ys : List A) → StandsIn p xs → StandsIn p (xs ++ ys)
stands-left p [] ys stands = absurd stands
stands-left p (x ∷ xs) ys (inl e) = inl e
stands-left p (x ∷ xs) ys (inr stands) = inr (stands-left p xs ys stands)

pub stands-right : {A : Type 0} (p : A) (xs ys : List A) → StandsIn p ys → StandsIn p (xs ++ ys)
stands-right p [] ys stands = stands
stands-right p (x ∷ xs) ys stands = inr (stands-right p xs ys stands)

pub stands-map : {A B : Type 0} (f : A → B) (p : A) (xs : List A) → StandsIn p xs → StandsIn (f p) (map f xs)
stands-map f p [] stands = absurd stands
stands-map f p (x ∷ xs) (inl e) = inl (ap f e)
stands-map f p (x ∷ xs) (inr stands) = inr (stands-map f p xs stands)

pub stands-flat_map : {A B : Type 0} (f : A → List B) (p : A) (q : B) (xs : List A) → StandsIn p xs → StandsIn q (f p) → StandsIn q (flat_map f xs)
stands-flat_map f p q [] stands within = absurd stands
stands-flat_map f p q (x ∷ xs) (inl e) within = stands-left q (f x) (flat_map f xs) (subst (λ y. StandsIn q (f y)) (sym e) within)
stands-flat_map f p q (x ∷ xs) (inr stands) within = stands-right q (f x) (flat_map f xs) (stands-flat_map f p q xs stands within)

pub stands-range : (a n i : ℕ) → a ≤ i → i < a + n → StandsIn i (range_with_len a n)
stands-range a zero i low high = absurd (omega arith)
stands-range a (suc n) i low high = by_order (low_or_more low) (λ more. stands-range (a + 1) n i more (omega arith))
  where
    low_or_more : a ≤ i → (a ≡ i) ⊎ (a + 1 ≤ i)
    low_or_more h = grind arith

    by_order : (a ≡ i) ⊎ (a + 1 ≤ i) → (a + 1 ≤ i → StandsIn i (range_with_len (a + 1) n)) → StandsIn i (a ∷ range_with_len (a + 1) n)
    by_order (inl e) later = inl e
    by_order (inr more) later = inr (later more)

-- what holds of all of two lists holds of both together
pub all-append : {A : Type 0} (P : A → Type 0) (xs ys : List A) → AllAre P xs → AllAre P ys → AllAre P (xs ++ ys)
all-append P [] ys all others = others
all-append P (x ∷ xs) ys all others = (all.0, all-append P xs ys all.1 others)

pub all-map : {A B : Type 0} (P : B → Type 0) (f : A → B) (xs : List A) → AllAre (λ x. P (f x)) xs → AllAre P (map f xs)
all-map P f [] all = tt
all-map P f (x ∷ xs) all = (all.0, all-map P f xs all.1)

pub all-flat_map : {A B : Type 0} (P : B → Type 0) (f : A → List B) (xs : List A) → AllAre (λ x. AllAre P (f x)) xs → AllAre P (flat_map f xs)
all-flat_map P f [] all = tt
all-flat_map P f (x ∷ xs) all = all-append P (f x) (flat_map f xs) all.0 (all-flat_map P f xs all.1)

pub all-range : (P : ℕ → Type 0) (a n : ℕ) → ((i : ℕ) → a ≤ i → i < a + n → P i) → AllAre P (range_with_len a n)
all-range P a zero each = tt
all-range P a (suc n) each = (each a (omega arith) (omega arith), all-range P (a + 1) n (λ i low high. each i (omega arith) (omega arith)))

pub all-weaker : {A : Type 0} (P Q : A → Type 0) (xs : List A) → ((x : A) → P x → Q x) → AllAre P xs → AllAre Q xs
all-weaker P Q [] weaker all = tt
all-weaker P Q (x ∷ xs) weaker all = (weaker x all.0, all-weaker P Q xs weaker all.1)
