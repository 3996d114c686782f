-- A list that is filled place by place, each from what stood there.
use Rattle.std.proofs.Common.{◌≡◌, ◌≢◌, ℕ, ◌+◌, ◌<◌, ◌≤◌, List, length, get_or, set, get_or-set_same, get_or-set_other, refl, sym, ◌∙◌, ap, arith, ◌⊎◌, inl, inr}
use Rattle.std.proofs.lemmas.Bool.{cases_eq}
use Rattle.std.proofs.lemmas.List.{length-set, ext_get_or}

-- the places below one have what comes of their number and of what stood there, all others what stood there
pub record IsFilledTo {A : Type 0} (f : ℕ → A → A) (d : A) (k : ℕ) (old new : List A) : Type 0 where
  pub each : length new ≡ length old
  pub front : (i : ℕ) → i < k → get_or new i d ≡ f i (get_or old i d)
  pub rest : (i : ℕ) → k ≤ i → get_or new i d ≡ get_or old i d

pub fill_begins : {A : Type 0} (f : ℕ → A → A) (d : A) (xs : List A) → IsFilledTo f d 0 xs xs
fill_begins f d xs = record {
  each = refl;
  front = λ i below. absurd (omega (arith, below));
  rest = λ i above. refl;
}

pub fill_goes_on : {A : Type 0} (f : ℕ → A → A) (d : A) (k : ℕ) (old new : List A) (v : A) → IsFilledTo f d k old new → k < length old → v ≡ f k (get_or old k d) → IsFilledTo f d (k + 1) old (set new k v)
fill_goes_on f d k old new v filled within is = record {
  each = length-set new k v ∙ filled.each;
  front = λ i below. by_place i below (cases_eq i k);
  rest = λ i above. get_or-set_other new k i v d (λ e. absurd (omega (arith, e, above))) ∙ filled.rest i (omega (arith, above));
}
  where
    by_place : (i : ℕ) → i < k + 1 → (i ≡ k) ⊎ (i ≢ k) → get_or (set new k v) i d ≡ f i (get_or old i d)
    by_place i below (inl here) =
        ap (λ j. get_or (set new k v) j d) here
        ∙ (get_or-set_same new k v d (let same = filled.each in omega (arith, within, same)) ∙ (is ∙ ap (λ j. f j (get_or old j d)) (sym here)))
    by_place i below (inr apart) = get_or-set_other new k i v d apart ∙ filled.front i (omega (arith, below, apart))

pub fill_ends : {A : Type 0} (f : ℕ → A → A) (d : A) (k : ℕ) (old new made : List A) → IsFilledTo f d k old new → length old ≤ k → length made ≡ length old
    → ((i : ℕ) → i < length old → get_or made i d ≡ f i (get_or old i d)) → new ≡ made
fill_ends f d k old new made filled all each is =
    ext_get_or d new made (filled.each ∙ sym each)
    (λ i below. (let same = filled.each in
    filled.front i (omega (arith, below, all, same)) ∙ sym (is i (omega (arith, below, same)))))
