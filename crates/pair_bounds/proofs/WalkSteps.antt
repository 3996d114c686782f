-- The steps of a walk as it lies in memory: the segments that wait stand last first.
use Rattle.std.proofs.Common.{◌≡◌, ℕ, zero, suc, ◌+◌, ◌<◌, ◌≤◌, Bool, true, false, not, cond, List, [], ◌∷◌, ◌++◌, length, map, filter, reverse, take, drop, get_or, refl, sym, ap, ◌∙◌, arith, add-one, append_assoc, length-append}
use Rattle.std.proofs.lemmas.List.{append-nil, length-map, reverse-append, reverse-reverse, length-reverse}
use Rattle.std.proofs.lemmas.List.Filters.{length-filter_both}
use Rattle.map_base.specs.declared.ids.SegId.{SegId}
use Rattle.order_bound.specs.declared.pairs.OpenLink.{OpenLink}
use Rattle.order_bound.specs.CanonicalPrices.{ends_at, far_end, child_link, walked}
use Rattle.order_bound.specs.declared.pairs.ChildLink.{ChildLink}

-- what is made of those that pass
abbrev pub made : {A B : Type 0} → (A → B) → (A → Bool) → List A → List B
made f p xs = map f (filter p xs)

-- the walk once one more segment came in turn
pub walk_step : (w : List SegId) (parent : SegId) (links : List OpenLink) (children : List ChildLink)
    → children ++ walked (length (w ++ parent ∷ []) + length links) (reverse (w ++ parent ∷ [])) links
    ≡ (children ++ made (child_link parent) (ends_at parent) links)
    ++ walked (length (w ++ reverse (made (far_end parent) (ends_at parent) links)) + length (filter (λ l. not (ends_at parent l)) links))
    (reverse (w ++ reverse (made (far_end parent) (ends_at parent) links))) (filter (λ l. not (ends_at parent l)) links)
walk_step w parent links children =
    let far : List SegId = made (far_end parent) (ends_at parent) links in
    let others : List OpenLink = filter (λ l. not (ends_at parent l)) links in
    let first : reverse (w ++ parent ∷ []) ≡ parent ∷ reverse w = reverse-append w (parent ∷ []) in
    let next : reverse (w ++ reverse far) ≡ far ++ reverse w = reverse-append w (reverse far) ∙ ap (λ k. k ++ reverse w) (reverse-reverse far) in
    let fuel : length (w ++ parent ∷ []) + length links ≡ suc (length (w ++ reverse far) + length others) =
    omega (
      arith,
      length-append w (parent ∷ []),
      length-append w (reverse far),
      length-reverse far,
      length-map (filter (ends_at parent) links) (far_end parent),
      length-filter_both (ends_at parent) (λ l. not (ends_at parent l)) (λ l. refl) links,
    ) in
    ap (λ n. children ++ walked n (reverse (w ++ parent ∷ [])) links) fuel
    ∙ (ap (λ v. children ++ walked (suc (length (w ++ reverse far) + length others)) v links) first
    ∙ (sym (append_assoc children (made (child_link parent) (ends_at parent) links) (walked (length (w ++ reverse far) + length others) (far ++ reverse w) others))
    ∙ ap (λ v. (children ++ made (child_link parent) (ends_at parent) links) ++ walked (length (w ++ reverse far) + length others) v others) (sym next)))

-- the same for what lies in memory
pub walk_next : (parent : SegId) (w0 w w2 : List SegId) (links links2 : List OpenLink) (children children2 all : List ChildLink) → w0 ≡ w ++ parent ∷ []
    → children2 ≡ children ++ made (child_link parent) (ends_at parent) links → w2 ≡ w ++ reverse (made (far_end parent) (ends_at parent) links)
    → links2 ≡ filter (λ l. not (ends_at parent l)) links → children ++ walked (length w0 + length links) (reverse w0) links ≡ all
    → children2 ++ walked (length w2 + length links2) (reverse w2) links2 ≡ all
walk_next parent w0 w w2 links links2 children children2 all e1 e2 e3 e4 h =
    ap (λ c. c ++ walked (length w2 + length links2) (reverse w2) links2) e2
    ∙ (ap (λ v. (children ++ made (child_link parent) (ends_at parent) links) ++ walked (length v + length links2) (reverse v) links2) e3
    ∙ (ap (λ l. (children ++ made (child_link parent) (ends_at parent) links)
    ++ walked (length (w ++ reverse (made (far_end parent) (ends_at parent) links)) + length l) (reverse (w ++ reverse (made (far_end parent) (ends_at parent) links))) l) e4
    ∙ (sym (walk_step w parent links children) ∙ (ap (λ v. children ++ walked (length v + length links) (reverse v) links) (sym e1) ∙ h))))

pub walk_fewer : (parent : SegId) (w0 w w2 : List SegId) (links links2 : List OpenLink) → w0 ≡ w ++ parent ∷ [] → w2 ≡ w ++ reverse (made (far_end parent) (ends_at parent) links)
    → links2 ≡ filter (λ l. not (ends_at parent l)) links → (length w2 + length links2) + 1 ≡ length w0 + length links
walk_fewer parent w0 w w2 links links2 e1 e2 e3 =
    let far : List SegId = made (far_end parent) (ends_at parent) links in
    omega (
      arith,
      ap length e1,
      ap length e2,
      ap length e3,
      length-append w (parent ∷ []),
      length-append w (reverse far),
      length-reverse far,
      length-map (filter (ends_at parent) links) (far_end parent),
      length-filter_both (ends_at parent) (λ l. not (ends_at parent l)) (λ l. refl) links,
    )

pub children_fewer : (parent : SegId) (links links2 : List OpenLink) (children children2 : List ChildLink) → children2 ≡ children ++ made (child_link parent) (ends_at parent) links
    → links2 ≡ filter (λ l. not (ends_at parent l)) links → length children2 + length links2 ≡ length children + length links
children_fewer parent links links2 children children2 e1 e2 =
    omega (
      arith,
      ap length e1,
      ap length e2,
      length-append children (made (child_link parent) (ends_at parent) links),
      length-map (filter (ends_at parent) links) (child_link parent),
      length-filter_both (ends_at parent) (λ l. not (ends_at parent l)) (λ l. refl) links,
    )
