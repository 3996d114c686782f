-- The numbers of segments, part by part.
use Rattle.std.proofs.Common.{◌≡◌, ◌≢◌, ℕ, zero, suc, ◌+◌, ◌<◌, ◌≤◌, ◌==◌, Bool, true, false, cond, List, [], ◌∷◌, ◌++◌, length, take, drop, get_or, refl, sym, ◌∙◌, ap, subst, arith, eq-eqb, eqb-true, true≢false, length-append}
use Rattle.std.specs.List.{AllByRecursion}
use Rattle.std.specs.Prelude.{Vec}
use Rattle.std.specs.Global.{Global}
use Rattle.std.proofs.Math.Seq.{take-append_seam}
use Rattle.std.proofs.lemmas.Bool.{eqb-false}
use Rattle.std.proofs.lemmas.List.{length-take-le, take_more}
use Rattle.map_base.specs.declared.ids.SegId.{SegId}
use Rattle.map_base.specs.declared.ids.LineId.{LineId}
use Rattle.order_model.specs.declared.term.Term.{Term}
use Rattle.order_model.specs.Parts.{AreParts}
use Rattle.order_model.specs.Gathering.{part_lists}
use Rattle.order_model.proofs.Placing.{length-part_lists}
use Rattle.order_model.specs.PartTerms.{is_in}
use Rattle.order_model.specs.Numbers.{number_of, AreGiven}
use Rattle.order_model.proofs.PartLists.{part_at}
use Rattle.order_model.proofs.Shares.{ShareNone, AreApartParts, parts_apart}

differs : (a b : ℕ) → b ≢ a → (a == b) ≡ false
differs a b n = by_test (a == b) refl
  where
    by_test : (t : Bool) → (a == b) ≡ t → t ≡ false
    by_test false e = refl
    by_test true e = absurd (n (sym (eqb-true a b e)))

-- the number of the part among these, and where it is of none, this one
abbrev number_so_far : List (List SegId) → ℕ → SegId → ℕ
number_so_far done absent s = cond (number_of done s == length done) absent (number_of done s)

pub record AreNumberedSoFar (done : List (List SegId)) (absent count : ℕ) (numbers : List ℕ) : Type 0 where
  pub each : length numbers ≡ count
  pub told : (s : SegId) → s.0 < count → get_or numbers s.0 0 ≡ number_so_far done absent s

number_at_most : (parts : List (List SegId)) (s : SegId) → number_of parts s ≤ length parts
number_at_most [] s = omega arith
number_at_most (p ∷ parts) s = by_test (is_in p s) (number_at_most parts s)
  where
    by_test : (b : Bool) → number_of parts s ≤ length parts → cond b 0 (1 + number_of parts s) ≤ suc (length parts)
    by_test true rest = omega arith
    by_test false rest = omega (arith, rest)

-- where none of them has it
number_of_none : (parts : List (List SegId)) (p : List SegId) (s : SegId) → AllByRecursion (λ q. ShareNone q p) parts → is_in p s ≡ true → number_of parts s ≡ length parts
number_of_none [] p s apart h = refl
number_of_none (q ∷ parts) p s apart h = by_test (is_in q s) refl (number_of_none parts p s apart.1 h)
  where
    by_test : (b : Bool) → is_in q s ≡ b → number_of parts s ≡ length parts → cond b 0 (1 + number_of parts s) ≡ suc (length parts)
    by_test true e rest = absurd (true≢false (sym h ∙ apart.0 s e))
    by_test false e rest = omega (arith, rest)

number_front : (done more : List (List SegId)) (s : SegId) → number_of done s < length done → number_of (done ++ more) s ≡ number_of done s
number_front [] more s below = absurd (omega (arith, below))
number_front (q ∷ done) more s below = by_test (is_in q s) below (number_front done more s)
  where
    by_test : (b : Bool) → cond b 0 (1 + number_of done s) < suc (length done) → (number_of done s < length done → number_of (done ++ more) s ≡ number_of done s)
        → cond b 0 (1 + number_of (done ++ more) s) ≡ cond b 0 (1 + number_of done s)
    by_test true below rest = refl
    by_test false below rest = omega (arith, rest (omega (arith, below)))

number_back : (done more : List (List SegId)) (s : SegId) → number_of done s ≡ length done → number_of (done ++ more) s ≡ length done + number_of more s
number_back [] more s e = omega arith
number_back (q ∷ done) more s e = by_test (is_in q s) e (number_back done more s)
  where
    by_test : (b : Bool) → cond b 0 (1 + number_of done s) ≡ suc (length done) → (number_of done s ≡ length done → number_of (done ++ more) s ≡ length done + number_of more s)
        → cond b 0 (1 + number_of (done ++ more) s) ≡ suc (length done) + number_of more s
    by_test true e rest = absurd (omega (arith, e))
    by_test false e rest = omega (arith, rest (omega (arith, e)))

where_same : (i j x y : ℕ) → i ≡ j → cond (i == j) x y ≡ x
where_same i j x y e = rw (eq-eqb i j e) refl

where_other : (i j x y : ℕ) → i ≢ j → cond (i == j) x y ≡ y
where_other i j x y n = rw (differs i j (λ e. n (sym e))) refl

so_far_more : (done : List (List SegId)) (p : List SegId) (absent : ℕ) (s : SegId) → AllByRecursion (λ q. ShareNone q p) done
    → cond (is_in p s) (length done) (number_so_far done absent s) ≡ number_so_far (done ++ p ∷ []) absent s
so_far_more done p absent s apart = by_test (is_in p s) refl (number_of done s == length done) refl
  where
    longer : length (done ++ p ∷ []) ≡ length done + 1
    longer = length-append done (p ∷ [])

    by_test : (b : Bool) → is_in p s ≡ b → (c : Bool) → (number_of done s == length done) ≡ c
        → cond b (length done) (cond c absent (number_of done s)) ≡ number_so_far (done ++ p ∷ []) absent s
    by_test true e c f =
        let last : number_of (p ∷ []) s ≡ 0 = rw e refl in
        let is : number_of (done ++ p ∷ []) s ≡ length done + number_of (p ∷ []) s = number_back done (p ∷ []) s (number_of_none done p s apart e) in
        sym (where_other (number_of (done ++ p ∷ []) s) (length (done ++ p ∷ [])) absent (number_of (done ++ p ∷ []) s) (omega (arith, last, is, longer)) ∙ omega (arith, last, is))
    by_test false e true f =
        let last : number_of (p ∷ []) s ≡ 1 = rw e refl in
        let is : number_of (done ++ p ∷ []) s ≡ length done + number_of (p ∷ []) s = number_back done (p ∷ []) s (eqb-true (number_of done s) (length done) f) in
        sym (where_same (number_of (done ++ p ∷ []) s) (length (done ++ p ∷ [])) absent (number_of (done ++ p ∷ []) s) (omega (arith, last, is, longer)))
    by_test false e false f =
        let other : number_of done s ≢ length done = eqb-false (number_of done s) (length done) f in
        let below : number_of done s < length done = omega (arith, other, number_at_most done s) in
        let is : number_of (done ++ p ∷ []) s ≡ number_of done s = number_front done (p ∷ []) s below in
        sym (where_other (number_of (done ++ p ∷ []) s) (length (done ++ p ∷ [])) absent (number_of (done ++ p ∷ []) s) (omega (arith, below, is, longer)) ∙ is)

pub one_more_numbered : (done : List (List SegId)) (p : List SegId) (absent count : ℕ) (before after : List ℕ) → AllByRecursion (λ q. ShareNone q p) done
    → AreNumberedSoFar done absent count before → AreGiven p (length done) before after → AreNumberedSoFar (done ++ p ∷ []) absent count after
one_more_numbered done p absent count before after apart ok given = record {
  each = given.each ∙ ok.each;
  told = λ s below.
      given.told s (omega (arith, below, ok.each)) ∙ ap (λ n. cond (is_in p s) (length done) n) (ok.told s below) ∙ so_far_more done p absent s apart;
}

-- parts share no segment with those before them
pub apart_before : (parts : List (List SegId)) (i : ℕ) → AreApartParts parts → i < length parts → AllByRecursion (λ q. ShareNone q (get_or parts i [])) (take i parts)
apart_before [] i apart below = absurd (omega (arith, below))
apart_before (p ∷ parts) zero apart below = tt
apart_before (p ∷ parts) (suc i) apart below = (at parts i apart.0 (omega (arith, below)), apart_before parts i apart.1 (omega (arith, below)))
  where
    at : (later : List (List SegId)) (i : ℕ) → AllByRecursion (ShareNone p) later → i < length later → ShareNone p (get_or later i [])
    at [] i all below = absurd (omega (arith, below))
    at (q ∷ later) zero all below = all.0
    at (q ∷ later) (suc i) all below = at later i all.1 (omega (arith, below))

-- a slice of a whole vector, as it is written back
written_back : (old new : List ℕ) (n : ℕ) → length new ≡ n → take n (new ++ drop (length new) old) ≡ new
written_back old new n e = ap (λ k. take k (new ++ drop (length new) old)) (sym e) ∙ take-append_seam new (drop (length new) old)

-- the numbers after a part more of a problem, as they are written back
pub one_part_more : (segs : List (List LineId)) (terms : List Term) (parts : List (Vec SegId Global)) (k n : ℕ) (part : Vec SegId Global) (before after : List ℕ)
    → AreParts segs terms (part_lists parts) → k < length parts → part ≡ get_or parts k part
    → AreNumberedSoFar (take k (part_lists parts)) (length parts) (length segs) before → AreGiven part.items k before after → n ≡ length before
    → AreNumberedSoFar (take (k + 1) (part_lists parts)) (length parts) (length segs) (take n (after ++ drop (length after) before))
one_part_more segs terms parts k n part before after ok below is done given whole =
    let lists : List (List SegId) = part_lists parts in
    let within : k < length lists = omega (arith, below, length-part_lists parts) in
    let here : get_or lists k [] ≡ part.items = part_at parts k part below is in
    let front : length (take k lists) ≡ k = length-take-le k lists (omega (arith, within)) in
    let more : take (k + 1) lists ≡ take k lists ++ part.items ∷ [] = take_more lists k [] within ∙ ap (λ p. take k lists ++ p ∷ []) here in
    let apart : AllByRecursion (λ q. ShareNone q part.items) (take k lists) =
    subst (λ p. AllByRecursion (λ q. ShareNone q p) (take k lists)) here (apart_before lists k (parts_apart segs terms lists ok) within) in
    let numbered = one_more_numbered (take k lists) part.items (length parts) (length segs) before after apart done (subst (λ m. AreGiven part.items m before after) (sym front) given) in
    let back : take n (after ++ drop (length after) before) ≡ after = written_back before after n (given.each ∙ sym whole) in
    subst (λ ns. AreNumberedSoFar (take (k + 1) lists) (length parts) (length segs) ns) (sym back)
    (subst (λ ls. AreNumberedSoFar ls (length parts) (length segs) after) (sym more) numbered)
