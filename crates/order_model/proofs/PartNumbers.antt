-- What the numbers of segments tell of parts.
use Rattle.std.proofs.Common.{◌≡◌, ℕ, zero, suc, ◌+◌, ◌<◌, ◌≤◌, ◌==◌, Bool, true, false, cond, List, [], ◌∷◌, length, get_or, refl, sym, ◌∙◌, ap, subst, arith}
use Rattle.std.specs.List.{AllByRecursion}
use Rattle.std.specs.Prelude.{Vec}
use Rattle.std.specs.Global.{Global}
use Rattle.std.proofs.lemmas.Bool.Decides.{nat_tests}
use Rattle.map_base.specs.declared.ids.SegId.{SegId}
use Rattle.map_base.specs.declared.ids.LineId.{LineId}
use Rattle.order_model.specs.declared.term.Term.{Term}
use Rattle.order_model.specs.Parts.{AreParts}
use Rattle.order_model.specs.Gathering.{part_lists}
use Rattle.order_model.proofs.Placing.{length-part_lists}
use Rattle.order_model.specs.PartTerms.{is_in}
use Rattle.order_model.specs.Numbers.{number_of, AreNumbers, TellPart}
use Rattle.order_model.proofs.PartLists.{part_at}
use Rattle.order_model.proofs.Shares.{ShareNone, AreApartParts, parts_apart}

-- no later part has a segment of an earlier one
later_lack : (p : List SegId) (later : List (List SegId)) (k : ℕ) (s : SegId) → AllByRecursion (ShareNone p) later → k < length later → is_in p s ≡ true
    → is_in (get_or later k []) s ≡ false
later_lack p [] k s apart below h = absurd (omega (arith, below))
later_lack p (q ∷ later) zero s apart below h = apart.0 s h
later_lack p (q ∷ later) (suc k) s apart below h = later_lack p later k s apart.1 (omega (arith, below)) h

never : (n : ℕ) → (1 + n == 0) ≡ false
never n = grind (arith, nat_tests)

not_first : (k : ℕ) → (0 == suc k) ≡ false
not_first k = grind (arith, nat_tests)

one_more : (n k : ℕ) → (1 + n == suc k) ≡ (n == k)
one_more n k = grind (arith, nat_tests)

-- the number of a segment is that of its part alone
pub number_tells : (parts : List (List SegId)) (k : ℕ) (s : SegId) → AreApartParts parts → k < length parts
    → (number_of parts s == k) ≡ is_in (get_or parts k []) s
number_tells [] k s apart below = absurd (omega (arith, below))
number_tells (p ∷ parts) zero s apart below = by_test (is_in p s)
  where
    by_test : (b : Bool) → (cond b 0 (1 + number_of parts s) == 0) ≡ b
    by_test true = refl
    by_test false = never (number_of parts s)
number_tells (p ∷ parts) (suc k) s apart below = by_test (is_in p s) refl (number_tells parts k s apart.1 (omega (arith, below)))
  where
    by_test : (b : Bool) → is_in p s ≡ b → (number_of parts s == k) ≡ is_in (get_or parts k []) s
        → (cond b 0 (1 + number_of parts s) == suc k) ≡ is_in (get_or parts k []) s
    by_test true e rest = not_first k ∙ sym (later_lack p parts k s apart.0 (omega (arith, below)) e)
    by_test false e rest = one_more (number_of parts s) k ∙ rest

-- the number of a segment is not above that of any part that has it
pub number_within : (parts : List (List SegId)) (k : ℕ) (s : SegId) → k < length parts → is_in (get_or parts k []) s ≡ true → number_of parts s ≤ k
number_within [] k s below h = absurd (omega (arith, below))
number_within (p ∷ parts) zero s below h = rw h (omega arith)
number_within (p ∷ parts) (suc k) s below h = by_test (is_in p s) (number_within parts k s (omega (arith, below)) h)
  where
    by_test : (b : Bool) → number_of parts s ≤ k → cond b 0 (1 + number_of parts s) ≤ suc k
    by_test true rest = omega arith
    by_test false rest = omega (arith, rest)

-- what numbers tell of each part
pub part_told : (parts : List (List SegId)) (count k : ℕ) (numbers : List ℕ) → AreApartParts parts → AreNumbers parts count numbers → k < length parts
    → TellPart (get_or parts k []) k count numbers
part_told parts count k numbers apart ok below = record {
  each = ok.each;
  told = λ s known. ap (λ n. n == k) (ok.told s known) ∙ number_tells parts k s apart below;
}

-- the same of the parts of a problem
pub tell_part : (segs : List (List LineId)) (terms : List Term) (parts : List (List SegId)) (k : ℕ) (numbers : List ℕ) → AreParts segs terms parts
    → AreNumbers parts (length segs) numbers → k < length parts → TellPart (get_or parts k []) k (length segs) numbers
tell_part segs terms parts k numbers ok told below = part_told parts (length segs) k numbers (parts_apart segs terms parts ok) told below

-- the same of a part as it lies in memory
pub tell_part_at : (segs : List (List LineId)) (terms : List Term) (parts : List (Vec SegId Global)) (k : ℕ) (part : Vec SegId Global) (numbers : List ℕ)
    → AreParts segs terms (part_lists parts) → AreNumbers (part_lists parts) (length segs) numbers → k < length parts → part ≡ get_or parts k part
    → TellPart part.items k (length segs) numbers
tell_part_at segs terms parts k part numbers ok told below is =
    subst (λ p. TellPart p k (length segs) numbers) (part_at parts k part below is)
    (tell_part segs terms (part_lists parts) k numbers ok told (omega (arith, below, length-part_lists parts)))
