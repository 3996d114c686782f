-- The closure of a line is the least closed group that has it.
use Rattle.std.proofs.Common.{◌≡◌, ℕ, zero, suc, ◌==◌, Bool, true, false, not, List, [], ◌∷◌, length}
use Rattle.std.proofs.Common.{refl, sym, ◌∙◌, ap, subst, true≢false, eq-eqb, inl, inr}
use Rattle.std.specs.Prelude.{filter}
use Rattle.std.specs.List.{list_any, list_all}
use Rattle.std.proofs.lemmas.Bool.{and_parts, or_cases, or_left, or_right, not-true}
use Rattle.map_base.specs.declared.ids.SegId.{SegId}
use Rattle.map_base.specs.declared.ids.LineId.{LineId}
use Rattle.order_model.specs.declared.problem.ProblemParts.{ProblemParts}
use Rattle.order_model.specs.Problems.{lines_on}
use Rattle.order_model.specs.Places.{has_line}
use Rattle.order_model.proofs.Lines.{same_line}
use Rattle.order_rules.specs.Dividing.{most_apart, can_part, is_held, grown, closure}
use Rattle.order_rules.proofs.Grouped.{has_filter, has_filtered}
use Rattle.order_rules.proofs.Closures.{begun_closed, begun_has}
use Rattle.rule_laws.specs.Closed.{IsClosed, IsWithin}

-- ---- tests of the lines of a list

-- a test that holds of some line of a list holds of one that the list has
pub any_at : (test : LineId → Bool) (xs : List LineId) → list_any test xs ≡ true → (a : LineId) × (has_line xs a ≡ true) × (test a ≡ true)
any_at test [] h = absurd (true≢false (sym h))
any_at test (x ∷ xs) h = elim (or_cases (test x) (list_any test xs) h) [
  | inl here ↦ (x, or_left (x.0 == x.0) (has_line xs x) (eq-eqb x.0 x.0 refl), here)
  | inr later ↦ (let rest = any_at test xs later in (rest.0, or_right (x.0 == rest.0.0) (has_line xs rest.0) rest.1, rest.2))
]

pub any_from : (test : LineId → Bool) (xs : List LineId) (a : LineId) → has_line xs a ≡ true → test a ≡ true → list_any test xs ≡ true
any_from test [] a on h = absurd (true≢false (sym on))
any_from test (x ∷ xs) a on h = elim (or_cases (x.0 == a.0) (has_line xs a) on) [
  | inl here ↦ or_left (test x) (list_any test xs) (ap test (same_line x a here) ∙ h)
  | inr later ↦ or_right (test x) (list_any test xs) (any_from test xs a later h)
]

-- one that holds of all lines of a list holds of each that it has
pub all_at : (test : LineId → Bool) (xs : List LineId) (a : LineId) → list_all test xs ≡ true → has_line xs a ≡ true → test a ≡ true
all_at test [] a h on = absurd (true≢false (sym on))
all_at test (x ∷ xs) a h on =
    let both = and_parts (test x) (list_all test xs) h in
    elim (or_cases (x.0 == a.0) (has_line xs a) on) [
      | inl here ↦ ap test (sym (same_line x a here)) ∙ both.0
      | inr later ↦ all_at test xs a both.1 later
    ]

-- what a test keeps has what it holds of
kept_is : (test : LineId → Bool) (xs : List LineId) (a : LineId) → has_line (filter test xs) a ≡ true → (test a ≡ true) × (has_line xs a ≡ true)
kept_is test xs a h = by (test a) refl
  where
    by : (b : Bool) → test a ≡ b → (test a ≡ true) × (has_line xs a ≡ true)
    by true e = (e, sym (has_filtered test xs a e) ∙ h)
    by false e = absurd (true≢false (sym h ∙ has_filter test xs a e))

-- ---- the closure

module _ (p : ProblemParts) (e : SegId) where
  abbrev lines : List LineId
  lines = lines_on p.segs e

  abbrev most : ℕ
  most = most_apart p.segs p.terms e

  abbrev parts : LineId → LineId → Bool
  parts a b = can_part most p.terms e a b

  -- a group of closed lines grows within them
  grows_within : (n : ℕ) (group closed : List LineId) → IsClosed p e closed → IsWithin group closed
      → IsWithin (grown most p.terms e lines n group) closed
  grows_within zero group closed holds within = within
  grows_within (suc n) group closed holds within =
      grows_within n (filter (is_held most p.terms e group) lines) closed holds (λ b on. held b (kept_is (is_held most p.terms e group) lines b on))
    where
      held : (b : LineId) → (is_held most p.terms e group b ≡ true) × (has_line lines b ≡ true) → has_line closed b ≡ true
      held b is = elim (or_cases (has_line group b) (list_any (λ a. not (parts a b)) group) is.0) [
        | inl here ↦ within b here
        | inr some ↦ (let a = any_at (λ x. not (parts x b)) group some in holds a.0 b (within a.0 a.1) is.1 (not-true (parts a.0 b) a.2))
      ]

  pub closure_least : (a : LineId) (group : List LineId) → has_line group a ≡ true → IsClosed p e group → IsWithin (closure p e a) group
  closure_least a group on holds = grows_within (length lines) (a ∷ []) group holds first
    where
      first : IsWithin (a ∷ []) group
      first b is = elim (or_cases (a.0 == b.0) false is) [
        | inl here ↦ subst (λ (x : LineId). has_line group x ≡ true) (same_line a b here) on
        | inr none ↦ absurd (true≢false (sym none))
      ]

  pub closure_has : (a : LineId) → has_line lines a ≡ true → has_line (closure p e a) a ≡ true
  closure_has a on = begun_has most p.terms e lines (length lines) a on

  pub closure_closed : (a : LineId) → has_line lines a ≡ true → IsClosed p e (closure p e a)
  closure_closed c on a b of there apart =
      let group : List LineId = closure p e c in
      let held : is_held most p.terms e group b ≡ true =
      or_right (has_line group b) (list_any (λ x. not (parts x b)) group) (any_from (λ x. not (parts x b)) group a of (ap not apart)) in
      let closed = begun_closed most p.terms e lines (length lines) c on refl in
      sym (ap (λ (xs : List LineId). has_line xs b) closed) ∙ has_filtered (is_held most p.terms e group) lines b held ∙ there
