-- The patterns of each line, one after another.
use Rattle.std.proofs.Common.{◌≡◌, ℕ, ◌+◌, ◌<◌, Bool, true, false, ◌&&◌, ◌==◌, List, [], ◌∷◌, ◌++◌, length, get_or, set, refl, ap, sym, subst, ◌∙◌, arith, append-nil, length-set}
use Rattle.std.specs.Prelude.{All}
use Rattle.std.specs.List.{range_with_len}
use Rattle.std.proofs.lemmas.Bool.{eqb-true, eqb-false}
use Rattle.std.proofs.lemmas.List.{get_or_default, get_or-set_other}
use Rattle.std.proofs.lemmas.Grind.{get_or-set_at}
use Rattle.std.proofs.lemmas.List.Elements.{All-filter}
use Rattle.transit_feed.specs.declared.line.Line.{Line}
use Rattle.transit_feed.specs.declared.pattern.Pattern.{Pattern}
use Rattle.feed_courses.specs.Shown.{is_shown}
use Rattle.line_calls.specs.Tables.{is_of, numbers_of, pattern_at, AreByLine, AreEmpty, AreInRange}
use Rattle.line_calls.proofs.ListLemmas.{filter_more, range_below}

-- no pattern yet
pub by_line_none : (lines : List Line) (patterns : List Pattern) (count : ℕ) (lists : List (List ℕ)) → count ≡ length lines → AreEmpty count lists → AreByLine lines patterns 0 lists
by_line_none lines patterns count lists e h = record { each = h.each ∙ e; of = λ line low. h.none line }

-- pattern k is of no line that is shown
pub by_line_hidden : (lines : List Line) (patterns : List Pattern) (k : ℕ) (lists : List (List ℕ)) → is_shown lines (pattern_at patterns k) ≡ false → AreByLine lines patterns k lists → AreByLine lines patterns (k + 1) lists
by_line_hidden lines patterns k lists hidden h = record {
  each = h.each;
  of = λ line low.
      h.of line low
      ∙ sym (filter_more (is_of lines patterns line) k false (ap (λ (b : Bool). b && ((pattern_at patterns k).line.0 == line)) hidden) ∙ append-nil (numbers_of lines patterns k line));
}

-- pattern k stands behind those of its line
pub by_line_put : (lines : List Line) (patterns : List Pattern) (k l : ℕ) (old new : List (List ℕ)) → l ≡ (pattern_at patterns k).line.0 → l < length lines → is_shown lines (pattern_at patterns k) ≡ true
    → AreByLine lines patterns k old → new ≡ set old l (get_or old l [] ++ k ∷ []) → AreByLine lines patterns (k + 1) new
by_line_put lines patterns k l old new its within shown h e = record { each = ap length e ∙ length-set old l (get_or old l [] ++ k ∷ []) ∙ h.each; of = of }
  where
    kept : (line : ℕ) (b : Bool) → (l == line) ≡ b → is_of lines patterns line k ≡ b
    kept line b same = ap (λ (t : Bool). t && ((pattern_at patterns k).line.0 == line)) shown ∙ ap (λ (n : ℕ). n == line) (sym its) ∙ same

    by_test : (line : ℕ) → line < length lines → (b : Bool) → (l == line) ≡ b → get_or new line [] ≡ numbers_of lines patterns (k + 1) line
    by_test line low true same =
        let one : l ≡ line = eqb-true l line same in
        ap (λ (lists : List (List ℕ)). get_or lists line []) e
        ∙ get_or-set_at old l line (get_or old l [] ++ k ∷ []) [] (sym one) (omega (arith, within, h.each))
        ∙ ap (λ (n : ℕ). get_or old n [] ++ k ∷ []) one
        ∙ ap (λ (ns : List ℕ). ns ++ k ∷ []) (h.of line low)
        ∙ sym (filter_more (is_of lines patterns line) k true (kept line true same))
    by_test line low false same =
        ap (λ (lists : List (List ℕ)). get_or lists line []) e
        ∙ get_or-set_other old l line (get_or old l [] ++ k ∷ []) [] (λ is. eqb-false l line same (sym is))
        ∙ h.of line low
        ∙ sym (filter_more (is_of lines patterns line) k false (kept line false same) ∙ append-nil (numbers_of lines patterns k line))

    of : (line : ℕ) → line < length lines → get_or new line [] ≡ numbers_of lines patterns (k + 1) line
    of line low = by_test line low (l == line) refl

-- all numbers are those of patterns
pub by_line_known : (lines : List Line) (patterns : List Pattern) (lists : List (List ℕ)) → AreByLine lines patterns (length patterns) lists → All (AreInRange (length patterns)) lists
by_line_known lines patterns lists h line d low =
    let within : line < length lines = omega (arith, low, h.each) in
    subst (AreInRange (length patterns)) (sym (get_or_default lists line d [] low ∙ h.of line within))
    (All-filter (is_of lines patterns line) (λ (k : ℕ). k < length patterns) (range_with_len 0 (length patterns)) (range_below (length patterns)))
