-- The lines and importances that a certificate has are those that stand on segments.
use Rattle.std.proofs.Common.{◌≡◌, ◌∙◌, ap, ap₂, refl, sym, ℕ, zero, suc, ◌+◌, ◌-◌, ◌<◌, ◌≤◌, ◌||◌, Bool, false, cond, List, [], ◌∷◌, ◌++◌, length, map, get_or, arith, append-nil, ne_eqb}
use Rattle.std.specs.Prelude.{filter}
use Rattle.std.specs.List.{list_any, range_with_len, AllByRecursion as ByRecursion}
use Rattle.std.proofs.lemmas.List.Elements.{All-filter, All-from_get_or, All-map, recursion_from_All}
use Rattle.std.proofs.lemmas.List.FromFn.{filter_of_map_range_with_len_more, get_or-range_with_len, length-range_with_len}
use Rattle.map_base.specs.declared.ids.LineId.{LineId}
use Rattle.graph_core.specs.declared.parts.GraphParts.{GraphParts}
use Rattle.order_model.specs.Places.{has_line}
use Rattle.graph_maps.specs.Certificates.{drawn_lines, is_drawn, is_weighty, line_count, line_numbered, weighed_line, weighty_lines}
use Rattle.export_command.proofs.Numbers.{AreBelow}

module _ (g : GraphParts) (n : ℕ) (low : AreBelow n g.lines) where
  not_on : (j : ℕ) → n ≤ j → (lines : List LineId) → ByRecursion (λ (l : LineId). l.0 < n) lines
      → has_line lines (line_numbered j) ≡ false
  not_on j past [] are = refl
  not_on j past (l ∷ lines) are =
      ap₂ (λ (a b : Bool). a || b) (ne_eqb l.0 j (λ e. omega (arith, e, are.0, past))) (not_on j past lines are.1)

  not_on_any : (j : ℕ) → n ≤ j → (lists : List (List LineId)) → AreBelow n lists
      → list_any (λ (lines : List LineId). has_line lines (line_numbered j)) lists ≡ false
  not_on_any j past [] are = refl
  not_on_any j past (lines ∷ lists) are =
      ap₂ (λ (a b : Bool). a || b) (not_on j past lines are.0) (not_on_any j past lists are.1)

  past_none : (k : ℕ) → drawn_lines (n + k) g ≡ drawn_lines n g
  past_none zero = let same : n + 0 ≡ n = omega arith in ap (λ (m : ℕ). drawn_lines m g) same
  past_none (suc k) =
      let next : n + suc k ≡ (n + k) + 1 = omega arith in
      let at : 0 + (n + k) ≡ n + k = omega arith in
      ap (λ (m : ℕ). drawn_lines m g) next
      ∙ filter_of_map_range_with_len_more (is_drawn g) line_numbered 0 (n + k) (n + k) at
      ∙ ap (λ (b : Bool). drawn_lines (n + k) g ++ cond b (line_numbered (n + k) ∷ []) [])
      (not_on_any (n + k) (omega arith) g.lines low)
      ∙ append-nil (drawn_lines (n + k) g) ∙ past_none k

  -- lines that stand on segments are among the first n
  pub drawn_first : (most : ℕ) → n ≤ most → drawn_lines most g ≡ drawn_lines n g
  drawn_first most few =
      let same : most ≡ n + (most - n) = omega (arith, few) in
      ap (λ (m : ℕ). drawn_lines m g) same ∙ past_none (most - n)

  drawn_low : ByRecursion (λ (l : LineId). l.0 < n) (drawn_lines n g)
  drawn_low =
      let Low : LineId → Type 0 = λ l. l.0 < n in
      recursion_from_All Low (drawn_lines n g)
      (All-filter (is_drawn g) Low (map line_numbered (range_with_len 0 n))
      (All-map Low line_numbered (range_with_len 0 n)
      (All-from_get_or (λ (k : ℕ). k < n) (range_with_len 0 n) 0
      (λ i h. let below : i < n = omega (arith, h, length-range_with_len 0 n) in omega (arith, below, get_or-range_with_len 0 n i 0 below)))))

  -- two lists of importances that tell the same of the first n lines
  module _ (new old : List ℕ) (each : length new ≡ n) (few : n ≤ length old)
      (agree : (l : ℕ) → l < n → get_or new l 1 ≡ get_or old l 1) where
    same_drawn : drawn_lines (length new) g ≡ drawn_lines (length old) g
    same_drawn = ap (λ (m : ℕ). drawn_lines m g) each ∙ sym (drawn_first (length old) few)

    pub same_count : line_count new g ≡ line_count old g
    same_count = ap (length {A = LineId}) same_drawn

    weighed : (lines : List LineId) → ByRecursion (λ (l : LineId). l.0 < n) lines
        → map (weighed_line new) lines ≡ map (weighed_line old) lines
    weighed [] are = refl
    weighed (l ∷ lines) are =
        ap₂ (λ (w : ℕ) rest. (l, w) ∷ rest) (agree l.0 are.0) (weighed lines are.1)

    pub same_weighty : weighty_lines new g ≡ weighty_lines old g
    same_weighty =
        ap (λ (lines : List LineId). filter is_weighty (map (weighed_line new) lines)) (ap (λ (m : ℕ). drawn_lines m g) each)
        ∙ ap (filter is_weighty) (weighed (drawn_lines n g) drawn_low)
        ∙ ap (λ (lines : List LineId). filter is_weighty (map (weighed_line old) lines)) (sym (drawn_first (length old) few))
