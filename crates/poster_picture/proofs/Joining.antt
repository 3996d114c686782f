-- A line from segment to segment at a node, where its two ends differ.
use Rattle.std.proofs.Common.{◌≡◌, ℕ, Bool, true, false, cond, List, [], ◌∷◌, ◌++◌, ap, sym, ◌∙◌, append-nil}
use Rattle.graph_core.specs.declared.parts.Join.{Join}
use Rattle.line_offsets.specs.declared.corner.Corner.{Corner}
use Rattle.svg_writer.specs.Picture.{are_one, colour_of}
use Rattle.poster_rules.specs.Elements.{AtNode, BehindAtNode, Element, texts}
use Rattle.poster_rules.specs.Posters.{between, foot_on, join_elements, with_behind, Sheet}

module _ (sheet : Sheet) (n : ℕ) (j : Join) (a b : Corner) where
  -- between two corners that are the feet of a join
  between_feet : a ≡ foot_on sheet n j.e.0 j.line → b ≡ foot_on sheet n j.f.0 j.line → between sheet n j.line a b ≡ join_elements sheet n j
  between_feet p q = ap (λ (c : Corner). between sheet n j.line c b) p ∙ ap (between sheet n j.line (foot_on sheet n j.e.0 j.line)) q

  -- what is drawn between them in a colour
  abbrev drawn : List ℕ → List Element
  drawn colour = with_behind colour (BehindAtNode n j.line.0 (a ∷ b ∷ [])) (AtNode n j.line.0 (a ∷ b ∷ []) colour)

  pub ends_meet : (old : List ℕ) → a ≡ foot_on sheet n j.e.0 j.line → b ≡ foot_on sheet n j.f.0 j.line → are_one a b ≡ true → old ≡ old ++ texts (join_elements sheet n j)
  ends_meet old p q one =
      sym (append-nil old) ∙ sym (ap (λ (t : Bool). old ++ texts (cond t [] (drawn (colour_of sheet.names j.line)))) one) ∙ ap (λ (es : List Element). old ++ texts es) (between_feet p q)

  pub ends_differ : (colour : List ℕ) → a ≡ foot_on sheet n j.e.0 j.line → b ≡ foot_on sheet n j.f.0 j.line → are_one a b ≡ false → colour ≡ colour_of sheet.names j.line
      → texts (drawn colour) ≡ texts (join_elements sheet n j)
  ends_differ colour p q two is =
      ap (λ (k : List ℕ). texts (drawn k)) is ∙ sym (ap (λ (t : Bool). texts (cond t [] (drawn (colour_of sheet.names j.line)))) two) ∙ ap texts (between_feet p q)
