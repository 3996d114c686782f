-- Segments that are sorted.
use Rattle.std.proofs.Common.{◌≡◌, ◌≢◌, Bool, cond, List, length, ap, sym, ◌∙◌}
use Rattle.std.specs.Prelude.{nat_lt}
use Rattle.std.proofs.lemmas.Bool.{eq-eqb, ne_eqb}
use Rattle.map_base.specs.declared.ids.LineId.{LineId}
use Rattle.map_base.specs.declared.ids.SegId.{SegId}
use Rattle.svg_writer.specs.Picture.{lines_at}
use Rattle.poster_rules.specs.Posters.{goes_before}

-- what reads past segments fall back on
abbrev pub no_segment : SegId
no_segment = record { 0 = 0 }

module _ (lines : List (List LineId)) (a b : SegId) (first second : List LineId) (e : first ≡ lines_at lines a.0) (f : second ≡ lines_at lines b.0) where
  abbrev by : Bool → Bool
  by same = cond same (nat_lt a.0 b.0) (nat_lt (length (lines_at lines b.0)) (length (lines_at lines a.0)))

  -- of two segments of as many lines the one of the lesser number goes before the other
  pub as_many : length first ≡ length second → nat_lt a.0 b.0 ≡ goes_before lines a b
  as_many same = sym (ap by (eq-eqb (length (lines_at lines a.0)) (length (lines_at lines b.0)) (sym (ap length e) ∙ same ∙ ap length f)))

  -- and else the one of more lines
  pub not_as_many : length first ≢ length second → nat_lt (length second) (length first) ≡ goes_before lines a b
  not_as_many apart =
      ap (λ (ls : List LineId). nat_lt (length ls) (length first)) f
      ∙ ap (λ (ls : List LineId). nat_lt (length (lines_at lines b.0)) (length ls)) e
      ∙ sym (ap by (ne_eqb (length (lines_at lines a.0)) (length (lines_at lines b.0)) (λ same. apart (ap length e ∙ same ∙ sym (ap length f)))))
