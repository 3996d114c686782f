-- What a proof about a part is asked to show.
use Rattle.std.specs.Prelude.{ℕ, List}
use Rattle.map_base.specs.declared.ids.SegId.{SegId}
use Rattle.map_base.specs.declared.ids.LineId.{LineId}
use Rattle.order_model.specs.declared.term.Term.{Term}

-- that orders of the part cost at least the target on these terms, each behind its number
pub record Question : Type 0 where
  pub segs : List (List LineId)
  pub part : List SegId
  pub terms : List (ℕ × Term)
  pub target : ℕ

-- the question of these
abbrev pub question : List (List LineId) → List SegId → List (ℕ × Term) → ℕ → Question
question segs part terms target = record { segs = segs; part = part; terms = terms; target = target }
