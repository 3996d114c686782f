-- The common word of a line graph's names, and its second platforms, as they are kept.
use Rattle.std.specs.Prelude.{ℕ, ◌≡◌, ◌==◌, ◌<◌, ◌&&◌, Bool, false, List, length, Option, option_map, slice_index_or}
use Rattle.std.specs.Borrow.{Bor}
use Rattle.map_base.specs.declared.ids.NodeId.{NodeId}
use Rattle.graph_core.specs.declared.parts.GraphParts.{GraphParts}
use Rattle.svg_writer.specs.declared.names.Names.{Names}
use Rattle.name_widths.specs.Words.{is_common}
use Rattle.name_widths.specs.Votes.{is_that}
use Rattle.poster_rules.specs.Texts.{all_names, all_rests, are_same, is_second, rest_at}
use Rattle.poster_graph.specs.declared.texts.Texts.{Texts}

-- a lent text, if there is one
abbrev pub text_in : Option (Bor (List ℕ)) → Option (List ℕ)
text_in text = option_map (λ (t : Bor (List ℕ)). t.now) text

-- a word is the one with which more than half of the station nodes' names begin, and there is none where none is
abbrev pub IsCommonWord : Names → GraphParts → Option (Bor (List ℕ)) → Type 0
IsCommonWord names g common = (word : List ℕ) → is_common (all_names names g) word ≡ is_that word common

-- a segment makes node n a second platform, where these rests are left of names
abbrev pub is_second_by : List (Option (List ℕ)) → ℕ → NodeId × NodeId → Bool
is_second_by rests n e = (e.1.0 == n) && are_same (rest_at rests e.0.0) (rest_at rests n)

-- each node that is a second platform is flagged, and no other
pub record AreSeconds (names : Names) (g : GraphParts) (flags : List Bool) : Type 0 where
  pub each : length flags ≡ length g.kinds
  pub of : (n : ℕ) → n < length g.kinds → slice_index_or flags n false ≡ is_second g (all_rests names g) n

-- these are the texts of a line graph
pub record AreTextsOf (names : Names) (g : GraphParts) (texts : Texts) : Type 0 where
  pub common : IsCommonWord names g texts.common
  pub seconds : AreSeconds names g texts.seconds.items
