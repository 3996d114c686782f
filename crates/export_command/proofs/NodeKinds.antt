-- Nodes that are read again are stations where they were, with the names that they had.
use Rattle.std.proofs.Common.{◌≡◌, ◌∙◌, ap, refl, sym, ℕ, zero, suc, ◌+◌, List, [], ◌∷◌, ◌++◌, length, map, get_or, arith, append_assoc, length-append}
use Rattle.std.specs.Prelude.{Option, Some, None}
use Rattle.std.proofs.lemmas.List.{length-map}
use Rattle.std.proofs.lemmas.Option.{unwrap_or-slice_get}
use Rattle.graph_core.specs.declared.parts.NodeKind.{NodeKind}
use Rattle.graph_core.specs.declared.parts.NodeKind.TheVariants.{Station, Junction}
use Rattle.svg_writer.specs.declared.names.Names.{Names}
use Rattle.svg_writer.specs.Picture.{station_name}
use Rattle.graph_json.specs.Again.{node_name}
use Rattle.graph_json.specs.Limits.{names_in}
use Rattle.graph_json.specs.References.{kinds_from}

-- the nodes are stations of one name, or none is a station
abbrev pub IsSameKind : Names → Names → NodeKind → NodeKind → Type 0
IsSameKind old new (Station s) (Station t) = station_name new t.0 ≡ station_name old s.0
IsSameKind old new (Station s) Junction = ⊥
IsSameKind old new Junction (Station t) = ⊥
IsSameKind old new Junction Junction = Unit {0}

pub count_kinds : (s : ℕ) (names : List (Option (List ℕ))) → length (kinds_from s names) ≡ length names
count_kinds s [] = refl
count_kinds s (Some name ∷ names) = ap suc (count_kinds (s + 1) names)
count_kinds s (None ∷ names) = ap suc (count_kinds s names)

-- what stands behind a list is read at its length
behind : (done : List (List ℕ)) (name : List ℕ) (rest : List (List ℕ))
    → get_or (done ++ name ∷ rest) (length done) [] ≡ name
behind [] name rest = refl
behind (x ∷ done) name rest = behind done name rest

module _ (names : Names) (lines : List (List ℕ × List ℕ)) where
  -- the same lines, and stations of these names
  abbrev with_stations : List (List ℕ) → Names
  with_stations stations = record { stations = stations; lines = lines }

  same_from : (kinds : List NodeKind) (done stations : List (List ℕ)) (s n : ℕ) → length done ≡ s
      → done ++ names_in (map (node_name names) kinds) ≡ stations
      → IsSameKind names (with_stations stations) (get_or kinds n Junction)
      (get_or (kinds_from s (map (node_name names) kinds)) n Junction)
  same_from [] done stations s zero count is = tt
  same_from [] done stations s (suc n) count is = tt
  same_from (Station a ∷ kinds) done stations s zero count is =
      unwrap_or-slice_get stations s []
      ∙ ap (λ (k : ℕ). get_or stations k []) (sym count)
      ∙ ap (λ (l : List (List ℕ)). get_or l (length done) []) (sym is)
      ∙ behind done (station_name names a.0) (names_in (map (node_name names) kinds))
  same_from (Station a ∷ kinds) done stations s (suc n) count is =
      let name : List ℕ = station_name names a.0 in
      same_from kinds (done ++ name ∷ []) stations (s + 1) n (length-append done (name ∷ []) ∙ omega (arith, count))
      (append_assoc done (name ∷ []) (names_in (map (node_name names) kinds)) ∙ is)
  same_from (Junction ∷ kinds) done stations s zero count is = tt
  same_from (Junction ∷ kinds) done stations s (suc n) count is = same_from kinds done stations s n count is

  -- each node
  pub same_kind : (kinds : List NodeKind) (n : ℕ)
      → IsSameKind names (with_stations (names_in (map (node_name names) kinds))) (get_or kinds n Junction)
      (get_or (kinds_from 0 (map (node_name names) kinds)) n Junction)
  same_kind kinds n = same_from kinds [] (names_in (map (node_name names) kinds)) 0 n refl refl

pub count_again : (names : Names) (kinds : List NodeKind)
    → length (kinds_from 0 (map (node_name names) kinds)) ≡ length kinds
count_again names kinds = count_kinds 0 (map (node_name names) kinds) ∙ length-map kinds (node_name names)
