-- One more feature in the columns.
use Rattle.std.proofs.Common.{◌≡◌, refl, sym, ap, ◌∙◌, true, false, List, [], ◌∷◌, ◌++◌, map}
use Rattle.std.proofs.lemmas.List.{map-append, append-nil}
use Rattle.std.proofs.lemmas.List.Elements.{filter_map-append}
use Rattle.graph_json.specs.declared.columns.Columns.{Columns}
use Rattle.graph_json.specs.declared.forms.NodeForm.{NodeForm}
use Rattle.graph_json.specs.declared.forms.SegmentForm.{SegmentForm}
use Rattle.graph_json.specs.declared.forms.Feature.{Feature}
use Rattle.graph_json.specs.declared.forms.Feature.TheVariants.{Node, Segment}
use Rattle.graph_json.specs.References.{node_in, segment_in, nodes_in, segments_in, is_node}
use Rattle.graph_json.specs.Columns.{AreColumns}

more : {X A : Type 0} (f : X → A) (column : List A) (done all : List X) (x : X) → column ≡ map f done → all ≡ done ++ x ∷ [] → column ++ f x ∷ [] ≡ map f all
more f column done all x is grown = ap (λ l. l ++ f x ∷ []) is ∙ sym (map-append f done (x ∷ [])) ∙ ap (map f) (sym grown)

same : {X A : Type 0} (f : X → A) (column : List A) (done all : List X) → column ≡ map f done → all ≡ done → column ≡ map f all
same f column done all is no_more = is ∙ ap (map f) (sym no_more)

nodes_more : (done : List Feature) (n : NodeForm) → nodes_in (done ++ Node n ∷ []) ≡ nodes_in done ++ n ∷ []
nodes_more done n = filter_map-append node_in done (Node n ∷ [])

nodes_same : (done : List Feature) (s : SegmentForm) → nodes_in (done ++ Segment s ∷ []) ≡ nodes_in done
nodes_same done s = filter_map-append node_in done (Segment s ∷ []) ∙ append-nil (nodes_in done)

segments_more : (done : List Feature) (s : SegmentForm) → segments_in (done ++ Segment s ∷ []) ≡ segments_in done ++ s ∷ []
segments_more done s = filter_map-append segment_in done (Segment s ∷ [])

segments_same : (done : List Feature) (n : NodeForm) → segments_in (done ++ Node n ∷ []) ≡ segments_in done
segments_same done n = filter_map-append segment_in done (Node n ∷ []) ∙ append-nil (segments_in done)

-- the columns with another node
abbrev pub IsWithNode : Columns → Columns → NodeForm → Type 0
IsWithNode old new n =
    (new.names.items ≡ old.names.items ++ n.name ∷ []) × (new.places.items ≡ old.places.items ++ n.place ∷ [])
    × (new.rounds.items ≡ old.rounds.items ++ n.round ∷ []) × (new.joins.items ≡ old.joins.items ++ n.joins ∷ [])
    × (new.are_nodes.items ≡ old.are_nodes.items ++ true ∷ []) × (new.ends.items ≡ old.ends.items) × (new.lines.items ≡ old.lines.items)

pub with_node : (old new : Columns) (n : NodeForm) → IsWithNode old new n → (done : List Feature) → AreColumns old done → AreColumns new (done ++ Node n ∷ [])
with_node old new n (names, places, rounds, joins, are_nodes, ends, lines) done was =
    let nodes = nodes_more done n in
    let segments = segments_same done n in
    record {
      names = names ∙ more (λ (x : NodeForm). x.name) _ (nodes_in done) _ n was.names nodes;
      places = places ∙ more (λ (x : NodeForm). x.place) _ (nodes_in done) _ n was.places nodes;
      rounds = rounds ∙ more (λ (x : NodeForm). x.round) _ (nodes_in done) _ n was.rounds nodes;
      joins = joins ∙ more (λ (x : NodeForm). x.joins) _ (nodes_in done) _ n was.joins nodes;
      ends = ends ∙ same (λ (x : SegmentForm). x.ends) _ (segments_in done) _ was.ends segments;
      lines = lines ∙ same (λ (x : SegmentForm). x.lines) _ (segments_in done) _ was.lines segments;
      are_nodes = are_nodes ∙ more is_node _ done _ (Node n) was.are_nodes refl;
    }

-- the columns with another segment
abbrev pub IsWithSegment : Columns → Columns → SegmentForm → Type 0
IsWithSegment old new s =
    (new.ends.items ≡ old.ends.items ++ s.ends ∷ []) × (new.lines.items ≡ old.lines.items ++ s.lines ∷ [])
    × (new.are_nodes.items ≡ old.are_nodes.items ++ false ∷ []) × (new.names.items ≡ old.names.items) × (new.places.items ≡ old.places.items)
    × (new.rounds.items ≡ old.rounds.items) × (new.joins.items ≡ old.joins.items)

pub with_segment : (old new : Columns) (s : SegmentForm) → IsWithSegment old new s → (done : List Feature) → AreColumns old done
    → AreColumns new (done ++ Segment s ∷ [])
with_segment old new s (ends, lines, are_nodes, names, places, rounds, joins) done was =
    let nodes = nodes_same done s in
    let segments = segments_more done s in
    record {
      names = names ∙ same (λ (x : NodeForm). x.name) _ (nodes_in done) _ was.names nodes;
      places = places ∙ same (λ (x : NodeForm). x.place) _ (nodes_in done) _ was.places nodes;
      rounds = rounds ∙ same (λ (x : NodeForm). x.round) _ (nodes_in done) _ was.rounds nodes;
      joins = joins ∙ same (λ (x : NodeForm). x.joins) _ (nodes_in done) _ was.joins nodes;
      ends = ends ∙ more (λ (x : SegmentForm). x.ends) _ (segments_in done) _ s was.ends segments;
      lines = lines ∙ more (λ (x : SegmentForm). x.lines) _ (segments_in done) _ s was.lines segments;
      are_nodes = are_nodes ∙ more is_node _ done _ (Segment s) was.are_nodes refl;
    }
