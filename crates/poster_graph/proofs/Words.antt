-- What is left of names, and second platforms.
use Rattle.std.proofs.Common.{◌≡◌, ℕ, ◌+◌, ◌<◌, ◌≤◌, ◌==◌, Bool, true, false, cond, ◌&&◌, ◌||◌, List, [], ◌∷◌, ◌++◌, length, map, take, Option, Some, None, refl, ap, sym, subst, ◌∙◌, append-nil, arith}
use Rattle.std.specs.Prelude.{slice_get}
use Rattle.std.specs.List.{flat_map, list_any}
use Rattle.std.proofs.lemmas.Bool.{eqb-true}
use Rattle.std.proofs.lemmas.List.{get_or-map, get_or_past, length-map, take_more}
use Rattle.std.proofs.lemmas.Grind.{flat_map-append}
use Rattle.std.proofs.lemmas.List.Folds.{list_any-append}
use Rattle.std.proofs.lemmas.Option.{get_or_from_slice_get, unwrap_or-slice_get}
use Rattle.map_base.specs.declared.ids.NodeId.{NodeId}
use Rattle.graph_core.specs.declared.parts.NodeKind.{NodeKind}
use Rattle.graph_core.specs.declared.parts.NodeKind.TheVariants.{Junction}
use Rattle.graph_core.specs.declared.parts.GraphParts.{GraphParts}
use Rattle.graph_core.specs.Consistent.{AreEnds, IsConsistent}
use Rattle.svg_writer.specs.declared.names.Names.{Names}
use Rattle.poster_rules.specs.Texts.{all_names, all_rests, are_same, is_second, node_names, node_rest, printed_at, rest_at, unless_second}
use Rattle.poster_graph.specs.Words.{is_second_by}

no_ends : NodeId × NodeId
no_ends = (record { 0 = 0 }, record { 0 = 0 })

-- the ends of a segment
pub ends_are : (g : GraphParts) → IsConsistent g → (s : ℕ) (e : NodeId × NodeId) → s < length g.ends → slice_get g.ends s ≡ Some e → AreEnds (length g.kinds) e
ends_are g fit s e low at = subst (AreEnds (length g.kinds)) (get_or_from_slice_get g.ends s e no_ends at) (fit.ends s no_ends low)

-- what is left of the name of a node, by its kind
pub rest_is : (names : Names) (g : GraphParts) (n : ℕ) (kind : NodeKind) → n < length g.kinds → slice_get g.kinds n ≡ Some kind → node_rest (all_names names g) names kind ≡ rest_at (all_rests names g) n
rest_is names g n kind low e =
    let f = node_rest (all_names names g) names in
    ap f (sym (get_or_from_slice_get g.kinds n kind Junction e)) ∙ sym (get_or-map f g.kinds n Junction None low) ∙ sym (unwrap_or-slice_get (map f g.kinds) n None)

-- the names of one node more
pub names_more : (names : Names) (kinds : List NodeKind) (n : ℕ) (kind : NodeKind) → n < length kinds → slice_get kinds n ≡ Some kind
    → flat_map (node_names names) (take (n + 1) kinds) ≡ flat_map (node_names names) (take n kinds) ++ node_names names kind
names_more names kinds n kind low e =
    ap (flat_map (node_names names)) (take_more kinds n Junction low ∙ ap (λ (k : NodeKind). take n kinds ++ k ∷ []) (get_or_from_slice_get kinds n kind Junction e))
    ∙ flat_map-append (node_names names) (take n kinds) (kind ∷ [])
    ∙ ap (λ (ns : List (List ℕ)). flat_map (node_names names) (take n kinds) ++ ns) (append-nil (node_names names kind))

-- a node is flagged by one segment more
pub second_more : (rests : List (Option (List ℕ))) (ends : List (NodeId × NodeId)) (s n : ℕ) (e : NodeId × NodeId) (same was is : Bool) → s < length ends → slice_get ends s ≡ Some e
    → same ≡ are_same (rest_at rests e.0.0) (rest_at rests e.1.0) → was ≡ list_any (is_second_by rests n) (take s ends) → is ≡ (was || ((e.1.0 == n) && same))
    → is ≡ list_any (is_second_by rests n) (take (s + 1) ends)
second_more rests ends s n e same was is low at told before now =
    now
    ∙ ap (λ (b : Bool). b || ((e.1.0 == n) && same)) before
    ∙ ap (λ (b : Bool). list_any (is_second_by rests n) (take s ends) || b) (by_test (e.1.0 == n) refl ∙ sym (or_false (is_second_by rests n e)))
    ∙ sym (list_any-append (is_second_by rests n) (take s ends) (e ∷ []))
    ∙ sym (ap (list_any (is_second_by rests n)) (take_more ends s no_ends low ∙ ap (λ (x : NodeId × NodeId). take s ends ++ x ∷ []) (get_or_from_slice_get ends s e no_ends at)))
  where
    or_false : (b : Bool) → (b || false) ≡ b
    or_false true = refl
    or_false false = refl

    by_test : (b : Bool) → (e.1.0 == n) ≡ b → (b && same) ≡ (b && are_same (rest_at rests e.0.0) (rest_at rests n))
    by_test true one = told ∙ ap (λ (m : ℕ). are_same (rest_at rests e.0.0) (rest_at rests m)) (eqb-true e.1.0 n one)
    by_test false other = refl

-- ---- what is printed

-- nothing of a node that is not there
pub none_past : (names : Names) (g : GraphParts) (n : ℕ) → length g.kinds ≤ n → None ≡ printed_at g (all_rests names g) n
none_past names g n high = sym (ap (unless_second (is_second g (all_rests names g) n)) past)
  where
    past : rest_at (all_rests names g) n ≡ None
    past = unwrap_or-slice_get (all_rests names g) n None ∙ get_or_past (all_rests names g) n None (omega (arith, high, length-map g.kinds (node_rest (all_names names g) names)))

pub none_empty : (second : Bool) (text : List ℕ) → length text ≡ 0 → None ≡ unless_second second (Some text)
none_empty second [] e = refl
none_empty second (c ∷ cs) e = absurd (omega (arith, e))

pub none_second : (second : Bool) (text : List ℕ) → second ≡ true → None ≡ unless_second second (Some text)
none_second second [] e = refl
none_second second (c ∷ cs) e = sym (ap (λ (b : Bool). cond b None (Some (c ∷ cs))) e)

pub some_left : (second : Bool) (text : List ℕ) → 0 < length text → second ≡ false → Some text ≡ unless_second second (Some text)
some_left second [] some e = absurd (omega arith)
some_left second (c ∷ cs) some e = sym (ap (λ (b : Bool). cond b None (Some (c ∷ cs))) e)
