use Rattle.std.proofs.Common.{◌≡◌, sym, ◌∙◌, ap, ◌<◌, length, map, get_or, Vec, [], List, ℕ, arith}
use Rattle.std.specs.Global.{Global}
use Rattle.std.proofs.lemmas.List.{get_or-map, length-map}
use Rattle.map_base.specs.declared.point.Point.{Point}
use Rattle.track_net.specs.Nets.{NetParts, all_edges}
use Rattle.track_net.proofs.EdgeLemmas.{length-all_edges}
use Rattle.track_net.proofs.net.Net.edges_of.Goals as goal

-- a row for each point
row_each : (near : ℕ) (rows : List (Vec ℕ Global)) (ps : List Point) → map (λ row. row.items) rows ≡ all_edges near ps → length rows ≡ length ps
row_each near rows ps is = sym (length-map rows (λ row. row.items)) ∙ ap length is ∙ length-all_edges near ps

in_range : (near : ℕ) (rows : List (Vec ℕ Global)) (ps : List Point) (net : NetParts) (i : ℕ) → map (λ row. row.items) rows ≡ all_edges near ps →
    record { points = ps; edges = map (λ row. row.items) rows } ≡ net → i < length net.points → i < length rows
in_range near rows ps net i is view below =
    let same : length ps ≡ length net.points = ap (λ (n : NetParts). length n.points) view in
    let each : length rows ≡ length ps = row_each near rows ps is in omega arith

pub index-requires : goal.index-requires
index-requires c =
    let below : c.args.i < length c.self.inside.edges.items =
    in_range c.self.invariant.near c.self.inside.edges.items c.self.inside.points.items c.args.self.now c.args.i c.self.invariant.edges c.self.view_is c.requires in
    omega (arith, c.self.inside.edges.ok)

pub returns : goal.returns
returns c =
    let rows = c.self.inside.edges.items in
    let row = c.index.result.now in
    let below : c.args.i < length rows =
    in_range c.self.invariant.near rows c.self.inside.points.items c.args.self.now c.args.i c.self.invariant.edges c.self.view_is c.requires in
    c.as_slice.ensures.value ∙ ap (λ (r : Vec ℕ Global). r.items) c.index.ensures
    ∙ sym (get_or-map (λ (r : Vec ℕ Global). r.items) rows c.args.i row [] below)
    ∙ ap (λ (n : NetParts). get_or n.edges c.args.i []) c.self.view_is
