use Rattle.std.proofs.Common.{◌≡◌, sym, ◌∙◌, ap, ℕ, ◌+◌, List, [], ◌∷◌, ◌++◌, map, Vec, arith}
use Rattle.std.specs.Global.{Global}
use Rattle.std.specs.List.{range_with_len}
use Rattle.std.proofs.lemmas.List.{map_push}
use Rattle.std.proofs.lemmas.List.FromFn.{map-range_with_len_more}
use Rattle.map_base.specs.declared.point.Point.{Point}
use Rattle.track_net.specs.Nets.{edges_at}
use Rattle.track_net.proofs.edges.edges_over.Goals as goal

-- one more row
row_more : (near i : ℕ) (ps : List Point) (rows more : List (Vec ℕ Global)) (row : Vec ℕ Global) → map (λ (r : Vec ℕ Global). r.items) rows ≡ map (edges_at near ps) (range_with_len 0 i) →
    row.items ≡ edges_at near ps i → more ≡ rows ++ row ∷ [] → map (λ (r : Vec ℕ Global). r.items) more ≡ map (edges_at near ps) (range_with_len 0 (i + 1))
row_more near i ps rows more row before here is =
    let same : 0 + i ≡ i = omega arith in
    ap (map (λ (r : Vec ℕ Global). r.items)) is ∙ map_push (λ (r : Vec ℕ Global). r.items) rows row
    ∙ ap (λ xs. xs ++ row.items ∷ []) before ∙ ap (λ x. map (edges_at near ps) (range_with_len 0 i) ++ x ∷ []) here
    ∙ sym (map-range_with_len_more (edges_at near ps) 0 i i same)

pub loop-i-preserved : goal.loop-i-preserved
loop-i-preserved c =
    row_more c.args.near c.loop-i.i c.args.points.now c.loop-i.edges.items c.push.new.self.items c.in_ok-row.row c.loop-i.invariant c.in_ok-row.ensures
    c.in_ok-push.ensures.items
