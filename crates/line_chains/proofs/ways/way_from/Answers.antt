use Rattle.std.proofs.Common.{◌≡◌, ◌∙◌, ap, ap₂, sym, subst, ℕ, ◌+◌, ◌-◌, ◌<◌, ◌++◌, ◌∷◌, [], append-nil, length, get_or, arith, List, Bool, true, false}
use Rattle.std.specs.List.{All}
use Rattle.std.proofs.lemmas.List.Elements.{All-append}
use Rattle.std.proofs.lemmas.Option.{get_or_from_slice_get}
use Rattle.map_base.specs.declared.ids.NodeId.{NodeId}
use Rattle.map_base.specs.declared.ids.SegId.{SegId}
use Rattle.line_chains.specs.declared.chain.Chain.{Chain}
use Rattle.line_chains.specs.declared.chain.ChainStep.{ChainStep}
use Rattle.line_chains.specs.Chains.{far_end, is_corner, nodes_along, other_of, round_of, steps_from, way_from}
use Rattle.line_chains.proofs.Walking.{all_along, one_below, step_by, steps_end, steps_go_on}
use Rattle.line_chains.proofs.Rounds.{other_below, round_below}
use Rattle.line_chains.proofs.ways.way_from.Goals as goal

pub loop-i-preserved : goal.loop-i-preserved
loop-i-preserved c =
    let g = c.args.graph.now in
    let cs = c.args.corners.now in
    let at = c.loop-i.at in
    let seg = c.loop-i.seg in
    let old = c.loop-i.steps.items in
    let below : c.loop-i.i < length g.ends = omega (arith, c.segs-i-end.ensures, c.loop-i-test.true) in
    let far : c.far_end-to.result ≡ far_end g seg at = c.far_end-to.ensures.end in
    let round : c.round.result.now ≡ round_of g c.far_end-to.result = sym (get_or_from_slice_get g.rounds c.far_end-to.result.0 c.round.result.now [] c.round.ensures) in
    let other : c.other_of-seg.result ≡ other_of (round_of g (far_end g seg at)) seg =
    c.other_of-seg.ensures ∙ ap (λ (v : List SegId). other_of v seg) round ∙ ap (λ (n : NodeId). other_of (round_of g n) seg) far in
    let open_far : is_corner cs (far_end g seg at) ≡ false = ap (is_corner cs) (sym far) ∙ sym c.is_raised-is_end.ensures ∙ c.if-is_end.false in
    let new : c.push.new.self.items ≡ old ++ step_by g at seg ∷ [] =
    c.in_ok-push.ensures.items ∙ ap (λ (n : NodeId). old ++ (let t : ChainStep = record { seg = seg; to = n } in t) ∷ []) far in
    record {
      whole =
          ap (λ (v : List ChainStep). v ++ steps_from g cs (length g.ends - (c.loop-i.i + 1)) c.far_end-to.result c.other_of-seg.result) new
          ∙ ap₂ (λ (n : NodeId) (s : SegId). (old ++ step_by g at seg ∷ []) ++ steps_from g cs (length g.ends - (c.loop-i.i + 1)) n s) far other
          ∙ steps_go_on g cs (length g.ends) c.loop-i.i at seg old (steps_from g cs (length g.ends) c.args.n c.args.s) below open_far c.loop-i.invariant.whole;
      at = c.far_end-to.ensures.node;
      seg =
          subst (λ (s : SegId). s.0 < length g.ends) (sym (c.other_of-seg.ensures ∙ ap (λ (v : List SegId). other_of v seg) round))
          (other_below (length g.ends) (round_of g c.far_end-to.result) seg (round_below g c.requires.graph c.far_end-to.result.0 c.far_end-to.ensures.node) c.loop-i.invariant.seg);
    }

pub returns-then-is_end : goal.returns-then-is_end
returns-then-is_end c =
    let g = c.args.graph.now in
    let cs = c.args.corners.now in
    let at = c.loop-i.at in
    let seg = c.loop-i.seg in
    let old = c.loop-i.steps.items in
    let below : c.loop-i.i < length g.ends = omega (arith, c.segs-i-end.ensures, c.loop-i-test.true) in
    let far : c.far_end-to.result ≡ far_end g seg at = c.far_end-to.ensures.end in
    let all : c.push.new.self.items ≡ steps_from g cs (length g.ends) c.args.n c.args.s =
    c.in_ok-push.ensures.items ∙ ap (λ (n : NodeId). old ++ (let t : ChainStep = record { seg = seg; to = n } in t) ∷ []) far
    ∙ steps_end g cs (length g.ends) c.loop-i.i at seg old (steps_from g cs (length g.ends) c.args.n c.args.s) below (ap (is_corner cs) (sym far) ∙ sym c.is_raised-is_end.ensures ∙ c.if-is_end.true) c.loop-i.invariant.whole in
    ap₂ (λ (n : NodeId) (v : List ChainStep). (let way : Chain = record { from = n; steps = v } in way)) c.chain_of.ensures.from (c.chain_of.ensures.steps ∙ all)
