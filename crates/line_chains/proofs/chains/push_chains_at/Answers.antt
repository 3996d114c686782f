use Rattle.std.proofs.Common.{◌≡◌, ℕ, ◌∙◌, ◌<◌, ◌++◌, List, [], cond, false, true, get_or, length, ap, subst, sym}
use Rattle.std.proofs.lemmas.Option.{get_or_from_slice_get}
use Rattle.map_base.specs.declared.ids.SegId.{SegId}
use Rattle.line_chains.specs.Chains.{chains_by, is_corner, round_of}
use Rattle.line_chains.proofs.Rounds.{round_below}
use Rattle.line_chains.proofs.chains.push_chains_at.Goals as goal

pub push_chains_by-requires-clause-segs : goal.push_chains_by-requires-clause-segs
push_chains_by-requires-clause-segs c =
    let g = c.args.graph.now in
    let round : c.round.result.now ≡ round_of g c.args.n = sym (get_or_from_slice_get g.rounds c.args.n.0 c.round.result.now [] c.round.ensures) in
    subst (λ (v : List SegId). (k : ℕ) (d : SegId) → k < length v → (get_or v k d).0 < length g.ends) (sym round) (round_below g c.requires.graph c.args.n.0 c.requires.node)

pub returns : goal.returns
returns c =
    let g = c.args.graph.now in
    let cs = c.args.corners.now in
    let n = c.args.n in
    let old = c.args.chains.now.items in
    let round : c.round.result.now ≡ round_of g n = sym (get_or_from_slice_get g.rounds n.0 c.round.result.now [] c.round.ensures) in
    let corner : is_corner cs n ≡ true = cc in
    c.in_ok-push_chains_by.ensures ∙ ap (λ (v : List SegId). old ++ chains_by g cs n v) round ∙ sym (ap (λ b. old ++ cond b (chains_by g cs n (round_of g n)) []) corner)
