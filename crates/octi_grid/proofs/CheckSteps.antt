-- One step of the check of a drawing.
use Rattle.std.proofs.Common.{◌≡◌, ℕ, pos, ◌+◌, ◌<◌, List, [], ◌∷◌, ◌++◌, length, get_or, drop, take, Option, Some, slice_get, sym, refl, ap, subst, ◌∙◌, arith}
use Rattle.std.proofs.lemmas.List.{take_more, drop_more, length-take-le}
use Rattle.map_base.specs.declared.ids.NodeId.{NodeId}
use Rattle.map_base.specs.declared.ids.SegId.{SegId}
use Rattle.graph_core.specs.declared.parts.GraphParts.{GraphParts}
use Rattle.graph_core.specs.Consistent.{AreEnds, IsConsistent}
use Rattle.octi_grid.specs.declared.drawing.DrawWhy.{DrawWhy}
use Rattle.octi_grid.specs.declared.drawing.DrawingStop.{DrawingStop}
use Rattle.octi_grid.specs.declared.drawing.DrawingStop.TheVariants as stop
use Rattle.octi_grid.specs.Taking.{IsStopAt}
use Rattle.octi_grid.specs.Walks.{PlainWalk}
use Rattle.octi_grid.specs.Legal.{first_illegal_after, illegal_at, legs_of, why_illegal, IsCause, Leg}
use Rattle.octi_grid.proofs.SweepLemmas.{get_or_got, got_below, got_from, got_zip}
use Rattle.octi_grid.proofs.PortsLemmas.{no_ends}

-- one leg more
pub next_leg : (g : GraphParts) (walks : List PlainWalk) (k : ℕ) (e : NodeId × NodeId) (w : PlainWalk) → slice_get g.ends k ≡ Some e → k < length walks → w ≡ get_or walks k w
    → take (k + 1) (legs_of g.ends walks) ≡ take k (legs_of g.ends walks) ++ (e, w) ∷ []
next_leg g walks k e w f h is =
    let got = got_zip g.ends walks k e w f (got_from walks k w h is) in
    let l : Leg = (e, w) in
    take_more (legs_of g.ends walks) k l (got_below (legs_of g.ends walks) k l got)
    ∙ ap (λ (v : Leg). take k (legs_of g.ends walks) ++ v ∷ []) (get_or_got (legs_of g.ends walks) k l l got)

-- the ends of a segment
pub ends_order : (g : GraphParts) → IsConsistent g → (k : ℕ) (e : NodeId × NodeId) → slice_get g.ends k ≡ Some e → AreEnds (length g.kinds) e
ends_order g fit k e f = subst (AreEnds (length g.kinds)) (get_or_got g.ends k e e f) (fit.ends k e (got_below g.ends k e f))

pub ends_of_segment : (g : GraphParts) (k : ℕ) (e : NodeId × NodeId) → slice_get g.ends k ≡ Some e → get_or g.ends k no_ends ≡ e
ends_of_segment g k e f = get_or_got g.ends k e no_ends f

abbrev pub no_leg : Leg
no_leg = (no_ends, record { start = record { x = pos 0; y = pos 0 }; steps = [] })

-- what is first illegal, a walk further
pub illegal-more : (rounds : List (List SegId)) (legs : List Leg) (k : ℕ) (o : Option DrawWhy) → k < length legs → why_illegal rounds (take (k + 1) legs) ≡ o
    → first_illegal_after rounds (take k legs) (drop k legs) ≡ illegal_at k o (first_illegal_after rounds (take (k + 1) legs) (drop (k + 1) legs))
illegal-more rounds legs k o h w =
    ap (first_illegal_after rounds (take k legs)) (drop_more legs k no_leg h)
    ∙ ap (λ ls. illegal_at (length (take k legs)) (why_illegal rounds ls) (first_illegal_after rounds ls (drop (k + 1) legs))) (sym (take_more legs k no_leg h))
    ∙ ap (λ v. illegal_at (length (take k legs)) v (first_illegal_after rounds (take (k + 1) legs) (drop (k + 1) legs))) w
    ∙ ap (λ n. illegal_at n o (first_illegal_after rounds (take (k + 1) legs) (drop (k + 1) legs))) (length-take-le k legs (omega arith))

-- as many legs as walks
pub length_legs : (ends : List (NodeId × NodeId)) (walks : List PlainWalk) → length walks ≡ length ends → length (legs_of ends walks) ≡ length walks
length_legs [] [] h = refl
length_legs [] (w ∷ ws) h = absurd (omega arith)
length_legs (e ∷ es) [] h = absurd (omega arith)
length_legs (e ∷ es) (w ∷ ws) h = let rest = length_legs es ws (omega arith) in omega arith

-- the check stops where a walk is not legal with those before it
pub stop_cause : (first : Option (SegId × DrawWhy)) (k : ℕ) (o : Option DrawWhy) (s : DrawingStop) → IsStopAt k o s → ((w : DrawWhy) → o ≡ Some w → first ≡ Some (record { 0 = k }, w)) → IsCause first s
stop_cause first k o (stop.Bad seg because) h f = f because h.1 ∙ ap (λ n. let r : Option (SegId × DrawWhy) = Some (record { 0 = n }, because) in r) (sym h.0)
stop_cause first k o stop.NoMemory h f = tt
