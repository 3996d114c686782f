-- A legal drawing is clear in the plane.
use Rattle.std.proofs.Common.{◌≡◌, refl, subst, ℕ, ◌+◌, ◌<◌, true, List, [], length, get_or, Option, Some, None, is_none, arith}
use Rattle.std.specs.List.{filter_map}
use Rattle.graph_core.specs.declared.parts.GraphParts.{GraphParts}
use Rattle.octi_grid.specs.declared.drawing.DrawWhy.{DrawWhy}
use Rattle.octi_grid.specs.Walks.{PlainWalk}
use Rattle.octi_grid.specs.Legal.{are_clockwise, legal, legs_of, port_of, puts_of, why_illegal, Leg}
use Rattle.octi_grid.proofs.LegalLemmas.{EndsFit, EndsFit-from}
use Rattle.octi_grid.proofs.MeetsLemmas.{MeetsFit, MeetsFit-from}
use Rattle.octi_grid.proofs.PortsLemmas.{ports_at_node, AreLegal, AreLegal-from}
use Rattle.drawing_laws.specs.Plane.{ports_round, IsPlaneDrawing}
use Rattle.drawing_laws.proofs.Clockwise.{ports_differ, ports_turn}
use Rattle.drawing_laws.proofs.Curves.{in_contains, meet_at_ends, one_place, own_node}

-- a legal drawing by its three parts
are_legal : (graph : GraphParts) (walks : List PlainWalk) → legal graph walks ≡ true → AreLegal graph.rounds (legs_of graph.ends walks)
are_legal graph walks h = AreLegal-from graph.rounds (legs_of graph.ends walks) (none_from (why_illegal graph.rounds (legs_of graph.ends walks)) h)
  where
    none_from : (o : Option DrawWhy) → is_none o ≡ true → o ≡ None
    none_from None h = refl
    none_from (Some why) h = cc

pub clear_in_plane : (graph : GraphParts) (walks : List PlainWalk) → legal graph walks ≡ true → IsPlaneDrawing graph.rounds (legs_of graph.ends walks)
clear_in_plane graph walks h = record {
  one_point = λ p q a b e. ends.one_place p q (in_contains p (puts_of legs) a) (in_contains q (puts_of legs) b) e;
  one_node = λ p q a b e. ends.one_node p q (in_contains p (puts_of legs) a) (in_contains q (puts_of legs) b) e;
  even = λ p a. ends.even p (in_contains p (puts_of legs) a);
  simple = λ l n s t on some ls lt e. one_place n l.1.start l.1.steps s t some (meets.distinct l (in_contains l legs on)) ls lt e;
  apart = λ i j l m n s t a b other some e. meet_at_ends legs ends meets i j l m n s t a b other some e;
  clear = λ l p n s on put some e. own_node legs meets l p n s (in_contains l legs on) (in_contains p (puts_of legs) put) some e;
  distinct = λ n i j a b below less e f. ports_differ (ports_round graph.rounds legs n) i j a b (clockwise n below) less e f;
  clockwise = λ n i j k a b c below first second e f g. ports_turn (ports_round graph.rounds legs n) i j k a b c (clockwise n below) first second e f g;
}
  where
    legs : List Leg
    legs = legs_of graph.ends walks

    ends : EndsFit (puts_of (legs_of graph.ends walks))
    ends = EndsFit-from (legs_of graph.ends walks) (are_legal graph walks h).ends

    meets : MeetsFit (legs_of graph.ends walks)
    meets = MeetsFit-from (legs_of graph.ends walks) (are_legal graph walks h).meets

    clockwise : (n : ℕ) → n < length graph.rounds → are_clockwise (ports_round graph.rounds (legs_of graph.ends walks) n) ≡ true
    clockwise n below =
        let same : 0 + n ≡ n = omega arith in
        subst (λ (m : ℕ). are_clockwise (filter_map (port_of (legs_of graph.ends walks) m) (get_or graph.rounds n [])) ≡ true) same
        (ports_at_node (legs_of graph.ends walks) 0 graph.rounds n (are_legal graph walks h).ports below)
