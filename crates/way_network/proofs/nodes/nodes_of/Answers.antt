use Rattle.std.proofs.Common.{◌≡◌, ap, refl, arith, length}
use Rattle.way_network.specs.Nodes.{is_node_in}
use Rattle.way_network.proofs.NodeLemmas.{at_most, before_number, nodes_made, nodes_view, number_is, point_more, value_more}
use Rattle.way_network.proofs.nodes.nodes_of.Goals as goal

pub number_if-requires : goal.number_if-requires
number_if-requires c =
    omega (
      arith,
      c.len.ensures,
      ap length c.loop-k.invariant.points,
      at_most (is_node_in c.args.stations c.args.table.now) c.loop-k.k,
      c.loop-k-test.true,
      c.len-count.ensures,
      c.requires,
    )

pub loop-k-preserved : goal.loop-k-preserved
loop-k-preserved c =
    let f = is_node_in c.args.stations c.args.table.now in
    record {
      points = point_more f c.loop-k.k c.loop-k.k c.loop-k.points.items c.put_if.new.points.items c.is_node-is_node.result refl c.is_node-is_node.ensures c.loop-k.invariant.points c.in_ok-put_if.ensures;
      flags = value_more f c.loop-k.k c.loop-k.k c.loop-k.flags.items c.push.new.self.items c.is_node-is_node.result refl c.is_node-is_node.ensures c.loop-k.invariant.flags c.in_ok-push.ensures.items;
      places = value_more (before_number f) c.loop-k.k c.loop-k.k c.loop-k.places.items c.push-in-loop-k.new.self.items c.number_if.result refl
          (number_is f c.loop-k.k c.len.result c.number_if.result c.is_node-is_node.result c.loop-k.points.items c.is_node-is_node.ensures c.loop-k.invariant.points (omega (arith, c.len.ensures, c.loop-k.points.ok)) c.number_if.ensures)
          c.loop-k.invariant.places c.in_ok-push-2.ensures.items;
    }

pub invariant_of-result : goal.invariant_of-result
invariant_of-result c =
    nodes_made (is_node_in c.args.stations c.args.table.now) c.loop-k.k c.loop-k.points.items c.loop-k.flags.items c.loop-k.places.items c.loop-k.invariant.points c.loop-k.invariant.flags
    c.loop-k.invariant.places

pub returns : goal.returns
returns c =
    let n : c.loop-k.k ≡ length c.args.table.now = omega (arith, c.loop-k-test.false, c.loop-k.auto.k-end, c.len-count.ensures) in
    nodes_view (is_node_in c.args.stations c.args.table.now) c.loop-k.k (length c.args.table.now) c.loop-k.points.items c.loop-k.flags.items n c.loop-k.invariant.points c.loop-k.invariant.flags
