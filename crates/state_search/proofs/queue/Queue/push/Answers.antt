use Rattle.std.specs.BinaryHeap.{heap_items}
use Rattle.state_search.proofs.Queues.{pushed_apart, pushed_here}
use Rattle.state_search.proofs.queue.Queue.push.Goals as goal

pub returns-in_ok-push : goal.returns-in_ok-push
returns-in_ok-push c =
    pushed_here c.self.inside.level c.args.estimate c.args.at c.self.inside.here.items c.push.new.self.items (heap_items c.self.inside.apart) c.args.self.now c.self.view_is
    c.if-estimate-self.true c.in_ok-push.ensures.items

pub returns-in_ok-push-2 : goal.returns-in_ok-push-2
returns-in_ok-push-2 c =
    pushed_apart c.self.inside.level c.args.estimate c.args.at c.self.inside.here.items (heap_items c.self.inside.apart) (heap_items c.push-else-estimate-self.new.self) c.args.self.now c.self.view_is c.in_ok-push-2.ensures.permutation
