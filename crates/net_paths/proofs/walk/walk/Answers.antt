use Rattle.std.proofs.Common.{sym, ◌∙◌, ap, subst, ℕ, List, [], ◌∷◌, ◌++◌}
use Rattle.net_paths.proofs.Walked.{walking_begins, walking_goes_on, walking_ends, nearer, next_in_range, IsWalking}
use Rattle.net_paths.proofs.walk.walk.Goals as goal

pub loop-next-init : goal.loop-next-init
loop-next-init c = record {
  in_range = c.requires.from_in_range;
  walking = λ to s.
      subst (λ (ns : List ℕ). IsWalking c.args.corridor.now c.args.net.now c.args.known.now c.args.from to s.cost ns c.args.from)
      (sym (c.in_ok-push.ensures.items ∙ ap (λ ns. ns ++ c.args.from ∷ []) c.new-path.ensures.items)) (walking_begins c.args.corridor.now c.args.net.now c.args.known.now c.args.from to s);
}

pub loop-next-smaller : goal.loop-next-smaller
loop-next-smaller c = nearer c.args.corridor.now c.args.net.now c.args.known.now c.requires.kept c.loop-next.at c.in-Some.next c.in-Some.ensures.least

pub loop-next-preserved : goal.loop-next-preserved
loop-next-preserved c = record {
  in_range = next_in_range c.args.corridor.now c.args.net.now c.args.known.now c.requires.kept c.loop-next.at c.in-Some.next c.in-Some.ensures.least;
  walking = λ to s.
      walking_goes_on c.args.corridor.now c.args.net.now c.args.known.now c.args.from to c.requires.kept s c.loop-next.path.items c.push-in-Some.new.self.items c.loop-next.at c.in-Some.next
      (c.loop-next.invariant.walking to s) c.in-Some.ensures.least c.in_ok-push-2.ensures.items;
}

pub returns : goal.returns
returns c = λ to s.
    walking_ends c.args.corridor.now c.args.net.now c.args.known.now c.args.from to s c.loop-next.path.items c.loop-next.at (c.loop-next.invariant.walking to s) c.in_default.ensures.none
