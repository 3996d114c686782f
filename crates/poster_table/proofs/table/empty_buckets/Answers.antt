use Rattle.std.proofs.Common.{◌∷◌, [], List, ℕ, Vec, length, ap, ◌∙◌, arith, length-append}
use Rattle.std.specs.Global.{Global}
use Rattle.poster_table.specs.Tables.{bucket_at}
use Rattle.poster_table.proofs.Putting.{none_more}
use Rattle.poster_table.proofs.table.empty_buckets.Goals as goal

pub loop-preserved : goal.loop-preserved
loop-preserved c = record {
  count = omega (arith, c.loop.invariant.count, ap length c.in_ok-push.ensures.items, length-append c.loop.buckets.items (c.new.result ∷ []));
  none = λ b. ap (λ (bs : List (Vec ℕ Global)). bucket_at bs b) c.in_ok-push.ensures.items ∙ none_more c.loop.buckets.items c.new.result c.loop.invariant.none c.new.ensures.items b;
}

pub loop-init : goal.loop-init
loop-init c = record { count = ap length c.new-buckets.ensures.items; none = λ b. ap (λ (bs : List (Vec ℕ Global)). bucket_at bs b) c.new-buckets.ensures.items }
