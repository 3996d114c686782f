use Rattle.std.proofs.Common.{◌≡◌, ◌++◌, drop}
use Rattle.cert_file.specs.Text.{orders_text}
use Rattle.cert_file.proofs.writing.push_orders.Given as goal

-- what is written and what is left are the whole
abbrev pub invariant-loop-s : goal.invariant-loop-s
invariant-loop-s l = l.text.items ++ orders_text l.s (drop l.s l.orders) ≡ l.fn.text.items ++ orders_text 0 l.orders
