use Rattle.std.proofs.Common.{◌≡◌, List, ℕ, Option, take, drop, length, ◌-◌, arith, ◌∙◌, ap, subst}
use Rattle.std.proofs.lemmas.List.{take_rest}
use Rattle.files_door.specs.declared.target.Target.{Target}
use Rattle.files_door.specs.Acts.{Act, Does, puts}
use Rattle.files_door.proofs.Acts.{Does-more}
use Rattle.files_door.proofs.writing.write_all.Goals as goal

pub loop-done-preserved : goal.loop-done-preserved
loop-done-preserved g c =
    let sinks = g.S.Sinks in
    let before = c.loop-done.invariant in
    let wrote = c.in_ok-count.ensures in
    let bytes = c.args.bytes.now in
    let count = c.in_ok-count.count in
    let target = sinks.current c.args.sinks.now in
    let old = sinks.written c.loop-done.sinks in
    let new = sinks.written c.write_some.new.sinks in
    let same : puts (sinks.current c.loop-done.sinks) (take count (take (length bytes - c.loop-done.done) (drop c.loop-done.done bytes))) ≡ puts target (take count (drop c.loop-done.done bytes)) =
    ap (λ (t : Option Target). puts t (take count (take (length bytes - c.loop-done.done) (drop c.loop-done.done bytes)))) before.current
    ∙ ap (λ (xs : List ℕ). puts target (take count xs)) (take_rest bytes c.loop-done.done) in
    record {
      within = omega (arith, wrote.taken);
      front = Does-more target bytes c.loop-done.done count (sinks.written c.args.sinks.now) old new before.front (subst (λ (acts : List Act). Does acts old new) same wrote.appended);
      current = wrote.current ∙ before.current;
      later = omega (arith, wrote.later, before.later);
    }
