use Rattle.std.proofs.Common.{ℕ, Bool, cond, string_bytes, ap, sym}
use Rattle.poster_picture.proofs.Wholes.{strokes_written}
use Rattle.poster_picture.proofs.stations.push_strokes_over.Goals as goal

pub returns-then-change : goal.returns-then-change
returns-then-change c =
    strokes_written c.args.change c.args.path.now 28 18 (string_bytes c.args.text.now) (string_bytes c.push_inked.new.text) (string_bytes c.push_inked-then-change.new.text)
    (sym (ap (λ (b : Bool). cond {A = ℕ} b 28 20) c.if-change.true)) (sym (ap (λ (b : Bool). cond {A = ℕ} b 18 12) c.if-change.true)) c.in_ok-push_inked.ensures c.in_ok-push_inked-2.ensures

pub returns : goal.returns
returns c =
    strokes_written c.args.change c.args.path.now 20 12 (string_bytes c.args.text.now) (string_bytes c.push_inked-2.new.text) (string_bytes c.push_inked-3.new.text)
    (sym (ap (λ (b : Bool). cond {A = ℕ} b 28 20) c.if-change.false)) (sym (ap (λ (b : Bool). cond {A = ℕ} b 18 12) c.if-change.false)) c.in_ok-push_inked-3.ensures c.in_ok-push_inked-4.ensures
