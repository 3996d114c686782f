use Rattle.std.proofs.Common.{ℕ, ◌++◌, length, drop, string_bytes, ap, sym, ◌∙◌}
use Rattle.std.specs.List.{flat_map}
use Rattle.std.specs.Str.{chars}
use Rattle.std.proofs.lemmas.Iterator.{YieldsList-from_chars}
use Rattle.std.proofs.lemmas.Iterator.Consumers.{YieldsList-turn, YieldsList-end}
use Rattle.std.proofs.lemmas.List.{length_push}
use Rattle.svg_writer.specs.Escaping.{escaped_char, escaped}
use Rattle.svg_writer.proofs.Written.{written_more, written_all}
use Rattle.svg_writer.proofs.escaping.push_escaped.Goals as goal

pub loop-c-preserved : goal.loop-c-preserved
loop-c-preserved c =
    let t = YieldsList-turn (YieldsList-from_chars c.args.name.now c.utf8.name cc) c.loop-c.yielded _ c.loop-c.yielded_by _ _ c.in-Some.c c.in-Some.is c.next.ensures.steps in
    ap (λ (n : ℕ). string_bytes c.push_char.new.text ++ flat_map escaped_char (drop n (chars c.args.name.now))) (length_push c.loop-c.yielded c.in-Some.c)
    ∙ written_more escaped_char (chars c.args.name.now) (length c.loop-c.yielded) c.in-Some.c c.in-Some.c (string_bytes c.loop-c.text) (string_bytes c.push_char.new.text)
    (string_bytes c.args.text.now ++ escaped c.args.name.now) t.0 t.1 c.in_ok-push_char.ensures c.loop-c.invariant

pub returns : goal.returns
returns c =
    let t = YieldsList-end (YieldsList-from_chars c.args.name.now c.utf8.name cc) c.loop-c.yielded _ c.loop-c.yielded_by _ _ c.in-None.is c.next.ensures.steps in
    written_all escaped_char (chars c.args.name.now) (length c.loop-c.yielded) (string_bytes c.loop-c.text) (string_bytes c.args.text.now ++ escaped c.args.name.now) (sym t.1) c.loop-c.invariant
