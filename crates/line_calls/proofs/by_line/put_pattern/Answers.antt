use Rattle.std.proofs.Common.{◌≡◌, ◌<◌, length, ap, sym, subst, ◌∙◌}
use Rattle.std.proofs.lemmas.List.{get_or_read}
use Rattle.transit_feed.specs.declared.pattern.Pattern.{Pattern}
use Rattle.feed_courses.specs.Shown.{is_shown}
use Rattle.line_calls.specs.Tables.{lists_in, no_pattern, pattern_at}
use Rattle.line_calls.proofs.ByLine.{by_line_hidden, by_line_put}
use Rattle.line_calls.proofs.by_line.put_pattern.Goals as goal

pub returns-then-not-is_shown : goal.returns-then-not-is_shown
returns-then-not-is_shown c =
    let read : c.index-patterns-k.result ≡ pattern_at c.args.patterns.now c.args.k = get_or_read c.args.patterns.now c.args.k _ c.requires.place c.index-patterns-k.is no_pattern in
    by_line_hidden c.args.lines.now c.args.patterns.now c.args.k (lists_in c.args.lists.now.items) (ap (is_shown c.args.lines.now) (sym read) ∙ sym c.is_shown.ensures ∙ c.if-not-is_shown.true) c.requires.before

pub returns : goal.returns
returns c =
    let read : c.index-patterns-k.result ≡ pattern_at c.args.patterns.now c.args.k = get_or_read c.args.patterns.now c.args.k _ c.requires.place c.index-patterns-k.is no_pattern in
    let within : c.index-patterns-k.result.line.0 < length c.args.lines.now =
    subst (λ (p : Pattern). p.line.0 < length c.args.lines.now) (sym c.index-patterns-k.is) (c.requires.known c.args.k c.index-patterns-k.result c.requires.place) in
    by_line_put c.args.lines.now c.args.patterns.now c.args.k _ (lists_in c.args.lists.now.items) (lists_in c.push_at.new.lists.items) (ap (λ (p : Pattern). p.line.0) read) within
    (ap (is_shown c.args.lines.now) (sym read) ∙ sym c.is_shown.ensures ∙ c.if-not-is_shown.false) c.requires.before c.in_ok-push_at.ensures
