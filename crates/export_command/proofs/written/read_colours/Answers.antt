use Rattle.std.proofs.Common.{◌≡◌, subst, length, arith, All}
use Rattle.std.proofs.lemmas.List.{take_all}
use Rattle.std.proofs.lemmas.List.Elements.{All-more}
use Rattle.transit_feed.specs.declared.line.Line.{Line}
use Rattle.hex.specs.Hex.{IsBytes}
use Rattle.export_command.proofs.written.read_colours.Goals as goal

-- the colour of a line is three bytes
abbrev HasColour : Line → Type 0
HasColour l = (length l.colour ≡ 3) × IsBytes l.colour

pub loop-line-preserved : goal.loop-line-preserved
loop-line-preserved c =
    All-more HasColour c.args.lines.now c.loop-line.line-index c.line-item.result
    (omega (arith, c.loop-line-test.true, c.loop-line.auto.line-index-end)) c.loop-line.invariant
    (subst HasColour c.line-item.is c.read_colour.ensures)

pub returns : goal.returns
returns c =
    subst (All HasColour)
    (take_all c.loop-line.line-index c.args.lines.now
    (omega (arith, c.loop-line-test.false, c.loop-line.auto.line-index-end))) c.loop-line.invariant
