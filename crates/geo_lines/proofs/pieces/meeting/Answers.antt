use Rattle.std.proofs.Common.{◌≡◌, ◌*ℤ◌, to_z, of_z, w64, rules}
use Rattle.std.specs.Prelude.{int_div}
use Rattle.geo_lines.proofs.Quotients.{meeting_within}
use Rattle.geo_lines.proofs.pieces.meeting.Goals as goal

pub returns-clause-within : goal.returns-clause-within
returns-clause-within c =
    let is : to_z w64 (of_z w64 c.quotient.result) ≡ int_div (c.args.both *ℤ (c.args.width *ℤ c.args.width)) c.args.onward = search rules in
    rw is (meeting_within c.args.both c.args.width c.args.onward c.requires.both c.requires.some c.requires.near)
