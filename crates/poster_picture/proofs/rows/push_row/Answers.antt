use Rattle.std.proofs.Common.{string_bytes}
use Rattle.poster_picture.proofs.Wholes.{row_written}
use Rattle.poster_picture.proofs.rows.push_row.Goals as goal

pub returns : goal.returns
returns c =
    row_written c.args.names.now c.args.at c.args.line c.apart_from.result c.apart_from-2.result c.colour_of.result.now c.name_of.result.now (string_bytes c.args.text.now) (string_bytes c.push_stretch.new.text) (string_bytes c.push_row_name.new.text)
    c.in_ok-push_stretch.ensures c.in_ok-push_row_name.ensures c.apart_from.ensures c.apart_from-2.ensures c.colour_of.ensures c.name_of.ensures
