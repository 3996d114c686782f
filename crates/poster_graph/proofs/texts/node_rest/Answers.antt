use Rattle.std.proofs.Common.{List, ℕ, Option, Some, ap, sym, ◌∙◌}
use Rattle.name_widths.specs.Words.{rest_of}
use Rattle.poster_rules.specs.Texts.{node_rest}
use Rattle.poster_graph.proofs.texts.node_rest.Goals as goal

pub returns-in-Station : goal.returns-in-Station
returns-in-Station c = λ all h.
    ap (λ (text : List ℕ). let o : Option (List ℕ) = Some text in o) (c.rest_of.ensures all h ∙ ap (rest_of all) c.station_name.ensures)
    ∙ sym (ap (node_rest all c.args.names.now) c.in-Station.is)

pub returns-in-Junction : goal.returns-in-Junction
returns-in-Junction c = λ all h. sym (ap (node_rest all c.args.names.now) c.in-Junction.is)
