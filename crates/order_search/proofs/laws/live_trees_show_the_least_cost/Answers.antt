use Rattle.order_search.proofs.Shows.{accepted, least, attained, of_proofs}
use Rattle.order_search.proofs.laws.live_trees_show_the_least_cost.Goals as goal

pub returns-clause-accepted : goal.returns-clause-accepted
returns-clause-accepted c segs terms part rising fit part_rises known = accepted segs terms part rising fit part_rises known

pub returns-clause-least : goal.returns-clause-least
returns-clause-least c segs terms part rising fit part_rises known = least segs terms part rising fit part_rises known

pub returns-clause-attained : goal.returns-clause-attained
returns-clause-attained c segs terms part rising fit part_rises known = attained segs terms part rising fit part_rises known

pub returns-clause-of_proofs : goal.returns-clause-of_proofs
returns-clause-of_proofs c segs terms part rising fit part_rises known few = of_proofs segs terms part rising fit part_rises known few
