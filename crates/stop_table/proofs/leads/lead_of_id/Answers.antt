use Rattle.std.proofs.Common.{◌<◌, ◌+◌, length, arith}
use Rattle.stop_table.proofs.LeadLemmas.{place_behind}
use Rattle.stop_table.proofs.leads.lead_of_id.Goals as goal

pub overflow_add-place : goal.overflow_add-place
overflow_add-place c =
    let behind : c.in-Some.place + 1 < length c.args.rows.now = place_behind c.args.columns.now.id c.args.rows.now c.args.ids.now c.in-Some.place c.requires.ids c.in-Some.ensures.within in
    omega (arith, behind, c.requires.few)

pub near_lead_in-requires : goal.near_lead_in-requires
near_lead_in-requires c =
    place_behind c.args.columns.now.id c.args.rows.now c.args.ids.now c.in-Some.place c.requires.ids c.in-Some.ensures.within
