-- The faults of each step as those of the whole.
use Rattle.map_base.specs.declared.limit_fault.LimitFault.{LimitFault}
use Rattle.map_base.specs.declared.limit_fault.LimitFault.TheVariants as limit
use Rattle.segment_router.specs.declared.fault.RouteFault.{RouteFault}
use Rattle.segment_router.specs.declared.fault.RouteFault.TheVariants as route
use Rattle.octi_grid.specs.declared.drawing.DrawingStop.{DrawingStop}
use Rattle.octi_grid.specs.declared.drawing.DrawingStop.TheVariants as drawing
use Rattle.decimal_text.specs.declared.fault.BadText.{BadText}
use Rattle.decimal_text.specs.declared.fault.BadText.TheVariants as bad
use Rattle.order_check.specs.declared.refusal.ProofStop.{ProofStop}
use Rattle.order_check.specs.declared.refusal.ProofStop.TheVariants as proof
use Rattle.map_faults.specs.declared.fault.MakeFault.{MakeFault}
use Rattle.map_faults.specs.declared.fault.MakeFault.TheVariants as make
use Rattle.map_faults.specs.declared.fault.CheckItem.TheVariants as item
use Rattle.map_faults.specs.declared.fault.CheckFault.{CheckFault}
use Rattle.map_faults.specs.declared.fault.CheckFault.TheVariants as check

-- why no map is made
abbrev pub of_limit : LimitFault → MakeFault
of_limit (limit.Limit l) = make.Limit l
of_limit limit.NoMemory = make.NoMemory

abbrev pub of_route : RouteFault → MakeFault
of_route (route.NoRoute seg) = make.NoRoute seg
of_route (route.Limit l) = make.Limit l
of_route route.NoMemory = make.NoMemory

-- why a map is not accepted
abbrev pub limit_stop : LimitFault → CheckFault
limit_stop (limit.Limit l) = check.Limit l
limit_stop limit.NoMemory = check.NoMemory

abbrev pub text_stop : BadText → CheckFault
text_stop (bad.At at) = check.Refuted (item.Text at)
text_stop bad.NoMemory = check.NoMemory

abbrev pub drawing_stop : DrawingStop → CheckFault
drawing_stop (drawing.Bad seg why) = check.Refuted (item.Walk seg why)
drawing_stop drawing.NoMemory = check.NoMemory

abbrev pub proof_stop : ProofStop → CheckFault
proof_stop (proof.Refuted i) = check.Refuted (item.Proof i)
proof_stop proof.NoMemory = check.NoMemory
