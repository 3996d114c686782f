-- Where names are printed, as it is noted.
use Rattle.std.specs.Prelude.{Option, Some, None}
use Rattle.poster_plan.specs.declared.layout.Printed.{Printed}

-- the first of two, where there is one
abbrev pub first_of : Option Printed → Option Printed → Option Printed
first_of (Some p) o = Some p
first_of None o = o
