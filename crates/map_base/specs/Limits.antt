-- The limits: how a counted quantity is printed, and its greatest allowed number.
use Rattle.std.specs.Prelude.{ℕ, ◌+◌, Bool, nat_le, List, codes, Result, Err, if◌then◌else◌}
use Rattle.map_base.specs.declared.limit.Limit.{Limit}
use Rattle.map_base.specs.declared.limit.LimitKind.{LimitKind}
use Rattle.map_base.specs.declared.limit.LimitKind.TheVariants.{File, Lines, Stations, Samples, NetPoints, Nodes, Segments, Cells, Terms, Places}

-- the quantity as a limit's line prints it
abbrev pub limit_name : LimitKind → List ℕ
limit_name File = codes "file"
limit_name Lines = codes "lines"
limit_name Stations = codes "stations"
limit_name Samples = codes "samples"
limit_name NetPoints = codes "net points"
limit_name Nodes = codes "nodes"
limit_name Segments = codes "segments"
limit_name Cells = codes "cells"
limit_name Terms = codes "terms"
limit_name Places = codes "places"

-- the greatest allowed number: bytes of a file, and counts of everything else
abbrev pub limit_most : LimitKind → ℕ
limit_most File = 536870912
limit_most Lines = 1000
limit_most Stations = 10000
limit_most Samples = 4000000
limit_most NetPoints = 100000
limit_most Nodes = 10000
limit_most Segments = 20000
limit_most Cells = 400
limit_most Terms = 4000000
limit_most Places = 2048

-- a limit, as it is reported where counting stops at one more than the greatest allowed number
abbrev pub limit_of : LimitKind → Limit
limit_of kind = record { what = kind; found = limit_most kind + 1; most = limit_most kind }

-- the number of things of a kind is no more than is allowed
abbrev pub is_within : LimitKind → ℕ → Bool
is_within kind count = nat_le count (limit_most kind)

-- what comes next, unless there are too many things of a kind
abbrev pub unless_above : {A : Type 0} → LimitKind → ℕ → Result A Limit → Result A Limit
unless_above kind count next = if is_within kind count then next else Err (limit_of kind)
