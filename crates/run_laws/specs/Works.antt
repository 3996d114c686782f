-- The work of `import` behind that of `export`.
use Rattle.std.specs.Prelude.{ℕ, List, length, None, Result, Err, if◌then◌else◌}
use Rattle.map_base.specs.declared.limit.LimitKind.TheVariants.{File}
use Rattle.map_base.specs.Limits.{is_within, limit_of}
use Rattle.command_paths.specs.Paths.{MapPaths, NewPaths}
use Rattle.run_status.specs.declared.refusal.Refusal.{Refusal}
use Rattle.run_status.specs.declared.refusal.Refusal.TheVariants as refused

-- the paths of a new map without a page
abbrev pub no_page : MapPaths → NewPaths
no_page paths = record { map = paths; page = None }

-- what comes of a file of this text, unless it is above the limit
abbrev pub unless_long : {A : Type 0} → List ℕ → Result A Refusal → Result A Refusal
unless_long text next = if is_within File (length text) then next else Err (refused.Limit (limit_of File))
