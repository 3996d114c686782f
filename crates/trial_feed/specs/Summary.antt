-- The line that a trial prints.
use Rattle.std.specs.Prelude.{ℕ, List, ◌++◌, codes}
use Rattle.std.specs.Fmt.{decimal}
use Rattle.trial_feed.specs.declared.summary.Summary.{Summary}

-- the line that tells a summary of the map of a trial
abbrev pub trial_line : ℕ → Summary → List ℕ
trial_line trial summary =
    codes "trial " ++ (decimal trial ++ (codes ": nodes " ++ (decimal summary.nodes ++ (codes " segments " ++ (decimal summary.segments
    ++ (codes " lines " ++ (decimal summary.lines ++ (codes " cost " ++ (decimal summary.cost ++ (codes " branches " ++ (decimal summary.branches
    ++ codes "\n")))))))))))
