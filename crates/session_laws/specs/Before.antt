-- The edits of a script before one of its draws.
use Rattle.std.specs.Prelude.{ℕ, zero, suc, Bool, true, false, List, [], ◌∷◌, Option, Some, if◌then◌else◌}
use Rattle.map_edits.specs.declared.reading.ScriptLine.{ScriptLine}
use Rattle.map_edits.specs.declared.reading.ScriptLine.TheVariants as script
use Rattle.map_edits.specs.Grammar.{script_line_in}

-- a line draws
abbrev pub draws : Option ScriptLine → Bool
draws (Some script.Draw) = true
draws line = false

-- what stands behind a draw counts where that is not yet the draw that is looked for: by what counts there before draw k
abbrev pub behind_draw : ℕ → (ℕ → List (List ℕ)) → List (List ℕ)
behind_draw zero before = []
behind_draw (suc k) before = before k

-- the lines before draw k of a script, from 0, but for the draws themselves
abbrev pub edits_before : ℕ → List (List ℕ) → List (List ℕ)
edits_before k [] = []
edits_before k (line ∷ rest) = if draws (script_line_in line) then behind_draw k (λ i. edits_before i rest) else line ∷ edits_before k rest
