-- What calls do to targets, as a list of acts.
use Rattle.std.specs.Prelude.{◌≡◌, ℕ, List, [], ◌∷◌, ◌++◌, map, Option, None, Some, is_some, if◌then◌else◌}
use Rattle.std.specs.Option.{option_map}
use Rattle.files_door.specs.declared.target.Target.{Target}
use Rattle.files_door.specs.declared.target.Target.TheVariants.{Said, Path}
use Rattle.files_door.specs.Targets.{same_target, Written, held_by}

-- a target is begun, or gets one more byte
pub data Act : Type 0 where
  begun : Target → Act
  put : Target → ℕ → Act

-- what a target that held these bytes holds as it is begun: standard output keeps them, a file is emptied
abbrev pub kept_by : Target → List ℕ → List ℕ
kept_by Said bytes = bytes
kept_by (Path path) bytes = []

-- what the target holds changes so; where it was never begun, nothing does
abbrev pub change : Target → (List ℕ → List ℕ) → Written → Written
change target step [] = []
change target step (entry ∷ entries) = if same_target entry.0 target then (entry.0, step entry.1) ∷ entries else entry ∷ change target step entries

-- the target is begun: it is new and empty, or keeps what a target of its kind keeps
abbrev pub begin_target : Target → Written → Written
begin_target target written = if is_some (held_by target written) then change target (kept_by target) written else written ++ (target, []) ∷ []

-- the target gets these bytes at its end
abbrev pub append_to : Target → List ℕ → Written → Written
append_to target bytes written = change target (λ held. held ++ bytes) written

-- after one act
abbrev pub after_act : Act → Written → Written
after_act (begun target) written = begin_target target written
after_act (put target byte) written = append_to target (byte ∷ []) written

-- after acts, in order
abbrev pub after : List Act → Written → Written
after [] written = written
after (act ∷ acts) written = after acts (after_act act written)

-- each byte is put to the target, in order; to no target, none
abbrev pub puts : Option Target → List ℕ → List Act
puts None bytes = []
puts (Some target) bytes = map (λ byte. put target byte) bytes

-- where it is told what is written, it changed by these acts; whether it is told never changes
abbrev pub Does : List Act → Option Written → Option Written → Type 0
Does acts old new = new ≡ option_map (after acts) old
