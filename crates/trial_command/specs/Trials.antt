-- What `trial` does: the map of a trial feed is made, and its numbers are printed.
use Rattle.std.specs.Prelude.{◌≡◌, ◌≤◌, ◌⊎◌, ℕ, ◌+◌, List, [], ◌∷◌, codes, None, Result, Ok, Err}
use Rattle.map_method.specs.declared.defaults.Defaults.TheVariants.{Make}
use Rattle.order_proof.specs.Plain.{PlainPartTree, by_cases, by_pairs, PlainPart}
use Rattle.order_proof.specs.Trees.{splits_of}
use Rattle.cert_file.specs.Plain.{PlainCertificate}
use Rattle.map_faults.specs.declared.fault.MakeFault.{MakeFault}
use Rattle.graph_maps.specs.Making.{MapBytes}
use Rattle.map_engine.specs.Making.{make_outcome}
use Rattle.map_engine.specs.Keeping.{branches_left}
use Rattle.graph_maps.specs.Readings.{certificate_in}
use Rattle.command_run.specs.declared.output.Output.{Output}
use Rattle.command_run.specs.Work.{Work, ends, outcome}
use Rattle.command_run.specs.Told.{file_of}
use Rattle.run_status.specs.declared.input.Input.{Input}
use Rattle.run_status.specs.declared.refusal.Refusal.{Refusal}
use Rattle.run_status.specs.Refusals.{of_make}
use Rattle.run_status.specs.Outputs.{said}
use Rattle.command_inputs.specs.declared.loaded.Loaded.{Loaded}
use Rattle.command_inputs.specs.Inputs.{InputPaths, input_at}
use Rattle.command_inputs.specs.Loading.{load_work}
use Rattle.trial_feed.specs.declared.summary.Summary.{Summary}
use Rattle.trial_feed.specs.Folder.{trial_folder}
use Rattle.trial_feed.specs.Summary.{trial_line}

-- the inputs of a trial: its folder, no file of settings and none of edits
abbrev pub trial_inputs : InputPaths
trial_inputs = record { feed = codes "trial"; chosen = record { defaults = Make; settings = None; edits = None; sets = [] }; files = record { picture = []; certificate = [] }; script = [] }

-- the settings and the tables of the folder of a trial: what each command loads, where these are the files
unfoldable pub trial_loaded : ℕ → Result Loaded Refusal
trial_loaded trial = outcome (load_work trial_inputs.chosen) (file_of (trial_folder trial) (input_at trial_inputs))

-- the splits of a part's tree: a dual tree has none
abbrev pub splits_of_tree : PlainPartTree → ℕ
splits_of_tree (by_cases tree) = splits_of tree
splits_of_tree (by_pairs tree) = 0

-- the splits of the trees of parts
abbrev pub splits_of_parts : List PlainPart → ℕ
splits_of_parts [] = 0
splits_of_parts (part ∷ parts) = splits_of_tree part.tree + splits_of_parts parts

-- the numbers of a map by its certificate
abbrev pub summary_of : PlainCertificate → Summary
summary_of c = record { nodes = c.nodes; segments = c.segs; lines = c.lines; cost = c.cost; branches = splits_of_parts c.proof.parts }

-- the line that tells them; a certificate that is made is read always
abbrev pub told_as : ℕ → Result PlainCertificate ℕ → List Output
told_as trial (Ok c) = said (trial_line trial (summary_of c))
told_as trial (Err at) = []

-- the map is made, or there is none
abbrev pub tried : ℕ → Result MapBytes MakeFault → Result (List Output) Refusal
tried trial (Ok made) = Ok (told_as trial (certificate_in made.certificate))
tried trial (Err fault) = Err (of_make fault)

abbrev pub tried_on : ℕ → Result Loaded Refusal → Result (List Output) Refusal
tried_on trial (Ok loaded) = tried trial (make_outcome loaded.tables loaded.settings loaded.method)
tried_on trial (Err why) = Err why

-- what comes of a trial
unfoldable pub trial_outcome : ℕ → Result (List Output) Refusal
trial_outcome trial = tried_on trial (trial_loaded trial)

-- `trial`: no input is read
abbrev pub trial_work : ℕ → Work Input Refusal (List Output)
trial_work trial = ends (trial_outcome trial)

-- the counter of steps rises by at most the branch nodes of the searches of all parts of the trial's problem
abbrev pub TakesTrialSteps : ℕ → ℕ → ℕ → Type 0
TakesTrialSteps trial before now =
    (now ≡ before) ⊎ ((loaded : Loaded) × (trial_loaded trial ≡ Ok loaded) × (now ≤ before + branches_left [] loaded.tables loaded.settings loaded.method))

-- the numbers are those of the certificate that these bytes are read as
abbrev pub Tells : List ℕ → Summary → Type 0
Tells bytes summary = (c : PlainCertificate) × (certificate_in bytes ≡ Ok c) × (summary ≡ summary_of c)
