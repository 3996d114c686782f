use Rattle.std.proofs.Common.{Ok, ap, ◌∙◌, position}
use Rattle.std.specs.Str.{bytes_eq}
use Rattle.files_door.specs.FilesInMemory.{entries}
use Rattle.files_door.proofs.Places.{is_some_place, begun_place}
use Rattle.files_door.proofs.steady_files.SteadyFilesFiles.begin.Goals as goal

pub returns-clause-answer : goal.returns-clause-answer
returns-clause-answer c =
    rw (← c.self.view_is) (ap Ok (c.is_some.ensures ∙ is_some_place c.self.inside.files.items c.args.path.now c.place_of-self-inside.result (c.place_of-self-inside.ensures ∙ ap (position (λ file. bytes_eq file.0 c.args.path.now)) c.deref.ensures.value)))

pub returns-clause-after : goal.returns-clause-after
returns-clause-after c =
    rw (← c.self.view_is) (ap (λ bytes. record { files = entries c.self.inside.files.items; unread = bytes }) (begun_place c.self.inside.files.items c.args.path.now c.place_of-self-inside.result (c.place_of-self-inside.ensures ∙ ap (position (λ file. bytes_eq file.0 c.args.path.now)) c.deref.ensures.value)))
