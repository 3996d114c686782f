use Rattle.std.proofs.Common.{◌≡◌, ◌∙◌, ◌++◌, List}
use Rattle.std.specs.Option.{option_to_list}
use Rattle.std.proofs.lemmas.Result.{IfOk-weaker}
use Rattle.command_run.specs.declared.output.Output.{Output}
use Rattle.graph_maps.specs.Making.{bytes_of}
use Rattle.command_paths.specs.Paths.{new_paths_by}
use Rattle.map_commands.specs.MapWorks.{new_outputs, poster_due}
use Rattle.map_commands.proofs.MakeLemmas.{new_are}
use Rattle.map_commands.proofs.outputs.write_new.Goals as goal

pub returns : goal.returns
returns c =
    let paths = new_paths_by c.args.files.now in
    let made = bytes_of c.args.made in
    let page = option_to_list c.in_ok-page.page in
    IfOk-weaker c.with_page.result
    (λ (all : List Output). all ≡ c.into_vec.result.items ++ page)
    (λ (all : List Output). all ≡ new_outputs paths (poster_due c.args.loaded.now made) made)
    (λ all is. is ∙ new_are paths c.args.loaded.now c.args.graph.now made c.as_slice.result.now c.into_vec.result.items page c.requires.graph
    c.as_slice.ensures.value (c.into_vec.ensures ∙ c.in_ok-outputs.ensures) c.in_ok-page.ensures)
    c.with_page.ensures
