use Rattle.map_cli.proofs.run_whole.Goals as goal

pub returns : goal.returns
returns g c = record {
  ends = c.run.ensures.ends;
  cause = c.run.ensures.cause;
  usage = c.run.ensures.usage;
  map = c.run.ensures.map;
  steps = c.run.ensures.steps;
}
