use Rattle.command_run.specs.Delivered.{no_memory_line}
use Rattle.command_run.specs.Delivered.{line_acts}
use Rattle.command_run.proofs.ActLemmas.{some_done}
use Rattle.command_run.proofs.delivery.out_of_memory.Goals as goal

pub returns-clause-line : goal.returns-clause-line
returns-clause-line g c = some_done (line_acts no_memory_line) (g.S.Sinks.written c.args.sinks.now) (g.S.Sinks.written c.say-cut_short.new.sinks) c.say-cut_short.result c.say-cut_short.ensures.done
