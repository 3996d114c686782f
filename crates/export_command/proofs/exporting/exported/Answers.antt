use Rattle.export_command.specs.ExportWorks.{WritesGraph}
use Rattle.export_command.proofs.ExportLemmas.{written_is}
use Rattle.export_command.proofs.exporting.exported.Goals as goal

pub returns-clause-writes : goal.returns-clause-writes
returns-clause-writes c = record { text = c.in_ok-text.text.items; exported = c.in_ok-text.ensures.exported; are = c.in_ok-write_file.ensures }

pub returns-clause-given : goal.returns-clause-given
returns-clause-given c =
    written_is c.args.loaded.now c.args.out.now c.in_ok-write_file.field-0
    (record { text = c.in_ok-text.text.items; exported = c.in_ok-text.ensures.exported; are = c.in_ok-write_file.ensures })
