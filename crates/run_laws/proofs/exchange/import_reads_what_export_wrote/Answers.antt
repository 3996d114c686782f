use Rattle.run_laws.proofs.RunAfterExport.{import_reads}
use Rattle.run_laws.proofs.exchange.import_reads_what_export_wrote.Goals as goal

pub returns : goal.returns
returns c = λ feed out chosen importing paths files later new all written lies settings alike method.
    import_reads feed out chosen importing paths files later new all written lies settings alike method
