use Rattle.run_laws.proofs.AfterExport.{exports, imports, refused_alike}
use Rattle.run_laws.proofs.exchange.import_comes_to_what_make_comes_to.Goals as goal

pub returns : goal.returns
returns c = record {
  exports = λ chosen out given loaded text loads written. exports chosen given loaded loads text written out;
  imports = λ chosen importing paths given after loaded all text loads written settings alike method there.
      imports chosen given loaded loads text written importing paths after all settings alike method there;
  refused = λ chosen out paths given why is. refused_alike chosen given out paths why is;
}
