use Rattle.gtfs_tables.proofs.PatternLemmas.{set_apart}
use Rattle.gtfs_tables.proofs.patterns.apart.Goals as goal

pub returns : goal.returns
returns c = set_apart c.args.stations.now c.in_ok-kept.kept.items c.dedup.new.self.items c.in_ok-kept.ensures.items c.dedup.ensures.filtered
