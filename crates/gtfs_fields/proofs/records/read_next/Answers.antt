use Rattle.std.proofs.Common.{◌∙◌, inl}
use Rattle.csv.specs.Records.{fields_of}
use Rattle.gtfs_fields.proofs.LeftLemmas.{takes, source_after}
use Rattle.gtfs_fields.proofs.records.read_next.Goals as goal

pub returns-in-Ok-clause-plain : goal.returns-in-Ok-clause-plain
returns-in-Ok-clause-plain c =
    let read = c.in-Ok.ensures.reads c.requires.trim c.requires.ready in
    let after = source_after c.args.reader.now c.read_byte_record.new.self c.in-Ok.found (fields_of c.read_byte_record.new.row) c.requires read in
    record {
      trim = read.3 ∙ c.requires.trim;
      ready = inl (c.in-Ok.ensures.ready c.requires.trim);
      flexible = c.in-Ok.ensures.flexible ∙ c.requires.flexible;
      config = read.2 ∙ c.requires.config;
      unread = after.0;
      source = after.1;
    }

pub returns-in-Ok-clause-takes : goal.returns-in-Ok-clause-takes
returns-in-Ok-clause-takes c =
    takes c.args.reader.now c.read_byte_record.new.self c.in-Ok.found (fields_of c.read_byte_record.new.row) c.requires (c.in-Ok.ensures.reads c.requires.trim c.requires.ready)
