use Rattle.memory.proofs.RecordPartLaws.{record_written}
use Rattle.memory.proofs.records.write_record.Goals as goal

pub returns : goal.returns
returns c = record_written c.args.to.now c.args.key.now c.args.class _ _ c.requires c.copy_from_slice.ensures.after c.write_class.ensures
