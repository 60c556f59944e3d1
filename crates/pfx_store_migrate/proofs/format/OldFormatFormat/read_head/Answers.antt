use Rattle.pfx_store_header.proofs.Meanings.{read_a_header}
use Rattle.pfx_store_version_one.specs.Format.{old_version}
use Rattle.pfx_store_migrate.proofs.format.OldFormatFormat.read_head.Goals as goal

pub invariant_of-result : goal.invariant_of-result
invariant_of-result g c = read_a_header old_version c.args.bytes.now _ c.in-Ok.ensures
