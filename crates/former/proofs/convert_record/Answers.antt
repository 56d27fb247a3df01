-- The former bytes are copied, and then those that are added.
use Rattle.former.proofs.Laws.Converting.{record-put}
use Rattle.former.proofs.convert_record.Goals as goal

pub returns : goal.returns
returns c =
    let a = c.args in
    record-put a.old.now a.i a.out.now _ _ c.copy_bytes.ensures c.copy_bytes-2.ensures
