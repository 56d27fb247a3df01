use Rattle.rewrite.specs.Laws.Tests.{bare_some}
use Rattle.rewrite.proofs.is_bare.Goals as goal

pub returns : goal.returns
returns c = bare_some _ c.bare_time.ensures.value c.is_some.ensures
