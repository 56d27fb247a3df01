use Rattle.std.proofs.Common.{arith}
use Rattle.table.specs.Bytes.{AreBytes}
use Rattle.words.specs.Laws.Compare.{agrees, all-agree, differs}
use Rattle.words.proofs.compare.Goals as goal

pub returns-then-read_u64 : goal.returns-then-read_u64
returns-then-read_u64 c =
    differs _ _ c.loop-k.k c.read_u64.ensures c.read_u64-in-loop-k.ensures c.loop-k.invariant c.if-read_u64.true

pub loop-k-preserved : goal.loop-k-preserved
loop-k-preserved c =
    let first : AreBytes c.args.a.now = λ i. omega (arith, c.type_inv.a i) in
    let second : AreBytes c.args.b.now = λ i. omega (arith, c.type_inv.b i) in
    agrees _ _ first second c.requires c.loop-k.k (omega arith) c.read_u64.ensures c.read_u64-in-loop-k.ensures c.loop-k.invariant c.if-read_u64.false

pub returns : goal.returns
returns c = all-agree _ _ c.requires c.loop-k.k (omega (arith, c.requires.1)) c.loop-k.invariant
