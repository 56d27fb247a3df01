-- By what is kept of the record: the evaluator gives the block's time.
use Rattle.std.proofs.Common.{ap, sym, ◌∙◌, arith, rules}
use Rattle.simplify.specs.Rules.{is_block}
use Rattle.table.proofs.Laws.Tables.{few-records, length-is}
use Rattle.subtrees.specs.Laws.Parts.{extent-some, past-inside}
use Rattle.rules2to7.specs.Laws.Settled.{is-node, no_node, not-settled, settled-written}
use Rattle.rules2to7.proofs.rule4_at.Goals as goal

pub returns-then-not-settled : goal.returns-then-not-settled
returns-then-not-settled c = not-settled _ _ c.requires.surveyed _ c.requires.inside _ c.if-not-settled.true

pub returns-then-is_block : goal.returns-then-is_block
returns-then-is_block c =
    no_node _ _ c.requires.surveyed _ c.requires.inside _ (ap (λ n. is_block n.kind) (sym c.node_at-node.ensures) ∙ sym c.is_block.ensures ∙ c.if-is_block.true)

pub settled_value-requires-clause-fact_3 : goal.settled_value-requires-clause-fact_3
settled_value-requires-clause-fact_3 c =
    is-node _ _ c.requires.surveyed _ c.requires.inside (ap (λ n. is_block n.kind) (sym c.node_at-node.ensures) ∙ sym c.is_block.ensures ∙ c.if-is_block.false)

pub overflow_add-i : goal.overflow_add-i
overflow_add-i c =
    let v = c.args.view in
    search (rules, past-inside _ _ v.sized _ c.requires.inside, few-records _ v.sized.table)

pub copy_rest-requires : goal.copy_rest-requires
copy_rest-requires c =
    let v = c.args.view in
    omega (arith, past-inside _ _ v.sized _ c.requires.inside, extent-some _ _ v.sized _ c.requires.inside, length-is _ v.sized.table)

pub returns : goal.returns
returns c =
    let one = c.put_node-at.ensures.0 in
    let own = c.node_at-node.ensures in
    settled-written _ _ c.requires.surveyed _ c.requires.inside _ _ _ c.settled_value.ensures c.if-not-settled.false
    (ap (λ n. is_block n.kind) (sym own) ∙ sym c.is_block.ensures ∙ c.if-is_block.false)
    (rw one at c.copy_rest.ensures.0) (rw (c.put_node-at.ensures.1, own) at c.copy_rest.ensures.1)
