-- Each part is written behind the one before it; `Places` says where it stands in the table.
use mathlib.Core.Path.{◌≡◌, ap, ◌∙◌}
use Prim.Native.Nat.{◌+◌, ◌-◌}
use native.Mathlib.Omega.{arith}
use Rattle.subtrees.specs.Facts.{extent_at}
use Rattle.table.specs.Trees.{records_in}
use Rattle.simplify.specs.Rules.{others}
use Rattle.subtrees.specs.Parts.{trees_at}
use Rattle.table.proofs.Laws.Tables.{few-records}
use Rattle.rules2to7.specs.Blocks.{spanning}
use Rattle.rules2to7.specs.Laws.Blocks.{Places, merge-wrote, places, spans}
use Rattle.rules2to7.proofs.merge_bares.Goals.{Start}
use Rattle.rules2to7.proofs.merge_bares.Goals as goal

-- where the parts of the node stand
stand : (s : Start) → Places s.args.view.table.now s.args.view.facts.now s.args.i s.args.q s.args.bares s.requires.parted
stand s = places _ _ s.args.view.sized _ _ _ s.requires.inside s.requires.parted

kept : (s : Start) → records_in (others (spanning (trees_at s.args.view.table.now s.args.q) (s.args.i + extent_at s.args.view.facts.now s.args.i - s.args.q)))
    ≡ records_in (others s.requires.parted.second)
kept s = let p = stand s in ap (λ f. records_in (others f)) (spans s.args.view.table.now s.args.q _ p.standing ∙ p.are)

pub overflow_sub-count : goal.overflow_sub-count
overflow_sub-count c =
    omega (arith, (stand (goal.at.overflow_sub-count c).Start).number, c.children_at.ensures.0, c.requires.parted.number)

pub copy_records-block-requires : goal.copy_records-block-requires
copy_records-block-requires c =
    let p = stand (goal.at.copy_records-block-requires c).Start in
    let a = c.requires.parted in
    (omega (arith, p.extent, p.inside, p.long, a.place), omega (arith, p.extent, p.inside, p.long, a.place, c.put_node-first.ensures.0))

pub put_node-second-requires : goal.put_node-second-requires
put_node-second-requires c =
    let p = stand (goal.at.put_node-second-requires c).Start in
    let a = c.requires.parted in
    omega (arith, p.extent, p.inside, p.long, a.place, a.fewer, c.put_node-first.ensures.0, c.copy_records-block.ensures.0)

pub overflow_add-end : goal.overflow_add-end
overflow_add-end c = omega (arith, (stand (goal.at.overflow_add-end c).Start).inside, few-records c.args.view.table.now c.args.view.sized.table)

pub copy_others-later-requires : goal.copy_others-later-requires
copy_others-later-requires c =
    let p = stand (goal.at.copy_others-later-requires c).Start in
    let a = c.requires.parted in
    let k = kept (goal.at.copy_others-later-requires c).Start in
    record {
      standing = p.standing;
      end_in_bounds = omega (arith, p.extent, p.inside, p.long, a.place, a.fewer, c.put_node-first.ensures.0, c.copy_records-block.ensures.0, c.put_node-second.ensures.0);
    }

pub copy_rest-requires : goal.copy_rest-requires
copy_rest-requires c =
    let p = stand (goal.at.copy_rest-requires c).Start in
    let a = c.requires.parted in
    let k = kept (goal.at.copy_rest-requires c).Start in (
      omega (arith, p.inside, p.long),
      omega (arith, p.extent, p.inside, p.long, a.place, a.fewer, c.put_node-first.ensures.0, c.copy_records-block.ensures.0, c.put_node-second.ensures.0, c.copy_others-later.ensures.0),
    )

pub returns : goal.returns
returns c =
    λ a. merge-wrote _ _ c.args.view.sized _ _ _ c.requires.inside a _ _ _ _ _ _ _ _ _ _ _ _ _
    c.node_at-node.ensures
    c.children_at.ensures.0
    c.children_at.ensures.1
    c.put_node-first.ensures
    c.copy_records-block.ensures
    c.put_node-second.ensures
    c.copy_others-later.ensures
    c.copy_rest.ensures
