-- Each return has the answers to the questions before it; the last has the walk's.
use Rattle.std.specs.Prelude.{not}
use Rattle.std.proofs.Math.Path.{ap}
use mathlib.Core.Path.{sym, ◌∙◌}
use native.Mathlib.Omega.{arith}
use borrow.Author.Tests.{not-true, not-false}
use Rattle.booleans.specs.Laws.{is_T}
use Rattle.table.specs.Bytes.{AreBytes}
use Rattle.table.proofs.Laws.Survey.{answers}
use Rattle.table.proofs.Laws.Refusal.{short, no-1, no-2, no-3, no-4, surveyed}
use Rattle.table.proofs.accept.Goals as goal

pub returns-then-not-length_allowed : goal.returns-then-not-length_allowed
returns-then-not-length_allowed c = no-1 _ (sym c.length_allowed.ensures ∙ not-true _ (ap not c.if-not-length_allowed.true))

pub returns-then-not-records_listed : goal.returns-then-not-records_listed
returns-then-not-records_listed c =
    no-2 _ (sym c.length_allowed.ensures ∙ not-false _ (ap not c.if-not-length_allowed.false))
    (sym c.records_listed.ensures ∙ not-true _ (ap not c.if-not-records_listed.true))

pub returns-then-not-records_in_range : goal.returns-then-not-records_in_range
returns-then-not-records_in_range c =
    no-3 _ (sym c.length_allowed.ensures ∙ not-false _ (ap not c.if-not-length_allowed.false))
    (sym c.records_listed.ensures ∙ not-false _ (ap not c.if-not-records_listed.false))
    (sym c.records_in_range.ensures ∙ not-true _ (ap not c.if-not-records_in_range.true))

pub one_tree-requires : goal.one_tree-requires
one_tree-requires c =
    short _ (sym c.length_allowed.ensures ∙ not-false _ (ap not c.if-not-length_allowed.false))

pub returns-then-not-one_tree : goal.returns-then-not-one_tree
returns-then-not-one_tree c =
    no-4 _ (sym c.length_allowed.ensures ∙ not-false _ (ap not c.if-not-length_allowed.false))
    (sym c.records_listed.ensures ∙ not-false _ (ap not c.if-not-records_listed.false))
    (sym c.records_in_range.ensures ∙ not-false _ (ap not c.if-not-records_in_range.false))
    (sym c.one_tree.ensures ∙ not-true _ (ap not c.if-not-one_tree.true))

pub accept_tree-requires : goal.accept_tree-requires
accept_tree-requires c =
    short _ (sym c.length_allowed.ensures ∙ not-false _ (ap not c.if-not-length_allowed.false))

pub returns : goal.returns
returns c =
    let one = sym c.length_allowed.ensures ∙ not-false _ (ap not c.if-not-length_allowed.false) in
    let two = sym c.records_listed.ensures ∙ not-false _ (ap not c.if-not-records_listed.false) in
    let three = sym c.records_in_range.ensures ∙ not-false _ (ap not c.if-not-records_in_range.false) in
    let four = sym c.one_tree.ensures ∙ not-false _ (ap not c.if-not-one_tree.false) in
    let bytes : AreBytes c.args.table.now = λ i. omega (arith, c.type_inv.table i) in
    c.accept_tree.ensures ∙ surveyed _ one two three four _ (answers _ bytes (is_T _ one) (is_T _ two) (is_T _ three) (is_T _ four))
