use Rattle.std.specs.Prelude.{not}
use Rattle.std.proofs.Math.Path.{ap}
use Rattle.std.proofs.Common.{◌≡◌, ◌∙◌, arith, length-take-le, sym}
use Rattle.graft.specs.Answers.{graft_table, question12}
use Rattle.graft.proofs.Laws.Answering.{all-written, made-asked, made-length, refusal-told, result-refused, short-refused}
use Rattle.graft.proofs.put_graft.Goals.{After-is_err}
use Rattle.graft.proofs.put_graft.Goals as goal

-- the walk's answer is question 12's
asked : (c : After-is_err) → not c.is_err.result ≡ question12 (graft_table c.args.host.now c.args.sent.now c.args.symbol)
asked c =
    ap not c.is_err.ensures.value
    ∙ sym (refusal-told c.accept_tree.result)
    ∙ made-asked _ _ _ _ _ c.in-Some.ensures c.requires (omega (arith, c.make_graft.auto)) _ c.accept_tree.ensures

pub returns-in_default : goal.returns-in_default
returns-in_default c = result-refused _ _ _ _ c.requires c.in_default.ensures

pub returns-then-is_err : goal.returns-then-is_err
returns-then-is_err c = result-refused _ _ _ _ c.requires (sym (asked (goal.at.returns-then-is_err c).After-is_err) ∙ ap not c.if-is_err.true)

pub returns-then-out-len : goal.returns-then-out-len
returns-then-out-len c =
    let long = made-length _ _ _ _ _ c.in-Some.ensures in
    short-refused _ _ _ _ c.requires (sym (asked (goal.at.returns-then-out-len c).After-is_err) ∙ ap not c.if-is_err.false) (omega (arith, long, c.if-out-len.true))

pub returns : goal.returns
returns c =
    let made = c.in-Some.ensures in
    let long = made-length _ _ _ _ _ made in
    all-written _ _ _ _ c.requires (sym (asked (goal.at.returns c).After-is_err) ∙ ap not c.if-is_err.false) _ _ _ (omega (arith, long, c.if-out-len.false)) made.bytes (sym (length-take-le _ _ made.room)) c.write_front.ensures
