-- An example of grafting, as document 01 writes trees, and examples of question 11, checked against the definitions.
use Rattle.std.specs.Prelude.{◌≡◌, refl, ℕ, replicate}
use Rattle.refusals.specs.Refusals.{refused}
use Rattle.table.specs.Questions.{number_has}
use Rattle.table.specs.Table.{encode}
use Rattle.table.specs.Trees.{Tree, around, rest, every_node}
use Rattle.table.specs.Notation.{◌addressed◌, ◌/◌at◌, block, both, either, loop, sequence, symbol}
use Rattle.quoting.specs.Cases.{computed}
use Rattle.splice.specs.Graft.{graft, in_place, is_symbol, rename, renamed_limit, uses}
use Rattle.graft.specs.Answers.{graft_answer, graft_questions, graft_refusal, graft_table, question11, question12}

-- (X/2@255, loop 3 of (X, 5)), X symbol 20, at addresses 95 and 96
pub host : (x : Tree) → Tree
host x = both (x / 2 at 255 addressed 95) (loop 3 (both (x addressed 96) (block 5 addressed 97)) (block 0 addressed 98))

-- loop 2 of C(10/1@i | 4/3@1) exit 7/1@j, its addresses 1 to 5: whole-run limits in its body and on its exit
pub sent : (i j : ℕ) → Tree
sent i j = loop 2 (either (block 10 / 1 at i addressed 3) (block 4 / 3 at 1 addressed 4) addressed 2) (block 7 / 1 at j addressed 5) addressed 1

-- each X becomes a loop 1 of the sent tree, which its whole-run limits name and which has X's address; its exit has address 0
pub example-holds : graft 20 (sent 255 255) (host (symbol 20)) ≡ host (loop 1 (sent 2 1) (block 0))
unfolding host sent graft in_place rename renamed_limit is_symbol number_has around rest block symbol ◌/◌at◌ ◌addressed◌ sequence both either loop
example-holds = refl

-- the number of the refusal, 0 for none, where this tree is sent for a host of one block with symbol s
pub refused_for : (sent : Tree) (s : ℕ) → ℕ
refused_for u s = refused (graft_answer (encode (symbol s)) (encode u) s (replicate 120 0))

record Elevens : Type 0 where
  last-single : refused_for (block 7) 23 ≡ 0
  first-paired : refused_for (block 7) 24 ≡ 11
  last-paired : refused_for (block 7) 31 ≡ 11
  single-sent : refused_for (symbol 23) 16 ≡ 0
  used-sent : refused_for (symbol 16) 16 ≡ 11
  paired-sent : refused_for (symbol 24) 16 ≡ 11
  paired-below : refused_for (loop 1 (symbol 31) (block 0)) 16 ≡ 11

elevens-hold : Elevens
unfolding computed refused_for graft_answer graft_refusal graft_questions question11 question12 graft_table uses every_node graft in_place rename renamed_limit is_symbol number_has
elevens-hold = record {
  last-single = refl;
  first-paired = refl;
  last-paired = refl;
  single-sent = refl;
  used-sent = refl;
  paired-sent = refl;
  paired-below = refl;
}
