-- What the definitions say of an unlimited plain block, and of a plain block with a limit.
use Rattle.std.specs.Prelude.{◌≡◌, Bool, ℕ, ◌≤◌, T}
use Rattle.std.proofs.Math.Path.{refl}
use Rattle.std.proofs.Common.{ap, ap₂, ◌∙◌, arith, le→leb}
use Rattle.booleans.specs.Laws.{both, join-and}
use Rattle.booleans.specs.Tests.{◌and◌}
use Rattle.table.specs.Numbers.{whole_run, most_time}
use Rattle.table.specs.Questions.{arity, is_address, time_in_range, kind_in_range, limit_in_range, listed, name_ok, named, share, weight, paired, paired_block, paired_share, loops, depth}
use Rattle.table.specs.Limits.{every_limit, limit_holds}
use Rattle.table.specs.Trees.{Tree, node, nil, ◌▸◌, size, records, every_node}
use Rattle.lists.specs.Streams.{const}
use Rattle.evaluate.specs.Closed.{is_plain, is_unlimited, plain_kind}
use Rattle.evaluate.specs.Evaluate.{Values, amount, later, once_then, limit, start, list, inner, name, fits}
use Rattle.evaluate.proofs.Laws.Constant.{unlimited-is}
use Rattle.evaluate.proofs.Laws.Times.{once-same}
use Rattle.simplify.specs.Nodes.{Plain, Symbol, Kind, Block, Sequence, Choice, Loop, Unlimited, Limit, Most, Node}
use Rattle.simplify.specs.Rules.{is_block, time_of_kind, leaf, bare, time_of}

-- ---- an unlimited plain block

block-is : (k : Kind) → T (is_block k) → T (plain_kind k) → k ≡ Block (Plain (time_of_kind k))
unfolding is_block plain_kind is_plain time_of_kind
block-is (Block (Plain x)) h i = refl
block-is (Block (Symbol s)) h i = absurd i
block-is Sequence h i = absurd h
block-is Choice h i = absurd h
block-is (Loop n) h i = absurd h

-- its kind, its limit and its children, whatever its address
bare_parts : (n : Node) → T (is_block n.kind and plain_kind n.kind and is_unlimited n.limit) → (n.kind ≡ Block (Plain (time_of_kind n.kind))) × (n.limit ≡ Unlimited)
bare_parts n h =
    let (p, z) = both _ _ h in
    let (x, y) = both _ _ p in
    (block-is _ x y, unlimited-is _ z)

pub bare-list : (v : Values) (t : Tree) → T (bare t) → list v t ≡ const (time_of t)
unfolding bare time_of list
bare-list v (node n nil) h = let (k, l) = bare_parts n h in ap₂ (λ x y. limit v x (start v y)) l k ∙ unfold limit in unfold start in unfold amount in unfold later in once-same (time_of_kind n.kind)
bare-list v (node n (t ▸ f)) h = absurd h

pub bare-name : (t : Tree) → T (bare t) → name t ≡ whole_run
unfolding bare name
bare-name (node n nil) h = ap (λ l. inner l whole_run) (bare_parts n h).1 ∙ unfold inner in refl
bare-name (node n (t ▸ f)) h = absurd h

pub leaf-limited : (v : Values) (x : ℕ) (l : Limit) → list v (leaf x l) ≡ limit v l (const x)
unfolding leaf list start amount later
leaf-limited v x l = ap (limit v l) (once-same x)

pub leaf-list : (v : Values) (x : ℕ) → list v (leaf x Unlimited) ≡ const x
unfolding limit
leaf-list v x = leaf-limited v x Unlimited

pub leaf-name : (x : ℕ) → name (leaf x Unlimited) ≡ whole_run
unfolding leaf name inner
leaf-name x = refl

pub leaf-fits : (v : Values) (x : ℕ) (l : Limit) → x ≤ most_time → T (fits v (leaf x l))
unfolding leaf fits list start amount once_then
leaf-fits v x l h = join-and _ _ (le→leb x most_time h) tt

pub leaf-listed : (x : ℕ) (l : Limit) → x ≤ most_time → T (limit_in_range l) → T (listed (leaf x l))
unfolding leaf listed is_address kind_in_range time_in_range arity size
leaf-listed x l h i = join-and _ _ (join-and _ _ (join-and _ _ (join-and _ _ tt (le→leb x most_time h)) i) tt) tt

pub leaf-named : (x d : ℕ) → T (named (leaf x Unlimited) d)
unfolding leaf named name_ok ◌and◌
leaf-named x d = tt

pub leaf-limits : (p : ℕ → Most → Bool) (x : ℕ) → T (every_limit p (leaf x Unlimited))
unfolding leaf every_node limit_holds ◌and◌
leaf-limits p x = tt

pub leaf-share : (x : ℕ) (l : Limit) (d : ℕ) → weight (leaf x l) d ≡ share l d
unfolding leaf weight paired_share paired_block paired
leaf-share x l d = omega arith

pub leaf-weight : (x d : ℕ) → weight (leaf x Unlimited) d ≡ 0
unfolding share
leaf-weight x d = leaf-share x Unlimited d

pub leaf-loops : (x : ℕ) (l : Limit) (d : ℕ) → loops (leaf x l) d ≡ d
unfolding leaf loops
leaf-loops x l d = omega arith

pub leaf-depth : (x : ℕ) (l : Limit) → depth (leaf x l) ≡ 1
unfolding leaf depth
leaf-depth x l = refl

pub leaf-records : (x : ℕ) (l : Limit) → records (leaf x l) ≡ 1
unfolding leaf records
leaf-records x l = refl
