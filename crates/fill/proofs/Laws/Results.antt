-- The results on accepted tables: accepted, with the promised figures, and the one undone by the other.
use Rattle.std.specs.Prelude.{◌≡◌, ◌||◌, List, ℕ, ◌*◌, ◌%◌, ◌/◌, ◌<◌, ◌≤◌, eqb, length, set}
use Rattle.std.proofs.Math.Path.{refl, ap, sym, subst}
use Rattle.std.proofs.Common.{◌∙◌, arith}
use Rattle.std.proofs.Math.Dec.{T}
use Rattle.std.proofs.Math.ListN.{get_or, length-set}
use Rattle.std.proofs.Math.Seq.{get_or-set_same}
use Rattle.booleans.specs.Laws.{&&-both, both, join-and}
use Rattle.table.specs.Numbers.{record_length}
use Rattle.table.specs.Limits.{every_most}
use Rattle.table.specs.Questions.{Accepted}
use Rattle.table.specs.Table.{decode, each, encode, record_count}
use Rattle.table.specs.Trees.{Tree}
use Rattle.table.specs.Checking.{IsTable}
use Rattle.table.proofs.Laws.Limits.{table-limits}
use Rattle.table.proofs.Laws.NotRefused.{reads-back}
use Rattle.table.proofs.Laws.RoundTrip.{length-encode}
use Rattle.table.proofs.Laws.Tables.{accepted-table, few-records, written-table}
use Rattle.evaluate.specs.Evaluate.{Values, branch, figure, fits, values_of}
use Rattle.values.specs.Values.{ceiling, question13, question14, question9, triangle_small}
use Rattle.values.proofs.Laws.Set.{fourteen-set, nine-set, values-set}
use Rattle.values.proofs.Laws.Values.{nine-long, refusals-alike, thirteen-limits, values-nine}
use Rattle.quoting.specs.Answers.{figure_answer}
use Rattle.quoting.proofs.Laws.Figures.{quotes-alike}
use Rattle.marking.specs.Marks.{digit_at, mark_node, marks_of, node_at}
use Rattle.marking.specs.Opening.{kind_opens, limit_opens, node_opens, question16}
use Rattle.marking.specs.Laws.Marking.{marks-long, read_here, read_past}
use Rattle.marking.specs.Laws.Opening.{all-open, opens-all}
use Rattle.filling.specs.Fill.{fill_most, fill_number, fill_tree, on_tree, open_tree, put_limit, put_tree, put_value}
use Rattle.filling.specs.Laws.Shape.{Alike, Back, Ranged, accepted-on, alike-on, back_on, records-on}
use Rattle.filling.specs.Laws.Records.{each-table, nodes-on, record-ranged}
use Rattle.fill.specs.Nodes.{Most, Number, Plain, Symbol}
use Rattle.fill.specs.Answers.{filled, not_under_four, opened, question15, record_free}
use Rattle.fill.proofs.Laws.Asking.{number_is, record-free, symbol-is}
use Rattle.fill.proofs.Laws.Fields.{kind-filled, kind-opened, limit-filled, limit-opened, node-back, node-marked, node-opens, paired-filled, paired-opened}
use Rattle.fill.proofs.Laws.Lists.{Same, SameTest, branch-on, figure-on, fill-free, fill-kind, fill-limit, fits_on, limits-on, open-kind, open-limit, small-on}

-- a table with other numbers is as long
long : (g : ℕ → Number → Number) (h : ℕ → Most → Most) (b : List ℕ) → IsTable b → length (encode (on_tree g h 0 (decode b))) ≡ length b
long g h b t = length-encode (on_tree g h 0 (decode b)) ∙ ap (λ k. record_length * k) (records-on g h 0 (decode b)) ∙ sym (length-encode (decode b)) ∙ ap length t.back

-- ---- an accepted table with other numbers that are in range

module _ (g : ℕ → Number → Number) (h : ℕ → Most → Most) (b : List ℕ) (t : IsTable b) (ranged : (j : ℕ) → j < record_count b → Ranged g h j (node_at b j)) where
  accepted : Accepted (on_tree g h 0 (decode b))
  accepted = accepted-on g h (decode b) t.accepted (each-table (Ranged g h) b t ranged)

  is-new : IsTable (encode (on_tree g h 0 (decode b)))
  is-new = written-table (on_tree g h 0 (decode b)) accepted

  reads : decode (encode (on_tree g h 0 (decode b))) ≡ on_tree g h 0 (decode b)
  reads = reads-back (on_tree g h 0 (decode b)) accepted.listed

  -- the figure call answers of it under vs what it answers of the table under ws, where questions 9 and 14 say the same of both and the numbers then come to the same
  module _ (vs ws : List ℕ) (nine : question9 vs ≡ question9 ws) (fourteen : question14 vs ≡ question14 ws) (same : T (question9 vs) → (j : ℕ) → j < record_count b → Same (values_of vs) (values_of ws) g h j (node_at b j)) where
    thirteen : T (question9 vs) → question13 (encode (on_tree g h 0 (decode b))) vs ≡ question13 b ws
    thirteen n =
        thirteen-limits _ vs is-new ∙ ap (every_most (triangle_small (values_of vs))) reads
        ∙ limits-on (triangle_small (values_of vs)) (triangle_small (values_of ws)) g h 0 (decode b)
        (each-table (SameTest (triangle_small (values_of vs)) (triangle_small (values_of ws)) g h) b t (λ j l. small-on (values_of vs) (values_of ws) (h j) (node_at b j).limit (same n j l).1))
        ∙ sym (thirteen-limits b ws t)

    quoted : figure_answer (encode (on_tree g h 0 (decode b))) vs ≡ figure_answer b ws
    quoted =
        quotes-alike _ b vs ws (accepted-table _ is-new) (accepted-table b t) (refusals-alike _ b vs ws nine fourteen thirteen)
        (λ z.
        let e = each-table (Same (values_of vs) (values_of ws) g h) b t (same (values-nine _ vs z)) in (
          ap (fits (values_of vs)) reads ∙ fits_on (values_of vs) (values_of ws) g h 0 (decode b) e,
          (
            ap (figure (values_of vs)) reads ∙ figure-on (values_of vs) (values_of ws) g h 0 (decode b) e,
            ap (branch (values_of vs)) reads ∙ branch-on (values_of vs) (values_of ws) g h 0 (decode b) e,
          ),
        ))

-- ---- filling

module _ (b : List ℕ) (s x : ℕ) (t : IsTable b) where
  abbrev G : ℕ → Number → Number
  G i = fill_number s x

  abbrev H : ℕ → Most → Most
  H i = fill_most s x

  -- as the table's marks tell
  abbrev D : ℕ → ℕ
  D = digit_at (marks_of s b)

  pub filled-length : length (filled b s x) ≡ length b
  unfolding filled
  filled-length = long G H b t

  pub filled-count : record_count (filled b s x) ≡ record_count b
  filled-count = ap (λ n. n / record_length) filled-length

  digit-is : (j : ℕ) → j < record_count b → D j ≡ mark_node s (node_at b j)
  digit-is = read_here s b (few-records b t)

  -- it is what the number put by its marks makes of the table
  pub filled-marked : filled b s x ≡ encode (put_tree (Plain x) (Most.Plain x) D (decode b))
  unfolding filled
  filled-marked = ap encode (alike-on G (put_value (Plain x) D) H (put_limit (Most.Plain x) D) 0 (decode b) (each-table (Alike G (put_value (Plain x) D) H (put_limit (Most.Plain x) D)) b t (λ j l. node-marked s x (node_at b j) _ (digit-is j l))))

  module _ (q : T (question15 b s x)) where
    fill-ranged : (j : ℕ) → j < record_count b → Ranged G H j (node_at b j)
    fill-ranged j l =
        let (y, z) = record-ranged b t j l in
        record {
          kind = kind-filled s x (number_is b s x q) (node_at b j).kind y;
          limit = limit-filled s x (number_is b s x q) (node_at b j).limit z;
          paired = paired-filled s x (symbol-is b s x q) (node_at b j).kind;
        }

    pub filled-table : IsTable (filled b s x)
    unfolding filled
    filled-table = is-new G H b t fill-ranged

    filled-reads : decode (filled b s x) ≡ fill_tree s x (decode b)
    unfolding filled
    filled-reads = reads G H b t fill-ranged

    -- the figure call on the filled table
    pub filled-quoted : (vs : List ℕ) → get_or vs s 0 ≤ ceiling s → figure_answer (filled b s x) vs ≡ figure_answer b (set vs s x)
    unfolding filled
    filled-quoted vs m = quoted G H b t fill-ranged vs (set vs s x) (sym (nine-set vs s x (number_is b s x q) m)) (sym (fourteen-set vs s x (symbol-is b s x q))) (λ n j l. same n j l)
      where
        same : T (question9 vs) → (j : ℕ) → j < record_count b → Same (values_of vs) (values_of (set vs s x)) G H j (node_at b j)
        same n j l =
            let w = values-set vs s x (omega (arith, nine-long vs n, symbol-is b s x q)) in
            subst (λ (v : Values). Same (values_of vs) v G H j (node_at b j)) (sym w)
            (fill-kind (values_of vs) s x (symbol-is b s x q) (node_at b j).kind, fill-limit (values_of vs) s x (symbol-is b s x q) (node_at b j).limit (record-free b s x q j l))

    -- opening it again writes the table
    pub filled-back : opened (filled b s x) (marks_of s b) s ≡ b
    unfolding opened
    filled-back =
        ap (λ (u : Tree). encode (open_tree s D u)) filled-reads
        ∙ ap encode (back_on G (put_value (Symbol s) D) H (put_limit (Most.Symbol s) D) 0 (decode b) (each-table (Back G (put_value (Symbol s) D) H (put_limit (Most.Symbol s) D)) b t (λ j l. node-back s x (node_at b j) _ (digit-is j l))))
        ∙ t.back

    -- question 15 lets the symbol pass again
    pub filled-fifteen : T (question15 (filled b s x) s x)
    unfolding question15
    filled-fifteen = join-and _ _ (both _ _ q).0 (subst T (sym free) (both _ _ q).1)
      where
        free : each (record_free s) (record_count (filled b s x)) (filled b s x) ≡ each (record_free s) (record_count b) b
        free =
            table-limits (λ k m. not_under_four s m) (filled b s x) filled-table ∙ ap (every_most (not_under_four s)) filled-reads
            ∙ limits-on (not_under_four s) (not_under_four s) G H 0 (decode b)
            (each-table (SameTest (not_under_four s) (not_under_four s) G H) b t (λ j l. fill-free s x (node_at b j).limit))
            ∙ sym (table-limits (λ k m. not_under_four s m) b t)

    -- and question 16 the marks
    pub filled-sixteen : T (question16 (filled b s x) (marks_of s b) s x)
    filled-sixteen =
        all-open s x (filled b s x) (marks_of s b) (few-records (filled b s x) filled-table) (marks-long s b) (λ j l. here j (omega (arith, filled-count))) (λ j m l. read_past s b j m (omega (arith, filled-count)))
      where
        here : (j : ℕ) → j < record_count b → T (node_opens s x (D j) (node_at (filled b s x) j))
        here j l =
            unfold filled in
            let (y, z) = record-ranged b t j l in
            rw (nodes-on G H b t (accepted G H b t fill-ranged).listed j l) (node-opens s x (node_at b j) _ (digit-is j l) y z)

-- ---- opening

pub opened-length : (b m : List ℕ) (s : ℕ) → IsTable b → length (opened b m s) ≡ length b
unfolding opened
opened-length b m s t = long (put_value (Symbol s) (digit_at m)) (put_limit (Most.Symbol s) (digit_at m)) b t

pub opened-count : (b m : List ℕ) (s : ℕ) → IsTable b → record_count (opened b m s) ≡ record_count b
opened-count b m s t = ap (λ n. n / record_length) (opened-length b m s t)

module _ (b m : List ℕ) (s x : ℕ) (t : IsTable b) (q : T (question15 b s x)) (o : T (question16 b m s x)) where
  parts : (j : ℕ) → j < record_count b → T (eqb (digit_at m j % 2) 0 || kind_opens s x (node_at b j).kind) × T (eqb (digit_at m j / 2) 0 || limit_opens s x (node_at b j).limit)
  parts j l = &&-both (eqb (digit_at m j % 2) 0 || kind_opens s x (node_at b j).kind) (eqb (digit_at m j / 2) 0 || limit_opens s x (node_at b j).limit) (opens-all s x b m o (few-records b t) j l)

  abbrev O : ℕ → Number → Number
  O = put_value (Symbol s) (digit_at m)

  abbrev P : ℕ → Most → Most
  P = put_limit (Most.Symbol s) (digit_at m)

  open-ranged : (j : ℕ) → j < record_count b → Ranged O P j (node_at b j)
  open-ranged j l =
      let (y, z) = record-ranged b t j l in
      let (u, w) = parts j l in
      record {
        kind = kind-opened s x (digit_at m j % 2) (node_at b j).kind u y;
        limit = limit-opened s x (digit_at m j / 2) (node_at b j).limit w z;
        paired = paired-opened s x (symbol-is b s x q) (digit_at m j % 2) (node_at b j).kind u;
      }

  pub opened-table : IsTable (opened b m s)
  unfolding opened
  opened-table = is-new O P b t open-ranged

  -- with the symbol at the number, the figure call answers the same of both tables
  pub opened-quoted : (vs : List ℕ) → figure_answer (opened b m s) (set vs s x) ≡ figure_answer b (set vs s x)
  unfolding opened
  opened-quoted vs = quoted O P b t open-ranged (set vs s x) (set vs s x) refl refl (λ n j l. same n j l)
    where
      same : T (question9 (set vs s x)) → (j : ℕ) → j < record_count b → Same (values_of (set vs s x)) (values_of (set vs s x)) O P j (node_at b j)
      same n j l =
          let e : get_or (set vs s x) s 0 ≡ x = get_or-set_same vs s x 0 (omega (arith, nine-long (set vs s x) n, length-set vs s x, symbol-is b s x q)) in
          let (u, w) = parts j l in
          (open-kind s x (values_of (set vs s x)) e (symbol-is b s x q) (digit_at m j % 2) (node_at b j).kind u, open-limit s x (values_of (set vs s x)) e (symbol-is b s x q) (digit_at m j / 2) (node_at b j).limit w)
