-- The grafted figure equals the host's figure with the symbol set to the sent table's figure, on the figure call's answers.
use Rattle.std.specs.Prelude.{◌≡◌, List, ℕ, ◌<◌, ◌≤◌, set}
use Rattle.std.proofs.Math.Path.{ap, sym, subst}
use Rattle.std.proofs.Common.{◌∙◌}
use native.Mathlib.Omega.{arith}
use Rattle.std.proofs.Math.Dec.{T, leb→le, ltb→lt}
use Rattle.std.proofs.Math.ListN.{length}
use Rattle.booleans.specs.Laws.{both}
use Rattle.table.specs.Numbers.{first_paired_symbol, first_time_symbol, how_many_values, most_time}
use Rattle.table.specs.Table.{decode}
use Rattle.table.specs.Limits.{every_most}
use Rattle.table.specs.Checking.{IsTable}
use Rattle.evaluate.specs.Evaluate.{branch, figure, fits, values_of}
use Rattle.evaluate.proofs.Laws.Ranges.{figure-most}
use Rattle.values.specs.Values.{question13, triangle_small}
use Rattle.refusals.specs.Refusals.{refused}
use Rattle.quoting.specs.Answers.{figure_answer, quoted_figure}
use Rattle.quoting.proofs.Laws.Figures.{checked-accepted, figure-is, figured, quotes-alike}
use Rattle.values.proofs.Laws.Set.{fourteen-set, nine-set, set_other, set_value, values-set}
use Rattle.values.proofs.Laws.Values.{refusals-alike, thirteen-limits, time-ceiling, value-ranged, values-carry, values-long, values-nine, values-thirteen}
use Rattle.splice.specs.Graft.{graft, uses}
use Rattle.graft.specs.Answers.{graft_table, question11, question12}
use Rattle.graft.specs.Promises.{GraftPromised, Quoted, host_values}
use Rattle.graft.proofs.Laws.Grafted.{Replaces, graft-branch, graft-figure, graft-fits, graft-needs}
use Rattle.graft.proofs.Laws.Limits.{graft-limits, sent-limits, smalls-but}
use Rattle.table.proofs.Laws.Tables.{accepted-table}
use Rattle.graft.proofs.Laws.Result.{result-reads, result-table, result-unused, sent_is}

-- ---- the three figures

module _ (h b vs : List ℕ) (s : ℕ) (H : IsTable h) (B : IsTable b) (eleven : T (question11 b s)) (twelve : T (question12 (graft_table h b s))) where
  result-is : IsTable (graft_table h b s)
  result-is = result-table h b s H B twelve

  -- Where the sent table has a figure, the figure call answers of the result what it answers of the host with the symbol set to that figure.
  pub graft-quoted : Quoted b vs → figure_answer (graft_table h b s) vs ≡ figure_answer h (host_values b s vs)
  unfolding question11
  graft-quoted z =
      let f = figured b vs z in
      let x = f.is in
      let nine = values-nine b vs f.allowed in
      let (p, alone) = both _ _ eleven in
      let (low, high) = both _ _ (both _ _ p).0 in
      let below = ltb→lt s first_paired_symbol high in
      let time = leb→le first_time_symbol s low in
      let g : Replaces s (decode b) = record { time = time; low = below; unpaired = alone } in
      let o = sent_is h b s H B in
      let l = H.accepted.listed in
      let in-range : s < how_many_values = omega arith in
      let long : s < length vs = omega (arith, values-long b vs f.allowed) in
      let w : values_of (host_values b s vs) ≡ set_value (values_of vs) s (figure (values_of vs) (decode b)) =
      ap (λ y. values_of (set vs s y)) x ∙ values-set vs s (figure (values_of vs) (decode b)) long in
      let small : quoted_figure (figure_answer b vs) ≤ most_time = omega (arith, x, figure-most (values_of vs) (decode b) f.small) in
      let fit : fits (values_of vs) (graft s (decode b) (decode h)) ≡ fits (values_of (host_values b s vs)) (decode h) =
      graft-fits (values_of vs) s (decode b) g o f.small (decode h) l ∙ ap (λ v. fits v (decode h)) (sym w) in
      let fig : figure (values_of vs) (graft s (decode b) (decode h)) ≡ figure (values_of (host_values b s vs)) (decode h) =
      graft-figure (values_of vs) s (decode b) g o (decode h) l ∙ ap (λ v. figure v (decode h)) (sym w) in
      let side : branch (values_of vs) (graft s (decode b) (decode h)) ≡ branch (values_of (host_values b s vs)) (decode h) =
      graft-branch (values_of vs) s (decode b) g o (decode h) l ∙ ap (λ v. branch v (decode h)) (sym w) in
      let reads = result-reads h b s H B in
      let same : every_most (triangle_small (values_of vs)) (decode h) ≡ every_most (triangle_small (values_of (host_values b s vs))) (decode h) =
      rw w (smalls-but (values_of vs) _ s time (set_other (values_of vs) s (figure (values_of vs) (decode b))) (decode h) l) in
      let sent = subst T (thirteen-limits b vs B) (values-thirteen b vs f.allowed) in
      let thirteen : question13 (graft_table h b s) vs ≡ question13 h (host_values b s vs) =
      thirteen-limits _ vs result-is ∙ ap (every_most (triangle_small (values_of vs))) reads
      ∙ graft-limits (triangle_small (values_of vs)) s (decode b) sent (decode h) l ∙ same ∙ sym (thirteen-limits h _ H) in
      let top = time-ceiling s time in
      let asked = nine-set vs s (quoted_figure (figure_answer b vs)) (omega (arith, top)) (value-ranged vs nine s in-range) in
      quotes-alike (graft_table h b s) h vs _ (accepted-table _ result-is) (accepted-table h H) (refusals-alike (graft_table h b s) h vs _ (sym asked) (sym (fourteen-set vs s _ below)) (λ _. thirteen))
      (λ _. (ap (fits (values_of vs)) reads ∙ fit, (ap (figure (values_of vs)) reads ∙ fig, ap (branch (values_of vs)) reads ∙ side)))

  -- Where the host uses the symbol, a figure of the result means one of the sent table.
  sent-quoted : T (uses s (decode h)) → Quoted (graft_table h b s) vs → Quoted b vs
  sent-quoted u z =
      let f = figured (graft_table h b s) vs z in
      let fit = graft-needs (values_of vs) s (decode b) (sent_is h b s H B) (decode h) u (rw (result-reads h b s H B) at f.small) in
      ap refused (figure-is b vs (accepted-table b B) (values-carry _ b vs result-is B (λ q x. sent-limits q s (decode b) (decode h) u (rw (result-reads h b s H B) at x)) f.allowed) fit)

-- ---- the promise

pub graft-promised : (h b : List ℕ) (s : ℕ) → IsTable h → IsTable b → T (question11 b s) → T (question12 (graft_table h b s)) → GraftPromised h b s (graft_table h b s)
graft-promised h b s H B eleven twelve = record {
  checked = checked-accepted (graft_table h b s) (accepted-table _ (result-table h b s H B twelve));
  unused = result-unused h b s H B;
  figures = λ vs x y z. ap quoted_figure (graft-quoted h b vs s H B eleven twelve x);
  answers = λ vs x. graft-quoted h b vs s H B eleven twelve x;
  exist = λ u vs z. let x = sent-quoted h b vs s H B eleven twelve u z in (x, ap refused (sym (graft-quoted h b vs s H B eleven twelve x)) ∙ z);
}
