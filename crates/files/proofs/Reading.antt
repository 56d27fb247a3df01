-- What stands at a buffer's front once more is read behind what stood there.
use Rattle.std.proofs.Common.{◌≡◌, ℕ, ◌+◌, ◌≤◌, List, ◌++◌, length, take, ap, subst, ◌∙◌, length-take-le}
use Rattle.std.proofs.lemmas.List.{take-append-le}
use Rattle.std.proofs.Math.Seq.{take-append-add}

pub front-grows : (k n : ℕ) (b x rest : List ℕ) → k ≤ length b → n ≤ length x → take (k + n) (take k b ++ (x ++ rest)) ≡ take k b ++ take n x
front-grows k n b x rest l m =
    let whole = take-append-add (take k b) (x ++ rest) n in
    let more = ap (λ y. take k b ++ y) (take-append-le n x rest m) in
    subst (λ (j : ℕ). take (j + n) (take k b ++ (x ++ rest)) ≡ take k b ++ take n (x ++ rest)) (length-take-le k b l) whole ∙ more
