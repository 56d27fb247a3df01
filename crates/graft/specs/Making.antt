-- What grafting is given once questions 1 to 7 and 11 are answered, and what is then made.
use Rattle.std.specs.Prelude.{◌≡◌, false, List, ℕ, ◌*◌, ◌≤◌, MatchOption, Option, T, length}
use Rattle.table.specs.Numbers.{record_length}
use Rattle.table.specs.Checking.{IsTable}
use Rattle.writing.specs.Records.{front}
use Rattle.graft.specs.Answers.{graft_table, question11, question12}

-- the result was made at the front of a buffer, n records
pub record Made (h b : List ℕ) (s n : ℕ) (work : List ℕ) : Type 0 where
  pub bytes : front n work ≡ graft_table h b s
  pub room : record_length * n ≤ length work

-- it was, so many records, or it was not, and question 12 refuses it
abbrev pub GraftMade : (h b : List ℕ) (s : ℕ) (made : Option ℕ) (work : List ℕ) → Type 0
GraftMade h b s made work = MatchOption made (question12 (graft_table h b s) ≡ false) (λ n. Made h b s n work)

-- tables that questions 1 to 7 accept, and a symbol that question 11 does
pub record Allowed (h b : List ℕ) (s : ℕ) : Type 0 where
  pub host : IsTable h
  pub sent : IsTable b
  pub eleven : T (question11 b s)
