-- Questions by their numbers, and the answer of a call that puts some: what was asked for, or the number of the first question that says no.
use Rattle.std.specs.Prelude.{ℕ, Result, Ok, Err}
use Rattle.refusals.specs.declared.Refusal.{Refusal}

-- the number of the question that says no
abbrev pub number : Refusal → ℕ
number Refusal.Length = 1
number Refusal.Fields = 2
number Refusal.Range = 3
number Refusal.Tree = 4
number Refusal.Depth = 5
number Refusal.Names = 6
number Refusal.Weight = 7
number Refusal.Room = 8
number Refusal.Values = 9
number Refusal.Ceiling = 10
number Refusal.Symbol = 11
number Refusal.Graft = 12
number Refusal.Triangle = 13
number Refusal.Later = 14
number Refusal.Fill = 15
number Refusal.Marks = 16
number Refusal.Time = 17

-- an answer as definitions have it
pub data Answer (A : Type 0) : Type 0 where
  Given : A → Answer A
  Refused : (number : ℕ) → Answer A

-- its refusal's number, 0 for none
abbrev pub refused : {A : Type 0} → Answer A → ℕ
refused (Given x) = 0
refused (Refused q) = q

-- a number that was asked for, 0 where there is none
abbrev pub given : Answer ℕ → ℕ
given (Given n) = n
given (Refused q) = 0

-- the answer that a call returns
abbrev pub answer : {A : Type 0} → Result A Refusal → Answer A
answer (Ok x) = Given x
answer (Err e) = Refused (number e)
