-- A record written out in bytes, each number by its lowest byte first: what no other example or law pins.
use Rattle.std.specs.Prelude.{◌≡◌, refl, List, [], ◌∷◌, ℕ}
use Rattle.table.specs.Bytes.{to_bytes, from_bytes}
use Rattle.table.specs.Notation.{◌addressed◌, ◌/◌at◌, block}
use Rattle.table.specs.Table.{after_ones, child_byte, decode, encode, first_node, first_ones, flag, forest_by, kind_byte, kind_from, limit_from, limit_num, loop_byte, most_flags, most_from, num_from, record_bytes, top, value_num}
use Rattle.table.specs.Trees.{Tree, size}

-- a block of 2,055 cycles with limit 1,541 on the whole run, at address 67,305,985
abbrev tree : Tree
tree = block 2_055 / 1_541 at 255 addressed 67_305_985

abbrev bytes : List ℕ
bytes = 0 ∷ 0 ∷ 0 ∷ 255 ∷ 5 ∷ 6 ∷ 0 ∷ 0 ∷ 7 ∷ 8 ∷ 0 ∷ 0 ∷ 0 ∷ 0 ∷ 0 ∷ 0 ∷ 1 ∷ 2 ∷ 3 ∷ 4 ∷ 255 ∷ 255 ∷ 255 ∷ 255 ∷ []

pub record-written : encode tree ≡ bytes
unfolding encode record_bytes to_bytes kind_byte flag value_num most_flags limit_num loop_byte size block ◌/◌at◌ ◌addressed◌
record-written = refl

pub record-read : decode bytes ≡ tree
unfolding decode forest_by top first_node from_bytes kind_from num_from limit_from most_from child_byte first_ones after_ones block ◌/◌at◌ ◌addressed◌
record-read = refl
