-- Document 01, "Evaluation": endless lists as streams, and what is done with them.
use Rattle.std.specs.Prelude.{cond, ℕ, zero, suc, ◌+◌, ◌*◌, max, ltb, leb}

abbrev pub Stream : Type 0
Stream = ℕ → ℕ

-- the sum of the first members
unfoldable pub S : Stream → ℕ → ℕ
S f zero = 0
S f (suc P) = S f P + f P

-- c for ever
unfoldable pub const : ℕ → Stream
const c i = c

-- sequence: added place by place
unfoldable pub add : Stream → Stream → Stream
add f g i = f i + g i

-- limit: the first m members, and 0 after
unfoldable pub cap : ℕ → Stream → Stream
cap m f i = cond (ltb i m) (f i) 0

-- all but the first k
unfoldable pub shift : Stream → ℕ → Stream
shift f k i = f (k + i)

-- group: cut into groups of n, each summed; an empty group sums to 0
unfoldable pub group : ℕ → Stream → Stream
group n f i = S (shift f (n * i)) n

-- with so many taken from each: the next comes from where it is larger, and from f where they are equal
unfoldable pub next : Stream → Stream → ℕ × ℕ → ℕ × ℕ
next f g p = let b = leb (g p.1) (f p.0) in (cond b (suc p.0) p.0, cond b p.1 (suc p.1))

-- how many of the first n members come from f, and how many from g
unfoldable pub taken : Stream → Stream → ℕ → ℕ × ℕ
taken f g zero = (0, 0)
taken f g (suc n) = next f g (taken f g n)

-- choice: the members of both taken together, largest first
unfoldable pub merge : Stream → Stream → Stream
merge f g n = max (f (taken f g n).0) (g (taken f g n).1)

-- Which list holds the first of them, counted from 0 (document 02, CR 5). f is number 0 and has it unless g's first member is larger; g is itself lists taken
-- together, of which number c holds its first.
unfoldable pub holder : (f g : Stream) (c : ℕ) → ℕ
holder f g c = cond (leb (g 0) (f 0)) 0 (suc c)
