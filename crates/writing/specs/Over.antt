-- What a call leaves in a lent buffer.
use Rattle.std.specs.Prelude.{List, ◌++◌, drop, length}

-- a buffer with elements written over its front, and the rest of it as it was
unfoldable pub over : {X : Type 0} (front buffer : List X) → List X
over front buffer = front ++ drop (length front) buffer
