-- The node of the crate `table`, with its constructors, under one module: a facade does not pass on another's `pub use`.
pub use Rattle.table.specs.declared.Number.{Number}
pub use Rattle.table.specs.declared.Number.TheVariants.{Plain, Symbol}
pub use Rattle.table.specs.declared.Most.{Most}
pub use Rattle.table.specs.declared.Limit.{Limit}
pub use Rattle.table.specs.declared.Limit.TheVariants.{Unlimited, AtMost}
pub use Rattle.table.specs.declared.Kind.{Kind}
pub use Rattle.table.specs.declared.Kind.TheVariants.{Block, Sequence, Choice, Loop}
pub use Rattle.table.specs.declared.Node.{Node}
