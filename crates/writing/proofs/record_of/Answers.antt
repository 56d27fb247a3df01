-- The fields' bytes are what the library writes, and each other byte is what the leaf functions ensure.
use Rattle.std.proofs.Common.{ap, take, ◌∙◌}
use Rattle.table.specs.Bytes.{to_bytes}
use Rattle.table.specs.Table.{flag, most_field, most_flags, raw}
use Rattle.writing.specs.Laws.Fields.{le_bytes}
use Rattle.writing.specs.Laws.Records.{record-parts}
use Rattle.writing.proofs.record_of.Goals as goal

pub returns : goal.returns
unfolding to_bytes
returns c =
    let value = c.value_of-value.ensures in
    let most = c.most_of-most.ensures in
    let m = c.copy_from_slice.ensures.after ∙ ap (take 4) (c.to_le_bytes.ensures ∙ le_bytes 8 c.most_field.result) in
    let v = c.copy_from_slice-2.ensures.after ∙ c.to_le_bytes-2.ensures ∙ le_bytes 8 c.raw_of.result in
    let a = c.copy_from_slice-3.ensures.after ∙ c.to_le_bytes-3.ensures ∙ le_bytes 4 c.args.node.address in
    rw (m, v, a) (record-parts
    c.args.node
    c.args.count
    c.kind_byte.ensures
    (c.flag_of.ensures.0 ∙ ap flag value)
    (c.most_flags.ensures.0 ∙ ap most_flags most)
    c.loop_byte.ensures
    (c.raw_of.ensures ∙ ap raw value)
    (c.most_field.ensures ∙ ap most_field most))
