use Rattle.std.proofs.Common.{◌++◌, ◌∙◌, ap, sym, length, reverse}
use Rattle.sparse_bytes.specs.Bytes.{byte_of}
use Rattle.cache_memory.proofs.Bytes.{length-bytes_from, reads_blocks}
use Rattle.cache_memory.proofs.held.Held.read.Goals as goal

pub copy_from_slice-requires : goal.copy_from_slice-requires
copy_from_slice-requires c = sym (ap length (c.as_slice.ensures ∙ c.in-Ok.ensures) ∙ length-bytes_from (byte_of c.args.self.now.blocks) c.args.pos (length c.args.into.now))

pub returns : goal.returns
returns c = reads_blocks c.args.self.now.blocks (reverse c.args.self.now.since.items ++ reverse c.args.self.now.before.items) c.args.pos (length c.args.into.now) c.copy_from_slice.new.self c.args.self.now.has_data
    (c.copy_from_slice.ensures.after ∙ c.as_slice.ensures ∙ c.in-Ok.ensures)
