use Rattle.std.proofs.Common.{rules}
use Rattle.blocks.proofs.reader.bytes_of.Goals as goal

pub returns-then-bytes-len-clause-read : goal.returns-then-bytes-len-clause-read
returns-then-bytes-len-clause-read c = search rules
