use Rattle.std.proofs.Common.{rules}
use Rattle.text.specs.Written.{writes-more, writes-front}
use Rattle.query.proofs.write_file.Goals as goal

pub returns : goal.returns
returns c =
    let all = writes-more c.write_byte.ensures (writes-more c.write_byte-2.ensures c.write_bytes.ensures) in
    writes-front all c.new-writer.ensures.same_text c.new-writer.ensures.front (search rules) c.len.ensures
