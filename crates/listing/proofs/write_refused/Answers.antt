use Rattle.std.proofs.Common.{rules}
use Rattle.text.specs.Written.{writes-more, writes-front}
use Rattle.listing.proofs.write_refused.Goals as goal

pub returns : goal.returns
returns c =
    let all = writes-more (writes-more c.write_bytes.ensures c.write_decimal.ensures.wrote) c.write_byte.ensures in
    rw (← c.number.ensures) (writes-front all c.new-writer.ensures.same_text c.new-writer.ensures.front (search rules) c.len.ensures)
