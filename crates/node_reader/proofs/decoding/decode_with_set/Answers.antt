use mathlib.Core.Bool.{true≢false}
use mathlib.Core.Path.{sym, ◌∙◌}
use native.Mathlib.Omega.{arith}
use Rattle.attribute_set.specs.Laws.{built-none, built-set}
use Rattle.bits.specs.Word.{word_bytes}
use Rattle.node.specs.Reading.{checked-long, checked-set, node-is, set-size}
use Rattle.node_reader.proofs.decoding.decode_with_set.Goals as goal

pub word_at-requires : goal.word_at-requires
word_at-requires c = let long = checked-long _ 26 c.requires.1 c.requires.0 in omega (arith, set-size)

pub bounds-bytes-2 : goal.bounds-bytes-2
bounds-bytes-2 c = let long = checked-long _ 26 c.requires.1 c.requires.0 in omega (arith, set-size)

pub bounds-bytes-1 : goal.bounds-bytes-1
bounds-bytes-1 c = let long = checked-long _ 26 c.requires.1 c.requires.0 in omega (arith, set-size)

pub returns-in-Some : goal.returns-in-Some
returns-in-Some c =
    rw (c.set_operator.ensures, (built-set _ _ (sym c.build.ensures ∙ c.in-Some.is)).1, c.word_at.ensures, word_bytes)
    (node-is _ 26 c.requires.1)

pub returns-in-None : goal.returns-in-None
returns-in-None c =
    let pre = c.requires in
    let built = rw (c.word_at.ensures, word_bytes) at (built-none _ (sym c.build.ensures ∙ c.in-None.is)) in
    absurd (true≢false (sym built ∙ checked-set _ pre.1 pre.0))
