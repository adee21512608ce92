-- `btf::put_words` meets its contract. Assumes nothing.
use mathlib.Core.Path.{refl}
use mathlib.Core.List.{[], ◌++◌}
use Prim.Native.Nat.{◌+◌}
use native.Mathlib.Omega.{arith}
use lib.ListN.{drop, get_or}
use Rattle.octets.specs.Octets.{le}
use Rattle.octets.proofs.Going.{go_start, go_as, go_on, go_done}
use Rattle.btf.specs.Builder.{words}
use Rattle.btf.proofs.Words.{length-words, words_on, words-done}
use Rattle.btf.proofs.put_words.Goals as goal

pub loop-value-init : goal.loop-value-init
loop-value-init c = go_start c.args.out.now c.args.at (words c.args.values.now) (omega (arith, c.requires, length-words c.args.values.now))

pub loop-value-preserved : goal.loop-value-preserved
loop-value-preserved c =
    let l = c.loop-value in
    let v = c.args.values.now in
    let word = le 4 (get_or v l.value-index 0) in
    let more = words (drop (l.value-index + 1) v) in
    go_on word more c.put_at.new.out (l.place + 4) (go_as (word ++ more) (words_on v l.value-index (omega arith)) l.invariant) c.put_at.ensures refl

pub returns : goal.returns
returns c = (go_done (go_as [] (words-done c.args.values.now c.loop-value.value-index (omega arith)) c.loop-value.invariant)).0
