-- `flaws::name_limit` meets its contract. Assumes nothing.
use native.Mathlib.Omega.{arith}
use lib.ListN.{length}
use borrow.Author.Tests.{lt-ltb, le-ltb}
use Rattle.lines.specs.Bytes.{bytes}
use Rattle.flaws.proofs.name_limit.Goals as goal

pub returns-then-len-gt-LONGEST : goal.returns-then-len-gt-LONGEST
returns-then-len-gt-LONGEST c = rw (c.if-full.false, lt-ltb 64 (length (bytes c.args.s)) (omega arith))

pub returns : goal.returns
returns c = rw (c.if-full.false, le-ltb 64 (length (bytes c.args.s)) (omega arith))
