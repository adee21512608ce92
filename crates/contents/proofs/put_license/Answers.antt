-- `contents::put_license` meets its contract. Assumes nothing.
use mathlib.Core.Path.{ap}
use native.Mathlib.Omega.{arith}
use Rattle.contents.specs.Slots.{licence_len}
use Rattle.contents.proofs.Slots.{licence_length}
use Rattle.contents.proofs.put_license.Goals as goal

pub put_text-requires-clause-out_len : goal.put_text-requires-clause-out_len
put_text-requires-clause-out_len c =
    omega (arith, licence_length c.args.text.now c.args.license c.requires.licence_named, ap licence_len c.in-Text.is)
