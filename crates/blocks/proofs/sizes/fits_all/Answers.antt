use Rattle.std.proofs.Common.{◌≡◌, ◌-◌, false, nat_lt, arith}
use Rattle.std.proofs.lemmas.Bool.Decides.{nat_tests}
use Rattle.blocks.proofs.Lengths.{fits_each}
use Rattle.blocks.proofs.sizes.fits_all.Goals as goal

pub returns-in-Fill-clause-fits : goal.returns-in-Fill-clause-fits
returns-in-Fill-clause-fits c = λ small v.
    let short : nat_lt 20971519 (c.in-Fill.length - c.in-Fill.from) ≡ false = grind (arith, nat_tests, c.saturating_sub.ensures, small) in
    fits_each c.requires.0 v c.args.written.now c.requires.1 (rw c.in-Fill.is short)
