use Rattle.std.proofs.Common.{arith, ◌≤◌, length}
use Rattle.script_reports.proofs.ShortLines.{number_before, number_fits, number_short}
use Rattle.script_reports.proofs.short_line.ShortLine.number.Goals as goal

pub write_digits-start-requires : goal.write_digits-start-requires
write_digits-start-requires c =
    let fits = number_fits c.args.number c.self.inside.start c.self.inside.bytes c.args.self.now c.ranges.number.fits c.self.told c.self.view_is c.self.invariant c.requires in
    (omega (arith, fits), omega (arith, c.self.told, c.self.invariant))

pub overflow_sub-start : goal.overflow_sub-start
overflow_sub-start c =
    let fits = number_fits c.args.number c.self.inside.start c.self.inside.bytes c.args.self.now c.ranges.number.fits c.self.told c.self.view_is c.self.invariant c.requires in
    omega (arith, fits, c.write_digits-start.ensures.start)

pub returns-clause-text : goal.returns-clause-text
returns-clause-text c =
    let fits = number_fits c.args.number c.self.inside.start c.self.inside.bytes c.args.self.now c.ranges.number.fits c.self.told c.self.view_is c.self.invariant c.requires in
    let some : 1 ≤ c.write_digits-start.result = omega (arith, fits, c.write_digits-start.ensures.start) in
    let within : c.write_digits-start.result ≤ length c.write_digits-start.new.buf =
    omega (arith, c.write_digits-start.ensures.start, c.self.told, c.self.invariant, c.write_digits-start.auto.buf) in
    number_before c.args.number c.self.inside.start c.write_digits-start.result c.self.inside.bytes c.write_digits-start.new.buf c.args.self.now
    c.write_digits-start.ensures.written c.self.view_is some within

pub returns-clause-short : goal.returns-clause-short
returns-clause-short c =
    let fits = number_fits c.args.number c.self.inside.start c.self.inside.bytes c.args.self.now c.ranges.number.fits c.self.told c.self.view_is c.self.invariant c.requires in
    let some : 1 ≤ c.write_digits-start.result = omega (arith, fits, c.write_digits-start.ensures.start) in
    let within : c.write_digits-start.result ≤ length c.write_digits-start.new.buf =
    omega (arith, c.write_digits-start.ensures.start, c.self.told, c.self.invariant, c.write_digits-start.auto.buf) in
    number_short c.args.number _ c.args.self.now c.ranges.number.fits
    (number_before c.args.number c.self.inside.start c.write_digits-start.result c.self.inside.bytes c.write_digits-start.new.buf c.args.self.now
    c.write_digits-start.ensures.written c.self.view_is some within)
