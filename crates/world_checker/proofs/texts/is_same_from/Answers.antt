use Rattle.std.proofs.Common.{length, ◌-◌, take, drop}
use Rattle.std.proofs.lemmas.Bool.Decides.{Decides-eqb, Decides-like}
use Rattle.std.proofs.lemmas.Slice.Eq.{slice_eq-Decides}
use Rattle.world_checker.proofs.Showing.{from_same, to_same, in_others, in_bytes, one_ends}
use Rattle.world_checker.proofs.texts.is_same_from.Goals as goal

pub returns : goal.returns
returns c =
    let xs = c.args.bytes.now in
    let ys = c.args.others.now in
    let n = c.min-both.result in
    let start = c.args.start in
    let all = in_others xs start ys n c.if-start-bytes.false c.min-both.ensures in
    let some = in_bytes xs start ys n c.if-start-bytes.false c.min-both.ensures in
    let ends = one_ends xs start ys n c.if-start-bytes.false c.min-both.ensures in
    let same = slice_eq-Decides Decides-eqb (take n (take (length xs - start) (drop start xs))) (take n ys) c.eq.result c.eq.ensures in
    Decides-like c.eq.result (from_same xs start ys n c.if-start-bytes.false all some ends) (to_same xs start ys n c.if-start-bytes.false all some) same
