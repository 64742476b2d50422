use Rattle.std.proofs.Common.{◌≡◌, ◌+◌, ◌-◌, List, ℕ, length, take, drop, ap, subst, ◌∙◌, arith}
use Rattle.std.specs.List.{slice_range}
use Rattle.std.specs.Prelude.{IfOk}
use Rattle.checkpoint_format.proofs.Texts.{part_of_end}
use Rattle.checkpoint_format.proofs.page.shared.Goals as goal

range_of : (page : List ℕ) (start len : ℕ) → slice_range page start (start + len) ≡ take len (drop start page)
range_of page start len =
    let size : start + len - start ≡ len = omega arith in
    ap (λ (n : ℕ). take n (drop start page)) size

pub returns : goal.returns
returns c =
    let page = c.args.page.now in
    let end = c.args.end.now in
    let p = part_of_end page end c.args.from c.args.len c.requires.end c.requires.inside in
    let start = ap (λ (n : ℕ). n - length end + c.args.from) c.len.ensures.value in
    let range = ap (λ (n : ℕ). slice_range page n (n + c.args.len)) start ∙ range_of page (length page - length end + c.args.from) c.args.len ∙ p.2 in
    subst (λ (l : List ℕ). IfOk c.slice.result (λ part. part ≡ l)) range c.slice.ensures.ok
