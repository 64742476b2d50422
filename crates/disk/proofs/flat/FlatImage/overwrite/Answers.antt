use Rattle.std.proofs.Common.{◌≡◌, ◌+◌, ◌≤◌, ℕ, List, arith, length, take, ap, subst, ◌∙◌}
use Rattle.std.proofs.lemmas.List.{length-take-le}
use Rattle.disk.specs.Image.{ImageBytes, put_at, Covers}
use Rattle.disk.proofs.Undoing.{undo_stays}
use Rattle.disk.proofs.flat.FlatImage.overwrite.Goals as goal

pub returns-clause-synced : goal.returns-clause-synced
returns-clause-synced c =
    let was = c.self.inside in
    let undo = c.cover.new.self in
    let count : ℕ = length c.args.new.now in
    let seen = ap (λ (h : ImageBytes). length h.seen) c.self.view_is in
    let synced = ap (λ (h : ImageBytes). h.synced) c.self.view_is in
    let shown : take was.clean c.deref.result.now ≡ take was.clean was.bytes.items = ap (λ (l : List ℕ). take was.clean l) c.deref.ensures.value in
    let size : length (take was.clean c.deref.result.now) ≡ was.clean = ap length shown ∙ length-take-le was.clean was.bytes.items c.self.invariant.1 in
    let inside : undo.at + length undo.bytes.items ≤ was.clean = omega (arith, c.in_ok-cover.ensures.inside, size) in
    let within : c.args.at ≤ length was.bytes.items = omega (arith, c.requires, seen) in
    let covers : Covers undo.at (length undo.bytes.items) was.clean c.args.at count = subst (λ (n : ℕ). Covers undo.at (length undo.bytes.items) n c.args.at count) size c.in_ok-cover.ensures.covers in
    undo_stays was.clean undo.at c.args.at undo.bytes.items was.bytes.items c.args.new.now c.overwrite.new.bytes.items c.overwrite.result inside within covers c.overwrite.ensures.ok c.overwrite.ensures.err
    ∙ subst (λ (l : List ℕ). put_at undo.at undo.bytes.items l ≡ put_at was.undo.at was.undo.bytes.items l) shown c.in_ok-cover.ensures.same
    ∙ synced
