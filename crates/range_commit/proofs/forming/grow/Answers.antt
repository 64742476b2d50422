use Rattle.std.proofs.Common.{◌≡◌, ℕ, ◌+◌, ◌-◌, ◌++◌, ◌∷◌, [], List, Ok, map, take, sym, ap, subst, ◌∙◌, arith}
use Rattle.wire.specs.declared.transaction.Change.{Change}
use Rattle.commitlog.specs.Record.{IsTransaction}
use Rattle.commitlog.specs.Sizes.{HasRoom}
use Rattle.commitlog.proofs.Skipped.{All-drop}
use Rattle.model_partition.specs.declared.waiting.WaitingTransaction.{WaitingTransaction}
use Rattle.model_partition.specs.Serving.{grown}
use Rattle.range_commit.proofs.GroupGrowth.{with_one, one_more, grows_next, grows_full, grows_end}
use Rattle.range_commit.proofs.forming.grow.Goals as goal

-- the text with one more, as the queue has it
same : (all : List WaitingTransaction) (index : ℕ) (t : WaitingTransaction) (text : List (List Change)) (changes : List Change) → text ≡ map (λ u. u.changes) (take index all) → changes ≡ t.changes → text ++ changes ∷ [] ≡ with_one all index t
same all index t text changes text_is changes_are = ap (λ (l : List (List Change)). l ++ changes ∷ []) text_is ∙ ap (λ (c : List Change). map (λ (u : WaitingTransaction). u.changes) (take index all) ++ c ∷ []) changes_are

pub returns-then-not-branch-clause-taken : goal.returns-then-not-branch-clause-taken
returns-then-not-branch-clause-taken c = λ next.
    let all = c.args.waiting.now in
    let index = c.loop-transaction.transaction-index in
    let count = c.loop-transaction.count in
    let so_far = c.loop-transaction.invariant.grown next in
    let refused = c.in_ok-add.ensures.full (ap Ok c.if-not-branch.true) in
    let held = same all index c.transaction-item.result c.loop-transaction.text c.as_slice.result.now c.loop-transaction.invariant.held c.as_slice.ensures in
    let stays = grows_full next all index (c.args.batch - count) c.transaction-item.result c.loop-transaction-test.true c.transaction-item.is (λ room. refused.1 (subst HasRoom (sym held) room)) in
    c.loop-transaction.invariant.counted ∙ sym stays ∙ sym (ap (λ (k : ℕ). grown next c.args.waiting.now k (c.args.batch - c.loop-transaction.count)) c.loop-transaction.invariant.counted) ∙ so_far

pub loop-transaction-preserved : goal.loop-transaction-preserved
loop-transaction-preserved c =
    let all = c.args.waiting.now in
    let index = c.loop-transaction.transaction-index in
    let taken = c.in_ok-add.ensures.taken (ap Ok c.if-not-branch.false) in
    let held = same all index c.transaction-item.result c.loop-transaction.text c.as_slice.result.now c.loop-transaction.invariant.held c.as_slice.ensures in
    record {
      counted = omega (arith, c.loop-transaction.invariant.counted);
      below = omega (arith, c.if-count-batch.false);
      held = taken.0 ∙ held ∙ sym (one_more all index c.transaction-item.result c.loop-transaction-test.true c.transaction-item.is);
      encoded = omega (arith, c.in_ok-add.ensures.counts, c.loop-transaction.invariant.encoded);
      grown = λ next. grows_next next all c.loop-transaction.count index c.args.batch c.transaction-item.result c.loop-transaction.invariant.counted c.loop-transaction-test.true c.transaction-item.is c.if-count-batch.false (subst HasRoom (taken.0 ∙ held) taken.1)
          ∙ c.loop-transaction.invariant.grown next;
      fits = All-drop (λ t. IsTransaction t.changes) (c.loop-transaction.transaction-index + 1) c.args.waiting.now c.requires.transactions;
    }

pub returns-clause-taken : goal.returns-clause-taken
returns-clause-taken c = λ next.
    let stays = grows_end next c.args.waiting.now c.loop-transaction.count (c.args.batch - c.loop-transaction.count) (omega (arith, c.loop-transaction-test.false, c.loop-transaction.invariant.counted)) in
    sym stays ∙ c.loop-transaction.invariant.grown next
