use Rattle.std.proofs.Common.{ℕ, List, None, Some, lit<, refl, subst, sym}
use Rattle.std.proofs.lemmas.Str.Pattern.{split_after, split_parts, strip_prefix_char}
use Rattle.wire.specs.declared.transaction.Change.{Change}
use Rattle.script_lines.specs.Copies.{bytes_of}
use Rattle.script_lines.specs.Values.{IsValue}
use Rattle.script_lines.specs.Words.{IsChange}
use Rattle.script_lines.proofs.Copying.{too_many}
use Rattle.script_lines.proofs.Names.{equals_within, no_change, no_put, put_spelled}
use Rattle.script_lines.proofs.word.change.Goals as goal

pub returns-in_default-strip_prefix : goal.returns-in_default-strip_prefix
returns-in_default-strip_prefix c =
    no_change c.args.word.now
    (strip_prefix_char 45 c.args.word.now None c.in_default.ensures.cases (lit< tt))
    (strip_prefix_char 43 c.args.word.now None c.in_default-strip_prefix.ensures.cases (lit< tt))

pub returns-in_default-split_once : goal.returns-in_default-split_once
returns-in_default-split_once c =
    let put = c.in-Some-strip_prefix.put in
    no_put c.args.word.now put.now
    (strip_prefix_char 43 c.args.word.now (Some put) c.in-Some-strip_prefix.ensures.cases (lit< tt))
    (λ k text bytes e absent value. equals_within put.now k text
    (split_parts 61 put.now None c.in_default-split_once.ensures.cases (lit< tt)) e)

pub returns-in_ok-put_of-in-Some-value : goal.returns-in_ok-put_of-in-Some-value
returns-in_ok-put_of-in-Some-value c =
    let put = c.in-Some-strip_prefix.put in
    let name = c.in-Some-split_once.name in
    let text = c.in-Some-split_once.word in
    let parts = split_parts 61 put.now (Some (name, text)) c.in-Some-split_once.ensures.cases (lit< tt) in
    subst (λ (x : Change). IsChange x c.args.word.now) (sym c.in_ok-put_of-in-Some-value.ensures)
    (put_spelled c.args.word.now put.now name.now name.now text.now (bytes_of c.in-Some-value.copies)
    (strip_prefix_char 43 c.args.word.now (Some put) c.in-Some-strip_prefix.ensures.cases (lit< tt))
    parts.0 parts.1 refl c.in-Some-value.ensures.found)

pub returns-in-None : goal.returns-in-None
returns-in-None c =
    let put = c.in-Some-strip_prefix.put in
    let name = c.in-Some-split_once.name in
    let part = c.in-Some-split_once.word in
    no_put c.args.word.now put.now
    (strip_prefix_char 43 c.args.word.now (Some put) c.in-Some-strip_prefix.ensures.cases (lit< tt))
    (λ k text bytes e absent value.
    let same = split_after 61 put.now k text (Some (name, part)) c.in-Some-split_once.ensures.cases (lit< tt) e absent in
    too_many part.now c.in-None.ensures.none bytes (subst (λ (t : List ℕ). IsValue t bytes) (sym same.1) value))
