use Rattle.std.proofs.Common.{◌≡◌, ◌∙◌, IfErr, IsErrAnd, Result, Ok, Err, drop, ap, sym, subst, codes, List, [], ◌∷◌, inl, inr, is_some}
use Rattle.std.specs.Str.Parse.{ExplainsUnsignedError, HasUnsignedDigitsIfOk, ParsesUnsigned}
use Rattle.clap.specs.Words.{App, Row, Text, found_of, is_simple, kind_of, one_of, rows_of, subcommand_of}
use Rattle.clap.specs.Faults.{fault_of, is_simple_and_free}
use Rattle.clap.specs.Kinds.{HasKind, Kinds}
use Rattle.clap.specs.declared.error.Error.{Error}
use Rattle.clap.specs.declared.error.kind.ErrorKind.TheVariants.{OutOfMemory}
use Rattle.clap.specs.declared.parser.matches.ArgMatches.{ArgMatches}
use Rattle.clap.proofs.WalkLemmas.{first_value-rows, one_text-rows}
use Rattle.stampctl_words.specs.Words.{texts}
use Rattle.stampctl_words.proofs.CallLemmas.{called_draw, called_dump, called_migrate, called_run, called_trace, dump_called, dump_has_file, has_first, has_second, number_is, with_one, with_two}
use Rattle.stampctl_words.proofs.WordLemmas.{IsCalled, no_task, one_task, takes_call}
use Rattle.stampctl_words.proofs.named.command.Goals as goal

err_as : {T E : Type 0} (r : Result T E) (P Q : E → Type 0) → ((e : E) → P e → Q e) → IsErrAnd r P → IfErr r Q
err_as (Ok x) P Q f h = tt
err_as (Err e) P Q f h = f e h

only_memory : (kinds : Kinds) (e : Error) → kinds ≡ [] → HasKind kinds e → kind_of e ≡ OutOfMemory
only_memory [] e none h = elim h [ inl memory ↦ memory | inr bad ↦ absurd bad ]
only_memory (k ∷ ks) e none h = let bad : ◌≡◌ {A = Kinds} (k ∷ ks) [] = none in cc

pub returns-in_err-matches-clause-taken : goal.returns-in_err-matches-clause-taken
returns-in_err-matches-clause-taken c =
    let words : List Text = texts c.args.words.now in
    let kinds = c.in_err-matches.ensures.kinds (ap is_simple_and_free c.in_ok-command_line.ensures) in
    err_as c.from_residual-in_err-matches.result _ _
    (λ e named call names. named (only_memory _ c.in_err-matches.field-0.0 (ap (λ (a : App). fault_of a words) c.in_ok-command_line.ensures ∙ takes_call (drop 1 words) call names) kinds))
    c.from_residual-in_err-matches.ensures.1

pub returns-in-None-clause-named : goal.returns-in-None-clause-named
returns-in-None-clause-named c =
    let words : List Text = texts c.args.words.now in
    let app = c.in_ok-command_line.ensures in
    no_task words c.in_ok-matches.matches
    (sym (ap (λ (a : App). fault_of a words) app) ∙ c.in_ok-matches.ensures.kinds (ap is_simple_and_free app))
    ((c.in_ok-matches.ensures.matches (ap is_simple app)).1 ∙ ap (λ (a : App). subcommand_of a words) app)
    c.in-None.ensures.variant

pub returns-in-Some-trace-default-clause-named : goal.returns-in-Some-trace-default-clause-named
returns-in-Some-trace-default-clause-named c =
    let words : List Text = texts c.args.words.now in
    let app = c.in_ok-command_line.ensures in
    let given : ArgMatches = c.in-Some-trace-default.given.now in
    let called = one_task words c.in_ok-matches.matches given c.in-Some-trace-default.field-0-0.now
    (sym (ap (λ (a : App). fault_of a words) app) ∙ c.in_ok-matches.ensures.kinds (ap is_simple_and_free app))
    ((c.in_ok-matches.ensures.matches (ap is_simple app)).1 ∙ ap (λ (a : App). subcommand_of a words) app)
    c.in-Some-trace-default.ensures.name c.in-Some-trace-default.ensures.rows in
    called_trace (drop 1 words) (rows_of (found_of given)) _ (c.get_str.ensures ∙ first_value-rows (found_of given) (codes "file"))
    (with_one (drop 1 words) (codes "trace") (rows_of (found_of given)) (λ e. let bad : codes "trace" ≡ codes "migrate" = e in cc)
    (subst (λ (t : Text). IsCalled (drop 1 words) t (rows_of (found_of given))) c.in-Some-trace-default.is-trace called))

pub returns-in-Some-draw-default-clause-named : goal.returns-in-Some-draw-default-clause-named
returns-in-Some-draw-default-clause-named c =
    let words : List Text = texts c.args.words.now in
    let app = c.in_ok-command_line.ensures in
    let given : ArgMatches = c.in-Some-draw-default.given.now in
    let rows : List Row = rows_of (found_of given) in
    let called = one_task words c.in_ok-matches.matches given c.in-Some-draw-default.field-0-0.now
    (sym (ap (λ (a : App). fault_of a words) app) ∙ c.in_ok-matches.ensures.kinds (ap is_simple_and_free app))
    ((c.in_ok-matches.ensures.matches (ap is_simple app)).1 ∙ ap (λ (a : App). subcommand_of a words) app)
    c.in-Some-draw-default.ensures.name c.in-Some-draw-default.ensures.rows in
    called_draw (drop 1 words) rows _ (λ a holds. (
      c.get_str-in-Some-draw-default.ensures ∙ first_value-rows (found_of given) (codes "file") ∙ holds.file,
      number_is (λ bs r. ParsesUnsigned 64 10 bs r × ExplainsUnsignedError 10 bs r × HasUnsignedDigitsIfOk bs r) (λ t r reads. reads.0) (one_of (codes "from") rows) a.from holds.from c.get_one.result
          (λ none. c.get_one.ensures.none (one_text-rows (found_of given) (codes "from") ∙ none)) (λ t some. c.get_one.ensures.value t (one_text-rows (found_of given) (codes "from") ∙ some)),
      number_is (λ bs r. ParsesUnsigned 64 10 bs r × ExplainsUnsignedError 10 bs r × HasUnsignedDigitsIfOk bs r) (λ t r reads. reads.0) (one_of (codes "to") rows) a.to holds.to c.get_one-in-Some-draw-default.result
          (λ none. c.get_one-in-Some-draw-default.ensures.none (one_text-rows (found_of given) (codes "to") ∙ none)) (λ t some. c.get_one-in-Some-draw-default.ensures.value t (one_text-rows (found_of given) (codes "to") ∙ some)),
    ))
    (with_one (drop 1 words) (codes "draw") rows (λ e. let bad : codes "draw" ≡ codes "migrate" = e in cc)
    (subst (λ (t : Text). IsCalled (drop 1 words) t rows) c.in-Some-draw-default.is-draw called))

pub returns-clause-named : goal.returns-clause-named
returns-clause-named c =
    let words : List Text = texts c.args.words.now in
    let app = c.in_ok-command_line.ensures in
    let given : ArgMatches = c.in-Some.given.now in
    let no_trace : c.in-Some._run.now ≡ codes "trace" → ⊥ = search in
    let no_draw : c.in-Some._run.now ≡ codes "draw" → ⊥ = search in
    let no_dump : c.in-Some._run.now ≡ codes "dump" → ⊥ = search in
    let no_migrate : c.in-Some._run.now ≡ codes "migrate" → ⊥ = search in
    let called = one_task words c.in_ok-matches.matches given c.in-Some._run.now
    (sym (ap (λ (a : App). fault_of a words) app) ∙ c.in_ok-matches.ensures.kinds (ap is_simple_and_free app))
    ((c.in_ok-matches.ensures.matches (ap is_simple app)).1 ∙ ap (λ (a : App). subcommand_of a words) app)
    c.in-Some.ensures.name c.in-Some.ensures.rows in
    called_run (drop 1 words) (rows_of (found_of given)) _ (c.get_str-in-Some.ensures ∙ first_value-rows (found_of given) (codes "file")) c.in-Some._run.now no_trace no_draw no_dump
    (with_one (drop 1 words) c.in-Some._run.now (rows_of (found_of given)) no_migrate called)

pub needed-requires : goal.needed-requires
needed-requires c =
    let words : List Text = texts c.args.words.now in
    let app = c.in_ok-command_line.ensures in
    let given : ArgMatches = c.in-Some-dump-default.given.now in
    let rows : List Row = rows_of (found_of given) in
    let called = one_task words c.in_ok-matches.matches given c.in-Some-dump-default.field-0-0.now
    (sym (ap (λ (a : App). fault_of a words) app) ∙ c.in_ok-matches.ensures.kinds (ap is_simple_and_free app))
    ((c.in_ok-matches.ensures.matches (ap is_simple app)).1 ∙ ap (λ (a : App). subcommand_of a words) app)
    c.in-Some-dump-default.ensures.name c.in-Some-dump-default.ensures.rows in
    let dumped = dump_called (drop 1 words) rows (subst (λ (t : Text). IsCalled (drop 1 words) t rows) c.in-Some-dump-default.is-dump called) in
    ap is_some (first_value-rows (found_of given) (codes "file")) ∙ dump_has_file (drop 1 words) rows dumped

pub returns-in-Some-dump-default-clause-named : goal.returns-in-Some-dump-default-clause-named
returns-in-Some-dump-default-clause-named c =
    let words : List Text = texts c.args.words.now in
    let app = c.in_ok-command_line.ensures in
    let given : ArgMatches = c.in-Some-dump-default.given.now in
    let rows : List Row = rows_of (found_of given) in
    let called = one_task words c.in_ok-matches.matches given c.in-Some-dump-default.field-0-0.now
    (sym (ap (λ (a : App). fault_of a words) app) ∙ c.in_ok-matches.ensures.kinds (ap is_simple_and_free app))
    ((c.in_ok-matches.ensures.matches (ap is_simple app)).1 ∙ ap (λ (a : App). subcommand_of a words) app)
    c.in-Some-dump-default.ensures.name c.in-Some-dump-default.ensures.rows in
    let dumped = dump_called (drop 1 words) rows (subst (λ (t : Text). IsCalled (drop 1 words) t rows) c.in-Some-dump-default.is-dump called) in
    called_dump (drop 1 words) rows dumped c.needed.result.now (c.needed.ensures ∙ first_value-rows (found_of given) (codes "file"))

pub needed-requires-in-Some-migrate-default : goal.needed-requires-in-Some-migrate-default
needed-requires-in-Some-migrate-default c =
    let words : List Text = texts c.args.words.now in
    let app = c.in_ok-command_line.ensures in
    let given : ArgMatches = c.in-Some-migrate-default.given.now in
    let rows : List Row = rows_of (found_of given) in
    let called = one_task words c.in_ok-matches.matches given c.in-Some-migrate-default.field-0-0.now
    (sym (ap (λ (a : App). fault_of a words) app) ∙ c.in_ok-matches.ensures.kinds (ap is_simple_and_free app))
    ((c.in_ok-matches.ensures.matches (ap is_simple app)).1 ∙ ap (λ (a : App). subcommand_of a words) app)
    c.in-Some-migrate-default.ensures.name c.in-Some-migrate-default.ensures.rows in
    let migrated = with_two (drop 1 words) rows (subst (λ (t : Text). IsCalled (drop 1 words) t rows) c.in-Some-migrate-default.is-migrate called) in
    ap is_some (first_value-rows (found_of given) (codes "file")) ∙ has_first (drop 1 words) rows migrated

pub needed-requires-in-Some-migrate-default-2 : goal.needed-requires-in-Some-migrate-default-2
needed-requires-in-Some-migrate-default-2 c =
    let words : List Text = texts c.args.words.now in
    let app = c.in_ok-command_line.ensures in
    let given : ArgMatches = c.in-Some-migrate-default.given.now in
    let rows : List Row = rows_of (found_of given) in
    let called = one_task words c.in_ok-matches.matches given c.in-Some-migrate-default.field-0-0.now
    (sym (ap (λ (a : App). fault_of a words) app) ∙ c.in_ok-matches.ensures.kinds (ap is_simple_and_free app))
    ((c.in_ok-matches.ensures.matches (ap is_simple app)).1 ∙ ap (λ (a : App). subcommand_of a words) app)
    c.in-Some-migrate-default.ensures.name c.in-Some-migrate-default.ensures.rows in
    let migrated = with_two (drop 1 words) rows (subst (λ (t : Text). IsCalled (drop 1 words) t rows) c.in-Some-migrate-default.is-migrate called) in
    ap is_some (first_value-rows (found_of given) (codes "new")) ∙ has_second (drop 1 words) rows migrated

pub returns-in-Some-migrate-default-clause-named : goal.returns-in-Some-migrate-default-clause-named
returns-in-Some-migrate-default-clause-named c =
    let words : List Text = texts c.args.words.now in
    let app = c.in_ok-command_line.ensures in
    let given : ArgMatches = c.in-Some-migrate-default.given.now in
    let rows : List Row = rows_of (found_of given) in
    let called = one_task words c.in_ok-matches.matches given c.in-Some-migrate-default.field-0-0.now
    (sym (ap (λ (a : App). fault_of a words) app) ∙ c.in_ok-matches.ensures.kinds (ap is_simple_and_free app))
    ((c.in_ok-matches.ensures.matches (ap is_simple app)).1 ∙ ap (λ (a : App). subcommand_of a words) app)
    c.in-Some-migrate-default.ensures.name c.in-Some-migrate-default.ensures.rows in
    let migrated = with_two (drop 1 words) rows (subst (λ (t : Text). IsCalled (drop 1 words) t rows) c.in-Some-migrate-default.is-migrate called) in
    called_migrate (drop 1 words) rows migrated c.needed-in-Some-migrate-default.result.now c.needed-in-Some-migrate-default-2.result.now
    (c.needed-in-Some-migrate-default.ensures ∙ first_value-rows (found_of given) (codes "file")) (c.needed-in-Some-migrate-default-2.ensures ∙ first_value-rows (found_of given) (codes "new"))
