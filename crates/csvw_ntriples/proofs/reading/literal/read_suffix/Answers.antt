-- A datatype, a language, or none of both.
use Rattle.std.proofs.lemmas.Result.{err_from_is_err_and}
use Rattle.csvw_ntriples.proofs.Composed.{err_on_dot, dot_on_dot, typed_takes, typed_once, no_typed, tagged_takes, tagged_once, no_tagged}
use Rattle.csvw_ntriples.proofs.Composed.{plain_takes, plain_once}
use Rattle.csvw_ntriples.proofs.reading.literal.read_suffix.Goals as goal

pub returns-in_err-datatype : goal.returns-in_err-datatype
returns-in_err-datatype c =
    let r = c.after_blanks-front.ensures in
    let p = err_from_is_err_and c.from_residual.result c.from_residual.ensures.1 in
    err_on_dot _ _ c.from_residual.result p.0 _ p.1 p.2 c.in_err-datatype.ensures
    (λ none s other. no_typed c.args.text.now r.0 c.after_blanks-front.result.now c.in-Some.after.now r.1 c.in-Some.ensures none s.lang s.datatype other)

pub returns-in-Some : goal.returns-in-Some
returns-in-Some c =
    let r = c.after_blanks-front.ensures in (
      typed_takes c.args.text.now r.0 c.after_blanks-front.result.now c.in-Some.after.now c.in_ok-datatype.datatype c.in_ok-datatype.rest.now r.1
          c.in-Some.ensures c.in_ok-datatype.ensures,
      λ s other. typed_once c.args.text.now r.0 c.after_blanks-front.result.now c.in-Some.after.now c.in_ok-datatype.datatype
          c.in_ok-datatype.rest.now r.1 c.in-Some.ensures c.in_ok-datatype.ensures s.lang s.datatype other,
    )

pub returns-in_err-tag-in-Some-after_char : goal.returns-in_err-tag-in-Some-after_char
returns-in_err-tag-in-Some-after_char c =
    let r = c.after_blanks-front.ensures in
    let p = err_from_is_err_and c.from_residual-in_err-tag-in-Some-after_char.result c.from_residual-in_err-tag-in-Some-after_char.ensures.1 in
    dot_on_dot _ _ c.from_residual-in_err-tag-in-Some-after_char.result p.0 _ p.1 p.2 c.in_err-tag-in-Some-after_char.ensures
    (λ none s other. no_tagged c.args.text.now r.0 c.after_blanks-front.result.now c.in-Some-after_char.after.now r.1 c.in-Some-after_char.ensures
    none s.lang s.datatype other)

pub returns-in-Ok : goal.returns-in-Ok
returns-in-Ok c =
    let r = c.after_blanks-front.ensures in
    let found = c.in_ok-tag-in-Some-after_char.ensures in (
      tagged_takes c.args.text.now r.0 c.after_blanks-front.result.now c.in-Some-after_char.after.now c.in_ok-tag-in-Some-after_char.tag
          c.in_ok-tag-in-Some-after_char.rest.now
          c.in-Ok.tagged.lang c.in-Ok.tagged.datatype r.1 c.in-Some-after_char.ensures found.0 c.in-Ok.ensures.0 c.in-Ok.ensures.1,
      λ s other. tagged_once c.args.text.now r.0 c.after_blanks-front.result.now c.in-Some-after_char.after.now
          c.in_ok-tag-in-Some-after_char.rest.now r.1 c.in-Some-after_char.ensures found.1 s.lang s.datatype other,
    )

pub returns-in-Ok-plain_suffix : goal.returns-in-Ok-plain_suffix
returns-in-Ok-plain_suffix c =
    let r = c.after_blanks-front.ensures in (
      plain_takes c.args.text.now c.in-Ok-plain_suffix.plain.lang c.in-Ok-plain_suffix.plain.datatype c.in-Ok-plain_suffix.ensures.0
          c.in-Ok-plain_suffix.ensures.1,
      λ s other. plain_once c.args.text.now r.0 c.after_blanks-front.result.now r.1 c.in_default.ensures c.in-None.ensures s.lang s.datatype other,
    )
