-- A fault of a part is reported after the parts that have none.
use Rattle.std.proofs.Common.{refl}
use Rattle.serde_json.specs.View.{view, members_view}
use Rattle.csvw_meta_core.specs.declared.fault.Refusal.TheVariants as refusal
use Rattle.csvw_meta_core.specs.Pointer.{text_of}
use Rattle.csvw_meta_notes.specs.Literals.{literal}
use Rattle.csvw_meta_notes.proofs.ReadLemmas.{fails_first, later, refused}
use Rattle.csvw_meta_notes.proofs.literal.read_literal.Goals as goal

pub returns-in_err-check_literal_members : goal.returns-in_err-check_literal_members
unfolding literal
returns-in_err-check_literal_members c =
    refused c.from_residual.result c.in_err-check_literal_members.field-0.0
    (literal (text_of c.args.part.now.at) (view c.args.part.now.value.now) (members_view c.args.members.now.entries) (view c.args.value.now))
    c.from_residual.ensures.1
    (fails_first _ _ _ c.in_err-check_literal_members.ensures)

pub returns-in_err-check_one : goal.returns-in_err-check_one
unfolding literal
returns-in_err-check_one c =
    refused c.from_residual-in_err-check_one.result c.in_err-check_one.field-0.0
    (literal (text_of c.args.part.now.at) (view c.args.part.now.value.now) (members_view c.args.members.now.entries) (view c.args.value.now))
    c.from_residual-in_err-check_one.ensures.1
    (later _ _ _ _ c.in_ok-check_literal_members.ensures (fails_first _ _ _ c.in_err-check_one.ensures))

pub returns-in_err-check_for_text : goal.returns-in_err-check_for_text
unfolding literal
returns-in_err-check_for_text c =
    refused c.from_residual-in_err-check_for_text.result c.in_err-check_for_text.field-0.0
    (literal (text_of c.args.part.now.at) (view c.args.part.now.value.now) (members_view c.args.members.now.entries) (view c.args.value.now))
    c.from_residual-in_err-check_for_text.ensures.1
    (later _ _ _ _ c.in_ok-check_literal_members.ensures (later _ _ _ _ c.in_ok-check_one.ensures (fails_first _ _ _ c.in_err-check_for_text.ensures)))

pub returns-in_err-plain : goal.returns-in_err-plain
unfolding literal
returns-in_err-plain c =
    refused c.from_residual-in_err-plain.result c.in_err-plain.field-0.0
    (literal (text_of c.args.part.now.at) (view c.args.part.now.value.now) (members_view c.args.members.now.entries) (view c.args.value.now))
    c.from_residual-in_err-plain.ensures.1
    (later _ _ _ _ c.in_ok-check_literal_members.ensures (later _ _ _ _ c.in_ok-check_one.ensures (later _ _ _ _ c.in_ok-check_for_text.ensures (
    fails_first _ _ _ (rw (c.member.ensures.at, c.member.ensures.value) at c.in_err-plain.ensures)))))

pub returns-in_err-language : goal.returns-in_err-language
unfolding literal
returns-in_err-language c =
    refused c.from_residual-in_err-language.result c.in_err-language.field-0.0
    (literal (text_of c.args.part.now.at) (view c.args.part.now.value.now) (members_view c.args.members.now.entries) (view c.args.value.now))
    c.from_residual-in_err-language.ensures.1
    (later _ _ _ _ c.in_ok-check_literal_members.ensures (later _ _ _ _ c.in_ok-check_one.ensures (later _ _ _ _ c.in_ok-check_for_text.ensures (
    later _ _ _ _ (rw (c.member.ensures.at, c.member.ensures.value) at c.in_ok-plain.ensures) (fails_first _ _ _ c.in_err-language.ensures)))))

pub returns-in_err-datatype : goal.returns-in_err-datatype
unfolding literal
returns-in_err-datatype c =
    refused c.from_residual-in_err-datatype.result c.in_err-datatype.field-0.0
    (literal (text_of c.args.part.now.at) (view c.args.part.now.value.now) (members_view c.args.members.now.entries) (view c.args.value.now))
    c.from_residual-in_err-datatype.ensures.1
    (later _ _ _ _ c.in_ok-check_literal_members.ensures (later _ _ _ _ c.in_ok-check_one.ensures (later _ _ _ _ c.in_ok-check_for_text.ensures (
    later _ _ _ _ (rw (c.member.ensures.at, c.member.ensures.value) at c.in_ok-plain.ensures) (later _ _ _ _ c.in_ok-language.ensures (
    fails_first _ _ _ c.in_err-datatype.ensures))))))

pub returns-in_err-with_own : goal.returns-in_err-with_own
returns-in_err-with_own c =
    refused c.from_residual-in_err-with_own.result refusal.Memory
    (literal (text_of c.args.part.now.at) (view c.args.part.now.value.now) (members_view c.args.members.now.entries) (view c.args.value.now))
    c.from_residual-in_err-with_own.ensures.1 tt

pub returns : goal.returns
unfolding literal
returns c =
    let plain = rw (c.member.ensures.at, c.member.ensures.value) at c.in_ok-plain.ensures in
    rw (
      c.in_ok-check_literal_members.ensures,
      c.in_ok-check_one.ensures,
      c.in_ok-check_for_text.ensures,
      plain,
      c.in_ok-language.ensures,
      c.in_ok-datatype.ensures,
      c.in_ok-with_own.ensures,
    )
    refl
