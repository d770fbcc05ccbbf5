use Rattle.std.proofs.Common.{◌∙◌, ◌<◌, ◌≤◌, ◌++◌, ap, append-nil, arith, length, sym}
use Rattle.module_runner_report.specs.RunOutcomes.{value_of}
use Rattle.module_runner_report.specs.inner.Layers.{case_told, cases_in, types_in}
use Rattle.module_runner_report.proofs.Cases.{case_not_shown, case_shown}
use Rattle.module_runner_report.proofs.Members.{all_members, group_shown, none_yet, one_more, ungrouped}
use Rattle.module_runner_report.proofs.Parts.{members-Chosen, members-Int, members-Object}
use Rattle.module_runner_report.proofs.Shown.{shown, three_shown}
use Rattle.module_runner_report.proofs.values.+write.Goals as goal

pub push_value-returns-in-Integer : goal.push_value-returns-in-Integer
push_value-returns-in-Integer t c =
    shown c.push_integer.result _ _ _ _ (c.in-Integer.ensures c.args.names.now.left.now (value_of c.args.value.now)) c.push_integer.ensures

pub push_value-returns-in-Unknown : goal.push_value-returns-in-Unknown
push_value-returns-in-Unknown t c =
    let old = c.args.out.now.items in
    sym (append-nil old) ∙ ap (λ l. old ++ l) (sym (c.in-Unknown.ensures c.args.names.now.left.now (value_of c.args.value.now)))

pub push_group-returns-in_ok-push_members-in-Group : goal.push_group-returns-in_ok-push_members-in-Group
push_group-returns-in_ok-push_members-in-Group t c =
    shown c.push_bytes-in-Group.result _ _ _ _
    (group_shown c.args.names.now.table.now c.args.names.now.left.now (types_in c.args.types.now) c.args.value.now c.in-Group.members c.as_slice.result.now
    c.in-Group.is (c.as_slice.ensures ∙ c.get.ensures))
    (three_shown c.push_bytes-in-Group.result _ _ _ _ _ _ _ c.in_ok-push_bytes-in-Group.ensures c.in_ok-push_members-in-Group.ensures c.push_bytes-in-Group.ensures)

pub push_group-returns-in-Int : goal.push_group-returns-in-Int
push_group-returns-in-Int t c =
    shown c.push_bytes-in-Int.result _ _ _ _
    (ungrouped c.args.names.now.table.now c.args.names.now.left.now (types_in c.args.types.now) c.args.value.now _ c.in-Int.is (members-Int c.in-Int.field-0))
    c.push_bytes-in-Int.ensures

pub push_group-returns-in-Object : goal.push_group-returns-in-Object
push_group-returns-in-Object t c =
    shown c.push_bytes-in-Object.result _ _ _ _
    (ungrouped c.args.names.now.table.now c.args.names.now.left.now (types_in c.args.types.now) c.args.value.now _ c.in-Object.is (members-Object c.in-Object.field-0))
    c.push_bytes-in-Object.ensures

pub push_group-returns-in-Chosen : goal.push_group-returns-in-Chosen
push_group-returns-in-Chosen t c =
    shown c.push_bytes-in-Chosen.result _ _ _ _
    (ungrouped c.args.names.now.table.now c.args.names.now.left.now (types_in c.args.types.now) c.args.value.now _ c.in-Chosen.is
    (members-Chosen c.in-Chosen.case_index c.in-Chosen.payload))
    c.push_bytes-in-Chosen.ensures

pub push_members-loop-i-init : goal.push_members-loop-i-init
push_members-loop-i-init t c = none_yet c.args.names.now.table.now c.args.names.now.left.now (types_in c.args.types.now) _

pub push_members-loop-i-preserved : goal.push_members-loop-i-preserved
push_members-loop-i-preserved t c =
    let members = c.args.members.now in
    let within : c.loop-i.i < length members = omega arith in
    one_more c.args.names.now.table.now c.args.names.now.left.now (types_in c.args.types.now) members c.loop-i.i c.index-members-i.result _ _ _ _
    within c.index-members-i.is c.get.ensures c.loop-i.invariant c.in_ok-push_member.ensures

pub push_members-returns : goal.push_members-returns
push_members-returns t c =
    let members = c.args.members.now in
    let past : length members ≤ c.loop-i.i = omega arith in
    all_members c.args.names.now.table.now c.args.names.now.left.now (types_in c.args.types.now) members c.loop-i.i _ _ past c.loop-i.invariant

pub push_case-returns-in-Some : goal.push_case-returns-in-Some
push_case-returns-in-Some t c =
    shown c.push_chosen.result _ _ _ _
    (case_shown c.args.names.now.table.now c.args.names.now.left.now (cases_in c.args.cases.now) c.args.value.now c.in-Chosen.case_index c.in-Chosen.payload
    (case_told c.in-Some.case) c.in-Chosen.is c.in-Some.ensures)
    c.push_chosen.ensures

pub push_case-returns-in-None : goal.push_case-returns-in-None
push_case-returns-in-None t c =
    let old = c.args.out.now.items in
    let none = case_not_shown c.args.names.now.table.now c.args.names.now.left.now (cases_in c.args.cases.now) c.args.value.now c.in-Chosen.case_index
    c.in-Chosen.payload c.in-Chosen.is c.in-None.ensures in
    sym (append-nil old) ∙ ap (λ l. old ++ l) (sym none)
