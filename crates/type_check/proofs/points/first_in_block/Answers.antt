use Rattle.std.proofs.Common.{◌≡◌, ◌+◌, ◌%◌, ◌^◌, sym, ap, ◌∙◌, arith, length, [], ◌∷◌, ◌++◌, Option, None}
use Rattle.std.specs.Option.{option_or}
use Rattle.std.proofs.Common.{ℕ, get_or, map, take}
use Rattle.type_check_values.specs.TypingValues.inner.Given.{given_count}
use Rattle.type_check.proofs.Counts.{before_last, last}
use Rattle.sil_ast.specs.declared.inst.Inst.{Inst}
use Rattle.type_check.proofs.Firsts.{first_behind_all}
use Rattle.type_check.specs.inner.FirstFault.{fault_of_inst}
use Rattle.type_check.specs.inner.Firsts.{first_from}
use Rattle.type_check.proofs.points.first_in_block.Goals as goal

-- src/points.rt:51:1
pub returns-in-Some : goal.returns-in-Some
returns-in-Some c =
    let b = c.args.block.now in
    let find = fault_of_inst c.args.body.now.module.now c.args.body.now.number c.args.body.now.function.now c.args.number in
    let own = sym c.in-Some.is ∙ c.first_in_insts.ensures ∙ ap (first_from find 0) c.as_slice.ensures in
    ap (λ o. option_or o (find (0 + length b.insts) b.terminator)) own ∙ sym (first_behind_all find 0 b.insts b.terminator)

-- src/points.rt:51:1
pub returns-in-None : goal.returns-in-None
returns-in-None c =
    let b = c.args.block.now in
    let find = fault_of_inst c.args.body.now.module.now c.args.body.now.number c.args.body.now.function.now c.args.number in
    let none = sym c.in-None.is ∙ c.first_in_insts.ensures ∙ ap (first_from find 0) c.as_slice.ensures in
    let count : c.len-count.result ≡ 0 + length b.insts = let e = c.len-count.ensures in omega (arith, e) in
    let last = c.fault_at.ensures ∙ ap (λ k. find k b.terminator) count in
    last ∙ ap (λ o. option_or o (find (0 + length b.insts) b.terminator)) none ∙ sym (first_behind_all find 0 b.insts b.terminator)

pub first_in_insts-requires-clause-given : goal.first_in_insts-requires-clause-given
first_in_insts-requires-clause-given c =
    let count : Inst → Option ℕ = given_count c.args.body.now.table.now in
    let b = c.args.block.now in
    c.split_at.ensures.front ∙ ap (λ n. take n c.args.given.now) c.len-count.ensures ∙ before_last count b c.args.given.now c.requires.given ∙ ap (map count) (sym c.as_slice.ensures)

pub fault_at-requires-clause-given : goal.fault_at-requires-clause-given
fault_at-requires-clause-given c =
    let count : Inst → Option ℕ = given_count c.args.body.now.table.now in
    ap (λ n. get_or c.args.given.now n None) c.len-count.ensures ∙ last count c.args.block.now c.args.given.now None c.requires.given
