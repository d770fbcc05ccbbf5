use Rattle.std.proofs.Common.{◌≡◌, ◌+◌, ◌++◌, ◌∷◌, [], ◌∙◌, List, append_assoc, ap, arith, length, map, sym}
use Rattle.std.specs.Vec.Iter.{into_iter_items}
use Rattle.std.proofs.lemmas.List.{append-nil, map-append, nil_from_length}
use Rattle.sil_ast.specs.declared.inst.Inst.{Inst}
use Rattle.ownership_lowering_model.specs.LoweredBlocks.{insts_become, value_with}
use Rattle.ownership_lowering_model.specs.LoweredInsts.{becomes}
use Rattle.ownership_lowering_model.specs.Numbers.{renumbered_inst}
use Rattle.ownership_lowering_functions.specs.ValueRenumbering.inner.NewNumbers.{number_in}
use Rattle.ownership_lowering_functions.proofs.function_lowering.blocks.lowered_insts.Goals as goal

pub loop-inst-preserved : goal.loop-inst-preserved
loop-inst-preserved c =
    let d = c.args.table.now in
    let f = renumbered_inst (number_in c.args.numbers.now) in
    let spare = c.loop-inst.spare in
    let before = c.loop-inst.lowered in
    let rest : List Inst = into_iter_items c.next.new.self in
    let new : List Inst = becomes d (value_with spare) c.in-Some.inst in
    let next : into_iter_items c.loop-inst.inst-iterator ≡ c.in-Some.inst ∷ rest = c.in-Some.ensures.steps.0 in
    record {
      room =
          (let room = c.loop-inst.invariant.room in
          let more : length (into_iter_items c.loop-inst.inst-iterator) ≡ length (c.in-Some.inst ∷ rest) = ap length next in
          omega arith);
      lowered = λ renamings.
          c.loop-inst.invariant.lowered renamings
          ∙ ap (λ is. before ++ map f (insts_become d renamings spare is)) next
          ∙ ap (λ is. before ++ is) (map-append f new (insts_become d renamings (spare + 1) rest))
          ∙ sym (append_assoc before (map f new) (map f (insts_become d renamings (spare + 1) rest)))
          ∙ ap (λ is. is ++ map f (insts_become d renamings (spare + 1) rest)) (sym c.in_ok-add_lowered.ensures);
    }

pub returns : goal.returns
returns c renamings =
    let d = c.args.table.now in
    let f = renumbered_inst (number_in c.args.numbers.now) in
    let none : into_iter_items c.loop-inst.inst-iterator ≡ [] =
    nil_from_length (into_iter_items c.loop-inst.inst-iterator) (sym c.loop-inst.inst-iterator.rest.ok.0 ∙ c.in-None.ensures.steps.0) in
    sym (c.loop-inst.invariant.lowered renamings
    ∙ ap (λ is. c.loop-inst.lowered ++ map f (insts_become d renamings c.loop-inst.spare is)) none
    ∙ append-nil c.loop-inst.lowered)
