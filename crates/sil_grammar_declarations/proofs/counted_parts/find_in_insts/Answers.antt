use Rattle.std.proofs.Common.{◌<◌, ◌≤◌, ◌∙◌, ap, arith, length, subst, sym}
use Rattle.std.specs.Prelude.{Some}
use Rattle.std.proofs.lemmas.Option.{slice_get-get_or}
use Rattle.sil_grammar_declarations.specs.declared.found.Found.TheVariants.{At, Past}
use Rattle.sil_grammar_tree.specs.declared.written_tree.written_instructions.WrittenInst.{WrittenInst}
use Rattle.sil_grammar_tree.specs.WrittenTree.Places.{value_places_of}
use Rattle.sil_grammar_declarations.specs.inner.Found.{Finds}
use Rattle.sil_grammar_declarations.proofs.FoundLemmas.{finds_behind, finds_here, finds_none}
use Rattle.sil_grammar_declarations.proofs.counted_parts.find_in_insts.Goals as goal

pub returns-in-At : goal.returns-in-At
returns-in-At c =
    let inside : c.loop-inst.inst-index < length c.args.insts.now = omega arith in
    let there = slice_get-get_or c.args.insts.now c.loop-inst.inst-index c.inst-item.result inside ∙ ap Some (sym c.inst-item.is) in
    let here = subst (λ (inst : WrittenInst). Finds (value_places_of inst) c.loop-inst.left (At c.in-At.place)) c.get.ensures c.in-At.ensures in
    c.loop-inst.invariant (At c.in-At.place)
    (finds_here value_places_of c.args.insts.now c.loop-inst.inst-index c.loop-inst.left c.inst-item.result c.in-At.place there here)

pub loop-inst-preserved : goal.loop-inst-preserved
loop-inst-preserved c r found =
    let inside : c.loop-inst.inst-index < length c.args.insts.now = omega arith in
    let there = slice_get-get_or c.args.insts.now c.loop-inst.inst-index c.inst-item.result inside ∙ ap Some (sym c.inst-item.is) in
    let past = subst (λ (inst : WrittenInst). Finds (value_places_of inst) c.loop-inst.left (Past c.in-Past.rest)) c.get.ensures c.in-Past.ensures in
    c.loop-inst.invariant r
    (finds_behind value_places_of c.args.insts.now c.loop-inst.inst-index c.loop-inst.left c.in-Past.rest c.inst-item.result r there past found)

pub returns : goal.returns
returns c =
    let all : length c.args.insts.now ≤ c.loop-inst.inst-index = omega arith in
    c.loop-inst.invariant (Past c.loop-inst.left) (finds_none value_places_of c.args.insts.now c.loop-inst.inst-index c.loop-inst.left all)
