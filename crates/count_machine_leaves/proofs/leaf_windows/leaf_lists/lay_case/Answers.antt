use Rattle.std.proofs.Common.{◌≡◌, ◌∙◌, ◌+◌, ◌-◌, [], ◌∷◌, drop, length, min, replicate, take, sym, ap, arith}
use Rattle.std.proofs.lemmas.List.{length-drop, length-take, take_min}
use Rattle.count_machine_model.specs.MachineSteps.Operands.{laid_over}
use Rattle.holder_model_values.specs.declared.run_values.leaf.Leaf.TheVariants.{Blank, Tag}
use Rattle.count_machine_leaves.proofs.LeafWindows.LaidOver.{case_laid}
use Rattle.count_machine_leaves.proofs.leaf_windows.leaf_lists.lay_case.Goals as goal

pub returns : goal.returns
returns c =
    let to = c.args.to in
    let old = c.args.leaves.now in
    let tag = Tag c.args.tag in
    let all = drop c.args.from old in
    let payload = take c.args.count all in
    let count : c.min-count.result ≡ length payload = simp (length-take, length-drop) (omega arith) in
    let same : take c.min-count.result all ≡ payload =
    ap (λ n. take n all) (c.min-count.ensures ∙ ap (min c.args.count) (c.saturating_sub.ensures ∙ sym (length-drop c.args.from old)))
    ∙ take_min c.args.count all in
    let blanks : c.saturating_sub-2.result ≡ c.args.size - (1 + length payload) = omega (arith, count) in
    let moved : c.move_over.new.leaves ≡ laid_over (to + 1) payload old = c.move_over.ensures ∙ ap (λ ls. laid_over (to + 1) ls old) same in
    let tagged : c.lay_one.new.leaves ≡ laid_over to (tag ∷ []) (laid_over (to + 1) payload old) = c.lay_one.ensures ∙ ap (laid_over to (tag ∷ [])) moved in
    c.lay_blanks.ensures
    ∙ ap (laid_over (to + 1 + c.min-count.result) (replicate c.saturating_sub-2.result Blank)) tagged
    ∙ ap (λ n. laid_over (to + 1 + n) (replicate c.saturating_sub-2.result Blank) (laid_over to (tag ∷ []) (laid_over (to + 1) payload old))) count
    ∙ ap (λ n. laid_over (to + 1 + length payload) (replicate n Blank) (laid_over to (tag ∷ []) (laid_over (to + 1) payload old))) blanks
    ∙ case_laid to tag payload (replicate (c.args.size - (1 + length payload)) Blank) old
