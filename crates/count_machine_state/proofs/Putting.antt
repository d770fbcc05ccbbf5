-- Leaves are laid over those of a value, at a place that is counted up to the end of its type.
use Rattle.std.proofs.Common.{◌≡◌, ℕ, ◌+◌, ◌<◌, ◌≤◌, List, length, min, ap, sym, ◌∙◌, arith, inl, inr}
use Rattle.std.proofs.lemmas.Bool.{cases_lt}
use Rattle.std.proofs.lemmas.List.{with_items_is}
use Rattle.std.specs.Global.{Vec}
use Rattle.std.specs.Vec.{with_items}
use Rattle.count_machine_model.specs.MachineSteps.Operands.{laid_over, put, put_there}
use Rattle.count_machine_model.specs.MachineSteps.Views.{MachineView}
use Rattle.count_machine_model.specs.declared.machine_steps.frame.Frame.{Frame}
use Rattle.count_machine_model.specs.declared.ready_code.local.Local.{Local}
use Rattle.holder_model_values.specs.declared.run_values.leaf.Leaf.{Leaf}
use Rattle.count_machine_leaves.proofs.LeafWindows.LaidOver.{laid_is, laid_past}

pub laid_saturated : {A : Type 0} (at place : ℕ) (xs ys : List A) → at ≡ min place 18446744073709551615 → length ys < 18446744073709551616 →
    laid_over at xs ys ≡ laid_over place xs ys
laid_saturated at place xs ys e short = elim (cases_lt at (length ys)) as (λ _. laid_over at xs ys ≡ laid_over place xs ys) [
  | inl h ↦ let same : at ≡ place = omega arith in ap (λ k. laid_over k xs ys) same
  | inr h ↦
      laid_is at xs ys ∙ laid_past at xs ys h
      ∙ sym (laid_past place xs ys (omega arith)) ∙ sym (laid_is place xs ys)
]

-- a value becomes these leaves
pub put_laid : (st : MachineView) (fr : Frame) (to : Local) (ls new : List Leaf) (at : ℕ) → at ≡ min (fr.leaves + to.at) 18446744073709551615 →
    length st.leaves < 18446744073709551616 → new ≡ laid_over at ls st.leaves → put_there (record st { leaves = new }) fr to.value ≡ put st fr to ls
put_laid st fr to ls new at e short is =
    ap (λ (leaves : List Leaf). put_there (record st { leaves = leaves }) fr to.value) (is ∙ laid_saturated at (fr.leaves + to.at) ls st.leaves e short)

-- the same, where the new leaves are written into a vector
pub put_laid_in : (v : Vec Leaf) (st : MachineView) (fr : Frame) (to : Local) (ls new : List Leaf) (at : ℕ) →
    at ≡ min (fr.leaves + to.at) 18446744073709551615 → length st.leaves < 18446744073709551616 → length new ≡ v.len → new ≡ laid_over at ls st.leaves →
    put_there (record st { leaves = (with_items v new).items }) fr to.value ≡ put st fr to ls
put_laid_in v st fr to ls new at e short len is =
    ap (λ (leaves : List Leaf). put_there (record st { leaves = leaves }) fr to.value) (with_items_is v new len) ∙ put_laid st fr to ls new at e short is
