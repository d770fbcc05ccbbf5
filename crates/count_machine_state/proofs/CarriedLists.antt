-- What is carried changes the leaves of a frame and which values are there, and nothing else.
use Rattle.std.proofs.Common.{◌≡◌, ℕ, ◌+◌, ◌<◌, List, [], ◌∷◌, length, take, zero, suc, get_or, map, refl, arith}
use Rattle.std.proofs.Math.Nat.{suc-add}
use Rattle.count_machine_model.specs.declared.ready_code.local.Carry.{Carry}
use Rattle.count_machine_model.specs.declared.ready_code.local.CarryAddress.{CarryAddress}
use Rattle.holder_model_values.specs.declared.run_values.leaf.Leaf.{Leaf}
use Rattle.count_machine_model.specs.declared.machine_steps.frame.Frame.{Frame}
use Rattle.count_machine_model.specs.MachineSteps.Calling.{addresses_carried, carried, put_all}
use Rattle.count_machine_model.specs.MachineSteps.Operands.{address_in, contents, put, put_address}
use Rattle.count_machine_model.specs.MachineSteps.Views.{MachineView}
use Rattle.count_machine_leaves.specs.LeafWindows.inner.Carried.{all_laid, all_marked, carried_from}

put_all-is : (carries : Carry → List Leaf) (st : MachineView) (to : Frame) (cs : List Carry) →
    put_all st to cs (map carries cs) ≡ record st { leaves = all_laid carries to.leaves cs st.leaves; there = all_marked to.values cs st.there }
put_all-is carries st to [] = refl
put_all-is carries st to (c ∷ cs) = put_all-is carries (put st to c.to (carries c)) to cs

pub carried-is : (st : MachineView) (from to : Frame) (cs : List Carry) →
    carried st from to cs ≡ record st { leaves = all_laid (carried_from from.leaves st.leaves) to.leaves cs st.leaves; there = all_marked to.values cs st.there }
carried-is st from to cs = put_all-is (λ c. contents st from c.from) st to cs

-- one address more
pub addresses_carried-more : (st : MachineView) (from to : Frame) (cs : List CarryAddress) (i : ℕ) (d : CarryAddress) → i < length cs →
    addresses_carried st from to (take (i + 1) cs) ≡
    put_address (addresses_carried st from to (take i cs)) to (get_or cs i d).to (address_in (addresses_carried st from to (take i cs)) from (get_or cs i d).from)
addresses_carried-more st from to [] i d h = absurd (omega arith)
addresses_carried-more st from to (c ∷ cs) zero d h = refl
addresses_carried-more st from to (c ∷ cs) (suc i) d h = rw (suc-add i 1) (addresses_carried-more (put_address st to c.to (address_in st from c.from)) from to cs i d (omega arith))

-- nothing is carried
pub carried_none : (st : MachineView) (from to : Frame) (cs : List Carry) → length cs ≡ 0 → carried st from to cs ≡ st
carried_none st from to [] h = refl
carried_none st from to (c ∷ cs) h = cc
