-- What a frame returns is handed to its caller before the frame is gone: the same as behind it.
use Rattle.std.proofs.Common.{◌≡◌, ℕ, zero, suc, ◌+◌, List, [], ◌∷◌, take, drop, refl, sym, ap, subst, ◌∙◌}
use Rattle.std.specs.declared.result.Result.{Result}
use Rattle.count_machine_model.specs.declared.ready_code.local.Local.{Local}
use Rattle.count_machine_model.specs.declared.machine_steps.frame.Frame.{Frame}
use Rattle.count_machine_model.specs.declared.machine_steps.frame.Task.{Task}
use Rattle.count_machine_model.specs.declared.machine_steps.frame.Task.TheVariants.{Runs}
use Rattle.count_machine_model.specs.MachineSteps.Calling.{without_frame}
use Rattle.count_machine_model.specs.MachineSteps.Operands.{contents, gives, go_on, laid_over, put, put_there}
use Rattle.count_machine_model.specs.MachineSteps.Views.{MachineView}
use Rattle.count_machine_state.specs.GoingOn.{GoesOn}
use Rattle.count_machine_state.specs.Went.{HasGone}
use Rattle.count_machine_state.specs.declared.stop.Stop.{Stop}
use Rattle.count_machine_leaves.proofs.LeafWindows.LaidOver.{laid, laid_is}

take-laid : {A : Type 0} (n from : ℕ) (xs ys : List A) → take n (laid from xs ys) ≡ laid from xs (take n ys)
take-laid zero from xs ys = refl
take-laid (suc n) from xs [] = refl
take-laid (suc n) zero [] (y ∷ ys) = refl
take-laid (suc n) zero (x ∷ xs) (y ∷ ys) = ap (λ zs. x ∷ zs) (take-laid n zero xs ys)
take-laid (suc n) (suc from) xs (y ∷ ys) = ap (λ zs. y ∷ zs) (take-laid n from xs ys)

take-laid_over : {A : Type 0} (n from : ℕ) (xs ys : List A) → take n (laid_over from xs ys) ≡ laid_over from xs (take n ys)
take-laid_over n from xs ys = ap (take n) (laid_is from xs ys) ∙ take-laid n from xs ys ∙ sym (laid_is from xs (take n ys))

pub given-back : (st handed removed marked new : MachineView) (fr caller : Frame) (l to : Local) (rest below : List Task) (result : Result (Unit {0}) Stop) →
    handed ≡ record st { leaves = laid_over (caller.leaves + to.at) (contents st fr l) st.leaves } → removed ≡ without_frame handed fr (drop 1 handed.tasks) →
    marked ≡ put_there removed caller to.value → ((at : Frame) → GoesOn marked at marked result new) → st.tasks ≡ Runs fr ∷ rest → rest ≡ Runs caller ∷ below →
    HasGone (gives (without_frame st fr rest) caller below to (contents st fr l)) result new
given-back st handed removed marked new fr caller l to rest below result handing removing marking on top next =
    let tasks : drop 1 st.tasks ≡ rest = ap (drop 1) top in
    let removed-is : removed ≡ record (without_frame st fr rest) { leaves = laid_over (caller.leaves + to.at) (contents st fr l) (take fr.leaves st.leaves) } =
    removing ∙ ap (λ at. without_frame at fr (drop 1 at.tasks)) handing
    ∙ ap (λ ls. record (without_frame st fr (drop 1 st.tasks)) { leaves = ls }) (take-laid_over fr.leaves (caller.leaves + to.at) (contents st fr l) st.leaves)
    ∙ ap (λ ts. record (without_frame st fr ts) { leaves = laid_over (caller.leaves + to.at) (contents st fr l) (take fr.leaves st.leaves) }) tasks in
    let marked-is : marked ≡ put (without_frame st fr rest) caller to (contents st fr l) = marking ∙ ap (λ at. put_there at caller to.value) removed-is in
    let h = on caller below (ap (λ at. at.tasks) marked-is ∙ next) in
    subst (λ at. HasGone (go_on at caller below) result new) marked-is h
