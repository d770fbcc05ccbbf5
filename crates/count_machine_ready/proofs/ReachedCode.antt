-- The code of reached functions.
use Rattle.std.proofs.Common.{◌≡◌, ℕ, List, sym, ◌∙◌, subst, arith, Bool, true, Some}
use Rattle.std.specs.Prelude.{slice_get}
use Rattle.std.proofs.lemmas.Option.{slice_get_within}
use Rattle.sil_ast.specs.declared.function.Function.{Function}
use Rattle.sil_ast.specs.declared.module.Module.{Module}
use Rattle.sil_ast.specs.declared.place.FuncId.{FuncId}
use Rattle.count_machine_model.specs.ReadyCode.ReadyModules.{IsReadyFunction, Reaches}
use Rattle.count_machine_model.specs.declared.ready_code.function.ReadyFunction.{ReadyFunction}
use Rattle.count_machine_layouts.proofs.FrameLayouts.Lists.{element_there}
use Rattle.count_machine_ready.specs.inner.Functions.{AreReady, IsReadyAt}

-- the code of the function at a number, if it is reached
pub ready_at : (m : Module) (reached : List Bool) (n : ℕ) (f : Function) (code : ReadyFunction) → slice_get m.functions n ≡ Some f
    → (slice_get reached n ≡ Some true → IsReadyFunction m f code) → IsReadyAt m reached n code
ready_at m reached n f code at own g marked there =
    let both : Some f ≡ Some g = sym at ∙ there in
    let same : f ≡ g = cc in
    subst (λ x. IsReadyFunction m x code) same (own marked)

-- so each reached function has its code
pub code_there : (m : Module) (reached : List Bool) (functions : List ReadyFunction) → AreReady m reached functions
    → (g : FuncId) (f : Function) → Reaches reached g → slice_get m.functions g.0 ≡ Some f
    → (code : ReadyFunction) × (slice_get functions g.0 ≡ Some code) × IsReadyFunction m f code
code_there m reached functions ready g f marked there =
    let within = slice_get_within m.functions g.0 f there in
    let all = ready.all in
    let code = element_there functions g.0 (omega arith) in
    (code.0, code.1, ready.each g.0 code.0 code.1 f marked there)
