-- A function that a reached one calls is reached too, so its layout is there.
use Rattle.std.proofs.Common.{◌≡◌, ◌<◌, length, get_or, arith}
use Rattle.std.proofs.lemmas.Option.{slice_get_within}
use Rattle.sil_ast.specs.declared.function.Function.{Function}
use Rattle.sil_ast.specs.declared.inst.Inst.{Inst}
use Rattle.sil_ast.specs.declared.place.FuncId.{FuncId}
use Rattle.count_machine_layouts.specs.declared.frame_layouts.layout.Layout.{Layout}
use Rattle.count_machine_layouts.specs.FrameLayouts.inner.Layouts.{layout_of}
use Rattle.count_machine_layouts.proofs.FrameLayouts.Numbers.{laid_there}
use Rattle.count_machine_ready.specs.declared.body.Body.{Body}
use Rattle.count_machine_ready.specs.inner.Bodies.{Calls, IsBody, declared}

module _ (b : Body) (is : IsBody b) (i : Inst) (g : FuncId) (callee : Function) where
  pub callee_inside : Calls b i g callee → g.0 < length b.layouts.now
  callee_inside call =
      let within = slice_get_within b.m.now.functions g.0 callee call.there in
      let all = is.layouts.all in
      omega arith

  pub callee_layout : (default : Layout) → Calls b i g callee → get_or b.layouts.now g.0 default ≡ layout_of (declared b) callee
  callee_layout default call =
      laid_there b.m.now is.reached b.layouts.now g.0 callee default is.layouts
      (is.closed.calls (record { 0 = is.number }) b.function.now is.own is.there call.callee g call.form) call.there (callee_inside call)
