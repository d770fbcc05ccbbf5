-- From what is proved of frames for each bound on turns: the second module runs as the first did, from the same entries.
use Rattle.std.proofs.Common.{◌≡◌, sym, ap, ◌∙◌}
use Rattle.std.specs.Prelude.{◌&&◌, not}
use Rattle.argument_conventions.specs.Arguments.{arguments_of}
use Rattle.sil_ast.specs.declared.function.Function.{Function}
use Rattle.sil_ast.specs.declared.module.Module.{Module}
use Rattle.sil_ast.specs.declared.place.FuncId.{FuncId}
use Rattle.holder_model.specs.Frames.{has_any}
use Rattle.holder_model.specs.ModuleFacts.{facts_of}
use Rattle.holder_model.specs.Outcomes.{may_start}
use Rattle.holder_model_laws.specs.LockstepRuns.inner.Agreeing.{MayStartAt}
use Rattle.holder_model_laws.specs.LockstepRuns.inner.Laws.{RunAsTheyDid}
use Rattle.holder_model_laws.specs.LockstepRuns.inner.Parts.{HasFunctions, StandsFor}
use Rattle.holder_model_laws.proofs.LockstepRuns.FrameParts.{frames_in_lockstep}

start_same : (f f' : Function) → StandsFor f f' → may_start f' ≡ may_start f
start_same f f' s =
    ap (λ b. b && not (has_any (arguments_of f'.signature))) s.bodied ∙ ap (λ t. has_any f.blocks && not (has_any (arguments_of t))) s.signature

module _ (m m' : Module) (functions : HasFunctions m m') where
  starts : (e : FuncId) → MayStartAt m e → MayStartAt m' e
  starts e s =
      let z = functions.function e s.f s.is in
      record { f = z.0; is = z.1; may = start_same s.f z.0 (functions.stands e s.f z.0 s.is z.1) ∙ s.may }

  started : (e : FuncId) → MayStartAt m' e → MayStartAt m e
  started e s =
      let z = functions.back e s.f s.is in
      record { f = z.0; is = z.1; may = sym (start_same z.0 s.f (functions.stands e z.0 s.f z.1 s.is)) ∙ s.may }

pub run_as_they_did : RunAsTheyDid
run_as_they_did m m' First Second Like Alone first second functions parts = record {
  starts = starts m m' functions;
  started = started m m' functions;
  agree = λ e bound may.
      let other : MayStartAt m' e = starts m m' functions e may in
      frames_in_lockstep m m' (facts_of m) (facts_of m') bound (First bound) (Second bound) Like Alone (first.kept bound) (second.kept bound) (parts bound) e may.f
      other.f may.is other.is (first.begin bound e may.f may.is may.may) (second.begin bound e other.f other.is other.may);
}
