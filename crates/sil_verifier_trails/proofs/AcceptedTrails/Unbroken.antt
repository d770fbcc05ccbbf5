-- In a function of an accepted module no walk shows a value that isn't defined, or the life or scope of one broken.
use Rattle.std.proofs.Common.{refl, length, None}
use Rattle.sil_ast.specs.declared.function.Function.{Function}
use Rattle.sil_ast.specs.declared.place.ValueId.{ValueId}
use Rattle.sil_verifier_values.specs.reach_engine_marks.PathChecks.Entries.{marks_for}
use Rattle.sil_verifier_values.specs.ownership_kinds_origins.Facts.{facts_in}
use Rattle.sil_verifier_values.specs.borrow_scopes.Others.{other_of}
use Rattle.sil_verifier_values.specs.value_availability.Accesses.{accesses_of}
use Rattle.sil_verifier_values.specs.sil_types_declarations.TypeDefinitions.Declarations.{Declarations}
use Rattle.sil_verifier_values.proofs.sil_verifier_accepted.TypedGraphLaws.Functions.{graphs_by_blocks}
use Rattle.sil_verifier_values.specs.sil_verifier_accepted.AcceptedModules.Shown.{lives_in, scopes_in}
use Rattle.sil_verifier_values.specs.sil_verifier_accepted.AcceptedModules.Shown.IsShownIn.{life, scope, undefined}
use Rattle.sil_verifier_values.specs.sil_verifier_accepted.AcceptedModules.Values.{IsCleanIn}
use Rattle.sil_verifier_trails.specs.RunTrails.inner.Switched.{IsUnbroken}
use Rattle.sil_verifier_trails.proofs.RunTrails.RunPaths.{are_entered_once}
use Rattle.sil_verifier_trails.specs.AcceptedTrails.inner.Accepted.{AreAccepted}

module _ (d : Declarations) (f : Function) (clean : IsCleanIn d f) (v : ValueId) where
  pub values_unbroken : IsUnbroken f (marks_for v.0 (accesses_of f))
  values_unbroken rule walk point item h =
      clean (record { rule = rule; subject = v; other = None; point = point; walk = walk }) (undefined refl (record { item = item; at = h }))

  pub lives_unbroken : IsUnbroken f (marks_for v.0 (lives_in d f))
  lives_unbroken rule walk point item h =
      clean (record { rule = rule; subject = v; other = None; point = point; walk = walk }) (life refl (record { item = item; at = h }))

  pub scopes_unbroken : IsUnbroken f (marks_for v.0 (scopes_in d f))
  scopes_unbroken rule walk point item h =
      clean (record { rule = rule; subject = v; other = other_of rule (facts_in d f) f v item; point = point; walk = walk }) (scope item refl h)

pub are_accepted : AreAccepted
are_accepted m n f verified body = record {
  clean = λ s shown. verified.accepted.values (record { function = n; showing = s }) (record { within = f; is_body = body; shown = shown });
  once = are_entered_once (length m.functions) f (graphs_by_blocks m n f verified.numbered verified.accepted.types.typed body.there body.body);
}
