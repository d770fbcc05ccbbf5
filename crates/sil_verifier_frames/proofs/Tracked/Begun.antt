-- A run begins in a tracked state: its one frame has no entries, and its function no arguments.
use Rattle.std.proofs.Common.{◌≡◌, List, [], ◌∷◌, map, refl, ap, false, Ok}
use Rattle.std.specs.Prelude.{not}
use Rattle.std.specs.List.{AllZip}
use Rattle.std.proofs.lemmas.Bool.{and_parts, not-true, true≢false}
use Rattle.argument_conventions.specs.Arguments.{arguments_of}
use Rattle.sil_cfg_items.specs.Items.{arg_value, item_defined}
use Rattle.sil_ast.specs.Blocks.{args_of}
use Rattle.sil_cfg.specs.declared.item.Item.TheVariants as item
use Rattle.sil_types_declarations.specs.TypeDefinitions.Declarations.{declarations_of}
use Rattle.sil_verifier_trails.specs.sil_verifier_values.inner.Handed.{IsToldOf}
use Rattle.sil_verifier_trails.proofs.sil_verifier_values.Parameters.{entry_told}
use Rattle.holder_model_laws.specs.holder_model.Calling.{value_count}
use Rattle.holder_model_laws.specs.holder_model.Frames.{has_any, no_entries, results_put}
use Rattle.holder_model_laws.specs.holder_model.StepParts.{new_frame}
use Rattle.holder_model_laws.specs.ownership_kinds_origins.Facts.{facts_in}
use Rattle.sil_verifier_frames.specs.inner.Tracked.Laws.{BeginTracked}
use Rattle.sil_verifier_frames.specs.inner.Tracked.TrackedStates.{GoesAlong}
use Rattle.sil_verifier_frames.proofs.Tracked.Entering.{entered, entry_turned}
use Rattle.sil_verifier_frames.proofs.Tracked.HowValuesEnd.{accepted_body}
use Rattle.sil_verifier_frames.proofs.Tracked.ResultsPut.{others_on, tracked_on}
use Rattle.sil_verifier_frames.proofs.Tracked.TrackedSteps.{in_function}

none_of_none : {A B : Type 0} (R : A → B → Type 0) (xs : List A) (ys : List B) → AllZip R xs ys → has_any xs ≡ false → ys ≡ []
none_of_none R [] [] h e = refl
none_of_none R [] (y ∷ ys) h e = absurd h
none_of_none R (x ∷ xs) ys h e = absurd (true≢false e)

pub begin_tracked : BeginTracked
begin_tracked m e f verified there may =
    let both = and_parts (has_any f.blocks) (not (has_any (arguments_of f.signature))) may in
    let a = accepted_body m e.0 f verified there both.0 in
    let none : args_of f 0 ≡ [] =
    none_of_none (IsToldOf (declarations_of m) f) (arguments_of f.signature) (args_of f 0) (entry_told m e.0 f a) (not-true (has_any (arguments_of f.signature)) both.1) in
    let put : results_put (facts_in (declarations_of m) f) (item_defined f item.Entry) [] (no_entries (value_count f)) ≡ Ok (no_entries (value_count f)) =
    ap (λ xs. results_put (facts_in (declarations_of m) f) (map arg_value xs) [] (no_entries (value_count f))) none in
    let turned = entry_turned m e.0 f a in
    let are = entered (declarations_of m) f in (
      in_function m GoesAlong (new_frame e (no_entries (value_count f))) f there (record {
        tracked = tracked_on m e.0 f a [] item.Entry turned (no_entries (value_count f)) are [] (no_entries (value_count f)) put;
        others = others_on m e.0 f a [] item.Entry turned (no_entries (value_count f)) are [] (no_entries (value_count f)) put;
      }),
      tt,
    )
