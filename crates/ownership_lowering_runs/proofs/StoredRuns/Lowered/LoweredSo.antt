-- Each function with a body of an accepted module is lowered as the run of the lowered module asks.
use Rattle.std.proofs.Common.{◌≡◌, ℕ, zero, suc, List, [], ◌∷◌, length, map, refl, sym, ap, ◌∙◌, subst, arith, true, false, cond, Some, None}
use Rattle.std.specs.Prelude.{◌==◌, slice_get, unwrap_or}
use Rattle.std.proofs.lemmas.Bool.{eqb-true}
use Rattle.numbered_form.specs.Lists.{Each}
use Rattle.sil_cfg_items.specs.Items.{item_defined, item_taken}
use Rattle.sil_cfg_items.specs.Parts.{inst_at}
use Rattle.sil_cfg_items.specs.declared.taken.Taken.{Taken}
use Rattle.sil_ast.specs.declared.function.Function.{Function}
use Rattle.sil_ast.specs.declared.inst.Inst.{Inst}
use Rattle.sil_ast.specs.declared.module.Module.{Module}
use Rattle.sil_ast.specs.declared.operands.Operand.{Operand}
use Rattle.sil_ast.specs.declared.place.FuncId.{FuncId}
use Rattle.sil_ast.specs.declared.place.PointId.{PointId}
use Rattle.sil_ast.specs.declared.place.ValueId.{ValueId}
use Rattle.sil_cfg.specs.declared.item.Item.{Item}
use Rattle.sil_cfg.specs.declared.item.Item.TheVariants as items
use Rattle.sil_types_declarations.specs.TypeDefinitions.Declarations.{Declarations, declarations_of}
use Rattle.numbered_form.specs.ValueTables.FirstValue.{value_of}
use Rattle.holder_model_values.specs.RunValues.Shapes.{Unknown}
use Rattle.sil_verifier_runs.specs.holder_model.ModuleShapes.{function_shapes, shape_at, shapes_in, shapes_of, value_shape}
use Rattle.ownership_lowering_laws.specs.LoweringLaws.inner.Lowerable.{HasNoRings, IsLowerable}
use Rattle.sil_verifier_runs.specs.ownership_kinds_origins.Renamings.{renames, renamings_of}
use Rattle.sil_types.specs.Typing.Values.{type_at, value_types}
use Rattle.ownership_lowering_laws.specs.ownership_lowering_model.LoweredModules.{lowered, lowered_body, lowered_by, lowered_function}
use Rattle.ownership_lowering_laws.specs.ownership_lowering_model.Names.{renamed_from}
use Rattle.ownership_lowering_laws.proofs.LoweringLaws.Ends.{stands_itself}
use Rattle.ownership_lowering_laws.proofs.LoweringLaws.Known.{names_in}
use Rattle.numbered_form.proofs.Lists.{each_both, each_weaker}
use Rattle.ownership_lowering_laws.proofs.LoweringLaws.Lowerable.{functions_are_lowerable}
use Rattle.ownership_lowering_laws.proofs.LoweringLaws.Rings.{kinds_have_no_rings}
use Rattle.ownership_lowering_laws.proofs.LoweredNumberingLaws.Types.{declares_the_same}
use Rattle.ownership_lowering_laws.proofs.LoweredTypingLaws.Fields.{members_once}
use Rattle.ownership_lowering_laws.proofs.LoweredTypingLaws.Sound.{SoundFunction, Source, sound_function}
use Rattle.ownership_lowering_laws.proofs.LoweredTypingLaws.Tables.{type_kept}
use Rattle.sil_verifier_runs.specs.sil_verifier_trails.AcceptedTrails.inner.Defined.{makes}
use Rattle.sil_verifier_runs.proofs.sil_verifier_trails.AcceptedTrails.Tests.{picked, same_value}
use Rattle.sil_verifier_runs.proofs.sil_verifier_trails.AcceptedPremises.MadeAtStops.{makes_so}
use Rattle.sil_verifier_runs.specs.sil_verifier_values.inner.Known.{IsAcceptedBody}
use Rattle.sil_verifier_runs.specs.holder_model.RunTyping.CallForms.{IsOf}
use Rattle.sil_verifier_runs.proofs.sil_verifier_values.Accepted.{counted, has_kinds, in_ownership_form, typed}
use Rattle.sil_verifier_runs.proofs.sil_verifier_values.Made.{items_of, parameters_of_entry}
use Rattle.ownership_lowering_laws.proofs.holder_model_typing.RunTypingLaws.ItemFacts.{values_counted}
use Rattle.ownership_lowering_runs.specs.StoredRuns.inner.Lowering.{IsOtherName, IsOwnName, IsTakenOld, LowersSo}
use Rattle.ownership_lowering_runs.specs.StoredRuns.inner.LoweredSo.{AreLoweredSo}
use Rattle.ownership_lowering_runs.specs.StoredRuns.inner.Names.{AreNamed, IsOld, lowered_number}
use Rattle.ownership_lowering_runs.proofs.StoredRuns.Lowered.LoweredCode.{mapped_at}
use Rattle.ownership_lowering_runs.proofs.StoredRuns.Lowered.LoweredEdges.{edge_lowered, entry_defined, entry_own, one_chosen}
use Rattle.ownership_lowering_runs.proofs.StoredRuns.Lowered.LoweredNames.{are_named, own_name, same_end}
use Rattle.ownership_lowering_runs.proofs.StoredRuns.AllCurrent.{all_current}
use Rattle.ownership_lowering_runs.proofs.StoredRuns.Reading.{defines_there}
use Rattle.ownership_lowering_runs.proofs.StoredRuns.RenamingRows.{IsNamedBy, results_named}

-- a column of a table has what the row has there
in_column : {A B : Type 0} (g : A → B) (x : A) (rows : List A) (n : ℕ) → unwrap_or (slice_get (map g rows) n) (g x) ≡ g (unwrap_or (slice_get rows n) x)
in_column g x [] zero = refl
in_column g x [] (suc n) = refl
in_column g x (y ∷ rows) zero = refl
in_column g x (y ∷ rows) (suc n) = in_column g x rows n

module _ (m : Module) (g : FuncId) (f : Function) (a : IsAcceptedBody m g.0 f) where
  abbrev d : Declarations
  d = declarations_of m

  rings : HasNoRings m
  rings = kinds_have_no_rings m a.verified.numbered (λ n h there body. has_kinds m n h (record { verified = a.verified; body = record { there = there; body = body } }))

  pub lowerable : IsLowerable (length m.functions) d f
  lowerable = functions_are_lowerable m g.0 f a.verified.numbered a.verified.accepted.types.typed rings a.body.there

  all_named : AreNamed d f
  all_named = are_named (length m.functions) d f lowerable

  old_of : (v : ValueId) → IsOf f v → IsOld f v
  old_of v lt = let count = values_counted f in let below : IsOf f v = lt in omega (arith, count, below)

  old_defined : (i : Item) → Each (IsOld f) (item_defined f i)
  old_defined i = each_weaker (IsOf f) (IsOld f) old_of (item_defined f i) (items_of m g.0 f a i).defined

  taken_old : (ts : List Taken) → Each (IsOf f) (map (λ (t : Taken). t.value) ts) → Each (IsTakenOld f) ts
  taken_old [] h = tt
  taken_old (t ∷ ts) h = (old_of t.value h.0, taken_old ts h.1)

  results_old : (p : PointId) (i : Inst) → inst_at f p ≡ Some i → Each (IsOld f) i.results
  results_old p i e = subst (Each (IsOld f)) (defines_there f p i e) (old_defined (items.Inst p))

  module _ (p : PointId) (i : Inst) (e : inst_at f p ≡ Some i) where
    named_by : Each (IsNamedBy f (counted m g.0 f a) (names_in i)) i.results
    named_by = results_named f (counted m g.0 f a) p.block.0 p.index i ((typed m g.0 f a).inside p i e).1

    own_results : renames i.op ≡ false → Each (IsOwnName f) i.results
    own_results keeps =
        each_both (IsOld f) (IsNamedBy f (counted m g.0 f a) (names_in i)) (IsOwnName f)
        (λ v old is. (old, stands_itself (renamings_of f) v (is ∙ ap (λ b. slice_get (cond b (map value_of i.operands) []) 0) keeps))) i.results
        (results_old p i e) named_by

    other_results : (o : Operand) → renames i.op ≡ true → i.operands ≡ o ∷ [] → Each (IsOtherName d f o.value) i.results
    other_results o names one =
        each_both (IsOld f) (IsNamedBy f (counted m g.0 f a) (names_in i)) (IsOtherName d f o.value) other i.results (results_old p i e) named_by
      where
        other : (v : ValueId) → IsOld f v → renamed_from (renamings_of f) v ≡ slice_get (names_in i) 0 → IsOtherName d f o.value v
        other v old is =
            let name : renamed_from (renamings_of f) v ≡ Some o.value =
            is ∙ ap (λ b. slice_get (cond b (map value_of i.operands) []) 0) names ∙ ap (λ os. slice_get (map value_of os) 0) one in (
              old,
              all_named.through v ∙ ap (lowered_number d f) (same_end (renamings_of f) v o.value name (own_name (length m.functions) d f lowerable v old))
                  ∙ sym (all_named.through o.value),
            )

  abbrev source_sound : SoundFunction m f
  source_sound = sound_function m a.verified.numbered a.verified.accepted.types.typed g.0 f a.body.there

  given_own : (v : ValueId) → makes f v items.Entry ≡ true → IsOwnName f v
  given_own v made =
      let x = picked (λ (u : ValueId). u.0 == v.0) (IsOwnName f) (item_defined f items.Entry) (entry_own m g.0 f a source_sound all_named old_defined) made in
      subst (IsOwnName f) (same_value x.0 v (eqb-true x.0.0 v.0 x.1)) x.2

  source : Source m f
  source = record {
    owned = in_ownership_form m g.0 f a;
    sound = source_sound;
    lowerable = lowerable;
    once = members_once m a.verified.numbered;
  }

  -- the shape of a value is told by its type
  shape_by : (m' : Module) (h : Function) → declarations_of m' ≡ d → slice_get m'.functions g.0 ≡ Some h → (v : ValueId)
      → shape_at (shapes_in (shapes_of m') g) v ≡ value_shape d (type_at (value_types d h) v.0)
  shape_by m' h declared there v =
      ap (λ e. unwrap_or (slice_get (unwrap_or (slice_get (map (function_shapes e) m'.functions) g.0) []) v.0) Unknown) declared
      ∙ ap (λ o. unwrap_or (slice_get (unwrap_or o []) v.0) Unknown) (mapped_at (function_shapes d) m'.functions g.0 h there)
      ∙ in_column (value_shape d) None (value_types d h) v.0

  low_there : slice_get (lowered m).functions g.0 ≡ Some (lowered_body d f)
  low_there =
      mapped_at (lowered_function d) m.functions g.0 f a.body.there ∙ ap (λ x. Some (lowered_by x d f)) (in_ownership_form m g.0 f a)

  same_shapes : (v : ValueId) → IsOld f v
      → shape_at (shapes_in (shapes_of (lowered m)) g) (lowered_number d f v) ≡ shape_at (shapes_in (shapes_of m) g) v
  same_shapes v old =
      shape_by (lowered m) (lowered_body d f) (declares_the_same m) low_there (lowered_number d f v)
      ∙ ap (value_shape d) (type_kept m f source v old)
      ∙ sym (shape_by m f refl a.body.there v)

  pub lowers_so : LowersSo m g f
  lowers_so = record {
    form = in_ownership_form m g.0 f a;
    named = all_named;
    current = all_current m g.0 f a;
    taken = λ i is. taken_old (item_taken f i) (items_of m g.0 f a i).taken;
    results = λ p i e keeps. own_results p i e keeps;
    renamed = λ p i o e names one. other_results p i e o names one;
    given = given_own;
    entry = entry_defined m g.0 f a source_sound all_named old_defined;
    edges = λ e y is. edge_lowered m g.0 f a source_sound all_named old_defined e y is;
    chosen = one_chosen m g.0 f a;
    given_once = λ v i made also. parameters_of_entry m g.0 f a i v (makes_so f v items.Entry made) (makes_so f v i also);
    shapes = same_shapes;
  }

pub are_lowered_so : AreLoweredSo
are_lowered_so m g f a = lowers_so m g f a
