-- Calls of typed frames: what they hand over is right but for parts, of which places tell.
use Rattle.std.proofs.Common.{◌≡◌, ◌⊎◌, inl, inr, ℕ, suc, List, [], ◌∷◌, ◌++◌, length, map, drop, refl, sym, ap, ◌∙◌, subst, true, Option, Some, None, Ok}
use Rattle.std.specs.Prelude.{slice_get, unwrap_or}
use Rattle.std.specs.List.{AllByRecursion, AllZip, list_all}
use Rattle.std.proofs.lemmas.Bool.{and_parts, false≢true, or_cases, true≢false}
use Rattle.std.proofs.lemmas.List.{length-map}
use Rattle.std.proofs.lemmas.Option.{same_Some}
use Rattle.argument_conventions.specs.declared.row.AddressRow.{AddressRow}
use Rattle.argument_conventions.specs.declared.row.Content.TheVariants as content
use Rattle.numbered_form.specs.Lists.{Each}
use Rattle.sil_cfg_items.specs.Items.{item_defined, item_taken}
use Rattle.sil_cfg_items.specs.Parts.{inst_at}
use Rattle.sil_cfg_items.specs.declared.taken.Taken.{Taken}
use Rattle.ownership_kinds_chains.specs.declared.ownership_chains.facts.Facts.{Facts}
use Rattle.holder_model_values.specs.RunValues.Cells.{Cell, Empty, Gone, Keeps}
use Rattle.holder_model_values.specs.RunValues.Memory.{Memory}
use Rattle.holder_model_values.specs.RunValues.Places.{Place, cells_at, is_empty_at, is_empty_cell, is_there, is_there_at}
use Rattle.holder_model_values.specs.RunValues.Shapes.{Shape, Shapes, Integer, Reference, Struct, Tuple, Enum, Stored, Unknown, NoMember, Member, each_by_layers, listed, storage_in}
use Rattle.holder_model_values.specs.RunValues.Trivial.{is_trivial, itself, trivial_layer}
use Rattle.sil_ast.specs.declared.decl.Storage.TheVariants as storage
use Rattle.sil_ast.specs.declared.function.Function.{Function}
use Rattle.sil_ast.specs.declared.inst.Inst.{Inst}
use Rattle.sil_ast.specs.declared.module.Module.{Module}
use Rattle.sil_ast.specs.declared.place.FuncId.{FuncId}
use Rattle.sil_ast.specs.declared.place.PointId.{PointId}
use Rattle.sil_ast.specs.declared.place.ValueId.{ValueId}
use Rattle.sil_cfg.specs.declared.item.Item.TheVariants as item
use Rattle.sil_types_declarations.specs.TypeDefinitions.Declarations.{declarations_of}
use Rattle.holder_model_values.proofs.ValueParts.Inductions.{InParts, by_parts}
use Rattle.sil_verifier_runs.specs.sil_verifier_values.inner.Known.{IsAcceptedBody}
use Rattle.ownership_lowering_laws.specs.holder_model_typing.OwnedRunTyping.inner.OwnedTyped.{OwnedFunction, OwnedInst}
use Rattle.sil_verifier_runs.specs.holder_model.RunTyping.EndForms.{value_in}
use Rattle.sil_verifier_runs.specs.holder_model.RunTyping.Forms.{Form, entry_forms, form_of, forms_of}
use Rattle.sil_verifier_runs.specs.holder_model.Calling.{are_as_before, is_as_before, lent_places, lent_with}
use Rattle.sil_verifier_runs.specs.holder_model.Data.{Datum, as_place}
use Rattle.sil_verifier_runs.specs.holder_model.Effects as effects
use Rattle.sil_verifier_runs.specs.holder_model.Effects.{Effect}
use Rattle.sil_verifier_runs.specs.holder_model.Faults.{HolderFault}
use Rattle.sil_verifier_runs.specs.holder_model.Frames.{Frame, LentPlace, Operands, has_any, operands_of}
use Rattle.sil_verifier_runs.specs.holder_model.HolderStates.{HolderState}
use Rattle.sil_verifier_runs.specs.holder_model.MemoryEffects.{holds}
use Rattle.sil_verifier_runs.specs.holder_model.ModuleFacts.{facts_of, facts_told}
use Rattle.sil_verifier_runs.specs.holder_model.ModuleShapes.{shapes_in, shapes_of}
use Rattle.sil_verifier_runs.specs.holder_model.Standing.{stands_at}
use Rattle.sil_verifier_runs.specs.holder_model.Steps as holder_run
use Rattle.sil_verifier_runs.specs.holder_model.LoweredRun.LowStepParts.{values_taken}
use Rattle.sil_verifier_runs.specs.sil_verifier_frames.inner.Typed.TypedStates.{EntriesAre, FrameIs}
use Rattle.ownership_lowering_laws.specs.holder_model_typing.TypedMemory.inner.Worlds.{CellIs, DatumIs, IsWorldOf, MemoryIs, PlaceIs, World, cell_shapes, each_cell_shapes}
use Rattle.ownership_lowering_laws.proofs.holder_model_typing.TypedMemory.Homes.{PlaceCells, place_cells}
use Rattle.sil_verifier_runs.proofs.sil_verifier_frames.Typed.Data.{DataAre}
use Rattle.sil_verifier_runs.proofs.sil_verifier_frames.Typed.Effects.{EffectFits}
use Rattle.sil_verifier_runs.proofs.sil_verifier_frames.Typed.Entries.{FitEach, fit_data, operands_fit}
use Rattle.sil_verifier_runs.proofs.sil_verifier_frames.Typed.GoesOn.{accepted_body, typed_module}
use Rattle.sil_verifier_runs.proofs.sil_verifier_frames.Typed.RowForms.{row_fits}
use Rattle.sil_verifier_runs.proofs.sil_verifier_frames.Typed.ShapesTold.{result_told}
use Rattle.ownership_lowering_runs.specs.StoredRuns.inner.CallsAlong.{HandsRight, MayBeHandedOver, lent_in}
use Rattle.ownership_lowering_runs.specs.StoredRuns.inner.Entering.{IsAddressFor, IsFullPart}
use Rattle.ownership_lowering_runs.specs.StoredRuns.inner.Memories.{MayBeTaken}
use Rattle.ownership_lowering_runs.specs.StoredRuns.inner.TypedCalls.{AreCallsRight}
use Rattle.ownership_lowering_runs.proofs.StoredRuns.Lowered.LoweredSo.{are_lowered_so}

-- ---- cells of trivial shapes are no storage

abbrev pub IsStrong : Shape → Type 0
IsStrong u = storage_in u ≡ None

pub each_both : {A : Type 0} (P : A → Type 0) (xs ys : List A) → Each P xs → Each P ys → Each P (xs ++ ys)
each_both P [] ys h k = k
each_both P (x ∷ xs) ys h k = (h.0, each_both P xs ys h.1 k)

abbrev AreStrong : Shape → Type 0
AreStrong s = is_trivial s ≡ true → Each IsStrong (cell_shapes s)

each_strong : (ss : Shapes) → AllByRecursion AreStrong (listed ss) → list_all itself (each_by_layers trivial_layer ss) ≡ true → Each IsStrong (each_cell_shapes ss)
each_strong NoMember hs t = tt
each_strong (Member s ss) hs t =
    let parts = and_parts (is_trivial s) (list_all itself (each_by_layers trivial_layer ss)) t in
    each_both IsStrong (cell_shapes s) (each_cell_shapes ss) (hs.0 parts.0) (each_strong ss hs.1 parts.1)

shape_strong : (s : Shape) → InParts AreStrong s → AreStrong s
shape_strong (Integer width) hs t = (refl, tt)
shape_strong (Reference class) hs t = absurd (false≢true t)
shape_strong (Struct name NoMember) hs t = (refl, tt)
shape_strong (Struct name (Member s ss)) hs t = each_strong (Member s ss) hs t
shape_strong (Tuple NoMember) hs t = (refl, tt)
shape_strong (Tuple (Member s ss)) hs t = each_strong (Member s ss) hs t
shape_strong (Enum name cases) hs t = (refl, tt)
shape_strong (Stored s inner) hs t = absurd (false≢true t)
shape_strong Unknown hs t = (refl, tt)

pub trivial_strong : (s : Shape) → AreStrong s
trivial_strong = by_parts AreStrong shape_strong

-- ---- places that are handed over to be filled

pub empty_taken : (cells : List Cell) → list_all is_empty_cell cells ≡ true → Each MayBeTaken cells
empty_taken [] e = tt
empty_taken (c ∷ cells) e = let parts = and_parts (is_empty_cell c) (list_all is_empty_cell cells) e in (one c parts.0, empty_taken cells parts.1)
  where
    one : (c : Cell) → is_empty_cell c ≡ true → MayBeTaken c
    one Gone h = absurd (false≢true h)
    one Empty h = MayBeTaken.empty
    one (Keeps s x) h = absurd (false≢true h)

module _ (m : Module) (w : World) where
  one_taken : (u : Shape) (c : Cell) → CellIs m w u c → IsStrong u → is_there c ≡ true → MayBeTaken c
  one_taken u _ CellIs.gone strong e = absurd (false≢true e)
  one_taken u _ CellIs.empty strong e = MayBeTaken.empty
  one_taken u _ (CellIs.keeps x suits) strong e = subst (λ o. MayBeTaken (Keeps (unwrap_or o storage.Strong) x)) (sym strong) (MayBeTaken.keeps x)

  pub strong_taken : (us : List Shape) (cells : List Cell) → AllZip (CellIs m w) us cells → Each IsStrong us → list_all is_there cells ≡ true → Each MayBeTaken cells
  strong_taken [] [] h strong e = tt
  strong_taken [] (c ∷ cells) h strong e = absurd h
  strong_taken (u ∷ us) [] h strong e = absurd h
  strong_taken (u ∷ us) (c ∷ cells) h strong e =
      let parts = and_parts (is_there c) (list_all is_there cells) e in (one_taken u c h.0 strong.0 parts.0, strong_taken us cells h.1 strong.1 parts.1)

  module _ (memory : Memory) (typed : MemoryIs m w memory) where
    place_may : (p : Place) → PlaceIs m w p → is_there_at memory p ≡ true → holds memory content.Empty p ≡ true → Each MayBeTaken (cells_at memory p)
    place_may p at there empty = by (or_cases (is_trivial p.shape) (is_empty_at memory p) empty)
      where
        of_cells : PlaceCells m w p.shape (cells_at memory p) → is_trivial p.shape ≡ true → Each MayBeTaken (cells_at memory p)
        of_cells (inl cells) t = strong_taken (cell_shapes p.shape) (cells_at memory p) cells (trivial_strong p.shape t) there
        of_cells (inr none) t = subst (Each MayBeTaken) (sym none) tt

        by : (is_trivial p.shape ≡ true) ⊎ (is_empty_at memory p ≡ true) → Each MayBeTaken (cells_at memory p)
        by (inl t) = of_cells (place_cells m w memory typed p at) t
        by (inr e) = empty_taken (cells_at memory p) e

    abbrev MayLend : LentPlace → Type 0
    MayLend x = is_as_before memory x ≡ true → MayBeHandedOver memory x

    one_lent : (row : Option AddressRow) (form : Form) (x : Datum) → DatumIs m w form x → Each MayLend (lent_with row (as_place x))
    one_lent None form x is = tt
    one_lent (Some row) _ _ (DatumIs.value s x suits) = tt
    one_lent (Some row) _ _ (DatumIs.function g) = tt
    one_lent (Some row) _ _ (DatumIs.place p at) = (
      λ before asked.
          let parts = and_parts (is_there_at memory p) (holds memory row.before p) before in
          place_may p at parts.0 (ap (λ c. holds memory c p) (sym asked) ∙ parts.1),
      tt,
    )

    all_lent : (ts : List Taken) {forms : List Form} {xs : List Datum} → DataAre m w forms xs → Each MayLend (lent_places ts xs)
    all_lent [] typed_as = tt
    all_lent (t ∷ ts) DataAre.none = tt
    all_lent (t ∷ ts) (DataAre.more form x forms xs is rest) =
        each_both MayLend (lent_with t.handed (as_place x)) (lent_places ts xs) (one_lent t.handed form x is) (all_lent ts rest)

    all_before : (xs : List LentPlace) → Each MayLend xs → are_as_before memory xs ≡ true → Each (MayBeHandedOver memory) xs
    all_before [] h e = tt
    all_before (x ∷ xs) h e = let parts = and_parts (is_as_before memory x) (are_as_before memory xs) e in (h.0 parts.0, all_before xs h.1 parts.1)

  as_long : {forms : List Form} {xs : List Datum} → DataAre m w forms xs → length xs ≡ length forms
  as_long DataAre.none = refl
  as_long (DataAre.more form x forms xs is rest) = ap suc (as_long rest)

-- arguments that are addresses are so by their types
module _ (m : Module) (w : World) (f : Function) where
  one_address : (v : ValueId) (form : Form) (x : Datum) → form ≡ form_of (declarations_of m) f v → DatumIs m w form x → IsAddressFor (declarations_of m) f v x
  one_address v _ _ e (DatumIs.value s x suits) = λ p is. absurd (cc)
  one_address v _ _ e (DatumIs.function g) = λ p is. absurd (cc)
  one_address v _ _ e (DatumIs.place q at) = λ p is. (q.shape, sym e)

  all_addresses : (vs : List ValueId) {forms : List Form} {xs : List Datum} → forms ≡ map (form_of (declarations_of m) f) vs → DataAre m w forms xs
      → AllZip (IsAddressFor (declarations_of m) f) vs xs
  all_addresses [] e DataAre.none = tt
  all_addresses [] e (DataAre.more form x forms xs is rest) = absurd (cc)
  all_addresses (v ∷ vs) e DataAre.none = absurd (cc)
  all_addresses (v ∷ vs) e (DataAre.more form x forms xs is rest) =
      let head : form ≡ form_of (declarations_of m) f v = cc in
      let tail : forms ≡ map (form_of (declarations_of m) f) vs = cc in
      (one_address v form x head is, all_addresses vs tail rest)

module _ (m : Module) (bound : ℕ) (s : HolderState) (w : World) (frame : Frame) (f : Function) (i : Inst) (ops : Operands)
    (a : IsAcceptedBody m frame.function.0 f) (of : IsWorldOf m w) (memory : MemoryIs m w s.memory) (is : FrameIs m w f frame)
    (here : inst_at f (stands_at f frame.trail) ≡ Some i)
    (found : operands_of (facts_told (facts_of m) frame.function) s.memory frame.entries (item_taken f (item.Inst (stands_at f frame.trail))) ≡ Ok ops) where
  abbrev p : PointId
  p = stands_at f frame.trail

  abbrev facts : ValueId → Option Facts
  facts v = facts_told (facts_of m) frame.function v

  typed : OwnedFunction m f
  typed = (typed_module m a.verified).functions frame.function.0 f is.is

  inst : OwnedInst m f p i
  inst = typed.insts p i here

  read : FitEach m w f (values_taken f (item.Inst p)) ops.given × EntriesAre m w f ops.left
  read = operands_fit m w f facts s.memory (item_taken f (item.Inst p)) frame.entries ops is.entries (typed.items (item.Inst p)).taken found

  taken : FitEach m w f (map value_in i.operands) ops.given
  taken = subst (λ vs. FitEach m w f vs ops.given) inst.takes read.0

  fits : EffectFits m w i.op ops.given (forms_of (declarations_of m) f i.results) (holder_run.effect_in m (facts_of m) bound s frame i ops.given)
  fits =
      row_fits (record { w = w; of = of; memory = s.memory; typed = memory; values = shapes_in (shapes_of m) frame.function; i = i }) (typed_module m a.verified).classes inst.row
      (fit_data m w f taken) (result_told m frame.function f is.is s.memory i)

  module _ (g : FuncId) (callee : Function) (args : List Datum) (there : slice_get m.functions g.0 ≡ Some callee) (bodied : has_any callee.blocks ≡ true)
      (before : are_as_before s.memory (lent_in f frame args) ≡ true) (full : AllZip (IsAddressFor (declarations_of m) callee) (item_defined callee item.Entry) args
      → are_as_before s.memory (lent_in f frame args) ≡ true
      → Each (IsFullPart s.memory) args) where
    right : (forms : List Form) (e : Effect HolderFault) → EffectFits m w i.op ops.given forms e → e ≡ effects.Calls g args → HandsRight m s frame f g callee args
    right forms _ (EffectFits.calls h xs other called body typed_as form owned) same =
        let args_are : xs ≡ args = cc in
        let g_is : h ≡ g = cc in
        let one : other ≡ callee = same_Some other callee (sym called ∙ ap (λ (k : FuncId). slice_get m.functions k.0) g_is ∙ there) in
        let typed_args : DataAre m w (entry_forms (declarations_of m) other) args = subst (λ zs. DataAre m w (entry_forms (declarations_of m) other) zs) args_are typed_as in
        let addresses : AllZip (IsAddressFor (declarations_of m) callee) (item_defined callee item.Entry) args =
        subst (λ (c : Function). AllZip (IsAddressFor (declarations_of m) c) (item_defined c item.Entry) args) one
        (all_addresses m w other (item_defined other item.Entry) refl typed_args) in
        record {
          lowers = are_lowered_so m g callee (accepted_body m a.verified g callee there bodied);
          as_many = as_long m w typed_args ∙ length-map (item_defined other item.Entry) (form_of (declarations_of m) other)
              ∙ ap (λ (c : Function). length (item_defined c item.Entry)) one;
          full = full addresses before;
          addresses = addresses;
          taken = all_before m w s.memory memory (lent_in f frame args) (all_lent m w s.memory memory (drop 1 (item_taken f (item.Inst p))) typed_args) before;
        }
    right forms _ (EffectFits.calls_out h xs other ns called bodiless numbers form) same =
        let g_is : h ≡ g = cc in
        let one : other ≡ callee = same_Some other callee (sym called ∙ ap (λ (k : FuncId). slice_get m.functions k.0) g_is ∙ there) in
        absurd (true≢false (sym bodied ∙ ap (λ (c : Function). has_any c.blocks) (sym one) ∙ bodiless))
    right forms _ (EffectFits.makes c changed keeps) same = absurd (cc)
    right forms _ (EffectFits.traps t) same = absurd (cc)
    right forms _ (EffectFits.faults x other) same = absurd (cc)

pub are_calls_right : AreCallsRight
are_calls_right m bound s w frame f i ops a of memory is here found full g callee args calls there bodied before =
    right m bound s w frame f i ops a of memory is here found g callee args there bodied before (full g callee args calls there bodied) (forms_of (declarations_of m) f i.results)
    (holder_run.effect_in m (facts_of m) bound s frame i ops.given) (fits m bound s w frame f i ops a of memory is here found) calls
