-- What a call hands over: its operands are as the signature of the callee says, and name the places that they hand over.
use Rattle.std.proofs.Common.{◌≡◌, ◌++◌, append-nil, ℕ, List, [], ◌∷◌, length, map, refl, sym, ap, ap₂, ◌∙◌, subst, Option, Some, None}
use Rattle.std.specs.Prelude.{drop, flat_map, slice_get}
use Rattle.std.specs.List.{AllZip}
use Rattle.std.proofs.lemmas.Option.{none-some, same_Some}
use Rattle.holder_model_laws.specs.holder_model.Calling.{lent_places}
use Rattle.holder_model_laws.specs.holder_model.Data.{AddressOf, Datum, FunctionOf, ValueOf, as_function}
use Rattle.holder_model_laws.specs.holder_model.Effects.{Calls, Effect, Unfit, calls, effect_by, effect_of, with_some}
use Rattle.holder_model_laws.specs.holder_model.Faults.{HolderFault}
use Rattle.holder_model_laws.specs.holder_model.Frames.{Entry, Operands}
use Rattle.holder_model_laws.specs.holder_model.MemoryEffects.{at_places}
use Rattle.holder_model_laws.specs.holder_model.ModuleShapes.{ModuleShapes}
use Rattle.holder_model_laws.specs.holder_model.declared.row_effect.RowEffect.TheVariants as row
use Rattle.holder_model_laws.specs.memory_rules_accesses.Operations.{access_kind_of, operated_at, operations_of}
use Rattle.holder_model_laws.specs.memory_rules_accesses.declared.columns.AccessKind.TheVariants as access
use Rattle.sil_verifier_trails.proofs.sil_verifier_values.Accepted.{well_typed}
use Rattle.sil_verifier_trails.proofs.sil_verifier_values.Calls.{calls_handed}
use Rattle.sil_verifier_trails.proofs.holder_model_typing.RunTypingLaws.CallFacts.{Called, called}
use Rattle.sil_verifier_trails.proofs.holder_model_typing.RunTypingLaws.Rows.Layers.{target-Address}
use Rattle.sil_verifier_trails.proofs.holder_model_typing.RunTypingLaws.Rows.Points.{is_at}
use Rattle.holder_model_laws.specs.sil_types.Typing.Shapes.{target}
use Rattle.holder_model_laws.specs.sil_types.Typing.Values.{function_at, value_functions}
use Rattle.sil_verifier_trails.specs.sil_verifier_values.inner.Handed.{IsHanded}
use Rattle.sil_verifier_trails.specs.sil_verifier_values.inner.Known.{IsAcceptedBody, type_in}
use Rattle.holder_model_laws.specs.holder_model.RunTyping.Forms.{Form, OfFunction, OfPlace, form_by, form_of, form_with}
use Rattle.holder_model_laws.specs.holder_model.LoweredRun.LowStepParts.{taken_value}
use Rattle.argument_conventions.specs.Arguments.{Told, arguments_of, conventions_of, handed_type}
use Rattle.argument_conventions.specs.Rows.{address_row}
use Rattle.argument_conventions.specs.declared.convention.ArgumentConvention.{ArgumentConvention}
use Rattle.argument_conventions.specs.declared.convention.ArgumentConvention.TheVariants as convention
use Rattle.argument_conventions.specs.declared.row.AddressRow.{AddressRow}
use Rattle.instruction_table.specs.Forms.{roles_of}
use Rattle.instruction_table.specs.declared.entries.Role.TheVariants as role
use Rattle.instruction_table.specs.declared.op.Op.{Op}
use Rattle.instruction_table.specs.declared.op.Op.TheVariants as op
use Rattle.sil_cfg_items.specs.Items.{item_taken, taken_in}
use Rattle.sil_cfg_items.specs.Parts.{inst_at}
use Rattle.sil_cfg_items.specs.Roles.{by_convention, by_row, conventions_by, conventions_in, roles_for, taken_as, taken_by, taken_each}
use Rattle.sil_cfg_items.specs.declared.taken.Taken.{Taken}
use Rattle.holder_model_laws.specs.ownership_kinds_chains.declared.ownership_chains.facts.Facts.{Facts}
use Rattle.numbered_form.specs.PointChecks.Points.{IsAt}
use Rattle.holder_model_values.specs.RunValues.Memory.{Memory}
use Rattle.holder_model_values.specs.RunValues.Places.{Place}
use Rattle.holder_model_values.specs.RunValues.Shapes.{Shape, shape_of}
use Rattle.sil_ast.specs.declared.function.Function.{Function}
use Rattle.sil_ast.specs.declared.inst.Inst.{Inst}
use Rattle.sil_ast.specs.declared.module.Module.{Module}
use Rattle.sil_ast.specs.declared.operands.Operand.{Operand}
use Rattle.sil_ast.specs.declared.place.FuncId.{FuncId}
use Rattle.sil_ast.specs.declared.place.PointId.{PointId}
use Rattle.sil_ast.specs.declared.place.ValueId.{ValueId}
use Rattle.sil_ast.specs.declared.type_name.TypeName.{TypeName}
use Rattle.sil_cfg.specs.declared.item.Item.TheVariants as item
use Rattle.sil_types_declarations.specs.TypeDefinitions.Declarations.{Declarations, declarations_of}
use Rattle.sil_verifier_frames.proofs.Typed.Data.{read_place}
use Rattle.sil_verifier_frames.proofs.Typed.Entries.{FitEach, operands_fit}
use Rattle.sil_verifier_frames.proofs.Typed.Entries as fit
use Rattle.sil_verifier_frames.proofs.Typed.GoesOn.{typed_module}
use Rattle.sil_verifier_trails.specs.holder_model_typing.TypedMemory.inner.Worlds.{DatumIs, World}
use Rattle.sil_verifier_frames.specs.inner.Placed.FramePlaces.{Names}
use Rattle.sil_verifier_frames.specs.inner.Placed.PlaceStates.{AreLentBy}
use Rattle.sil_verifier_frames.specs.inner.Placed.Premises.{AreCallsHandingOver, HandsOver, ReadsOperands}
use Rattle.sil_verifier_frames.specs.inner.Placed.TakenPlaces.{AreAlike, AreHandedAs, AreNamedBy, IsHandedAs}
use Rattle.sil_verifier_frames.proofs.Placed.Handing.{lent_each}
use Rattle.sil_verifier_frames.proofs.Placed.OperandsNamed.{operands_named}
use Rattle.sil_verifier_frames.proofs.Placed.RowCalls.{calls_by_row}

apply_row : (o : Op) → effect_of o ≡ row.CallsFunction → o ≡ op.Apply
apply_row op.Apply e = refl
apply_row _ e = absurd (cc)

-- ---- operands by the signature

abbrev convention_in : Told → ArgumentConvention
convention_in a = a.convention

abbrev by_told : List Told → List Operand → List Taken
by_told told os = taken_each os (map by_convention (map convention_in told))

alike_each : (d : Declarations) (f : Function) (told : List Told) (os : List Operand) → AllZip (IsHanded d f) told os → AreAlike told (by_told told os)
alike_each d f [] [] h = tt
alike_each d f [] (o ∷ os) h = absurd h
alike_each d f (a ∷ told) [] h = absurd h
alike_each d f (a ∷ told) (o ∷ os) h = (refl, alike_each d f told os h.1)

-- what is handed over by its address is one by its type
address_told : (d : Declarations) (f : Function) (v : ValueId) (c : ArgumentConvention) (t : TypeName) (row : AddressRow) → address_row c ≡ Some row
    → type_in d f v ≡ Some (handed_type c t) → form_of d f v ≡ OfPlace (shape_of d t)
address_told d f v convention.Plain t row e ty = absurd (none-some row e)
address_told d f v convention.Owned t row e ty = absurd (none-some row e)
address_told d f v convention.Guaranteed t row e ty = absurd (none-some row e)
address_told d f v (convention.Address c) t row e ty =
    ap (λ o. form_by d o (function_at (value_functions f) v.0)) ty ∙ ap (form_with d (handed_type (convention.Address c) t)) (target-Address t)

address_taken : (c : ArgumentConvention) (row : AddressRow) → address_row c ≡ Some row → (by_convention c).role ≡ role.AddressRole
address_taken convention.Plain row e = absurd (none-some row e)
address_taken convention.Owned row e = absurd (none-some row e)
address_taken convention.Guaranteed row e = absurd (none-some row e)
address_taken (convention.Address c) row e = refl

module _ (m : Module) (w : World) (f : Function) (left : List Entry) where
  one_handed : (a : Told) (o : Operand) (x : Datum) → IsHanded (declarations_of m) f a o → DatumIs m w (form_of (declarations_of m) f o.value) x
      → ((by_convention a.convention).role ≡ role.AddressRole → (p : Place) → x ≡ AddressOf p → Names left o.value p)
      → IsHandedAs left (taken_as o (by_convention a.convention)) x
  one_handed a o x handed is names row e =
      let p = read_place m w is (shape_of (declarations_of m) a.ty) (address_told (declarations_of m) f o.value a.convention a.ty row e handed.typed) in
      (p.0, p.1, names (address_taken a.convention row e) p.0 p.1)

  handed_each : (told : List Told) (os : List Operand) (xs : List Datum) → AllZip (IsHanded (declarations_of m) f) told os
      → FitEach m w f (map taken_value (by_told told os)) xs → AreNamedBy left (by_told told os) xs → AreHandedAs left (by_told told os) xs
  handed_each [] [] xs zip fits names = tt
  handed_each [] (o ∷ os) xs zip fits names = absurd zip
  handed_each (a ∷ told) [] xs zip fits names = absurd zip
  handed_each (a ∷ told) (o ∷ os) [] zip fits names = absurd names
  handed_each (a ∷ told) (o ∷ os) (x ∷ xs) zip (fit.more _ _ _ _ first rest) names =
      (one_handed a o x zip.0 first.is names.0, handed_each told os xs zip.1 rest names.1)

-- ---- the callee

named_function : (x : Datum) (g : FuncId) → as_function x ≡ Some g → x ≡ FunctionOf g
named_function (ValueOf v) g e = absurd (none-some g e)
named_function (AddressOf p) g e = absurd (none-some g e)
named_function (FunctionOf h) g e = ap FunctionOf (same_Some h g e)

function_form : (m : Module) (w : World) (form : Form) (x : Datum) (g : FuncId) → DatumIs m w form x → x ≡ FunctionOf g → form ≡ OfFunction g
function_form m w _ _ g (DatumIs.value s v suits) e = absurd (cc)
function_form m w _ _ g (DatumIs.place p is) e = absurd (cc)
function_form m w _ _ g (DatumIs.function h) e = cc

function_told : (d : Declarations) (t : Option TypeName) (o : Option FuncId) (g : FuncId) → form_by d t o ≡ OfFunction g → o ≡ Some g
function_told d (Some t) o g e = absurd (typed (target t) e)
  where
    typed : (u : Option TypeName) → form_with d t u ≡ OfFunction g → ⊥
    typed None e = cc
    typed (Some u) e = cc
function_told d None (Some h) g e = let same : h ≡ g = cc in ap Some same
function_told d None None g e = absurd (cc)

-- ---- the call

pub record IsCalledWith (xs : List Datum) (g : FuncId) (args : List Datum) : Type 0 where
  pub first : Datum
  pub are : xs ≡ first ∷ args
  pub names : as_function first ≡ Some g

called_with : (d : Declarations) (shapes : ModuleShapes) (values : List Shape) (memory : Memory) (x : Inst) (xs : List Datum) (g : FuncId) (args : List Datum)
    → ◌≡◌ {A = Effect HolderFault} (calls d shapes values memory x xs) (Calls g args) → IsCalledWith xs g args
called_with d shapes values memory x [] g args e = absurd (no_call e)
  where
    no_call : ◌≡◌ {A = Effect HolderFault} Unfit (Calls g args) → ⊥
    no_call e = cc
called_with d shapes values memory x (y ∷ ys) g args e = at (as_function y) refl e
  where
    at : (o : Option FuncId) → as_function y ≡ o → ◌≡◌ {A = Effect HolderFault} (with_some (λ h. Calls h ys) o) (Calls g args) → IsCalledWith (y ∷ ys) g args
    at None is h = absurd (cc)
    at (Some k) is h =
        let same : k ≡ g = cc in
        let others : ys ≡ args = cc in
        record { first = y; are = ap (λ zs. y ∷ zs) others; names = is ∙ ap Some same }

module _ (m : Module) (number : ℕ) (f : Function) (a : IsAcceptedBody m number f) (p : PointId) (x : Inst) (there : inst_at f p ≡ Some x) (call : x.op ≡ op.Apply) where
  here : IsAt f p.block.0 p.index x
  here = is_at f p x there

  c : Called m (well_typed m a.verified) number f a.body.there p.block.0 p.index x here call
  c = called m (well_typed m a.verified) number f a.body.there p.block.0 p.index x here call

  zip : AllZip (IsHanded (declarations_of m) f) (arguments_of c.body.signature) c.handed
  zip = calls_handed m number f a p.block.0 p.index x c.value c.handed c.body.signature here call c.operands c.told

  abbrev others : List Taken
  others = by_told (arguments_of c.body.signature) c.handed

  conventions : conventions_in x ≡ conventions_of c.body.signature
  conventions = ap conventions_by c.told ∙ append-nil (conventions_of c.body.signature)

  taken_is : taken_by x ≡ taken_as c.value (by_row role.Used) ∷ others
  taken_is =
      ap₂ (λ o os. taken_each os (roles_for (roles_of o) (conventions_in x) (length os))) call c.operands
      ∙ ap (λ cs. taken_as c.value (by_row role.Used) ∷ taken_each c.handed (map by_convention cs)) conventions

  all_taken : item_taken f (item.Inst p) ≡ taken_as c.value (by_row role.Used) ∷ others
  all_taken = ap (λ o. taken_in o ++ []) there ∙ append-nil (taken_by x) ∙ taken_is

  operations : operations_of x ≡ flat_map (operated_at access.Passes x.qualifier) others
  operations =
      ap (λ o. flat_map (operated_at (access_kind_of o) x.qualifier) (taken_by x)) call
      ∙ ap (flat_map (operated_at access.Passes x.qualifier)) taken_is

module _ (m : Module) (number : ℕ) (f : Function) (w : World) (facts : ValueId → Option Facts) (memory : Memory) (entries : List Entry) (p : PointId) (ops : Operands)
    (s : ReadsOperands m number f w facts memory entries (item.Inst p) ops) (x : Inst) (there : inst_at f p ≡ Some x) (call : x.op ≡ op.Apply)
    (g : FuncId) (args : List Datum) (called_so : IsCalledWith ops.given g args) (callee : Function) (is_callee : slice_get m.functions g.0 ≡ Some callee) where
  abbrev the_call : Called m (well_typed m s.body.verified) number f s.body.body.there p.block.0 p.index x (here m number f s.body p x there call) call
  the_call = c m number f s.body p x there call

  abbrev the_others : List Taken
  the_others = others m number f s.body p x there call

  all : item_taken f (item.Inst p) ≡ taken_as the_call.value (by_row role.Used) ∷ the_others
  all = all_taken m number f s.body p x there call

  fits : FitEach m w f (map taken_value (taken_as the_call.value (by_row role.Used) ∷ the_others)) (called_so.first ∷ args)
  fits =
      subst (λ xs. FitEach m w f (map taken_value (taken_as the_call.value (by_row role.Used) ∷ the_others)) xs) called_so.are
      (subst (λ ts. FitEach m w f (map taken_value ts) ops.given) all
      (operands_fit m w f facts memory (item_taken f (item.Inst p)) entries ops s.typed
      (((typed_module m s.body.verified).functions number f s.body.body.there).items (item.Inst p)).taken s.read).0)

  names : AreNamedBy ops.left (taken_as the_call.value (by_row role.Used) ∷ the_others) (called_so.first ∷ args)
  names =
      subst (AreNamedBy ops.left (taken_as the_call.value (by_row role.Used) ∷ the_others)) called_so.are
      (subst (λ ts. AreNamedBy ops.left ts ops.given) all (operands_named m number f w facts memory entries (item.Inst p) ops s))

  -- the first operand is the callee
  is_body : the_call.body ≡ callee
  is_body = at fits
    where
      at : FitEach m w f (map taken_value (taken_as the_call.value (by_row role.Used) ∷ the_others)) (called_so.first ∷ args) → the_call.body ≡ callee
      at (fit.more _ _ _ _ first rest) =
          let form = function_form m w _ called_so.first g first.is (named_function called_so.first g called_so.names) in
          let told = function_told (declarations_of m) (type_in (declarations_of m) f the_call.value.value) (function_at (value_functions f) the_call.value.value.0) g form in
          let same : the_call.named ≡ g = same_Some the_call.named g (sym the_call.stands_for ∙ told) in
          same_Some the_call.body callee (sym the_call.there ∙ ap (λ (h : FuncId). slice_get m.functions h.0) same ∙ is_callee)

  rest_fits : FitEach m w f (map taken_value the_others) args
  rest_fits = at fits
    where
      at : FitEach m w f (map taken_value (taken_as the_call.value (by_row role.Used) ∷ the_others)) (called_so.first ∷ args) → FitEach m w f (map taken_value the_others) args
      at (fit.more _ _ _ _ first rest) = rest

  others_handed : AreHandedAs ops.left the_others args
  others_handed =
      handed_each m w f ops.left (arguments_of the_call.body.signature) the_call.handed args (zip m number f s.body p x there call) rest_fits names.1

  abbrev behind : List Taken
  behind = drop 1 (item_taken f (item.Inst p))

  behind_are : behind ≡ the_others
  behind_are = ap (drop 1) all

  pub hands_over : HandsOver f p x ops.left args callee
  hands_over = record {
    handed = subst (λ ts. AreHandedAs ops.left ts args) (sym behind_are) others_handed;
    alike = subst (λ ts. AreAlike (arguments_of callee.signature) ts) (sym behind_are)
        (subst (λ (b : Function). AreAlike (arguments_of b.signature) the_others) is_body
        (alike_each (declarations_of m) f (arguments_of the_call.body.signature) the_call.handed (zip m number f s.body p x there call)));
    lent = subst (λ ts. AreLentBy ops.left (operations_of x) (lent_places ts args)) (sym behind_are)
        (subst (λ os. AreLentBy ops.left os (lent_places the_others args)) (sym (operations m number f s.body p x there call))
        (lent_each ops.left x.qualifier the_others args others_handed));
  }

pub calls_hand_over : AreCallsHandingOver
calls_hand_over m n f w facts memory entries p ops s x there shapes values g args callee is is_callee =
    let calling : effect_of x.op ≡ row.CallsFunction = calls_by_row (declarations_of m) shapes values memory x ops.given g args is in
    hands_over m n f w facts memory entries p ops s x there (apply_row x.op calling) g args
    (called_with (declarations_of m) shapes values memory x ops.given g args
    (ap (λ r. effect_by (declarations_of m) shapes values memory x (at_places (declarations_of m) shapes values memory x) r ops.given) (sym calling) ∙ is))
    callee is_callee
