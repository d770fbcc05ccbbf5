-- What an item consumes is a value, and no address.
use Rattle.std.proofs.Common.{◌≡◌, append-nil, ℕ, zero, suc, List, [], ◌∷◌, ◌++◌, length, map, replicate, refl, sym, ap, ◌∙◌, subst, arith, Bool, true, false, inl, inr, Option, Some, None, ◌⊎◌}
use Rattle.std.specs.Prelude.{◌||◌, ◌&&◌, ◌==◌, Contains, if◌then◌else◌, is_none, is_some, not, option_map, slice_get}
use Rattle.std.specs.List.{AllZip, list_all, list_any}
use Rattle.std.proofs.lemmas.Bool.{and_parts, eqb-true, false≢true, true≢false}
use Rattle.std.proofs.lemmas.List.Elements.{Contains-append_cases}
use Rattle.std.proofs.lemmas.Option.{same_Some, slice_get-map}
use Rattle.argument_conventions.specs.Arguments.{Told, arguments_of, conventions_of, handed_type}
use Rattle.argument_conventions.specs.declared.convention.ArgumentConvention.{ArgumentConvention}
use Rattle.argument_conventions.specs.declared.convention.ArgumentConvention.TheVariants as convention
use Rattle.instruction_table.specs.Forms.{ending_of, is_terminator, roles_of}
use Rattle.instruction_table.specs.declared.entries.Ending.{Ending}
use Rattle.instruction_table.specs.declared.entries.Ending.TheVariants as ending
use Rattle.instruction_table.specs.declared.entries.Role.{Role}
use Rattle.instruction_table.specs.declared.entries.Role.TheVariants as role
use Rattle.instruction_table.specs.declared.op.Op.{Op}
use Rattle.instruction_table.specs.declared.op.Op.TheVariants as op
use Rattle.sil_cfg_items.specs.Items.{item_taken, taken_along_in, taken_in}
use Rattle.sil_cfg_items.specs.Parts.{edge_in, inst_at, terminator_of}
use Rattle.sil_cfg_items.specs.Roles.{by_convention, by_row, consumed, conventions_by, conventions_in, last_roles, role_handed, roles_for, taken_along, taken_as, taken_by, taken_each}
use Rattle.sil_cfg_items.specs.declared.taken.Taken.{Taken}
use Rattle.sil_cfg_items.specs.declared.taken.Treatment.{Treatment}
use Rattle.numbered_form.specs.Lists.{Each, is_empty}
use Rattle.numbered_form.specs.inner.Parts.{are_cases, are_edges_by, is_branch, is_case, is_default}
use Rattle.numbered_form.specs.PointChecks.Points.{IsAt}
use Rattle.holder_model_values.specs.RunValues.Shapes.{Shape, shape_of}
use Rattle.sil_ast.specs.declared.function.Function.{Function}
use Rattle.sil_ast.specs.declared.inst.Edge as edge
use Rattle.sil_ast.specs.declared.inst.Inst as inst
use Rattle.sil_ast.specs.declared.module.Module.{Module}
use Rattle.sil_ast.specs.declared.operands.Operand.{Operand}
use Rattle.sil_ast.specs.declared.place.PointId.{PointId}
use Rattle.sil_ast.specs.declared.place.ValueId.{ValueId}
use Rattle.sil_ast.specs.declared.signature.Signature.{Signature}
use Rattle.sil_ast.specs.declared.type_name.TypeName.{TypeName}
use Rattle.sil_cfg.specs.declared.item.Item.{Item}
use Rattle.sil_cfg.specs.declared.item.Item.TheVariants.{Edge, Entry, Exit, Inst}
use Rattle.sil_types_declarations.specs.TypeDefinitions.Declarations.{Declarations, declarations_of}
use Rattle.sil_types_declarations.specs.TypeDefinitions.Measures.{is_trivial}
use Rattle.holder_model_laws.specs.holder_model.declared.row_effect.RowEffect.{RowEffect}
use Rattle.holder_model_laws.specs.holder_model.declared.row_effect.RowEffect.TheVariants as row
use Rattle.holder_model_laws.specs.holder_model.Effects.{effect_of}
use Rattle.holder_model_laws.specs.holder_model.Frames.{is_consumed}
use Rattle.holder_model_laws.specs.holder_model.RunTyping.EndForms.{EdgeForms, EndForms, value_in}
use Rattle.holder_model_laws.specs.holder_model.RunTyping.Forms.{Form, OfValue, form_by, form_of, form_with, forms_of}
use Rattle.holder_model_laws.specs.holder_model.RunTyping.RowForms.{RowForms}
use Rattle.sil_verifier_trails.specs.sil_verifier_values.inner.Handed.{IsHanded}
use Rattle.sil_verifier_trails.specs.sil_verifier_values.inner.Known.{IsAcceptedBody, type_in}
use Rattle.sil_verifier_trails.specs.sil_verifier_accepted.AcceptedModules.Refusals.{lowered}
use Rattle.sil_verifier_trails.specs.sil_verifier_accepted.AcceptedModules.inner.Checked.{IsVerified}
use Rattle.holder_model_laws.specs.sil_types.Typing.Shapes.{is_object}
use Rattle.holder_model_laws.specs.sil_types.Typing.SignatureRules.{fits_by}
use Rattle.holder_model_laws.specs.sil_types.Typing.Values.{function_at, value_functions}
use Rattle.sil_verifier_trails.proofs.sil_verifier_values.Accepted.{typed, well_typed}
use Rattle.sil_verifier_trails.proofs.sil_verifier_values.Branches.{known_end}
use Rattle.sil_verifier_trails.proofs.sil_verifier_values.Calls.{calls_handed}
use Rattle.sil_verifier_trails.proofs.sil_verifier_values.Counted.{nothing_in, stands}
use Rattle.sil_verifier_trails.proofs.sil_verifier_values.Parameters.{fits, told_fits}
use Rattle.numbered_form.proofs.Lists.{contained, mapped_from}
use Rattle.sil_verifier_trails.proofs.holder_model_typing.RunTypingLaws.CallFacts.{called}
use Rattle.sil_verifier_trails.proofs.holder_model_typing.RunTypingLaws.Found.{each_at}
use Rattle.sil_verifier_trails.proofs.holder_model_typing.RunTypingLaws.FunctionFacts.{typed_function}
use Rattle.sil_verifier_trails.proofs.holder_model_typing.RunTypingLaws.Rows.Layers.{object_target}
use Rattle.sil_verifier_trails.specs.holder_model_typing.OwnedRunTyping.inner.OwnedEnds.{OwnedEndForms}
use Rattle.sil_verifier_trails.specs.holder_model_typing.OwnedRunTyping.inner.OwnedRows.{OwnedRowForms}
use Rattle.sil_verifier_trails.specs.holder_model_typing.OwnedRunTyping.inner.OwnedTyped.{OwnedTyped}
use Rattle.sil_verifier_trails.proofs.holder_model_typing.OwnedRunTyping.OwnedIsTyped.{owned_is_typed}

pub owned_typed : (m : Module) → IsVerified m → OwnedTyped m
owned_typed m v = owned_is_typed m (well_typed m v) (λ n f there e. v.accepted.types.owned _ (lowered n f there e))

-- a value, and no address
abbrev pub IsValueForm : Form → Type 0
IsValueForm form = (s : Shape) × (form ≡ OfValue s)

-- ---- the roles of a row

-- a role by which an operand may be consumed
abbrev may_consume : Role → Bool
may_consume role.Consumed = true
may_consume role.Used = false
may_consume role.Lent = false
may_consume role.Forwarded = false
may_consume role.AddressRole = false
may_consume role.AnyRole = false
may_consume role.ScopeRole = false
may_consume role.ByParameter = true
may_consume role.Counted = false

all_alike : {A : Type 0} (n : ℕ) (x y : A) (k : ℕ) → slice_get (replicate n x) k ≡ Some y → x ≡ y
all_alike zero x y k e = cc
all_alike (suc n) x y zero e = same_Some x y e
all_alike (suc n) x y (suc k) e = all_alike n x y k e

-- all operands of one role
alike_not_consumed : (r : Role) (n k : ℕ) (t : Treatment) → is_consumed r ≡ false → slice_get (replicate n (by_row r)) k ≡ Some t → is_consumed t.role ≡ false
alike_not_consumed r n k t none e = ap (λ (x : Treatment). is_consumed x.role) (sym (all_alike n (by_row r) t k e)) ∙ none

last_not_consumed : (r : Role) (cs : List ArgumentConvention) (n k : ℕ) (t : Treatment) → may_consume r ≡ false → slice_get (last_roles r cs n) k ≡ Some t
    → is_consumed t.role ≡ false
last_not_consumed role.Consumed cs n k t none e = absurd (true≢false none)
last_not_consumed role.Used cs n k t none e = alike_not_consumed role.Used n k t refl e
last_not_consumed role.Lent cs n k t none e = alike_not_consumed role.Lent n k t refl e
last_not_consumed role.Forwarded cs n k t none e = alike_not_consumed role.Forwarded n k t refl e
last_not_consumed role.AddressRole cs n k t none e = alike_not_consumed role.AddressRole n k t refl e
last_not_consumed role.AnyRole cs n k t none e = alike_not_consumed role.AnyRole n k t refl e
last_not_consumed role.ScopeRole cs n k t none e = alike_not_consumed role.ScopeRole n k t refl e
last_not_consumed role.ByParameter cs n k t none e = absurd (true≢false none)
last_not_consumed role.Counted cs n k t none e = alike_not_consumed role.Counted n k t refl e

row_not_consumed : (r : Role) → may_consume r ≡ false → is_consumed r ≡ false
row_not_consumed role.Consumed none = absurd (true≢false none)
row_not_consumed role.Used none = refl
row_not_consumed role.Lent none = refl
row_not_consumed role.Forwarded none = refl
row_not_consumed role.AddressRole none = refl
row_not_consumed role.AnyRole none = refl
row_not_consumed role.ScopeRole none = refl
row_not_consumed role.ByParameter none = absurd (true≢false none)
row_not_consumed role.Counted none = refl

or_parts_off : (a b : Bool) → (a || b) ≡ false → (a ≡ false) × (b ≡ false)
or_parts_off true b e = absurd (true≢false e)
or_parts_off false b e = (refl, e)

not_consumed : (rs : List Role) (cs : List ArgumentConvention) (n k : ℕ) (t : Treatment) → list_any may_consume rs ≡ false
    → slice_get (roles_for rs cs n) k ≡ Some t → is_consumed t.role ≡ false
not_consumed [] cs n k t none e = cc
not_consumed (r ∷ []) cs n k t none e = last_not_consumed r cs n k t (or_parts_off (may_consume r) false none).0 e
not_consumed (r ∷ q ∷ rs) cs zero k t none e = cc
not_consumed (r ∷ q ∷ rs) cs (suc n) zero t none e =
    ap (λ (x : Treatment). is_consumed x.role) (sym (same_Some (by_row r) t e)) ∙ row_not_consumed r (or_parts_off (may_consume r) (list_any may_consume (q ∷ rs)) none).0
not_consumed (r ∷ q ∷ rs) cs (suc n) (suc k) t none e =
    not_consumed (q ∷ rs) cs n k t (or_parts_off (may_consume r) (list_any may_consume (q ∷ rs)) none).1 e

-- ---- the operand at a place, and how it is taken

record TakenAt (os : List Operand) (ts : List Treatment) (k : ℕ) (x : Taken) : Type 0 where
  operand : Operand
  treatment : Treatment
  there : slice_get os k ≡ Some operand
  treated : slice_get ts k ≡ Some treatment
  is : x ≡ taken_as operand treatment

taken_at : (os : List Operand) (ts : List Treatment) (k : ℕ) (x : Taken) → slice_get (taken_each os ts) k ≡ Some x → TakenAt os ts k x
taken_at [] ts k x e = cc
taken_at (o ∷ os) [] k x e = cc
taken_at (o ∷ os) (t ∷ ts) zero x e = record { operand = o; treatment = t; there = refl; treated = refl; is = sym (same_Some (taken_as o t) x e) }
taken_at (o ∷ os) (t ∷ ts) (suc k) x e =
    let r = taken_at os ts k x e in
    record { operand = r.operand; treatment = r.treatment; there = r.there; treated = r.treated; is = r.is }

consumes : (r : Role) → r ≡ role.Consumed → is_consumed r ≡ true
consumes r e = ap is_consumed e

-- ---- what rows with values take

abbrev FirstIsValue : List Form → Type 0
FirstIsValue [] = Unit {0}
FirstIsValue (x ∷ xs) = IsValueForm x

abbrev TakesValues : RowEffect → List Form → Type 0
TakesValues row.NoEffect xs = Unit {0}
TakesValues row.GivesLiteral xs = Unit {0}
TakesValues row.GivesFunction xs = Unit {0}
TakesValues row.Computes xs = Unit {0}
TakesValues row.TrapsWhereSet xs = Unit {0}
TakesValues row.MakesObject xs = Unit {0}
TakesValues row.MakesSlot xs = Unit {0}
TakesValues row.RemovesSlot xs = Unit {0}
TakesValues row.GivesOperand xs = Each IsValueForm xs
TakesValues row.CopiesOperand xs = Unit {0}
TakesValues row.RetainsOperand xs = Unit {0}
TakesValues row.DropsOperand xs = Each IsValueForm xs
TakesValues row.LoadsValue xs = Unit {0}
TakesValues row.StoresValue xs = FirstIsValue xs
TakesValues row.DestroysPlace xs = Unit {0}
TakesValues row.LoadsName xs = Unit {0}
TakesValues row.Groups xs = Unit {0}
TakesValues row.ChoosesCase xs = Unit {0}
TakesValues row.GivesMember xs = Unit {0}
TakesValues row.GivesMembers xs = Unit {0}
TakesValues row.AddressesMember xs = Unit {0}
TakesValues row.AddressesField xs = Unit {0}
TakesValues row.CallsFunction xs = Unit {0}

module _ (m : Module) (i : inst.Inst) where
  by : (r : RowEffect) (xs : List Form) → effect_of i.op ≡ r → TakesValues r xs → TakesValues (effect_of i.op) xs
  by r xs e h = subst (λ q. TakesValues q xs) (sym e) h

  row_values : {xs ys : List Form} → RowForms m i xs ys → TakesValues (effect_of i.op) xs
  row_values {xs = xs} (RowForms.looks form e) = by row.NoEffect xs e tt
  row_values {xs = xs} (RowForms.literal n w e number residue) = by row.GivesLiteral xs e tt
  row_values {xs = xs} (RowForms.function g e is) = by row.GivesFunction xs e tt
  row_values {xs = xs} (RowForms.computes b e named) = by row.Computes xs e tt
  row_values {xs = xs} (RowForms.traps text e is) = by row.TrapsWhereSet xs e tt
  row_values {xs = xs} (RowForms.object class e is) = by row.MakesObject xs e tt
  row_values {xs = xs} (RowForms.slot w s e is) = by row.MakesSlot xs e tt
  row_values {xs = xs} (RowForms.removes s e) = by row.RemovesSlot xs e tt
  row_values {xs = xs} (RowForms.upcast class above e is) = by row.GivesOperand xs e ((_, refl), tt)
  row_values {xs = xs} (RowForms.retains s e bare) = by row.RetainsOperand xs e tt
  row_values {xs = xs} (RowForms.drops s e bare) = by row.DropsOperand xs e ((s, refl), tt)
  row_values {xs = xs} (RowForms.loads s e done bare) = by row.LoadsValue xs e tt
  row_values {xs = xs} (RowForms.stores s e done bare) = by row.StoresValue xs e (s, refl)
  row_values {xs = xs} (RowForms.loads_name w s o e named done is) = by row.LoadsName xs e tt
  row_values {xs = xs} (RowForms.stores_name w s o e named done is) = by row.StoresValue xs e (s, refl)
  row_values {xs = xs} (RowForms.destroys_name w s e named done) = by row.DestroysPlace xs e tt
  row_values {xs = xs} (RowForms.groups s ss e is) = by row.Groups xs e tt
  row_values {xs = xs} (RowForms.chooses_plain s k c e is place there none) = by row.ChoosesCase xs e tt
  row_values {xs = xs} (RowForms.chooses_full s payload k c e is place there some) = by row.ChoosesCase xs e tt
  row_values {xs = xs} (RowForms.member s part k e number there) = by row.GivesMember xs e tt
  row_values {xs = xs} (RowForms.member_address s part k e number there) = by row.AddressesMember xs e tt
  row_values {xs = xs} (RowForms.field_address class named s k e is owner number there) = by row.AddressesField xs e tt
  row_values {xs = xs} (RowForms.calls g callee e there bodied) = by row.CallsFunction xs e tt
  row_values {xs = xs} (RowForms.calls_out g callee widths e there bare) = by row.CallsFunction xs e tt

  owned_row_values : {xs ys : List Form} → OwnedRowForms m i xs ys → TakesValues (effect_of i.op) xs
  owned_row_values (OwnedRowForms.also_lowered xs ys r) = row_values r
  owned_row_values {xs = xs} (OwnedRowForms.gives s e bare) = by row.GivesOperand xs e ((s, refl), tt)
  owned_row_values {xs = xs} (OwnedRowForms.copies s e bare) = by row.CopiesOperand xs e tt
  owned_row_values {xs = xs} (OwnedRowForms.loads s o e done is bare) = by row.LoadsValue xs e tt
  owned_row_values {xs = xs} (OwnedRowForms.stores s o e done is bare) = by row.StoresValue xs e (s, refl)
  owned_row_values {xs = xs} (OwnedRowForms.destroys s e done bare) = by row.DestroysPlace xs e tt
  owned_row_values {xs = xs} (OwnedRowForms.members s ss e is) = by row.GivesMembers xs e tt

-- ---- the edges of a terminator

no_edge : (es : List edge.Edge) (k : ℕ) (x : edge.Edge) → is_empty es ≡ true → slice_get es k ≡ Some x → ⊥
no_edge [] k x e there = cc
no_edge (y ∷ es) k x e there = false≢true e

only_edge : (es : List edge.Edge) (k : ℕ) (x y : edge.Edge) → (length es == 1) ≡ true → slice_get es k ≡ Some x → slice_get es 0 ≡ Some y → x ≡ y
only_edge [] k x y e there first = cc
only_edge (z ∷ []) zero x y e there first = cc
only_edge (z ∷ []) (suc k) x y e there first = cc
only_edge (z ∷ w ∷ es) k x y e there first = let one : length (z ∷ w ∷ es) ≡ 1 = eqb-true (length (z ∷ w ∷ es)) 1 e in absurd (omega arith)

either_edge : (es : List edge.Edge) (k : ℕ) (x y z : edge.Edge) → (length es == 2) ≡ true → slice_get es k ≡ Some x → slice_get es 0 ≡ Some y → slice_get es 1 ≡ Some z
    → (x ≡ y) ⊎ (x ≡ z)
either_edge [] k x y z e there first second = cc
either_edge (u ∷ []) k x y z e there first second = cc
either_edge (u ∷ w ∷ []) zero x y z e there first second = inl (cc)
either_edge (u ∷ w ∷ []) (suc zero) x y z e there first second = inr (cc)
either_edge (u ∷ w ∷ []) (suc (suc k)) x y z e there first second = cc
either_edge (u ∷ w ∷ v ∷ es) k x y z e there first second =
    let two : length (u ∷ w ∷ v ∷ es) ≡ 2 = eqb-true (length (u ∷ w ∷ v ∷ es)) 2 e in absurd (omega arith)

-- the edges of a `switch_enum` hand nothing over
bare_case : (es : List edge.Edge) (k : ℕ) (x : edge.Edge) → are_cases es ≡ true → slice_get es k ≡ Some x → is_empty x.args ≡ true
bare_case [] k x e there = cc
bare_case (y ∷ es) k x e there = at (is_case y) refl e k there (λ j more found. bare_case es j x more found)
  where
    default_last : (k : ℕ) → is_default y ≡ true → is_empty es ≡ true → slice_get (y ∷ es) k ≡ Some x → is_empty x.args ≡ true
    default_last zero last none there = subst (λ (z : edge.Edge). is_empty z.args ≡ true) (same_Some y x there) (and_parts (is_none y.case_of) (is_empty y.args) last).1
    default_last (suc k) last none there = absurd (no_edge es k x none there)

    at : (b : Bool) → is_case y ≡ b → (if b then are_cases es else (is_default y && is_empty es)) ≡ true → (k : ℕ) → slice_get (y ∷ es) k ≡ Some x
        → ((j : ℕ) → are_cases es ≡ true → slice_get es j ≡ Some x → is_empty x.args ≡ true) → is_empty x.args ≡ true
    at true case e zero there more = subst (λ (z : edge.Edge). is_empty z.args ≡ true) (same_Some y x there) (and_parts (is_some y.case_of) (is_empty y.args) case).1
    at true case e (suc k) there more = more k e there
    at false case e k there more = let both = and_parts (is_default y) (is_empty es) e in default_last k both.0 both.1 there

no_operand : (os : List Operand) → is_empty os ≡ true → os ≡ []
no_operand [] e = refl
no_operand (o ∷ os) e = absurd (false≢true e)

-- ---- of a function

module _ (m : Module) (n : ℕ) (f : Function) (a : IsAcceptedBody m n f) where
  abbrev d : Declarations
  d = declarations_of m

  abbrev operands_forms : List Operand → List Form
  operands_forms os = forms_of d f (map value_in os)

  form_at : (os : List Operand) (k : ℕ) (o : Operand) → slice_get os k ≡ Some o → slice_get (operands_forms os) k ≡ Some (form_of d f o.value)
  form_at os k o e =
      slice_get-map (form_of d f) (map value_in os) k ∙ ap (option_map (form_of d f)) (slice_get-map value_in os k ∙ ap (option_map value_in) e)

  each_form : (os : List Operand) (k : ℕ) (o : Operand) → Each IsValueForm (operands_forms os) → slice_get os k ≡ Some o → IsValueForm (form_of d f o.value)
  each_form os k o each e = each_at IsValueForm (operands_forms os) k (form_of d f o.value) each (form_at os k o e)

  first_form : (os : List Operand) (o : Operand) → FirstIsValue (operands_forms os) → slice_get os 0 ≡ Some o → IsValueForm (form_of d f o.value)
  first_form [] o first e = cc
  first_form (p ∷ os) o first e = subst (λ (q : Operand). IsValueForm (form_of d f q.value)) (same_Some p o e) first

  object_form : (v : ValueId) (t : TypeName) → type_in d f v ≡ Some t → is_object t ≡ true → IsValueForm (form_of d f v)
  object_form v t ty object =
      (shape_of d t, ap (λ o. form_by d o (function_at (value_functions f) v.0)) ty ∙ ap (form_with d t) (object_target t object))

  -- ---- calls

  module _ (block index : ℕ) (i : inst.Inst) (here : IsAt f block index i) (call : i.op ≡ op.Apply) where
    handed_owned : (c : ArgumentConvention) → role_handed c ≡ role.Consumed → c ≡ convention.Owned
    handed_owned convention.Plain e = absurd (false≢true (ap is_consumed e))
    handed_owned convention.Owned e = refl
    handed_owned convention.Guaranteed e = absurd (false≢true (ap is_consumed e))
    handed_owned (convention.Address c) e = absurd (false≢true (ap is_consumed e))

    fits_there : (s : Signature) → i.signature ≡ Some s → (k : ℕ) (t : Told) → slice_get (arguments_of s) k ≡ Some t → fits d t ≡ true
    fits_there s signature k t at =
        let c = called m (well_typed m a.verified) n f a.body.there block index i here call in
        let same : s ≡ c.body.signature = same_Some s c.body.signature (sym signature ∙ c.told) in
        told_fits m c.body (typed_function m (well_typed m a.verified) c.named.0 c.body c.there) k t (ap (λ g. slice_get (arguments_of g) k) (sym same) ∙ at)

    zipped_at : {A B : Type 0} (R : A → B → Type 0) (xs : List A) (ys : List B) (k : ℕ) (x : A) (y : B) → AllZip R xs ys → slice_get xs k ≡ Some x → slice_get ys k ≡ Some y → R x y
    zipped_at R [] ys k x y h e g = cc
    zipped_at R (z ∷ xs) [] k x y h e g = cc
    zipped_at R (z ∷ xs) (w ∷ ys) zero x y h e g = subst (λ u. R u y) (same_Some z x e) (subst (R z) (same_Some w y g) h.0)
    zipped_at R (z ∷ xs) (w ∷ ys) (suc k) x y h e g = zipped_at R xs ys k x y h.1 e g

    convention_at : (s : Signature) (k : ℕ) (t : Treatment) → slice_get (map by_convention (conventions_of s ++ [])) k ≡ Some t
        → (told : Told) × (slice_get (arguments_of s) k ≡ Some told) × (by_convention told.convention ≡ t)
    convention_at s k t e =
        let c = mapped_from by_convention (slice_get (conventions_of s ++ []) k) t (sym (slice_get-map by_convention (conventions_of s ++ []) k) ∙ e) in
        let told = mapped_from (λ (x : Told). x.convention) (slice_get (arguments_of s) k) c.0
        (sym (slice_get-map (λ (x : Told). x.convention) (arguments_of s) k) ∙ ap (λ cs. slice_get cs k) (sym (append-nil (conventions_of s))) ∙ c.1) in
        (told.0, told.1, ap by_convention told.2 ∙ c.2)

    argument_value : (s : Signature) → i.signature ≡ Some s → (o : Operand) (os : List Operand) → i.operands ≡ o ∷ os
        → (k : ℕ) (p : Operand) (t : Treatment) → slice_get os k ≡ Some p → slice_get (map by_convention (conventions_of s ++ [])) k ≡ Some t → t.role ≡ role.Consumed
        → IsValueForm (form_of d f p.value)
    argument_value s signature o os operands k p t there treated how =
        let told = convention_at s k t treated in
        let owned : told.0.convention ≡ convention.Owned = handed_owned told.0.convention (ap (λ (x : Treatment). x.role) told.2 ∙ how) in
        let handed : IsHanded d f told.0 p =
        zipped_at (IsHanded d f) (arguments_of s) os k told.0 p (calls_handed m n f a block index i o os s here call operands signature) told.1 there in
        let fit : fits_by d convention.Owned told.0.ty ≡ true = ap (λ c. fits_by d c told.0.ty) (sym owned) ∙ fits_there s signature k told.0 told.1 in
        object_form p.value told.0.ty (handed.typed ∙ ap (λ c. Some (handed_type c told.0.ty)) owned) (and_parts (is_object told.0.ty) (not (is_trivial d told.0.ty)) fit).0

    call_value : (k : ℕ) (x : Taken) → slice_get (taken_by i) k ≡ Some x → x.role ≡ role.Consumed → IsValueForm (form_of d f x.value)
    call_value k x e how = by_operands i.operands refl i.signature refl k
        (ap (λ (z : Op). slice_get (taken_each i.operands (roles_for (roles_of z) (conventions_in i) (length i.operands))) k) (sym call) ∙ e)
      where
        by_place : (o : Operand) (os : List Operand) → i.operands ≡ o ∷ os → (s : Signature) → i.signature ≡ Some s → (k : ℕ)
            → slice_get (taken_each (o ∷ os) (by_row role.Used ∷ map by_convention (conventions_of s ++ []))) k ≡ Some x → IsValueForm (form_of d f x.value)
        by_place o os operands s signature zero e =
            absurd (false≢true (ap (λ (z : Taken). is_consumed z.role) (same_Some (taken_as o (by_row role.Used)) x e) ∙ consumes x.role how))
        by_place o os operands s signature (suc k) e =
            let at = taken_at os (map by_convention (conventions_of s ++ [])) k x e in
            subst (λ (z : Taken). IsValueForm (form_of d f z.value)) (sym at.is)
            (argument_value s signature o os operands k at.operand at.treatment at.there at.treated (sym (ap (λ (z : Taken). z.role) at.is) ∙ how))

        unsigned : (o : Operand) (os : List Operand) (k : ℕ) → slice_get (taken_each (o ∷ os) (by_row role.Used ∷ [])) k ≡ Some x → IsValueForm (form_of d f x.value)
        unsigned o os zero e = absurd (false≢true (ap (λ (z : Taken). is_consumed z.role) (same_Some (taken_as o (by_row role.Used)) x e) ∙ consumes x.role how))
        unsigned o [] (suc k) e = cc
        unsigned o (p ∷ os) (suc k) e = cc

        by_operands : (os : List Operand) → i.operands ≡ os → (g : Option Signature) → i.signature ≡ g → (k : ℕ)
            → slice_get (taken_each os (roles_for (role.Used ∷ role.ByParameter ∷ []) (conventions_by g) (length os))) k ≡ Some x → IsValueForm (form_of d f x.value)
        by_operands [] operands g signature k e = cc
        by_operands (o ∷ os) operands None signature k e = unsigned o os k e
        by_operands (o ∷ os) operands (Some s) signature k e = by_place o os operands s signature k e

  -- ---- instructions

  none_consumed : (i : inst.Inst) (k : ℕ) (x : Taken) → list_any may_consume (roles_of i.op) ≡ false → slice_get (taken_by i) k ≡ Some x → x.role ≡ role.Consumed → ⊥
  none_consumed i k x none e how =
      let at = taken_at i.operands (roles_for (roles_of i.op) (conventions_in i) (length i.operands)) k x e in
      true≢false
      (sym (consumes x.role how) ∙ ap (λ (z : Taken). is_consumed z.role) at.is
      ∙ not_consumed (roles_of i.op) (conventions_in i) (length i.operands) k at.treatment none at.treated)

  all_values : (i : inst.Inst) (k : ℕ) (x : Taken) → Each IsValueForm (operands_forms i.operands) → slice_get (taken_by i) k ≡ Some x → IsValueForm (form_of d f x.value)
  all_values i k x all e =
      let at = taken_at i.operands (roles_for (roles_of i.op) (conventions_in i) (length i.operands)) k x e in
      subst (λ (z : Taken). IsValueForm (form_of d f z.value)) (sym at.is) (each_form i.operands k at.operand all at.there)

  -- the first operand of a `store` is its value, and the other isn't consumed
  stored_value : (i : inst.Inst) → i.op ≡ op.Store → FirstIsValue (operands_forms i.operands) → (k : ℕ) (x : Taken) → slice_get (taken_by i) k ≡ Some x
      → x.role ≡ role.Consumed → IsValueForm (form_of d f x.value)
  stored_value i is first k x e how = by_operands i.operands refl k
      (ap (λ z. slice_get (taken_each i.operands (roles_for (roles_of z) (conventions_in i) (length i.operands))) k) (sym is) ∙ e)
    where
      by_operands : (os : List Operand) → i.operands ≡ os → (k : ℕ)
          → slice_get (taken_each os (roles_for (role.Consumed ∷ role.AddressRole ∷ []) (conventions_in i) (length os))) k ≡ Some x → IsValueForm (form_of d f x.value)
      by_operands [] operands k e = cc
      by_operands (o ∷ os) operands zero e =
          subst (λ (z : Taken). IsValueForm (form_of d f z.value)) (same_Some (taken_as o (by_row role.Consumed)) x e)
          (first_form i.operands o first (ap (λ xs. slice_get xs 0) operands))
      by_operands (o ∷ os) operands (suc k) e =
          let at = taken_at os (replicate (length os) (by_row role.AddressRole)) k x e in
          absurd (true≢false
          (sym (consumes x.role how) ∙ ap (λ (z : Taken). is_consumed z.role) at.is
          ∙ alike_not_consumed role.AddressRole (length os) k at.treatment refl at.treated))

  inst_value : (p : PointId) (i : inst.Inst) → inst_at f p ≡ Some i → (k : ℕ) (x : Taken) → slice_get (taken_by i) k ≡ Some x → x.role ≡ role.Consumed
      → IsValueForm (form_of d f x.value)
  inst_value p i here k x e how = at i.op refl
    where
      values : (o : Op) → i.op ≡ o → TakesValues (effect_of o) (operands_forms i.operands)
      values o is =
          subst (λ z. TakesValues (effect_of z) (operands_forms i.operands)) is
          (owned_row_values m i (((owned_typed m a.verified).functions n f a.body.there).insts p i here).row)

      at : (o : Op) → i.op ≡ o → IsValueForm (form_of d f x.value)
      at op.DestroyValue is = all_values i k x (values op.DestroyValue is) e
      at op.MoveValue is = all_values i k x (values op.MoveValue is) e
      at op.Store is = stored_value i is (values op.Store is) k x e how
      at op.Apply is = call_value p.block.0 p.index i ((typed m n f a).inside p i here).1 is k x e how
      at op.Return is = absurd (true≢false (sym (ap is_terminator is) ∙ ((typed m n f a).inside p i here).0.goes_on))
      at o is = absurd (none_consumed i k x (ap (λ z. list_any may_consume (roles_of z)) is) e how)

  -- ---- terminators

  end_forms : (b : ℕ) (i : inst.Inst) → terminator_of f b ≡ Some i → OwnedEndForms d f i
  end_forms b i ends = ((owned_typed m a.verified).functions n f a.body.there).ends b i ends

  returned_values : (i : inst.Inst) → OwnedEndForms d f i → ending_of i.op ≡ ending.Return → Each IsValueForm (operands_forms i.operands)
  returned_values i (OwnedEndForms.also_lowered other forms) is = at forms
    where
      at : EndForms d f i → Each IsValueForm (operands_forms i.operands)
      at (EndForms.branch e not_so bare there edge) = let two : ending.OneBranch ≡ ending.Return = sym not_so ∙ is in absurd (cc)
      at (EndForms.branches set clear not_so operand first second left right) = let two : ending.TwoBranches ≡ ending.Return = sym not_so ∙ is in absurd (cc)
      at (EndForms.cases s not_so operand is_enum each) = let two : ending.Cases ≡ ending.Return = sym not_so ∙ is in absurd (cc)
      at (EndForms.returns so operand) = subst (Each IsValueForm) (sym operand) ((_, refl), tt)
      at (EndForms.unreachable not_so) = let two : ending.Unreachable ≡ ending.Return = sym not_so ∙ is in absurd (cc)
  returned_values i (OwnedEndForms.cases s not_so operand is_enum each) is = let two : ending.Cases ≡ ending.Return = sym not_so ∙ is in absurd (cc)

  end_value : (b : ℕ) (i : inst.Inst) → terminator_of f b ≡ Some i → (k : ℕ) (x : Taken) → slice_get (taken_by i) k ≡ Some x → x.role ≡ role.Consumed
      → IsValueForm (form_of d f x.value)
  end_value b i ends k x e how = at i.op refl
    where
      ends_block : is_terminator i.op ≡ true
      ends_block = ((typed m n f a).ends b i ends).1.ends

      at : (o : Op) → i.op ≡ o → IsValueForm (form_of d f x.value)
      at op.Return is = all_values i k x (returned_values i (end_forms b i ends) (ap ending_of is)) e
      at op.DestroyValue is = absurd (false≢true (sym (ap is_terminator is) ∙ ends_block))
      at op.MoveValue is = absurd (false≢true (sym (ap is_terminator is) ∙ ends_block))
      at op.Store is = absurd (false≢true (sym (ap is_terminator is) ∙ ends_block))
      at op.Apply is = absurd (false≢true (sym (ap is_terminator is) ∙ ends_block))
      at o is = absurd (none_consumed i k x (ap (λ z. list_any may_consume (roles_of z)) is) e how)

  -- ---- edges

  record OneEdge (i : inst.Inst) : Type 0 where
    edge : edge.Edge
    there : slice_get i.edges 0 ≡ Some edge
    forms : EdgeForms d f edge

  record TwoEdges (i : inst.Inst) : Type 0 where
    first : edge.Edge
    there : slice_get i.edges 0 ≡ Some first
    forms : EdgeForms d f first
    second : edge.Edge
    also_there : slice_get i.edges 1 ≡ Some second
    also_forms : EdgeForms d f second

  one_edge : (i : inst.Inst) → OwnedEndForms d f i → ending_of i.op ≡ ending.OneBranch → OneEdge i
  one_edge i (OwnedEndForms.also_lowered other forms) is = at forms
    where
      at : EndForms d f i → OneEdge i
      at (EndForms.branch e so bare there forms) = record { edge = e; there = there; forms = forms }
      at (EndForms.branches set clear not_so operand first second left right) = let two : ending.TwoBranches ≡ ending.OneBranch = sym not_so ∙ is in absurd (cc)
      at (EndForms.cases s not_so operand is_enum each) = let two : ending.Cases ≡ ending.OneBranch = sym not_so ∙ is in absurd (cc)
      at (EndForms.returns not_so operand) = let two : ending.Return ≡ ending.OneBranch = sym not_so ∙ is in absurd (cc)
      at (EndForms.unreachable not_so) = let two : ending.Unreachable ≡ ending.OneBranch = sym not_so ∙ is in absurd (cc)
  one_edge i (OwnedEndForms.cases s not_so operand is_enum each) is = let two : ending.Cases ≡ ending.OneBranch = sym not_so ∙ is in absurd (cc)

  two_edges : (i : inst.Inst) → OwnedEndForms d f i → ending_of i.op ≡ ending.TwoBranches → TwoEdges i
  two_edges i (OwnedEndForms.also_lowered other forms) is = at forms
    where
      at : EndForms d f i → TwoEdges i
      at (EndForms.branch e not_so bare there forms) = let two : ending.OneBranch ≡ ending.TwoBranches = sym not_so ∙ is in absurd (cc)
      at (EndForms.branches set clear so operand first second left right) =
          record { first = set; there = first; forms = left; second = clear; also_there = second; also_forms = right }
      at (EndForms.cases s not_so operand is_enum each) = let two : ending.Cases ≡ ending.TwoBranches = sym not_so ∙ is in absurd (cc)
      at (EndForms.returns not_so operand) = let two : ending.Return ≡ ending.TwoBranches = sym not_so ∙ is in absurd (cc)
      at (EndForms.unreachable not_so) = let two : ending.Unreachable ≡ ending.TwoBranches = sym not_so ∙ is in absurd (cc)
  two_edges i (OwnedEndForms.cases s not_so operand is_enum each) is = let two : ending.Cases ≡ ending.TwoBranches = sym not_so ∙ is in absurd (cc)

  each_value : (ss : List Shape) → Each IsValueForm (map OfValue ss)
  each_value [] = tt
  each_value (s ∷ ss) = ((s, refl), each_value ss)

  handed_value : (x : edge.Edge) → EdgeForms d f x → (o : Operand) → Contains x.args o → IsValueForm (form_of d f o.value)
  handed_value x forms o c =
      let at = stands x.args o c in
      each_form x.args at.0 o (subst (Each IsValueForm) (sym forms.given) (each_value forms.shapes)) at.1

  edge_value : (i : inst.Inst) → OwnedEndForms d f i → (e : Ending) → ending_of i.op ≡ e → are_edges_by e i.edges ≡ true → (k : ℕ) (x : edge.Edge) → slice_get i.edges k ≡ Some x
      → (o : Operand) → Contains x.args o → IsValueForm (form_of d f o.value)
  edge_value i forms ending.Inside is edges k x there o c = absurd (no_edge i.edges k x edges there)
  edge_value i forms ending.OneBranch is edges k x there o c =
      let one = one_edge i forms is in
      let same = only_edge i.edges k x one.edge (and_parts (length i.edges == 1) (list_all is_branch i.edges) edges).0 there one.there in
      handed_value x (subst (EdgeForms d f) (sym same) one.forms) o c
  edge_value i forms ending.TwoBranches is edges k x there o c =
      let two = two_edges i forms is in
      at two (either_edge i.edges k x two.first two.second (and_parts (length i.edges == 2) (list_all is_branch i.edges) edges).0 there two.there two.also_there)
    where
      at : (two : TwoEdges i) → (x ≡ two.first) ⊎ (x ≡ two.second) → IsValueForm (form_of d f o.value)
      at two (inl same) = handed_value x (subst (EdgeForms d f) (sym same) two.forms) o c
      at two (inr same) = handed_value x (subst (EdgeForms d f) (sym same) two.also_forms) o c
  edge_value i forms ending.Cases is edges k x there o c =
      absurd (nothing_in o (subst (λ os. Contains os o) (no_operand x.args (bare_case i.edges k x (and_parts (not (is_empty i.edges)) (are_cases i.edges) edges).1 there)) c))
  edge_value i forms ending.Return is edges k x there o c = absurd (no_edge i.edges k x edges there)
  edge_value i forms ending.Unreachable is edges k x there o c = absurd (no_edge i.edges k x edges there)

  -- ---- items

  by_inst : (p : PointId) (o : Option inst.Inst) → inst_at f p ≡ o → (x : Taken) → Contains (taken_in o) x → x.role ≡ role.Consumed → IsValueForm (form_of d f x.value)
  by_inst p None here x c how = absurd (nothing_in x c)
  by_inst p (Some i) here x c how = let at = stands (taken_by i) x c in inst_value p i here at.0 x at.1 how

  by_end : (b : ℕ) (o : Option inst.Inst) → terminator_of f b ≡ o → (x : Taken) → Contains (taken_in o) x → x.role ≡ role.Consumed → IsValueForm (form_of d f x.value)
  by_end b None ends x c how = absurd (nothing_in x c)
  by_end b (Some i) ends x c how = let at = stands (taken_by i) x c in end_value b i ends at.0 x at.1 how

  by_edge : (b k : ℕ) (o : Option inst.Inst) → terminator_of f b ≡ o → (x : Taken) → Contains (taken_along_in (edge_in o k)) x → IsValueForm (form_of d f x.value)
  by_edge b k None ends x c = absurd (nothing_in x c)
  by_edge b k (Some i) ends x c = at (slice_get i.edges k) refl c
    where
      at : (y : Option edge.Edge) → slice_get i.edges k ≡ y → Contains (taken_along_in y) x → IsValueForm (form_of d f x.value)
      at None there c = absurd (nothing_in x c)
      at (Some y) there c =
          let place = stands (taken_along y) x c in
          let from = mapped_from consumed (slice_get y.args place.0) x (sym (slice_get-map consumed y.args place.0) ∙ place.1) in
          subst (λ (z : Taken). IsValueForm (form_of d f z.value)) from.2
          (edge_value i (end_forms b i ends) (ending_of i.op) refl (known_end m n f a b i ends).parts.edges k y there from.0 (contained y.args place.0 from.0 from.1))

  pub consumed_value : (i : Item) (x : Taken) → Contains (item_taken f i) x → x.role ≡ role.Consumed → IsValueForm (form_of d f x.value)
  consumed_value Entry x c how = absurd (nothing_in x c)
  consumed_value (Inst p) x c how = at (Contains-append_cases (taken_in (inst_at f p)) [] x c)
    where
      at : Contains (taken_in (inst_at f p)) x ⊎ Contains [] x → IsValueForm (form_of d f x.value)
      at (inl h) = by_inst p (inst_at f p) refl x h how
      at (inr h) = absurd (nothing_in x h)
  consumed_value (Edge e) x c how = at (Contains-append_cases (taken_in (terminator_of f e.block.0)) (taken_along_in (edge_in (terminator_of f e.block.0) e.index)) x c)
    where
      at : Contains (taken_in (terminator_of f e.block.0)) x ⊎ Contains (taken_along_in (edge_in (terminator_of f e.block.0) e.index)) x → IsValueForm (form_of d f x.value)
      at (inl h) = by_end e.block.0 (terminator_of f e.block.0) refl x h how
      at (inr h) = by_edge e.block.0 e.index (terminator_of f e.block.0) refl x h
  consumed_value (Exit p) x c how = at (Contains-append_cases (taken_in (terminator_of f p.block.0)) [] x c)
    where
      at : Contains (taken_in (terminator_of f p.block.0)) x ⊎ Contains [] x → IsValueForm (form_of d f x.value)
      at (inl h) = by_end p.block.0 (terminator_of f p.block.0) refl x h how
      at (inr h) = absurd (nothing_in x h)
