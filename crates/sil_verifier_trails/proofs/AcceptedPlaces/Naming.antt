-- What makes an address: it is a root, or a member of what is at an address that the same item takes.
use Rattle.std.proofs.Common.{◌≡◌, ◌⊎◌, inl, inr, ℕ, zero, suc, List, [], ◌∷◌, map, refl, sym, ap, ◌∙◌, subst, arith, Bool, true, false, not, ◌||◌, Option, Some, None, eq-eqb}
use Rattle.std.specs.Prelude.{◌==◌, Contains, is_some, option_map, slice_get}
use Rattle.std.specs.List.{list_any}
use Rattle.std.proofs.lemmas.Bool.{and_parts, false≢true, ne_eqb}
use Rattle.std.proofs.lemmas.List.Elements.{Contains-append_cases}
use Rattle.std.proofs.lemmas.Option.{slice_get-map}
use Rattle.argument_conventions.specs.Arguments.{argument_type, arguments_of}
use Rattle.argument_conventions.specs.Rows.{address_row}
use Rattle.argument_conventions.specs.declared.convention.ArgumentConvention.{ArgumentConvention}
use Rattle.argument_conventions.specs.declared.convention.ArgumentConvention.TheVariants as convention
use Rattle.instruction_table.specs.Forms.{detail_of}
use Rattle.instruction_table.specs.declared.entries.Detail.TheVariants as detail
use Rattle.instruction_table.specs.declared.op.Op.{Op}
use Rattle.instruction_table.specs.declared.op.Op.TheVariants as op
use Rattle.sil_verifier_values.specs.memory_rules_accesses.Operations.{access_kind_of}
use Rattle.sil_verifier_values.specs.memory_rules_accesses.Sources.{argument_source_or, element_place, field_source, handed_source, is_trivial_member, member_place, part_source, result_source}
use Rattle.sil_verifier_values.specs.memory_rules_accesses.Sources.{slot_source, source_at, source_by, sources_of}
use Rattle.sil_verifier_values.specs.memory_rules_accesses.declared.columns.AccessKind.TheVariants as access
use Rattle.sil_verifier_values.specs.memory_rules_accesses.declared.source.Source.TheVariants as source
use Rattle.sil_verifier_values.specs.holder_model.Effects.{effect_of, part_number, part_number_by}
use Rattle.sil_verifier_values.specs.holder_model.declared.row_effect.RowEffect.{RowEffect}
use Rattle.sil_verifier_values.specs.holder_model.declared.row_effect.RowEffect.TheVariants as effect
use Rattle.sil_verifier_values.specs.inner.Known.{IsAcceptedBody}
use Rattle.sil_verifier_values.specs.holder_model.RunTyping.EndForms.{value_in}
use Rattle.sil_verifier_values.specs.holder_model.RunTyping.Forms.{Form, OfPlace, OfValue, form_by, form_of, form_with, forms_of}
use Rattle.sil_verifier_values.specs.holder_model.RunTyping.RowForms as rows
use Rattle.sil_verifier_values.specs.holder_model.RunTyping.RowForms.{RowForms}
use Rattle.sil_verifier_values.proofs.Accepted.{in_ownership_form, typed, well_typed}
use Rattle.sil_verifier_values.proofs.Counted.{nothing_in, stands}
use Rattle.sil_verifier_values.proofs.Parameters.{entry_pairs, pair_at, told_fits, told_of}
use Rattle.sil_verifier_values.proofs.TableRows.{argument_rows, result_rows}
use Rattle.sil_verifier_values.proofs.holder_model_typing.RunTypingLaws.BlockFacts.{no_address}
use Rattle.sil_verifier_values.proofs.holder_model_typing.RunTypingLaws.Rows.Layers.{object_target}
use Rattle.sil_verifier_values.proofs.holder_model_typing.RunTypingLaws.ValueForms.{row_kept}
use Rattle.sil_cfg_items.specs.Items.{arg_value, item_defined, item_taken}
use Rattle.sil_cfg_items.specs.Parts.{args_behind, edge_at, inst_at, results_in}
use Rattle.sil_cfg_items.specs.declared.taken.Taken.{Taken}
use Rattle.sil_verifier_values.proofs.holder_model_typing.OwnedRunTyping.OwnedInsts.{owned_inst}
use Rattle.sil_verifier_values.specs.holder_model_typing.OwnedRunTyping.inner.OwnedRows as owned
use Rattle.sil_verifier_values.specs.holder_model_typing.OwnedRunTyping.inner.OwnedRows.{OwnedRowForms}
use Rattle.sil_verifier_values.specs.holder_model_values.RunValues.Shapes.{Shape, shape_of}
use Rattle.sil_ast.specs.Blocks.{args_of}
use Rattle.sil_ast.specs.declared.function.BlockArg.{BlockArg}
use Rattle.sil_ast.specs.declared.function.Form.TheVariants.{Ossa}
use Rattle.sil_ast.specs.declared.function.Function.{Function}
use Rattle.sil_ast.specs.declared.inst.Edge.{Edge}
use Rattle.sil_ast.specs.declared.inst.Inst.{Inst}
use Rattle.sil_ast.specs.declared.module.Module.{Module}
use Rattle.sil_ast.specs.declared.operands.Operand.{Operand}
use Rattle.sil_ast.specs.declared.place.FuncId.{FuncId}
use Rattle.sil_ast.specs.declared.place.PointId.{PointId}
use Rattle.sil_ast.specs.declared.place.ValueId.{ValueId}
use Rattle.sil_ast.specs.declared.type_name.TypeName.{TypeName}
use Rattle.sil_cfg.specs.declared.item.Item.{Item}
use Rattle.sil_cfg.specs.declared.item.Item.TheVariants as item
use Rattle.sil_verifier_values.specs.sil_types.Typing.EdgeRules.{lets_address_escape}
use Rattle.sil_verifier_values.specs.sil_types.Typing.RowTypes.{address_of, given_by, gives}
use Rattle.sil_verifier_values.specs.sil_types.Typing.Shapes.{is_object, is_trivial_object, target}
use Rattle.sil_verifier_values.specs.sil_types.Typing.SignatureRules.{fits_by, is_argument_for}
use Rattle.sil_verifier_values.specs.sil_types.Typing.Values.{function_at, value_functions}
use Rattle.sil_verifier_values.specs.sil_types_declarations.TypeDefinitions.Declarations.{Declarations, declarations_of}
use Rattle.sil_verifier_values.specs.sil_types_declarations.TypeDefinitions.Measures.{is_trivial}
use Rattle.numbered_form.specs.ValueTables.FirstValue.{first_value}
use Rattle.sil_verifier_trails.specs.AcceptedPlaces.inner.Located.{IsAddress, IsRoot, argument, field, slot}
use Rattle.sil_verifier_trails.proofs.AcceptedPlaces.Made.{argument_there}
use Rattle.sil_verifier_trails.proofs.AcceptedPlaces.OperationsRight.{stands_somewhere}

-- ---- the rows that give addresses, by their effects

abbrev makes_slot : RowEffect → Bool
makes_slot effect.MakesSlot = true
makes_slot _ = false

abbrev addresses_member : RowEffect → Bool
addresses_member effect.AddressesMember = true
addresses_member _ = false

abbrev addresses_field : RowEffect → Bool
addresses_field effect.AddressesField = true
addresses_field _ = false

slot_row : (o : Op) → makes_slot (effect_of o) ≡ true → o ≡ op.AllocStack
slot_row op.AllocStack e = refl
slot_row _ e = absurd (false≢true e)

data IsMemberRow (o : Op) : Type 0 where
  by_member : access_kind_of o ≡ access.NamesMember → detail_of o ≡ detail.Field → IsMemberRow o
  by_element : access_kind_of o ≡ access.NamesElement → detail_of o ≡ detail.Element → IsMemberRow o

member_row : (o : Op) → addresses_member (effect_of o) ≡ true → IsMemberRow o
member_row op.StructElementAddr e = by_member refl refl
member_row op.TupleElementAddr e = by_element refl refl
member_row _ e = absurd (false≢true e)

field_row : (o : Op) → addresses_field (effect_of o) ≡ true → (access_kind_of o ≡ access.NamesField) × (detail_of o ≡ detail.Field)
field_row op.RefElementAddr e = (refl, refl)
field_row _ e = absurd (false≢true e)

-- ---- how a row names a place

no_place : (form : Form) (s : Shape) (k : ℕ) → (form ≡ OfPlace s → ⊥) → slice_get (form ∷ []) k ≡ Some (OfPlace s) → ⊥
no_place form s zero other e = other (cc)
no_place form s (suc k) other e = cc

no_place_of_values : (ss : List Shape) (s : Shape) (k : ℕ) → slice_get (map OfValue ss) k ≡ Some (OfPlace s) → ⊥
no_place_of_values [] s k e = cc
no_place_of_values (x ∷ ss) s zero e = cc
no_place_of_values (x ∷ ss) s (suc k) e = no_place_of_values ss s k e

module _ (m : Module) (i : Inst) where
  data Names (xs : List Form) : Type 0 where
    a_slot : makes_slot (effect_of i.op) ≡ true → Names xs
    a_member : (s : Shape) (j : ℕ) → addresses_member (effect_of i.op) ≡ true → part_number (declarations_of m) i ≡ Some j → xs ≡ OfPlace s ∷ [] → Names xs
    a_field : (form : Form) (j : ℕ) → addresses_field (effect_of i.op) ≡ true → part_number (declarations_of m) i ≡ Some j → xs ≡ form ∷ [] → Names xs

  names_lowered : (xs ys : List Form) → RowForms m i xs ys → (k : ℕ) (s : Shape) → slice_get ys k ≡ Some (OfPlace s) → Names xs
  names_lowered _ _ (rows.looks form e) k s h = cc
  names_lowered _ _ (rows.literal n w e num res) k s h = absurd (no_place _ s k (λ x. cc) h)
  names_lowered _ _ (rows.function g e is) k s h = absurd (no_place _ s k (λ x. cc) h)
  names_lowered _ _ (rows.computes b e is) k s h = absurd (no_place _ s k (λ x. cc) h)
  names_lowered _ _ (rows.traps text e is) k s h = cc
  names_lowered _ _ (rows.object class e is) k s h = absurd (no_place _ s k (λ x. cc) h)
  names_lowered _ _ (rows.slot w t e is) k s h = a_slot (ap makes_slot e)
  names_lowered _ _ (rows.removes t e) k s h = cc
  names_lowered _ _ (rows.upcast class above e is) k s h = absurd (no_place _ s k (λ x. cc) h)
  names_lowered _ _ (rows.retains t e none) k s h = cc
  names_lowered _ _ (rows.drops t e none) k s h = cc
  names_lowered _ _ (rows.loads t e done none) k s h = absurd (no_place _ s k (λ x. cc) h)
  names_lowered _ _ (rows.stores t e done none) k s h = cc
  names_lowered _ _ (rows.loads_name w t o e named done is) k s h = absurd (no_place _ s k (λ x. cc) h)
  names_lowered _ _ (rows.stores_name w t o e named done is) k s h = cc
  names_lowered _ _ (rows.destroys_name w t e named done) k s h = cc
  names_lowered _ _ (rows.groups t ss e is) k s h = absurd (no_place _ s k (λ x. cc) h)
  names_lowered _ _ (rows.chooses_plain t j c e is place there none) k s h = absurd (no_place _ s k (λ x. cc) h)
  names_lowered _ _ (rows.chooses_full t payload j c e is place there full) k s h = absurd (no_place _ s k (λ x. cc) h)
  names_lowered _ _ (rows.member t part j e number there) k s h = absurd (no_place _ s k (λ x. cc) h)
  names_lowered _ _ (rows.member_address t part j e number there) k s h = a_member t j (ap addresses_member e) number refl
  names_lowered _ _ (rows.field_address class named t j e is owner number there) k s h = a_field _ j (ap addresses_field e) number refl
  names_lowered _ _ (rows.calls g callee e there some) k s h = absurd (no_place _ s k (λ x. cc) h)
  names_lowered _ _ (rows.calls_out g callee widths e there none) k s h = absurd (no_place _ s k (λ x. cc) h)

  names_place : (xs ys : List Form) → OwnedRowForms m i xs ys → (k : ℕ) (s : Shape) → slice_get ys k ≡ Some (OfPlace s) → Names xs
  names_place _ _ (owned.also_lowered xs ys r) k s h = names_lowered xs ys r k s h
  names_place _ _ (owned.gives t e none) k s h = absurd (no_place _ s k (λ x. cc) h)
  names_place _ _ (owned.copies t e none) k s h = absurd (no_place _ s k (λ x. cc) h)
  names_place _ _ (owned.loads t o e done is none) k s h = absurd (no_place _ s k (λ x. cc) h)
  names_place _ _ (owned.stores t o e done is none) k s h = cc
  names_place _ _ (owned.destroys t e done none) k s h = cc
  names_place _ _ (owned.members t ss e is) k s h = absurd (no_place_of_values ss s k h)

-- ---- what the sources are

some_given : (o : Option TypeName) → is_some (gives (option_map address_of o)) ≡ true → (t : TypeName) × (o ≡ Some t)
some_given None e = absurd (false≢true e)
some_given (Some t) e = (t, refl)

slot_is_root : (d : Declarations) (i : Inst) → i.op ≡ op.AllocStack → is_some (given_by i.op d i) ≡ true → IsRoot (result_source d i)
slot_is_root d i is kept =
    let ty = some_given i.ty (sym (ap (λ o. is_some (given_by o d i)) is) ∙ kept) in
    subst IsRoot (sym (ap (λ o. source_by (access_kind_of o) d i) is ∙ ap (slot_source d) ty.1)) slot

module _ (d : Declarations) (i : Inst) (j : ℕ) (number : part_number d i ≡ Some j) where
  by_its_member : detail_of i.op ≡ detail.Field → member_place d i.member ≡ Some j
  by_its_member e = sym (ap (λ x. part_number_by x d i) e) ∙ number

  by_its_element : detail_of i.op ≡ detail.Element → element_place i.number ≡ Some j
  by_its_element e = sym (ap (λ x. part_number_by x d i) e) ∙ number

  module _ (of : ValueId) (first : first_value i ≡ Some of) where
    member_is_part : IsMemberRow i.op → result_source d i ≡ source.Part of j
    member_is_part (by_member k e) =
        ap (λ x. source_by x d i) k ∙ ap (λ o. part_source o (member_place d i.member)) first ∙ ap (part_source (Some of)) (by_its_member e)
    member_is_part (by_element k e) =
        ap (λ x. source_by x d i) k ∙ ap (λ o. part_source o (element_place i.number)) first ∙ ap (part_source (Some of)) (by_its_element e)

    field_is_root : (access_kind_of i.op ≡ access.NamesField) × (detail_of i.op ≡ detail.Field) → IsRoot (result_source d i)
    field_is_root (k, e) =
        subst IsRoot
        (sym (ap (λ x. source_by x d i) k ∙ ap (λ o. field_source o (member_place d i.member) (is_trivial_member d i.member)) first
        ∙ ap (λ x. field_source (Some of) x (is_trivial_member d i.member)) (by_its_member e))) field

-- the one operand of an instruction
single : (d : Declarations) (f : Function) (os : List Operand) (form : Form) → forms_of d f (map value_in os) ≡ form ∷ [] → (x : Operand) × (os ≡ x ∷ []) × (form_of d f x.value ≡ form)
single d f [] form e = cc
single d f (x ∷ []) form e = let same : form_of d f x.value ≡ form = cc in (x, refl, same)
single d f (x ∷ y ∷ os) form e = cc

-- an item that makes an address makes a root, or names a member of what is at an address that it takes
pub data MakesAddress (d : Declarations) (f : Function) (i : Item) (v : ValueId) : Type 0 where
  makes_root : IsRoot (source_at (sources_of d f) v) → MakesAddress d f i v
  makes_member : (of : ValueId) (k : ℕ) → source_at (sources_of d f) v ≡ source.Part of k → list_any (λ (y : Taken). y.value.0 == of.0) (item_taken f i) ≡ true
      → IsAddress d f of → MakesAddress d f i v

module _ (m : Module) (n : ℕ) (f : Function) (a : IsAcceptedBody m n f) where
  abbrev d : Declarations
  d = declarations_of m

  taken_first : (ts : List Taken) (os : List Operand) (x : Operand) → map (λ (t : Taken). t.value) ts ≡ map value_in os → os ≡ x ∷ []
      → list_any (λ (y : Taken). y.value.0 == x.value.0) ts ≡ true
  taken_first ts os x same only = by ts (same ∙ ap (map value_in) only)
    where
      by : (ts : List Taken) → map (λ (t : Taken). t.value) ts ≡ x.value ∷ [] → list_any (λ (y : Taken). y.value.0 == x.value.0) ts ≡ true
      by [] e = cc
      by (t ∷ ts) e =
          let one : t.value ≡ x.value = cc in
          ap (λ b. b || list_any (λ (y : Taken). y.value.0 == x.value.0) ts) (eq-eqb t.value.0 x.value.0 (ap (λ (w : ValueId). w.0) one))

  result_made : (p : PointId) (i : Inst) → inst_at f p ≡ Some i → (v : ValueId) → Contains i.results v → IsAddress d f v → MakesAddress d f (item.Inst p) v
  result_made p i is v c address = by (names_place m i _ _ (owned_inst m (well_typed m a.verified) n f a.body.there p i is (in_ownership_form m n f a)).row at.0 address.shape form)
    where
      at : (k : ℕ) × (slice_get i.results k ≡ Some v)
      at = stands i.results v c

      form : slice_get (forms_of d f i.results) at.0 ≡ Some (OfPlace address.shape)
      form = slice_get-map (form_of d f) i.results at.0 ∙ ap (option_map (form_of d f)) at.1 ∙ ap (λ x. Some x) address.is

      source_is : source_at (sources_of d f) v ≡ result_source d i
      source_is = let here = stands_somewhere f (item.Inst p) i is in (result_rows m n f a here.0 here.1 at.0 i v here.2 at.1).source

      takes : map (λ (t : Taken). t.value) (item_taken f (item.Inst p)) ≡ map value_in i.operands
      takes = (owned_inst m (well_typed m a.verified) n f a.body.there p i is (in_ownership_form m n f a)).takes

      first : (x : Operand) → i.operands ≡ x ∷ [] → first_value i ≡ Some x.value
      first x only = ap (λ os. option_map (λ (o : Operand). o.value) (slice_get os 0)) only

      by : Names m i (forms_of d f (map value_in i.operands)) → MakesAddress d f (item.Inst p) v
      by (a_slot e) =
          let here = stands_somewhere f (item.Inst p) i is in
          makes_root (subst IsRoot (sym source_is) (slot_is_root d i (slot_row i.op e) (row_kept m f i ((typed m n f a).insts here.0 here.1 i here.2))))
      by (a_member s j e number xs) =
          let x = single d f i.operands (OfPlace s) xs in
          makes_member x.0.value j (source_is ∙ member_is_part d i j number x.0.value (first x.0 x.1) (member_row i.op e))
          (taken_first (item_taken f (item.Inst p)) i.operands x.0 takes x.1) (record { shape = s; is = x.2 })
      by (a_field form j e number xs) =
          let x = single d f i.operands form xs in
          makes_root (subst IsRoot (sym source_is) (field_is_root d i j number x.0.value (first x.0 x.1) (field_row i.op e)))

  -- ---- arguments

  value_form : (t : TypeName) (g : Option FuncId) (s : Shape) → target t ≡ None → form_by d (Some t) g ≡ OfPlace s → ⊥
  value_form t g s none e = let two : OfValue (shape_of d t) ≡ OfPlace s = sym (ap (form_with d t) none) ∙ e in cc

  -- 210
  inner_argument : (b k : ℕ) (x : BlockArg) → slice_get (args_of f (suc b)) k ≡ Some x → target x.ty ≡ None
  unfolding lets_address_escape
  inner_argument b k x at = no_address f.blocks (suc b) k x (typed m n f a).escapes (ne_eqb (suc b) 0 (λ e. omega arith)) at

  parameter_root : (k : ℕ) (x : BlockArg) (s : Shape) → slice_get (args_of f 0) k ≡ Some x → form_of d f x.value ≡ OfPlace s → IsRoot (source_at (sources_of d f) x.value)
  parameter_root k x s at form =
      let pair = pair_at (is_argument_for Ossa) (args_of f 0) (arguments_of f.signature) k x (entry_pairs m n f a) at in
      let so = told_of m n f a k pair.0 x pair.1 at pair.2 in
      subst IsRoot (sym ((argument_rows m n f a 0 k x at).source ∙ ap (argument_source_or d) pair.1))
      (by pair.0.convention pair.0.ty (told_fits m f (typed m n f a) k pair.0 pair.1) so.typed)
    where
      form_is : form_by d (Some x.ty) (function_at (value_functions f) x.value.0) ≡ OfPlace s
      form_is = sym (ap (λ o. form_by d o (function_at (value_functions f) x.value.0)) (argument_rows m n f a 0 k x at).typed) ∙ form

      no_object : (t : TypeName) → is_object t ≡ true → x.ty ≡ t → ⊥
      no_object t object same = value_form x.ty (function_at (value_functions f) x.value.0) s (ap target same ∙ object_target t object) form_is

      by : (c : ArgumentConvention) (t : TypeName) → fits_by d c t ≡ true → x.ty ≡ argument_type (record { convention = c; ty = t })
          → IsRoot (handed_source (is_trivial_object d t) (address_row c))
      by convention.Plain t fit ty = absurd (no_object t (and_parts (is_object t) (is_trivial d t) fit).0 ty)
      by convention.Owned t fit ty = absurd (no_object t (and_parts (is_object t) (not (is_trivial d t)) fit).0 ty)
      by convention.Guaranteed t fit ty = absurd (no_object t (and_parts (is_object t) (not (is_trivial d t)) fit).0 ty)
      by (convention.Address c) t fit ty = argument

  argument_made : (i : Item) (b : ℕ) (v : ValueId) → Contains (map arg_value (args_of f b)) v → IsAddress d f v → MakesAddress d f i v
  argument_made i b v c address =
      let s = stands (map arg_value (args_of f b)) v c in
      let x = argument_there (args_of f b) s.0 v s.1 in
      by b x.0 s.0 x.1 x.2
    where
      by : (b : ℕ) (x : BlockArg) (k : ℕ) → slice_get (args_of f b) k ≡ Some x → x.value ≡ v → MakesAddress d f i v
      by zero x k at same = makes_root (subst (λ w. IsRoot (source_at (sources_of d f) w)) same (parameter_root k x address.shape at (ap (form_of d f) same ∙ address.is)))
      by (suc b) x k at same =
          absurd (value_form x.ty (function_at (value_functions f) x.value.0) address.shape (inner_argument b k x at)
          (sym (ap (λ o. form_by d o (function_at (value_functions f) x.value.0)) (argument_rows m n f a (suc b) k x at).typed) ∙ ap (form_of d f) same ∙ address.is))

  edge_made : (i : Item) (o : Option Edge) (v : ValueId) → Contains (map arg_value (args_behind f o)) v → IsAddress d f v → MakesAddress d f i v
  edge_made i None v c address = absurd (nothing_in v c)
  edge_made i (Some e) v c address = argument_made i e.block.0 v c address

  inst_made : (p : PointId) (o : Option Inst) → inst_at f p ≡ o → (v : ValueId) → Contains (results_in o) v → IsAddress d f v → MakesAddress d f (item.Inst p) v
  inst_made p None is v c address = absurd (nothing_in v c)
  inst_made p (Some i) is v c address = result_made p i is v c address

  pub address_made : (i : Item) (v : ValueId) → Contains (item_defined f i) v → IsAddress d f v → MakesAddress d f i v
  address_made item.Entry v c address = argument_made item.Entry 0 v c address
  address_made (item.Inst p) v c address = by (Contains-append_cases (results_in (inst_at f p)) [] v c)
    where
      by : Contains (results_in (inst_at f p)) v ⊎ Contains [] v → MakesAddress d f (item.Inst p) v
      by (inl c) = inst_made p (inst_at f p) refl v c address
      by (inr c) = absurd (nothing_in v c)
  address_made (item.Edge e) v c address = edge_made (item.Edge e) (edge_at f e) v c address
  address_made (item.Exit p) v c address = absurd (nothing_in v c)
