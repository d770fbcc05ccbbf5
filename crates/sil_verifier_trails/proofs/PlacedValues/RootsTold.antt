-- What values are to memory by what makes them, and that a slot or an argument is told to be trivial as its type is.
use Rattle.std.proofs.Common.{◌≡◌, ℕ, zero, suc, List, [], ◌∷◌, map, refl, sym, ap, ◌∙◌, Bool, true, false, Option, Some, None}
use Rattle.std.specs.Prelude.{Contains, option_map, slice_get, unwrap_or}
use Rattle.std.proofs.lemmas.Bool.{true≢false}
use Rattle.std.proofs.lemmas.Option.{none-some, same_Some}
use Rattle.argument_conventions.specs.Arguments.{argument_type, arguments_of, handed_type}
use Rattle.argument_conventions.specs.Rows.{address_row}
use Rattle.argument_conventions.specs.declared.convention.ArgumentConvention.{ArgumentConvention}
use Rattle.argument_conventions.specs.declared.convention.ArgumentConvention.TheVariants as convention
use Rattle.argument_conventions.specs.declared.row.AddressRow.{AddressRow}
use Rattle.sil_verifier_values.specs.memory_rules_accesses.Operations.{access_kind_of}
use Rattle.sil_verifier_values.specs.memory_rules_accesses.Sources.{is_slot_source, result_source, slot_source, source_at, source_by, sources_of}
use Rattle.sil_verifier_values.specs.memory_rules_accesses.declared.source.Source.{Source}
use Rattle.sil_verifier_values.specs.memory_rules_accesses.declared.source.Source.TheVariants as source
use Rattle.sil_verifier_values.specs.sil_types.Typing.RowTypes.{address_of, given_by, made_types}
use Rattle.sil_verifier_values.specs.sil_types.Typing.Shapes.{is_trivial_object, target}
use Rattle.sil_verifier_values.specs.sil_types.Typing.SignatureRules.{is_argument_for}
use Rattle.sil_verifier_values.specs.inner.Known.{IsAcceptedBody, type_in}
use Rattle.sil_verifier_values.specs.inner.Making.{IsMadeAt}
use Rattle.sil_verifier_values.proofs.holder_model_typing.RunTypingLaws.Rows.Layers.{target-Address}
use Rattle.sil_verifier_values.proofs.Counted.{nothing_in, stands}
use Rattle.sil_verifier_values.proofs.Made.{made_somewhere, parameters_of_entry}
use Rattle.sil_verifier_values.proofs.Parameters.{entry_pairs, pair_at, told_of}
use Rattle.sil_verifier_values.proofs.TableRows.{argument_rows, result_rows}
use Rattle.instruction_table.specs.declared.op.Op.{Op}
use Rattle.instruction_table.specs.declared.op.Op.TheVariants as op
use Rattle.sil_cfg_items.specs.Items.{arg_value, item_defined}
use Rattle.sil_cfg_items.specs.Parts.{args_behind, edge_at}
use Rattle.numbered_form.proofs.PointChecks.Among.{contained_among}
use Rattle.numbered_form.specs.PointChecks.Points.{IsAt}
use Rattle.sil_ast.specs.Blocks.{args_of}
use Rattle.sil_ast.specs.declared.function.Form.TheVariants.{Ossa}
use Rattle.sil_ast.specs.declared.function.Function.{Function}
use Rattle.sil_ast.specs.declared.inst.Edge.{Edge}
use Rattle.sil_ast.specs.declared.module.Module.{Module}
use Rattle.sil_ast.specs.declared.place.ValueId.{ValueId}
use Rattle.sil_ast.specs.declared.type_name.TypeName.{TypeName}
use Rattle.sil_cfg.specs.declared.item.Item.TheVariants as item
use Rattle.sil_cfg.specs.inner.Splice.{Stop}
use Rattle.sil_verifier_values.specs.sil_types_declarations.TypeDefinitions.Declarations.{Declarations, declarations_of}
use Rattle.sil_verifier_trails.specs.PlacedValues.inner.Arguments.{AreBegunTold, AreResultsTold, AreRootsTrivial, IsStackRoot, argument, slot}
use Rattle.sil_verifier_trails.proofs.PlacedValues.ArgumentsTold.{arguments_told, is_value}
use Rattle.sil_verifier_trails.proofs.AcceptedPlaces.Fields.{has_among}
use Rattle.sil_verifier_trails.proofs.AcceptedPlaces.ItemStacks.{opens_no_slot}
use Rattle.sil_verifier_trails.proofs.AcceptedPlaces.Made.{argument_there, results_so}
use Rattle.sil_verifier_trails.proofs.AcceptedPlaces.OperationsRight.{stands_somewhere}
use Rattle.sil_verifier_trails.proofs.AcceptedPlaces.PartsThere.{each_where_among}
use Rattle.sil_verifier_trails.proofs.PlacedValues.Sourcing.{argument_no_slot, result_no_slot}

pub results_told : AreResultsTold
results_told m n f a p x at v there =
    each_where_among (λ w. source_at (sources_of (declarations_of m) f) w ≡ result_source (declarations_of m) x) (item_defined f (item.Inst p)) v
    (results_so m n f a p x at) (has_among (item_defined f (item.Inst p)) v there)

pub begun_told : AreBegunTold
begun_told m n f a e v there = by (edge_at f e) made made
  where
    made : Contains (item_defined f (item.Edge e)) v
    made = contained_among v (item_defined f (item.Edge e)) (has_among (item_defined f (item.Edge e)) v there)

    of_block : (b : ℕ) → Contains (map arg_value (args_of f b)) v → source_at (sources_of (declarations_of m) f) v ≡ source.Other
    of_block zero c = let same : item.Edge e ≡ item.Entry = parameters_of_entry m n f a (item.Edge e) v c made in absurd (cc)
    of_block (suc b) c =
        let s = stands (map arg_value (args_of f (suc b))) v c in
        let x = argument_there (args_of f (suc b)) s.0 v s.1 in
        ap (source_at (sources_of (declarations_of m) f)) (sym x.2) ∙ (argument_rows m n f a (suc b) s.0 x.0 x.1).source

    by : (o : Option Edge) → Contains (map arg_value (args_behind f o)) v → Contains (item_defined f (item.Edge e)) v → source_at (sources_of (declarations_of m) f) v ≡ source.Other
    by None c same = absurd (nothing_in v c)
    by (Some x) c same = of_block x.block.0 c

-- ---- what is trivial

alloc_row : (o : Op) → opens_no_slot (access_kind_of o) ≡ false → o ≡ op.AllocStack
alloc_row op.AllocStack e = refl
alloc_row _ e = absurd (true≢false e)

slot_of : (d : Declarations) (o : Option TypeName) (trivial : Bool) → slot_source d o ≡ source.Slot trivial → (t : TypeName) × (o ≡ Some t) × (trivial ≡ is_trivial_object d t)
slot_of d None trivial e = absurd (cc)
slot_of d (Some t) trivial e = let same : is_trivial_object d t ≡ trivial = cc in (t, refl, sym same)

only_address : (t ty : TypeName) (k : ℕ) → slice_get (address_of t ∷ []) k ≡ Some ty → target ty ≡ Some t
only_address t ty zero e = ap target (sym (same_Some (address_of t) ty e)) ∙ target-Address t
only_address t ty (suc k) e = absurd (none-some ty e)

address_target : (c : ArgumentConvention) (t : TypeName) (row : AddressRow) → address_row c ≡ Some row → target (handed_type c t) ≡ Some t
address_target convention.Plain t row e = absurd (none-some row e)
address_target convention.Owned t row e = absurd (none-some row e)
address_target convention.Guaranteed t row e = absurd (none-some row e)
address_target (convention.Address c) t row e = target-Address t

module _ (m : Module) (n : ℕ) (f : Function) (a : IsAcceptedBody m n f) where
  abbrev d : Declarations
  d = declarations_of m

  abbrev sources : List Source
  sources = sources_of d f

  of_argument : (v : ValueId) (row : AddressRow) (trivial : Bool) → source_at sources v ≡ source.Argument row trivial → (ty t : TypeName) → type_in d f v ≡ Some ty
      → target ty ≡ Some t → trivial ≡ is_trivial_object d t
  of_argument v row trivial is ty t has_type points =
      let told = arguments_told m n f a v row trivial is in
      let x = argument_there (args_of f 0) told.number v told.is in
      let pair = pair_at (is_argument_for Ossa) (args_of f 0) (arguments_of f.signature) told.number x.0 (entry_pairs m n f a) x.1 in
      let same : pair.0 ≡ told.told = same_Some pair.0 told.told (sym pair.1 ∙ told.told_is) in
      let so = told_of m n f a told.number pair.0 x.0 pair.1 x.1 pair.2 in
      let typed : type_in d f v ≡ Some x.0.ty = ap (type_in d f) (sym x.2) ∙ (argument_rows m n f a 0 told.number x.0 x.1).typed in
      let own : target ty ≡ Some told.told.ty =
      ap target (same_Some ty x.0.ty (sym has_type ∙ typed) ∙ so.typed ∙ ap argument_type same) ∙ address_target told.told.convention told.told.ty row told.row_is in
      told.trivial_is ∙ ap (is_trivial_object d) (same_Some told.told.ty t (sym own ∙ points))

  made_trivial : (v : ValueId) (trivial : Bool) → source_at sources v ≡ source.Slot trivial → (s : Stop) → IsMadeAt f v s → (ty t : TypeName) → type_in d f v ≡ Some ty
      → target ty ≡ Some t → trivial ≡ is_trivial_object d t
  made_trivial v trivial is _ (IsMadeAt.result p i at c) ty t has_type points = by (opens_no_slot (access_kind_of i.op)) refl
    where
      here : (b k : ℕ) × IsAt f b k i
      here = stands_somewhere f (item.Inst p) i at

      place : (k : ℕ) × (slice_get i.results k ≡ Some v)
      place = stands i.results v c

      from : source_at sources v ≡ result_source d i
      from = (result_rows m n f a here.0 here.1 place.0 i v here.2 place.1).source

      by : (b : Bool) → opens_no_slot (access_kind_of i.op) ≡ b → trivial ≡ is_trivial_object d t
      by true e = absurd (true≢false (sym (ap is_slot_source (sym from ∙ is)) ∙ result_no_slot (access_kind_of i.op) d i e))
      by false e =
          let o : i.op ≡ op.AllocStack = alloc_row i.op e in
          let slot_is = slot_of d i.ty trivial (sym (ap (λ y. source_by (access_kind_of y) d i) o) ∙ sym from ∙ is) in
          let made : made_types d i ≡ address_of slot_is.0 ∷ [] =
          ap (λ y. unwrap_or (given_by y d i) []) o ∙ ap (λ y. unwrap_or (option_map (λ t. t ∷ []) (option_map address_of y)) []) slot_is.1 in
          let own : target ty ≡ Some slot_is.0 =
          only_address slot_is.0 ty place.0 (ap (λ ts. slice_get ts place.0) (sym made) ∙ sym (result_rows m n f a here.0 here.1 place.0 i v here.2 place.1).typed ∙ has_type) in
          slot_is.2 ∙ ap (is_trivial_object d) (same_Some slot_is.0 t (sym own ∙ points))
  made_trivial v trivial is _ (IsMadeAt.parameter c) ty t has_type points = let s = stands (map arg_value (args_of f 0)) v c in no_parameter v trivial is 0 s.0 s.1
    where
      no_parameter : (v : ValueId) (trivial : Bool) → source_at sources v ≡ source.Slot trivial → (b k : ℕ) → slice_get (map arg_value (args_of f b)) k ≡ Some v → trivial ≡ is_trivial_object d t
      no_parameter v trivial is b k at =
          let x = argument_there (args_of f b) k v at in
          absurd (true≢false (sym (ap is_slot_source (sym (ap (source_at sources) (sym x.2) ∙ (argument_rows m n f a b k x.0 x.1).source) ∙ is)) ∙ argument_no_slot d f b k))
  made_trivial v trivial is _ (IsMadeAt.argument b within c) ty t has_type points =
      let s = stands (map arg_value (args_of f b)) v c in
      let x = argument_there (args_of f b) s.0 v s.1 in
      absurd (true≢false (sym (ap is_slot_source (sym (ap (source_at sources) (sym x.2) ∙ (argument_rows m n f a b s.0 x.0 x.1).source) ∙ is)) ∙ argument_no_slot d f b s.0))

  by_root : (v : ValueId) (trivial : Bool) (s : Source) → IsStackRoot trivial s → source_at sources v ≡ s → (ty t : TypeName) → type_in d f v ≡ Some ty → target ty ≡ Some t
      → trivial ≡ is_trivial_object d t
  by_root v trivial _ slot is ty t has_type points =
      let at = made_somewhere m n f a v (is_value m n f a v (λ e. let two : source.Other ≡ source.Slot trivial = sym e ∙ is in cc)) in
      made_trivial v trivial is at.0 at.1 ty t has_type points
  by_root v trivial _ (argument row) is ty t has_type points = of_argument v row trivial is ty t has_type points

pub roots_trivial : AreRootsTrivial
roots_trivial m n f a v trivial root ty t has_type points = by_root m n f a v trivial (source_at (sources_of (declarations_of m) f) v) root refl ty t has_type points
